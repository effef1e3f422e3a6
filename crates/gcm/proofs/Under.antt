-- What is made under a schedule and an IV, where the schedule is known block by block to be a key's, and the IV by its bytes.
use Rattle.std.proofs.Common.{◌≡◌, ℕ, List, ap, ◌∙◌}
use Rattle.aes.specs.Aes.{aes}

pub under_key : {X : Type 0} {f : List ℕ → List ℕ} {b k v n : List ℕ} (of : (List ℕ → List ℕ) → List ℕ → X)
    → ((x : List ℕ) → f x ≡ aes b x) → b ≡ k → v ≡ n → of f v ≡ of (aes k) n
under_key {f = f} {b = b} {k = k} {v = v} of e h d =
    let p : f ≡ aes k = (λ j x. e x j) ∙ ap aes h in
    ap (λ (g : List ℕ → List ℕ). of g v) p ∙ ap (of (aes k)) d
