-- What the elements of `array::from_fn` are, where a call leaves the closure as it was.
use Rattle.std.proofs.Common.{◌≡◌, ℕ, zero, suc, ◌+◌, ◌<◌, ◌≤◌, List, get_or, ⊎_elim, sym, subst, arith}
use Rattle.std.proofs.Math.Nat.{eq-or-lt_of_le}
use Rattle.std.specs.Fn.{Called}
use Rattle.std.specs.Array.{IsFromFnResultFrom, IsFromFnResult}
use denote.Param.Members.{Mut}

-- P holds of what a call gives
abbrev Gives : {F B : Type 0} → Mut F (ℕ × Unit {0}) B → F → (ℕ → B → Type 0) → Type 0
Gives {F} {B} g f P = (i : ℕ) (y : B) (f' : F) → Called g f (i, tt) y f' → P i y × (f' ≡ f)

module _ {F B : Type 0} {g : Mut F (ℕ × Unit {0}) B} {f : F} (P : ℕ → B → Type 0) (d : B) where
  from : Gives g f P → (ys : List B) (i n k : ℕ) → IsFromFnResultFrom g f ys i n → i ≤ k → k < i + n → P k (get_or ys k d)
  from gives ys i zero k r l h = absurd (omega arith)
  from gives ys i (suc n) k r l h =
      let o = gives i r.1 r.0 r.3 in
      let rest = subst (λ q. IsFromFnResultFrom g q ys (i + 1) n) o.1 r.4 in
      ⊎_elim (λ e. subst (λ j. P j (get_or ys j d)) e (subst (P i) (sym (r.2.1 d)) o.0))
      (λ m. from gives ys (i + 1) n k rest (omega arith) (omega arith)) (eq-or-lt_of_le l)

  pub element : {ys : List B} {n : ℕ} → IsFromFnResult g f ys n → Gives g f P → (k : ℕ) → k < n → P k (get_or ys k d)
  element {ys} {n} made gives k h = from gives ys 0 n k made.each (omega arith) (omega arith)
