-- A block that does not open.
use Rattle.std.proofs.Common.{◌≡◌, ℕ, List, length, sym, ◌∙◌, subst}
use Rattle.aead.specs.Seals.{Sealed}
use Rattle.sealed_text.specs.Frame.{framed, nonce_in}
use Rattle.sealed_text.specs.Opening.{SealsTo}
use Rattle.sealed_text.proofs.Frames.{framed_one}

-- where nothing seals to the parts of a block, nothing seals to the block
pub none_seals_block : (f : List ℕ → List ℕ → List ℕ → Sealed) (a s n : List ℕ) (p : Sealed) → ((n a t : List ℕ) → length (f n a t).tag ≡ 16)
    → n ≡ nonce_in s → s ≡ framed n p → length p.tag ≡ 16 → ((t : List ℕ) → f n a t ≡ p → ⊥) → (t : List ℕ) → SealsTo f a t s → ⊥
none_seals_block f a s n p tags en es l none t e =
    none t (framed_one n (f n a t) p (tags n a t) l (subst (λ (x : List ℕ). framed x (f x a t) ≡ s) (sym en) e ∙ es))
