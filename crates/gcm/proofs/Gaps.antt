-- A comparison of lists by the bits in which they differ.
use Rattle.std.proofs.Common.{◌≡◌, ℕ, Bool, true, false, eqb, List, [], ◌∷◌, length, sym, refl, ap, ◌∙◌, arith, eqb-true}
use lib.Bits.{bit_or, bit_xor, or_add_and, and_le_l, and_le_r, xor_assoc, xor_self, xor_zero_r}
use borrow.Author.Tests.{eqb-false}
use Rattle.std.specs.List.{fold, zip}
use Rattle.gcm.specs.Tags.{Same}

-- the bits in which any two bytes of a and b differ, with those of g
abbrev pub gap : ℕ → List ℕ → List ℕ → ℕ
gap g a b = fold (λ h p. bit_or h (bit_xor p.0 p.1)) g (zip a b)

or_none : (a b : ℕ) → bit_or a b ≡ 0 → (a ≡ 0) × (b ≡ 0)
or_none a b e =
    let s = or_add_and a b in
    let l = and_le_l a b in
    let r = and_le_r a b in
    (omega arith, omega arith)

xor_none : (a b : ℕ) → bit_xor a b ≡ 0 → a ≡ b
xor_none a b e = sym (xor_zero_r a) ∙ ap (bit_xor a) (sym (xor_self b)) ∙ sym (xor_assoc a b b) ∙ ap (λ (x : ℕ). bit_xor x b) e

no_gap : (a b : List ℕ) (g : ℕ) → length a ≡ length b → gap g a b ≡ 0 → (g ≡ 0) × (a ≡ b)
no_gap [] [] g l e = (e, refl)
no_gap [] (y ∷ b) g l e = absurd (omega arith)
no_gap (x ∷ a) [] g l e = absurd (omega arith)
no_gap (x ∷ a) (y ∷ b) g l e =
    let r = no_gap a b (bit_or g (bit_xor x y)) (omega arith) e in
    let p = or_none g (bit_xor x y) r.0 in
    let h = xor_none x y p.1 in
    let t = r.1 in
    (p.0, cc)

gap_of_same : (a : List ℕ) → gap 0 a a ≡ 0
gap_of_same [] = refl
gap_of_same (x ∷ a) = ap (λ (g : ℕ). gap (bit_or 0 g) a a) (xor_self x) ∙ gap_of_same a

pub same_by_gap : (r : Bool) (a b : List ℕ) (g : ℕ) → length a ≡ length b → g ≡ gap 0 a b → eqb g 0 ≡ r → Same r a b
same_by_gap true a b g l e t = (no_gap a b 0 l (sym e ∙ eqb-true g 0 t)).1
same_by_gap false a b g l e t = λ h. eqb-false g 0 t (e ∙ ap (gap 0 a) (sym h) ∙ gap_of_same a)
