-- A table that lists a function: one computed test, and what it says of each entry.
use Rattle.std.proofs.Common.{◌≡◌, ℕ, zero, suc, ◌+◌, ◌<◌, Bool, true, false, cond, eqb, List, [], ◌∷◌, length, get_or, refl, ap, ◌∙◌, zero-add, arith, eqb-true}

-- the entries are the values of f, from i on
abbrev pub lists : (ℕ → ℕ) → ℕ → List ℕ → Bool
lists f i [] = true
lists f i (x ∷ xs) = cond (eqb x (f i)) (lists f (i + 1) xs) false

parts : (b c : Bool) → cond b c false ≡ true → (b ≡ true) × (c ≡ true)
parts true c e = (refl, e)
parts false c e = let z : ◌≡◌ {A = ℕ} 0 1 = ap (λ (b : Bool). cond b 1 0) e in absurd (omega arith)

from : (f : ℕ → ℕ) (xs : List ℕ) (i k : ℕ) → lists f i xs ≡ true → k < length xs → get_or xs k 0 ≡ f (i + k)
from f [] i k e h = absurd (omega arith)
from f (x ∷ xs) i zero e h =
    let p = parts (eqb x (f i)) (lists f (i + 1) xs) e in
    let n : i ≡ i + 0 = omega arith in
    eqb-true x (f i) p.0 ∙ ap f n
from f (x ∷ xs) i (suc k) e h =
    let p = parts (eqb x (f i)) (lists f (i + 1) xs) e in
    let n : i + 1 + k ≡ i + suc k = omega arith in
    from f xs (i + 1) k p.1 (omega arith) ∙ ap f n

pub listed : (f : ℕ → ℕ) (xs : List ℕ) (k : ℕ) → k < length xs → lists f 0 xs ≡ true → get_or xs k 0 ≡ f k
listed f xs k h e = from f xs 0 k e h ∙ ap f (zero-add k)
