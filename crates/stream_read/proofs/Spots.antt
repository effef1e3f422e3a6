-- Where the bytes of a range lie.
use Rattle.std.proofs.Common.{◌≡◌, ℕ, ◌+◌, ◌-◌, ◌*◌, ◌/◌, ◌%◌, ◌<◌, ◌≤◌, List, ◌++◌, length, get_or, take, drop, ap, ◌∙◌, ⊎_elim, div-add-mod', arith}
use Rattle.std.proofs.lemmas.Nat.{div-mul-add, mod-mul-add}
use borrow.Rule.Slice.PartMut.{put_mid}
use Rattle.std.proofs.lemmas.Bool.{cases_lt}
use Rattle.std.proofs.lemmas.Grind.{common_steps}
use Rattle.stream_read.specs.Ranges.{Shows}

-- a byte that was copied out of a block's text, from the place off on
pub byte_is : (copy post t : List ℕ) (off k m d : ℕ) → copy ≡ take k (take m (drop off t)) → d < k → k ≤ m → off + k ≤ length t
    → get_or (copy ++ post) d 0 ≡ get_or t (off + d) 0
byte_is copy post t off k m d e h l o = grind (arith, common_steps)

-- a turn more: w, whose first k bytes are those of one block, was written behind the first n bytes
pub next_shows : (opens : ℕ → List ℕ → Type 0) (size start n k : ℕ) (out w : List ℕ) (m : ℕ)
    → n ≤ length out → k ≤ length w → (start + n) % size + k ≤ size
    → ((p : ℕ) → start ≤ p → p < start + n → Shows opens size p (get_or out (p - start) 0))
    → (t : List ℕ) × opens ((start + n) / size) t × ((d : ℕ) → d < k → get_or w d 0 ≡ get_or t ((start + n) % size + d) 0)
    → (p : ℕ) → start ≤ p → p < start + (n + k) → Shows opens size p (get_or (put_mid n m out w) (p - start) 0)
next_shows opens size start n k out w m ln lw hk old (t, o, new) p hp lp =
    ⊎_elim
    (λ (l : p < start + n). let x = old p hp l in (x.0, x.1, (grind (arith, common_steps) ∙ x.2)))
    (λ (l : start + n ≤ p).
    let d : ℕ = p - (start + n) in
    let i : ℕ = (start + n) / size in
    let off : ℕ = (start + n) % size in
    let e : p ≡ i * size + (off + d) = omega (arith, div-add-mod' (start + n) size) in
    let q : p / size ≡ i = ap (λ (x : ℕ). x / size) e ∙ div-mul-add i size (off + d) (omega arith) in
    let r : p % size ≡ off + d = ap (λ (x : ℕ). x % size) e ∙ mod-mul-add i size (off + d) (omega arith) in
    let at : get_or (put_mid n m out w) (p - start) 0 ≡ get_or w d 0 = grind (arith, common_steps) in
    rw (q, r) (t, o, at ∙ new d (omega arith)))
    (cases_lt p (start + n))
