-- Ranges of ranges, and of two lists in a row.
use Rattle.std.proofs.Common.{◌≡◌, ℕ, zero, suc, ◌+◌, ◌-◌, ◌<◌, ◌≤◌, min, List, [], ◌∷◌, ◌++◌, length, take, drop, Ok, Err, Result, sym, ap, ◌∙◌, arith}
use native.Mathlib.Numerals.{unary_clauses}
use borrow.Rule.Slice.PartMut.{put_mid, post_of}
use Rattle.std.proofs.lemmas.List.{length-take, length-take-le, length-drop, take_all, drop_all, take-take, drop-take, drop-drop, take_min, drop_at, append-nil}
use Rattle.error.specs.declared.storage.StorageError.{StorageError}
use Rattle.storage.specs.Answers.{range, Answered}

length-range : (bs : List ℕ) (from m : ℕ) → length (range from m bs) ≡ min m (length bs - from)
length-range bs from m = simp (length-take, length-drop)

range-range : (bs : List ℕ) (from m at n : ℕ) → at + n ≤ m → range at n (range from m bs) ≡ range (from + at) n bs
range-range bs from m at n h =
    let e : m ≡ at + (m - at) = omega arith in
    let l : n ≤ m - at = omega arith in
    rw (e, drop-take at (m - at) (drop from bs), take-take n (m - at), drop-drop at from bs)

-- what the source answers is what the window does, unless nothing is asked
pub windowed : (bs : List ℕ) (from m at : ℕ) (before after : List ℕ) (r : Result (Unit {0}) StorageError)
    → at + length before ≤ m → 0 < at + length before → Answered bs (from + at) before r after → Answered (range from m bs) at before r after
windowed bs from m at before after (Ok u) h z a =
    let l = length-range bs from m in
    let b = a.0 in
    (omega arith, a.1 ∙ sym (range-range bs from m at (length before) h))
windowed bs from m at before after (Err e) h z a =
    let l = length-range bs from m in
    let b = a.0 in
    (omega arith, a.1, a.2)

take_row : (n : ℕ) (xs ys : List ℕ) → take n (xs ++ ys) ≡ take n xs ++ take (n - length xs) ys
take_row zero xs ys = let z : 0 - length xs ≡ 0 = omega arith in rw z
take_row (suc n) [] ys = simp unary_clauses
take_row (suc n) (x ∷ xs) ys = simp (unary_clauses, take_row n xs ys)

drop_row : (n : ℕ) (xs ys : List ℕ) → drop n (xs ++ ys) ≡ drop n xs ++ drop (n - length xs) ys
drop_row zero xs ys = let z : 0 - length xs ≡ 0 = omega arith in rw z
drop_row (suc n) [] ys = simp unary_clauses
drop_row (suc n) (x ∷ xs) ys = simp (unary_clauses, drop_row n xs ys)

drop_min : (n : ℕ) (xs : List ℕ) → drop (min n (length xs)) xs ≡ drop n xs
drop_min zero xs = simp unary_clauses
drop_min (suc n) [] = simp unary_clauses
drop_min (suc n) (x ∷ xs) = simp (unary_clauses, drop_min n xs)

-- a range of two lists in a row: what the first has of it, and the rest from the second
range_row : (F S : List ℕ) (at n : ℕ) → take n (drop at F) ++ range (at - length F) (n - length (drop at F)) S ≡ range at n (F ++ S)
range_row F S at n = sym (take_row n (drop at F) (drop (at - length F) S)) ∙ ap (λ xs. take n xs) (sym (drop_row at F S))

-- what stands from a place on, where the place may be past the end
pub from_place : (at start : ℕ) (F : List ℕ) → start ≡ min at (length F) → take (length F - start) (drop start F) ≡ drop at F
from_place at start F e =
    let l = length-drop start F in
    take_all (length F - start) (drop start F) (omega arith) ∙ ap (λ i. drop i F) e ∙ drop_min at F

-- a memory that is written from its head on, and then up to there
pub across : (F S into front A B : List ℕ) (at head skip k : ℕ) → front ≡ drop at F → skip ≡ at - length F → head ≡ min (length into) (length front)
    → k ≡ length into - head → A ≡ take head front → B ≡ range skip k S → A ++ drop head (put_mid head (length into - head) into B) ≡ range at (length into) (F ++ S)
across F S into front A B at head skip k ef es eh ek ea eb =
    let l = length-drop head into in
    let back : drop head (put_mid head (length into - head) into B) ≡ B =
    drop_at (take head into) (B ++ post_of head (length into - head) into) head (length-take-le head into (omega arith))
    ∙ ap (λ x. B ++ x) (drop_all (length into - head) (drop head into) (omega arith)) ∙ append-nil B in
    let t : take head front ≡ take (length into) (drop at F) = rw (eh, take_min (length into) front, ef) in
    let n : k ≡ length into - length (drop at F) = rw (← ef) (omega arith) in
    rw (back, ea, t, eb, es, n) (range_row F S at (length into))
