-- The nonces of a counter are all different and have twelve bytes.
use Rattle.std.specs.Prelude.{◌≡◌, ℕ, zero, suc, ◌+◌, ◌-◌, ◌^◌, ◌<◌, ◌≤◌, List, [], ◌++◌, length, Some, None, Option, slice_index_or, refl}
use Rattle.std.proofs.Common.{sym, ◌∙◌, ap, arith}
use Rattle.std.specs.Int.{from_be_bytes, w64}
use Rattle.std.proofs.lemmas.Nat.{from_be_bytes-to_be_bytes_8}
use Rattle.std.proofs.lemmas.List.{append_cancel_left, length-append}
use Rattle.aead.specs.Counters.{be8, counted, counted_from}
use Rattle.aead.specs.Draws.{Distinct, Twelve}

length-counted : (f : List ℕ) (n k : ℕ) → length (counted f n k) ≡ k
unfolding counted
length-counted f n zero = refl
length-counted f n (suc k) = ap suc (length-counted f (n + 1) k)

counted_at : (f : List ℕ) (n k i : ℕ) → i < k → slice_index_or (counted f n k) i [] ≡ f ++ be8 (n + i)
unfolding counted
counted_at f n zero i h = absurd (omega arith)
counted_at f n (suc k) zero h = let e : n ≡ n + 0 = omega arith in ap (λ m. f ++ be8 m) e
counted_at f n (suc k) (suc i) h =
    let e : (n + 1) + i ≡ n + suc i = omega arith in
    counted_at f (n + 1) k i (omega arith) ∙ ap (λ m. f ++ be8 m) e

be8_same : (m n : ℕ) → m < 2 ^ 64 → n < 2 ^ 64 → be8 m ≡ be8 n → m ≡ n
be8_same m n h k e = sym (from_be_bytes-to_be_bytes_8 m h) ∙ ap (from_be_bytes w64) e ∙ from_be_bytes-to_be_bytes_8 n k

counted_distinct : (f : List ℕ) (n k : ℕ) → (0 < k → n + k ≤ 2 ^ 64) → Distinct (counted f n k)
counted_distinct f n k h i j l m e =
    let lk = length-counted f n k in
    let mk : j < k = omega (arith, lk) in
    let hk : n + k ≤ 2 ^ 64 = h (omega arith) in
    let q : be8 (n + i) ≡ be8 (n + j) = append_cancel_left f (be8 (n + i)) (be8 (n + j)) (sym (counted_at f n k i (omega arith)) ∙ e ∙ counted_at f n k j mk) in
    let r : n + i ≡ n + j = be8_same (n + i) (n + j) (omega arith) (omega arith) q in
    omega arith

pub from_distinct : (f : List ℕ) (next : Option ℕ) → Distinct (counted_from f next)
from_distinct f None = λ i j l m e. omega arith
from_distinct f (Some n) = counted_distinct f n (2 ^ 64 - n) (λ h. omega arith)

counted_twelve : (f : List ℕ) (n k : ℕ) → length f ≡ 4 → Twelve (counted f n k)
unfolding counted
counted_twelve f n zero h = tt
counted_twelve f n (suc k) h = (length-append f (be8 n) ∙ ap (λ m. m + 8) h, counted_twelve f (n + 1) k h)

pub from_twelve : (f : List ℕ) (next : Option ℕ) → length f ≡ 4 → Twelve (counted_from f next)
from_twelve f None h = tt
from_twelve f (Some n) h = counted_twelve f n (2 ^ 64 - n) h
