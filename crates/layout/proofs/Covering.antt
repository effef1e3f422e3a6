-- The blocks of a file cover it.
use Rattle.std.proofs.Common.{◌≡◌, ℕ, suc, ◌+◌, ◌*◌, ◌<◌, ◌≤◌, true, ltb, Some, None, refl, ap, ◌∙◌, mul-le-mul_right, suc-mul, zero-mul, add-one, arith}
use Rattle.std.proofs.lemmas.Bool.{ltb-true, ltb-false, cond_both}
use Rattle.layout.specs.declared.shape.Shape.{Shape}
use Rattle.layout.specs.declared.shape.Shape.TheVariants.{Full, Partial}
use Rattle.layout.specs.Format.{Proper, file_bytes, block_count_of, block_start}
use Rattle.layout.specs.Lengths.{proper}
use Rattle.layout.specs.Spans.{plain_in, spanned, Covers, CoversIf}

-- a block of the file starts within it
pub start_within : (b i : ℕ) (s : Shape) → i < block_count_of s → block_start b i ≤ file_bytes b s
start_within b i (Full q) h = let m : i * (b + 28) ≤ q * (b + 28) = mul-le-mul_right (b + 28) (omega arith) in omega arith
start_within b i (Partial q n) h = let m : i * (b + 28) ≤ q * (b + 28) = mul-le-mul_right (b + 28) (omega arith) in omega arith

is_proper : (b : ℕ) (s : Shape) → proper b s ≡ true → Proper b s
is_proper b (Full q) e = tt
is_proper b (Partial q n) e = ltb-true n b e

at_first : (b i : ℕ) → i ≡ 0 → block_start b i ≡ 8
at_first b i e = let z : i * (b + 28) ≡ 0 = ap (λ x. x * (b + 28)) e ∙ zero-mul (b + 28) in omega arith

-- one block more
step : (b i : ℕ) → (i + 1) * (b + 28) ≡ i * (b + 28) + b + 28
step b i = ap (λ x. x * (b + 28)) (add-one i) ∙ suc-mul i (b + 28) ∙ omega arith

-- a full block with k full blocks in all, k * b being at most the plaintext
full : (b i k : ℕ) → i + 1 ≤ k → i * b + b ≤ k * b
full b i k h = let e : suc i * b ≡ i * b + b = suc-mul i b in let m : suc i * b ≤ k * b = mul-le-mul_right b (omega arith) in omega arith

covers : (b i : ℕ) (s : Shape) → Proper b s → i < block_count_of s → Covers b s i (record { start = block_start b i; plaintext = plain_in b s i })
covers b i (Full q) p h =
    let t = step b i in
    let f = full b i q (omega arith) in
    record {
      first = λ e. at_first b i e;
      next = λ l. (refl, omega arith);
      last = λ e. let k : (i + 1) * (b + 28) ≡ q * (b + 28) = ap (λ x. x * (b + 28)) e in omega arith;
      text = omega arith;
    }
covers b i (Partial q n) p h =
    let t = step b i in
    cond_both (ltb i q) b n (λ m. Covers b (Partial q n) i (record { start = block_start b i; plaintext = m }))
    (λ z.
    let y = ltb-true i q z in
    let f = full b i q (omega arith) in
    record {
      first = λ e. at_first b i e;
      next = λ l. (refl, omega arith);
      last = λ e. absurd (omega arith);
      text = omega arith;
    })
    (λ z.
    let y = ltb-false i q z in
    let e : i ≡ q = omega arith in
    let k : i * (b + 28) ≡ q * (b + 28) = ap (λ x. x * (b + 28)) e in
    let m : i * b ≡ q * b = ap (λ x. x * b) e in
    record {
      first = λ e. at_first b i e;
      next = λ l. absurd (omega arith);
      last = λ e. omega arith;
      text = omega arith;
    })

pub covers_if : (b i : ℕ) (s : Shape) → proper b s ≡ true → CoversIf b s i (spanned b s i)
covers_if b i s p =
    cond_both (ltb i (block_count_of s)) (Some (record { start = block_start b i; plaintext = plain_in b s i })) None (CoversIf b s i)
    (λ z. covers b i s (is_proper b s p) (ltb-true i (block_count_of s) z))
    (λ z. ltb-false i (block_count_of s) z)
