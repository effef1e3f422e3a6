-- The steps of the product, and its linearity.
use Rattle.std.proofs.Common.{◌≡◌, ℕ, zero, suc, ◌+◌, ◌-◌, ◌*◌, ◌/◌, ◌%◌, ◌^◌, ◌<◌, ◌≢◌, sym, refl, ap, ◌∙◌, zero-mul, one-mul, mul_assoc, arith}
use lib.Bits.{bit_xor, xor_shr, xor_mod, xor_assoc, xor_comm, xor_self, xor_zero_r}
use Rattle.std.proofs.lemmas.Nat.{pow-add, shl-shr, shr-shr, field_of, mul-mod_first}
use Rattle.ghash.specs.Ghash.{times_x, V, bit, Z, gmul}

-- the first bit of what is left of x
pub first_bit : (x i : ℕ) → i < 128 → x * 2 ^ i % 2 ^ 128 / 2 ^ 127 ≡ bit x i
first_bit x i h =
    let e : 127 ≡ i + (127 - i) = omega arith in
    field_of (x * 2 ^ i) 1 127
    ∙ ap (λ (k : ℕ). x * 2 ^ i / 2 ^ k % 2) e
    ∙ ap (λ (n : ℕ). n % 2) (sym (shr-shr (x * 2 ^ i) i (127 - i)) ∙ ap (λ (n : ℕ). n / 2 ^ (127 - i)) (shl-shr x i))

pub next_bits : (x i : ℕ) → x * 2 ^ i % 2 ^ 128 * 2 % 2 ^ 128 ≡ x * 2 ^ (i + 1) % 2 ^ 128
next_bits x i = simp (mul-mod_first, pow-add, mul_assoc)

-- what is added for a bit
pub added : (z b v : ℕ) → b ≡ 1 → bit_xor z v ≡ bit_xor z (b * v)
added z b v e = rw (e, one-mul)

pub not_added : (z b v : ℕ) → b < 2 → b ≢ 1 → z ≡ bit_xor z (b * v)
not_added z b v l other =
    let e : b ≡ 0 = omega arith in
    rw (e, zero-mul, xor_zero_r)

-- one step more
pub next_Z : (x y i n z v b w : ℕ) → n ≡ suc i → z ≡ Z x y i → v ≡ V y i → b ≡ bit x i → w ≡ bit_xor z (b * v) → w ≡ Z x y n
unfolding Z
next_Z x y i n z v b w e hz hv hb hw =
    let s : w ≡ bit_xor (Z x y i) (bit x i * V y i) = cc in
    s ∙ ap (Z x y) (sym e)

pub next_V : (y i n v w : ℕ) → n ≡ suc i → v ≡ V y i → w ≡ times_x v → w ≡ V y n
unfolding V
next_V y i n v w e hv hw = hw ∙ ap times_x hv ∙ ap (V y) (sym e)

-- (a + b) + (c + d), regrouped
regroup : (a b c d : ℕ) → bit_xor (bit_xor a b) (bit_xor c d) ≡ bit_xor (bit_xor a c) (bit_xor b d)
regroup a b c d = cc (xor_assoc a b (bit_xor c d), xor_assoc b c d, xor_comm b c, xor_assoc c b d, xor_assoc a c (bit_xor b d))

-- bits times v, added
scale : (p q v : ℕ) → p < 2 → q < 2 → bit_xor p q * v ≡ bit_xor (p * v) (q * v)
scale zero q v hp hq = sym (ap (λ (t : ℕ). bit_xor t (q * v)) (zero-mul v))
scale (suc zero) zero v hp hq = sym (ap (bit_xor (1 * v)) (zero-mul v) ∙ xor_zero_r (1 * v))
scale (suc zero) (suc zero) v hp hq = zero-mul v ∙ sym (xor_self (1 * v))
scale (suc zero) (suc (suc q)) v hp hq = absurd (omega arith)
scale (suc (suc p)) q v hp hq = absurd (omega arith)

bit-xor : (u v i : ℕ) → bit (bit_xor u v) i ≡ bit_xor (bit u i) (bit v i)
bit-xor u v i = ap (λ (n : ℕ). n % 2) (xor_shr u v (127 - i)) ∙ xor_mod (u / 2 ^ (127 - i)) (v / 2 ^ (127 - i)) 1

Z-xor : (u v y i : ℕ) → Z (bit_xor u v) y i ≡ bit_xor (Z u y i) (Z v y i)
unfolding Z
Z-xor u v y zero = refl
Z-xor u v y (suc i) =
    ap (λ (z : ℕ). bit_xor z (bit (bit_xor u v) i * V y i)) (Z-xor u v y i)
    ∙ ap (bit_xor (bit_xor (Z u y i) (Z v y i))) (ap (λ (b : ℕ). b * V y i) (bit-xor u v i) ∙ scale (bit u i) (bit v i) (V y i) (omega arith) (omega arith))
    ∙ regroup (Z u y i) (Z v y i) (bit u i * V y i) (bit v i * V y i)

pub gmul-xor : (u v y : ℕ) → gmul (bit_xor u v) y ≡ bit_xor (gmul u y) (gmul v y)
unfolding gmul
gmul-xor u v y = Z-xor u v y 128
