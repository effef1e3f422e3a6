-- What stays below 256.
use Rattle.std.proofs.Common.{ℕ, zero, suc, ◌*◌, ◌/◌, ◌%◌, ◌^◌, ◌<◌, ◌≤◌, pow-suc, arith}
use lib.Bits.{bit_xor, xor_lt}
use Rattle.aes.specs.Field.{xtime, times, product, inverse, bit, affine_bit, affine_bits, sbox}

pub low_byte : (w : ℕ) → w % 256 < 256
low_byte w = omega arith

pub xor_byte : {a b : ℕ} → a < 256 → b < 256 → bit_xor a b < 256
xor_byte {a} {b} h k = xor_lt 8 a b h k

at_most_once : (r a : ℕ) → r < 2 → r * a ≤ a
at_most_once zero a h = omega arith
at_most_once (suc zero) a h = omega arith
at_most_once (suc (suc r)) a h = absurd (omega arith)

xtime_lt : (b : ℕ) → b < 256 → xtime b < 256
unfolding xtime
xtime_lt b h = xor_byte (low_byte (b * 2)) (omega arith)

times_lt : (n a b : ℕ) → a < 256 → times n a b < 256
unfolding times
times_lt zero a b h = omega arith
times_lt (suc n) a b h =
    let k : b % 2 * a < 256 = omega (arith, at_most_once (b % 2) a (omega arith)) in
    xor_byte k (times_lt n (xtime a) (b / 2) (xtime_lt a h))

pub product_lt : (a b : ℕ) → a < 256 → product a b < 256
unfolding product
product_lt a b h = times_lt 8 a b h

xor_bit : {a b : ℕ} → a < 2 → b < 2 → bit_xor a b < 2
xor_bit {a} {b} h k = xor_lt 1 a b h k

bit_lt : (b i : ℕ) → bit b i < 2
unfolding bit
bit_lt b i = omega arith

affine_bit_lt : (b i : ℕ) → affine_bit b i < 2
unfolding affine_bit
affine_bit_lt b i =
    xor_bit (bit_lt b i) (xor_bit (bit_lt b _) (xor_bit (bit_lt b _) (xor_bit (bit_lt b _) (xor_bit (bit_lt b _) (bit_lt 0x63 i)))))

affine_bits_lt : (n b : ℕ) → affine_bits n b < 2 ^ n
unfolding affine_bits
affine_bits_lt zero b = omega arith
affine_bits_lt (suc n) b =
    omega (arith, at_most_once (affine_bit b n) (2 ^ n) (affine_bit_lt b n), affine_bits_lt n b, pow-suc 2 n)

pub sbox_lt : (a : ℕ) → sbox a < 256
unfolding sbox
sbox_lt a = affine_bits_lt 8 (inverse a)
