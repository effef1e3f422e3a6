-- FIPS 197: bytes as elements of GF(2^8), and the S-box.
use Rattle.std.specs.Prelude.{ℕ, zero, suc, ◌+◌, ◌*◌, ◌/◌, ◌%◌, ◌^◌, cond, ◌==◌, bit_xor}

-- times x, modulo x^8 + x^4 + x^3 + x + 1
unfoldable pub xtime : ℕ → ℕ
xtime b = bit_xor (b * 2 % 256) (b / 128 * 0x1b)

-- the product of a and the n low bits of b
unfoldable pub times : ℕ → ℕ → ℕ → ℕ
times zero a b = 0
times (suc n) a b = bit_xor (b % 2 * a) (times n (xtime a) (b / 2))

unfoldable pub product : ℕ → ℕ → ℕ
product a b = times 8 a b

-- the multiplicative inverse, found among the bytes n and below
unfoldable pub inverse_up_to : ℕ → ℕ → ℕ
inverse_up_to zero a = 0
inverse_up_to (suc n) a = cond (product a (suc n) == 1) (suc n) (inverse_up_to n a)

-- 0 has no inverse, and is sent to itself
unfoldable pub inverse : ℕ → ℕ
inverse a = inverse_up_to 255 a

unfoldable pub bit : ℕ → ℕ → ℕ
bit b i = b / 2 ^ i % 2

-- bit i of the image of b under the affine map of the S-box
unfoldable pub affine_bit : ℕ → ℕ → ℕ
affine_bit b i =
    bit_xor (bit b i)
    (bit_xor (bit b ((i + 4) % 8)) (bit_xor (bit b ((i + 5) % 8)) (bit_xor (bit b ((i + 6) % 8)) (bit_xor (bit b ((i + 7) % 8)) (bit 0x63 i)))))

-- the n low bits of the image
unfoldable pub affine_bits : ℕ → ℕ → ℕ
affine_bits zero b = 0
affine_bits (suc n) b = affine_bit b n * 2 ^ n + affine_bits n b

unfoldable pub sbox : ℕ → ℕ
sbox a = affine_bits 8 (inverse a)
