-- NIST SP 800-38D, 6.3 and 6.4. A block is a number below 2 ^ 128, whose most significant bit is the block's first.
use Rattle.std.specs.Prelude.{ℕ, zero, suc, ◌+◌, ◌-◌, ◌*◌, ◌/◌, ◌%◌, ◌^◌, List, length, drop, bit_xor, slice_index}

-- R = 11100001 || 0^120
abbrev pub R : ℕ
R = 0xe1 * 2 ^ 120

-- V_{i+1} of V_i: one place to the right, and ⊕ R if the bit that falls out is 1
unfoldable pub times_x : ℕ → ℕ
times_x v = bit_xor (v / 2) (v % 2 * R)

-- V_i, where V_0 = Y
unfoldable pub V : ℕ → ℕ → ℕ
V y zero = y
V y (suc i) = times_x (V y i)

-- x_i, where x_0 is the first bit of X
abbrev pub bit : ℕ → ℕ → ℕ
bit x i = x / 2 ^ (127 - i) % 2

-- Z_i, where Z_0 = 0: Z_{i+1} is Z_i ⊕ V_i if x_i is 1, and Z_i if not
unfoldable pub Z : ℕ → ℕ → ℕ → ℕ
Z x y zero = 0
Z x y (suc i) = bit_xor (Z x y i) (bit x i * V y i)

-- X • Y = Z_128
unfoldable pub gmul : ℕ → ℕ → ℕ
gmul x y = Z x y 128

-- the first n bytes of s, the most significant first, with zeros for those that are missing
unfoldable pub bytes_of : ℕ → List ℕ → ℕ
bytes_of zero s = 0
bytes_of (suc n) s = bytes_of n s * 256 + slice_index s n

-- the first block of s
unfoldable pub block_of : List ℕ → ℕ
block_of s = bytes_of 16 s

-- Y_i, where Y_0 = y: Y_{i+1} = (Y_i ⊕ X_{i+1}) • H, and X_{i+1} begins at byte 16 i of s
unfoldable pub Y : ℕ → ℕ → List ℕ → ℕ → ℕ
Y h y s zero = y
Y h y s (suc i) = gmul (bit_xor (Y h y s i) (block_of (drop (i * 16) s))) h

-- Y_m of the m blocks of s, the last of them filled up with zeros; GHASH_H is at y = 0
unfoldable pub ghash : ℕ → ℕ → List ℕ → ℕ
ghash h y s = Y h y s ((length s + 15) / 16)
