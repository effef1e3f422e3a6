-- The AGS1 format: an 8-byte header, then blocks of 12 bytes of nonce, ciphertext and 16 bytes of tag.
use Rattle.std.specs.Prelude.{◌≡◌, ℕ, ◌+◌, ◌*◌, ◌/◌, ◌%◌, ◌<◌, ◌≤◌, List, [], ◌∷◌, ◌++◌}
use Rattle.layout.specs.declared.shape.Shape.{Shape}
use Rattle.layout.specs.declared.shape.Shape.TheVariants.{Full, Partial}

-- the plaintext bytes that a full block may hold
abbrev pub InLimits : ℕ → Type 0
InLimits b = (1 ≤ b) × (b ≤ 4294967267)

-- a last block that is not full holds fewer plaintext bytes than a full one
abbrev pub Proper : ℕ → Shape → Type 0
Proper b (Full q) = Unit {0}
Proper b (Partial q n) = n < b

-- the bytes of the file, its plaintext bytes and its blocks
abbrev pub file_bytes : ℕ → Shape → ℕ
file_bytes b (Full q) = 8 + q * (b + 28)
file_bytes b (Partial q n) = 8 + q * (b + 28) + 28 + n

abbrev pub plain_bytes : ℕ → Shape → ℕ
plain_bytes b (Full q) = q * b
plain_bytes b (Partial q n) = q * b + n

abbrev pub block_count_of : Shape → ℕ
block_count_of (Full q) = q
block_count_of (Partial q n) = q + 1

-- where block i starts
abbrev pub block_start : ℕ → ℕ → ℕ
block_start b i = 8 + i * (b + 28)

-- what a writer leaves when it closes: at least one block, and an empty block only as the first
abbrev pub Closed : Shape → Type 0
Closed (Full q) = 1 ≤ q
Closed (Partial q n) = n ≡ 0 → q ≡ 0

-- a number in four bytes, least significant first
abbrev pub le4 : ℕ → List ℕ
le4 n = (n % 256) ∷ (n / 256 % 256) ∷ (n / 65536 % 256) ∷ (n / 16777216 % 256) ∷ []

-- the header: the letters AGS1 and the block size
abbrev pub header : ℕ → List ℕ
header b = 0x41 ∷ 0x47 ∷ 0x53 ∷ 0x31 ∷ le4 b

-- the AAD of block i: the file's prefix and i
abbrev pub block_aad : List ℕ → ℕ → List ℕ
block_aad prefix i = prefix ++ le4 i
