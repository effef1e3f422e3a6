-- Places: of a plaintext byte among the blocks, and of a block in the file.
use Rattle.std.specs.Prelude.{◌≡◌, ℕ, ◌+◌, ◌-◌, ◌*◌, ◌/◌, ◌%◌, ◌<◌, ◌≤◌, min, cond, List, ◌++◌, length, drop, Some, None, Ok, Err, Option, Result, nat_lt}
use Rattle.arrayvec.specs.ArrayVec.{ArrayVec}
use Rattle.code.specs.Codes.{code_number}
use Rattle.error.specs.Reports.{stream_report}
use Rattle.error.specs.declared.stream.StreamError.{StreamError}
use Rattle.error.specs.declared.stream.StreamError.TheVariants.{OutsideLimits}
use Rattle.layout.specs.declared.shape.Shape.{Shape}
use Rattle.layout.specs.declared.shape.Shape.TheVariants.{Full, Partial}
use Rattle.layout.specs.declared.spans.BlockOffset.{BlockOffset}
use Rattle.layout.specs.declared.spans.BlockSpan.{BlockSpan}
use Rattle.layout.specs.declared.c_api.Ags1Length.{Ags1Length}
use Rattle.layout.specs.Format.{file_bytes, plain_bytes, block_count_of, block_start, block_aad}

-- what C is told
abbrev pub length_answer : ℕ → Result Shape StreamError → Ags1Length
length_answer b (Ok s) = record { plaintext_length = plain_bytes b s; block_count = block_count_of s; code = 0 }
length_answer b (Err e) = record { plaintext_length = 0; block_count = 0; code = code_number (stream_report e).code }

-- the block that holds the plaintext byte at p, and where in it
abbrev pub located : ℕ → ℕ → BlockOffset
located b p = record { block = p / b; offset = p % b }

-- it is the only block that can: p lies o bytes after the plaintext of the blocks before it
abbrev pub Locates : ℕ → ℕ → BlockOffset → Type 0
Locates b p x = (p ≡ x.block * b + x.offset) × (x.offset < b)

-- the plaintext bytes of block i
abbrev pub plain_in : ℕ → Shape → ℕ → ℕ
plain_in b (Full q) i = b
plain_in b (Partial q n) i = cond (nat_lt i q) b n

-- where block i stands, if there is one
abbrev pub spanned : ℕ → Shape → ℕ → Option BlockSpan
spanned b s i = cond (nat_lt i (block_count_of s)) (Some (record { start = block_start b i; plaintext = plain_in b s i })) None

-- The blocks cover the file: the first starts after the header, each is full but the last and is followed at once by the
-- next, the last ends with the file; and block i holds the plaintext from i * b on, as far as it goes.
pub record Covers (b : ℕ) (s : Shape) (i : ℕ) (x : BlockSpan) : Type 0 where
  pub first : i ≡ 0 → x.start ≡ 8
  pub next : i + 1 < block_count_of s → (x.plaintext ≡ b) × (x.start + x.plaintext + 28 ≡ block_start b (i + 1))
  pub last : i + 1 ≡ block_count_of s → x.start + x.plaintext + 28 ≡ file_bytes b s
  pub text : x.plaintext ≡ min b (plain_bytes b s - i * b)

abbrev pub CoversIf : ℕ → Shape → ℕ → Option BlockSpan → Type 0
CoversIf b s i None = block_count_of s ≤ i
CoversIf b s i (Some x) = Covers b s i x

-- the AAD of block i, or a refusal where the prefix is too long
abbrev pub AadMade : List ℕ → ℕ → Result (ArrayVec ℕ) StreamError → Type 0
AadMade prefix i (Ok aad) = (length prefix ≤ 64) × (aad.items ≡ block_aad prefix i)
AadMade prefix i (Err e) = (64 < length prefix) × (e ≡ OutsideLimits)
