-- What the opening of one block that was handed in answers and leaves.
use Rattle.std.specs.Prelude.{◌≡◌, ℕ, ◌+◌, cond, not, List, length, take, drop, Some, None, Ok, Err, Option, Result, ◌==◌, nat_le, nat_lt}
use Rattle.error.specs.declared.cipher.CipherError.TheVariants.{NotAuthentic}
use Rattle.error.specs.declared.stream.StreamError.{StreamError}
use Rattle.error.specs.declared.stream.StreamError.TheVariants.{CiphertextTooShort, RangePastEnd, MemoryTooSmall, Cipher}
use Rattle.layout.specs.Format.{block_aad}
use Rattle.aead.specs.Seals.{Sealed}
use Rattle.sealed_text.specs.Opening.{SealsTo}
use Rattle.stream_read.specs.Blocks.{text_in}

-- why block i is not tried, by the file's blocks, the block's plaintext bytes, and the bytes handed in and those of the memory:
-- there is no such block, it takes another length, or the memory is too small
abbrev pub block_refusal : ℕ → ℕ → ℕ → ℕ → ℕ → Option StreamError
block_refusal count text i bytes memory =
    cond (nat_le count i) (Some RangePastEnd)
    (cond (not (bytes == text + 28)) (Some CiphertextTooShort)
    (cond (nat_lt memory text) (Some MemoryTooSmall) None))

-- the text that seals to the bytes, and the rest of the memory as it was; refused exactly if there is no such text, and then
-- the memory is as it was
abbrev pub OpenedBy : Option StreamError → (List ℕ → List ℕ → List ℕ → Sealed) → List ℕ → ℕ → ℕ → List ℕ → List ℕ → Result ℕ StreamError → List ℕ → Type 0
OpenedBy (Some e) seal aad text i bytes out r after = (r ≡ Err e) × (after ≡ out)
OpenedBy None seal aad text i bytes out (Ok k) after = (k ≡ text) × SealsTo seal aad (take k after) bytes × (drop k after ≡ drop k out)
OpenedBy None seal aad text i bytes out (Err e) after =
    ((t : List ℕ) → SealsTo seal aad t bytes → ⊥) × (e ≡ Cipher (record { error = NotAuthentic; block = i })) × (after ≡ out)

-- what the opening of block i from these bytes answers and leaves: out before, after after
abbrev pub BlockOpened : (List ℕ → List ℕ → List ℕ → Sealed) → List ℕ → ℕ → ℕ → ℕ → ℕ → List ℕ → List ℕ → Result ℕ StreamError → List ℕ → Type 0
BlockOpened seal prefix size n count i bytes out r after =
    OpenedBy (block_refusal count (text_in size n i) i (length bytes) (length out)) seal (block_aad prefix i) (text_in size n i) i bytes out r after
