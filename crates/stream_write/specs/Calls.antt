-- What calls of a writer answer and leave.
use Rattle.std.specs.Prelude.{◌≡◌, ℕ, ◌+◌, List, drop, vec_items, Result}
use Rattle.error.specs.declared.stream.StreamError.{StreamError}
use Rattle.aead.specs.Seals.{Sealed}
use Rattle.storage.specs.Ports.{Port}
use Rattle.stream_write.specs.Blocks.{block_of}
use Rattle.stream_write.specs.Runs.{Wrote, Closes}
use Rattle.stream_write.specs.Writers.{State, state_in}
use Rattle.stream_write.specs.declared.call.FileCall.{FileCall}
use Rattle.stream_write.specs.declared.call.FileCall.TheVariants.{Write, Close}
use Rattle.stream_write.specs.declared.writer.AesGcmFileWrite.{AesGcmFileWrite}

abbrev pub state_of : AesGcmFileWrite → State
state_of w = state_in w.phase (vec_items w.block)

abbrev pub size_of : AesGcmFileWrite → ℕ
size_of w = w.size.bytes

-- the bytes of the writer's blocks, by number, nonce and plaintext
abbrev pub block_by : (List ℕ → List ℕ → List ℕ → Sealed) → AesGcmFileWrite → ℕ → List ℕ → List ℕ → List ℕ
block_by seal w = block_of seal (vec_items w.prefix)

-- what every call keeps: block size, prefix, and the block buffer behind the first C bytes
abbrev pub Kept : AesGcmFileWrite → AesGcmFileWrite → Type 0
Kept w v =
    (v.size ≡ w.size) × (v.prefix ≡ w.prefix)
    × (drop (w.size.bytes + 28) (vec_items v.block) ≡ drop (w.size.bytes + 28) (vec_items w.block))

-- what a call answers and leaves
abbrev pub Called : ℕ → (ℕ → List ℕ → List ℕ → List ℕ) → FileCall → State → List (List ℕ) → Port → Result (Unit {0}) StreamError → State → List (List ℕ) → Port → Type 0
Called size block (Write bytes) s left p r after rest q = Wrote size block s left p bytes.now r after rest q
Called size block Close s left p r after rest q = Closes size block s left p r after rest q
