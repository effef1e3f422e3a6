-- What the making of a writer answers, and what its end gives back.
use Rattle.std.specs.Prelude.{◌≡◌, ℕ, ◌+◌, cond, List, ◌++◌, drop, replicate, Some, None, Ok, Err, vec_len, Option, Result, Vec, nat_lt}
use Rattle.std.specs.declared.alloc.Global.{Global}
use Rattle.error.specs.declared.stream.StreamError.{StreamError}
use Rattle.error.specs.declared.stream.StreamError.TheVariants as stream
use Rattle.layout.specs.Lengths.{in_limits}
use Rattle.layout.specs.declared.size.BlockSize.{BlockSize}
use Rattle.stream_write.specs.declared.ends.NotMade.{NotMade}
use Rattle.stream_write.specs.declared.phase.Phase.TheVariants.{Fresh}
use Rattle.stream_write.specs.declared.writer.AesGcmFileWrite.{AesGcmFileWrite}

-- why a writer is not made: of block size, bytes of prefix and bytes of buffer
abbrev pub refusal : ℕ → ℕ → ℕ → Option StreamError
refusal size prefix memory =
    cond (in_limits size)
    (cond (nat_lt memory (size + 28)) (Some stream.MemoryTooSmall) (cond (nat_lt 64 prefix) (Some stream.OutsideLimits) None))
    (Some stream.BlockSize)

-- a block size that fits so many bytes of prefix and of buffer, or the refusal
abbrev pub SizeFor : ℕ → ℕ → ℕ → Result BlockSize StreamError → Type 0
SizeFor size prefix memory (Ok s) = (refusal size prefix memory ≡ None) × (s.bytes ≡ size)
SizeFor size prefix memory (Err e) = refusal size prefix memory ≡ Some e

-- a fresh writer over what was handed in, or the refusal with what was handed in
abbrev pub MadeBy : Option StreamError → ℕ → Vec ℕ Global → Vec ℕ Global → Result AesGcmFileWrite NotMade → Type 0
MadeBy (Some e) size prefix block r = r ≡ Err (record { error = e; prefix = prefix; block = block })
MadeBy None size prefix block (Ok w) = (w.size.bytes ≡ size) × (w.prefix ≡ prefix) × (w.block ≡ block) × (w.phase ≡ Fresh)
MadeBy None size prefix block (Err u) = ⊥

abbrev pub Made : ℕ → Vec ℕ Global → Vec ℕ Global → Result AesGcmFileWrite NotMade → Type 0
Made size prefix block r = MadeBy (refusal size (vec_len prefix) (vec_len block)) size prefix block r

-- the buffer at a writer's end: the first C bytes zero, the rest as it was
abbrev pub wiped : ℕ → List ℕ → List ℕ
wiped c memory = replicate c 0 ++ drop c memory
