-- What the blocks of a file open to, fetched from a source and opened under a keyed cipher.
use Rattle.std.specs.Prelude.{◌≡◌, ℕ, List, length, Ok, Err, Result}
use Rattle.std.specs.Borrow.{Bor}
use Rattle.error.specs.declared.stream.StreamError.{StreamError}
use Rattle.aead.specs.Seals.{Sealed, sealing}
use Rattle.stream_read.specs.declared.block.Blocks.{Blocks}
use Rattle.stream_read.specs.Blocks.{text_in}
use Rattle.stream_read.specs.Readers.{size_of, plain_of, OpensOf, FailsOf}

-- what a block opens to, and how it fails
abbrev pub OpensIn : {R A : Type 0} → (A → List ℕ → List ℕ → List ℕ → List ℕ → Sealed) → (R → List ℕ) → Blocks R A → ℕ → List ℕ → Type 0
OpensIn sealed bytes x = OpensOf (sealing sealed x.keyed.now) x.reader.now (bytes x.source.now)

abbrev pub FailsIn : {R A : Type 0} → (A → List ℕ → List ℕ → List ℕ → List ℕ → Sealed) → (R → List ℕ) → Blocks R A → ℕ → StreamError → Type 0
FailsIn sealed bytes x = FailsOf (sealing sealed x.keyed.now) x.reader.now (bytes x.source.now)

-- the plaintext of block i, or why it does not open
abbrev pub Fetched : {R A : Type 0} → (A → List ℕ → List ℕ → List ℕ → List ℕ → Sealed) → (R → List ℕ) → Blocks R A → ℕ → Result (Bor (List ℕ)) StreamError → Type 0
Fetched sealed bytes x i (Ok t) = (length t.now ≡ text_in (size_of x.reader.now) (plain_of x.reader.now) i) × OpensIn sealed bytes x i t.now
Fetched sealed bytes x i (Err e) = FailsIn sealed bytes x i e
