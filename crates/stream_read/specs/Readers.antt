-- What a reader holds, and what its file's blocks open to.
use Rattle.std.specs.Prelude.{ℕ, List, vec_items}
use Rattle.error.specs.declared.stream.StreamError.{StreamError}
use Rattle.layout.specs.Format.{plain_bytes}
use Rattle.aead.specs.Seals.{Sealed}
use Rattle.stream_read.specs.declared.reader.AesGcmFileRead.{AesGcmFileRead}
use Rattle.stream_read.specs.Blocks.{Opens, Fails}

-- the block size
abbrev pub size_of : AesGcmFileRead → ℕ
size_of x = x.layout.size.bytes

-- the plaintext bytes of the whole file
abbrev pub plain_of : AesGcmFileRead → ℕ
plain_of x = plain_bytes x.layout.size.bytes x.layout.shape

-- what a block opens to, and how it fails, where these are the source's bytes
abbrev pub OpensOf : (List ℕ → List ℕ → List ℕ → Sealed) → AesGcmFileRead → List ℕ → ℕ → List ℕ → Type 0
OpensOf seal x bs = Opens seal (vec_items x.prefix) (size_of x) (plain_of x) bs

abbrev pub FailsOf : (List ℕ → List ℕ → List ℕ → Sealed) → AesGcmFileRead → List ℕ → ℕ → StreamError → Type 0
FailsOf seal x bs = Fails seal (vec_items x.prefix) (size_of x) (plain_of x) bs
