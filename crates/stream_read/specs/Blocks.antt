-- Blocks of a file as a reader sees them: size is the block size, n the plaintext bytes of the whole file, bs the source's bytes.
use Rattle.std.specs.Prelude.{◌≡◌, ℕ, ◌+◌, ◌-◌, ◌*◌, ◌≤◌, min, ◌⊎◌, List, length}
use Rattle.error.specs.declared.storage.StorageError.TheVariants.{SourceRefused}
use Rattle.error.specs.declared.cipher.CipherError.TheVariants.{NotAuthentic}
use Rattle.error.specs.declared.stream.StreamError.{StreamError}
use Rattle.error.specs.declared.stream.StreamError.TheVariants.{Storage, Cipher}
use Rattle.storage.specs.Answers.{range}
use Rattle.layout.specs.Format.{block_start, block_aad}
use Rattle.aead.specs.Seals.{Sealed}
use Rattle.sealed_text.specs.Opening.{SealsTo}

-- the plaintext bytes of block i, of n in the whole file
abbrev pub text_in : ℕ → ℕ → ℕ → ℕ
text_in size n i = min size (n - i * size)

-- the bytes of block i
abbrev pub block_in : ℕ → ℕ → List ℕ → ℕ → List ℕ
block_in size n bs i = range (block_start size i) (text_in size n i + 28) bs

-- the file reaches to the end of block i
abbrev pub Reaches : ℕ → ℕ → List ℕ → ℕ → Type 0
Reaches size n bs i = block_start size i + (text_in size n i + 28) ≤ length bs

-- block i opens to t: t seals to its bytes under the nonce in front of them
abbrev pub Opens : (List ℕ → List ℕ → List ℕ → Sealed) → List ℕ → ℕ → ℕ → List ℕ → ℕ → List ℕ → Type 0
Opens seal prefix size n bs i t = Reaches size n bs i × SealsTo seal (block_aad prefix i) t (block_in size n bs i)

-- why it does not open: the source does not answer, or no text seals to its bytes
abbrev pub Fails : (List ℕ → List ℕ → List ℕ → Sealed) → List ℕ → ℕ → ℕ → List ℕ → ℕ → StreamError → Type 0
Fails seal prefix size n bs i e =
    ((Reaches size n bs i → ⊥) × (e ≡ Storage (record { error = SourceRefused; block = i })))
    ⊎ (Reaches size n bs i × ((t : List ℕ) → SealsTo seal (block_aad prefix i) t (block_in size n bs i) → ⊥) × (e ≡ Cipher (record { error = NotAuthentic; block = i })))
