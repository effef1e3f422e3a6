-- A block of a file: its nonce, the ciphertext, the tag.
use Rattle.std.specs.Prelude.{ℕ, List}
use Rattle.aead.specs.Seals.{Sealed}
use Rattle.layout.specs.Format.{block_aad}
use Rattle.sealed_text.specs.Frame.{framed}

-- the bytes of block i with a nonce and a plaintext; seal is what the cipher makes of nonce, AAD and plaintext
abbrev pub block_of : (List ℕ → List ℕ → List ℕ → Sealed) → List ℕ → ℕ → List ℕ → List ℕ → List ℕ
block_of seal prefix i nonce text = framed nonce (seal nonce (block_aad prefix i) text)
