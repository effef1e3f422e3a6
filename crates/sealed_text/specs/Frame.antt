-- A sealed text as it is stored: a nonce of 12 bytes, the ciphertext, a tag of 16 bytes.
use Rattle.std.specs.Prelude.{ℕ, List, ◌++◌, take}
use Rattle.aead.specs.Seals.{Sealed}

abbrev pub framed : List ℕ → Sealed → List ℕ
framed nonce s = nonce ++ (s.text ++ s.tag)

-- the nonce in front of a sealed text
abbrev pub nonce_in : List ℕ → List ℕ
nonce_in bytes = take 12 bytes
