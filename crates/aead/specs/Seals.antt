-- What a cipher makes, and what an opening answers.
use Rattle.std.specs.Prelude.{◌≡◌, ℕ, ◌<◌, ◌≤◌, ◌⊎◌, List, length, take, drop, Ok, Err, Result, ◌≢◌}
use Rattle.error.specs.declared.cipher.CipherError.{CipherError}
use Rattle.error.specs.declared.cipher.CipherError.TheVariants.{MemoryTooSmall, NotAuthentic}
use Rattle.aead.specs.declared.aead.KeyedCipher.{KeyedCipher}
use Rattle.aead.specs.declared.key.SecureKey.{SecureKey}
use Rattle.aead.specs.Keys.{key_bytes}

-- ciphertext and tag
pub record Sealed : Type 0 where
  pub text : List ℕ
  pub tag : List ℕ

-- the bytes of a key in use
abbrev pub key_of : SecureKey → List ℕ
key_of k = key_bytes k.size k.mem.now

-- what a cipher makes under the key in use, of nonce, AAD and plaintext
abbrev pub sealing : {A : Type 0} → (A → List ℕ → List ℕ → List ℕ → List ℕ → Sealed) → KeyedCipher A → List ℕ → List ℕ → List ℕ → Sealed
sealing sealed k = sealed k.cipher.now (key_of k.key.now)

-- no plaintext seals to these bytes
abbrev pub Unauthentic : (List ℕ → Sealed) → Sealed → CipherError → Type 0
Unauthentic seal s e = ((t : List ℕ) → seal t ≢ s) × (e ≡ NotAuthentic)

-- an opening gives the plaintext whose sealing gives these bytes, and refuses exactly where there is none; a refusal leaves
-- the memory as it was
abbrev pub Opened : (List ℕ → Sealed) → Sealed → List ℕ → Result (Unit {0}) CipherError → List ℕ → Type 0
Opened seal s before (Ok _) after = seal after ≡ s
Opened seal s before (Err e) after = Unauthentic seal s e × (after ≡ before)

-- the same into the front of other memory, which has to be long enough first; the rest of it stays
abbrev pub OpenedInto : (List ℕ → Sealed) → Sealed → List ℕ → Result (Unit {0}) CipherError → List ℕ → Type 0
OpenedInto seal s before (Ok _) after =
    (length s.text ≤ length before) × (seal (take (length s.text) after) ≡ s)
    × (drop (length s.text) after ≡ drop (length s.text) before)
OpenedInto seal s before (Err e) after =
    (((length before < length s.text) × (e ≡ MemoryTooSmall))
    ⊎ ((length s.text ≤ length before) × Unauthentic seal s e))
    × (after ≡ before)
