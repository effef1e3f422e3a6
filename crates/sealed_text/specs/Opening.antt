-- What opening a sealed text answers and leaves.
use Rattle.std.specs.Prelude.{◌≡◌, ℕ, ◌-◌, ◌≤◌, cond, ◌⊎◌, List, ◌++◌, length, take, drop, Some, None, Ok, Err, Option, Result, nat_lt}
use Rattle.error.specs.declared.cipher.CipherError.{CipherError}
use Rattle.error.specs.declared.cipher.CipherError.TheVariants.{CiphertextTooShort, MemoryTooSmall, NotAuthentic}
use Rattle.aead.specs.Seals.{Sealed}
use Rattle.sealed_text.specs.Frame.{framed, nonce_in}

-- of the lengths of a sealed text and of memory
abbrev pub open_refusal : ℕ → ℕ → Option CipherError
open_refusal bytes memory = cond (nat_lt bytes 28) (Some CiphertextTooShort) (cond (nat_lt memory (bytes - 28)) (Some MemoryTooSmall) None)

-- a text seals to these bytes under the nonce in front of them
abbrev pub SealsTo : (List ℕ → List ℕ → List ℕ → Sealed) → List ℕ → List ℕ → List ℕ → Type 0
SealsTo seal aad text bytes = framed (nonce_in bytes) (seal (nonce_in bytes) aad text) ≡ bytes

-- the text that seals to these bytes, and the rest of the memory as it was; refused by the lengths, and then exactly if there
-- is no such text
abbrev pub TextOpened : (List ℕ → List ℕ → List ℕ → Sealed) → List ℕ → List ℕ → List ℕ → Result ℕ CipherError → List ℕ → Type 0
TextOpened seal aad bytes out (Ok n) after =
    (open_refusal (length bytes) (length out) ≡ None) × (n ≡ length bytes - 28) × SealsTo seal aad (take n after) bytes × (drop n after ≡ drop n out)
TextOpened seal aad bytes out (Err e) after =
    ((open_refusal (length bytes) (length out) ≡ Some e)
    ⊎ ((open_refusal (length bytes) (length out) ≡ None) × (e ≡ NotAuthentic) × ((text : List ℕ) → SealsTo seal aad text bytes → ⊥)))
    × (after ≡ out)

-- what was sealed opens to that text and to no other, wherever there is memory for it
abbrev pub SealedOpens : (List ℕ → List ℕ → List ℕ → Sealed) → List ℕ → List ℕ → List ℕ → Result ℕ CipherError → List ℕ → Type 0
SealedOpens seal aad bytes out r after =
    (nonce text : List ℕ) → length nonce ≡ 12 → bytes ≡ framed nonce (seal nonce aad text) → length text ≤ length out
    → (r ≡ Ok (length text)) × (after ≡ text ++ drop (length text) out)
