-- What sealing a text answers and leaves.
use Rattle.std.specs.Prelude.{◌≡◌, ℕ, ◌+◌, cond, ◌||◌, List, [], ◌∷◌, ◌++◌, length, drop, Some, None, Ok, Err, Option, Result, nat_lt}
use Rattle.error.specs.declared.cipher.CipherError.{CipherError}
use Rattle.error.specs.declared.cipher.CipherError.TheVariants.{MemoryTooSmall, NoncesExhausted, OutsideLimits}
use Rattle.aead.specs.Seals.{Sealed}
use Rattle.sealed_text.specs.Frame.{framed}

abbrev pub draw_refusal : List (List ℕ) → Option CipherError
draw_refusal [] = Some NoncesExhausted
draw_refusal (nonce ∷ rest) = None

-- of the lengths of text, AAD and memory, and the nonces that are left
abbrev pub seal_refusal : ℕ → ℕ → ℕ → List (List ℕ) → Option CipherError
seal_refusal text aad memory left =
    cond (nat_lt 4294967267 text || nat_lt 4294967267 aad) (Some OutsideLimits)
    (cond (nat_lt memory (text + 28)) (Some MemoryTooSmall) (draw_refusal left))

-- the first nonce that was left is spent on this text; a refusal leaves memory and nonces as they were
abbrev pub TextSealed : (List ℕ → List ℕ → List ℕ → Sealed) → List ℕ → List ℕ → List ℕ → List (List ℕ) → Result ℕ CipherError → List ℕ → List (List ℕ) → Type 0
TextSealed seal aad text out left (Ok n) after rest =
    (seal_refusal (length text) (length aad) (length out) left ≡ None) × (n ≡ length text + 28)
    × ((nonce : List ℕ) × (length nonce ≡ 12) × (left ≡ nonce ∷ rest) × (after ≡ framed nonce (seal nonce aad text) ++ drop n out))
TextSealed seal aad text out left (Err e) after rest =
    (seal_refusal (length text) (length aad) (length out) left ≡ Some e) × (after ≡ out) × (rest ≡ left)
