-- Nonces that a source will still give.
use Rattle.std.specs.Prelude.{◌≡◌, ℕ, ◌<◌, ◌≢◌, List, [], ◌∷◌, length, Ok, Err, Result, slice_index_or}
use Rattle.error.specs.declared.cipher.CipherError.{CipherError}
use Rattle.error.specs.declared.cipher.CipherError.TheVariants.{NoncesExhausted}
use Rattle.aead.specs.declared.nonce.Nonce.{Nonce}

-- no two places hold the same
abbrev pub Distinct : List (List ℕ) → Type 0
Distinct xs = (i j : ℕ) → i < j → j < length xs → slice_index_or xs i [] ≢ slice_index_or xs j []

-- each has twelve bytes
abbrev pub Twelve : List (List ℕ) → Type 0
Twelve [] = Unit {0}
Twelve (n ∷ ns) = (length n ≡ 12) × Twelve ns

-- a draw takes the first nonce that is left, and refuses exactly if none is
abbrev pub Drawn : List (List ℕ) → Result Nonce CipherError → List (List ℕ) → Type 0
Drawn before (Ok n) after = before ≡ n.bytes ∷ after
Drawn before (Err e) after = (before ≡ []) × (e ≡ NoncesExhausted) × (after ≡ [])
