-- A recorded list of nonces.
use Rattle.std.specs.Prelude.{◌≡◌, ℕ, suc, ◌<◌, ◌⊎◌, List, [], ◌∷◌, length, slice_index_or}
use Rattle.std.proofs.Common.{arith}
use Rattle.error.specs.declared.cipher.CipherError.{CipherError}
use Rattle.error.specs.declared.cipher.CipherError.TheVariants.{Duplicate, OutOfMemory}
use Rattle.aead.specs.Draws.{Distinct, Twelve}

-- two places hold the same
abbrev pub Twice : List (List ℕ) → Type 0
Twice xs = (i : ℕ) × (j : ℕ) × (i < j) × (j < length xs) × (slice_index_or xs i [] ≡ slice_index_or xs j [])

-- each has twelve bytes, place by place
abbrev pub TwelveAt : List (List ℕ) → Type 0
TwelveAt xs = (k : ℕ) → k < length xs → length (slice_index_or xs k []) ≡ 12

pub twelve_all : (xs : List (List ℕ)) → TwelveAt xs → Twelve xs
twelve_all [] h = tt
twelve_all (x ∷ xs) h = (h 0 (omega arith), twelve_all xs (λ k l. h (suc k) (omega arith)))

-- why a list is not recorded: some nonce stands twice, or else there is no memory
abbrev pub Unrecorded : List (List ℕ) → CipherError → Type 0
Unrecorded xs e = (Twice xs × (e ≡ Duplicate)) ⊎ (Distinct xs × (e ≡ OutOfMemory))
