-- What sending one block answers, and what it leaves of nonce source and sink.
use Rattle.std.specs.Prelude.{◌≡◌, ℕ, ◌-◌, true, false, List, [], ◌∷◌, length, take, drop, Ok, Err, Result}
use Rattle.error.specs.declared.cipher.CipherError.{CipherError}
use Rattle.error.specs.declared.cipher.CipherError.TheVariants.{NoncesExhausted}
use Rattle.error.specs.declared.storage.StorageError.{StorageError}
use Rattle.error.specs.declared.storage.StorageError.TheVariants.{BlockNotTaken}
use Rattle.error.specs.declared.stream.At.{At}
use Rattle.error.specs.declared.stream.StreamError.{StreamError}
use Rattle.error.specs.declared.stream.StreamError.TheVariants as stream
use Rattle.storage.specs.Ports.{Port, takes, added}

-- which layer below an error comes from
pub data Origin : Type 0 where
  of_cipher : At CipherError → Origin
  of_storage : At StorageError → Origin
  own : Origin

abbrev pub origin : StreamError → Origin
origin stream.FileTooShort = own
origin stream.CiphertextTooShort = own
origin stream.TooManyBlocks = own
origin stream.BlockSize = own
origin stream.RangeReversed = own
origin stream.RangePastEnd = own
origin stream.MemoryTooSmall = own
origin stream.WriterClosed = own
origin stream.WriterPoisoned = own
origin stream.OutsideLimits = own
origin (stream.HeaderNotTaken e) = own
origin (stream.Storage a) = of_storage a
origin (stream.Cipher a) = of_cipher a
origin stream.OutOfMemory = own

-- no nonce is left for block i; the sink does not take block i
abbrev pub no_nonce : ℕ → At CipherError
no_nonce i = record { error = NoncesExhausted; block = i }

abbrev pub not_taken : ℕ → At StorageError
not_taken i = record { error = BlockNotTaken; block = i }

abbrev pub Refused : List (List ℕ) → Port → (List ℕ → List ℕ) → ℕ → Origin → List (List ℕ) → Port → Type 0
Refused left p block i (of_cipher a) rest q = (left ≡ []) × (a ≡ no_nonce i) × (rest ≡ []) × (q ≡ p)
Refused left p block i (of_storage a) rest q = (n : List ℕ) × (left ≡ n ∷ rest) × (takes p (block n) ≡ false) × (a ≡ not_taken i) × (q ≡ p)
Refused left p block i own rest q = ⊥

-- left and p before, rest and q after; block makes the block's bytes of its nonce
abbrev pub Sent : List (List ℕ) → Port → (List ℕ → List ℕ) → ℕ → Result (Unit {0}) StreamError → List (List ℕ) → Port → Type 0
Sent left p block i (Ok _) rest q = (n : List ℕ) × (left ≡ n ∷ rest) × (takes p (block n) ≡ true) × (q ≡ added p (block n))
Sent left p block i (Err e) rest q = Refused left p block i (origin e) rest q

-- what stands between the places of nonce and tag
abbrev pub inner : List ℕ → List ℕ
inner memory = take (length memory - 28) (drop 12 memory)
