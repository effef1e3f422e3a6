-- What a source answers.
use Rattle.std.specs.Prelude.{◌≡◌, ℕ, ◌+◌, ◌<◌, ◌≤◌, List, length, take, drop, Ok, Err, Result}
use Rattle.error.specs.declared.storage.StorageError.{StorageError}
use Rattle.error.specs.declared.storage.StorageError.TheVariants.{SourceRefused}

-- n bytes from a place on
abbrev pub range : ℕ → ℕ → List ℕ → List ℕ
range at n bs = take n (drop at bs)

-- a read into a memory of the range's length: answered whole, or refused with the memory as it was
abbrev pub Answered : List ℕ → ℕ → List ℕ → Result (Unit {0}) StorageError → List ℕ → Type 0
Answered bs at before (Ok _) after = (at + length before ≤ length bs) × (after ≡ range at (length before) bs)
Answered bs at before (Err e) after = (length bs < at + length before) × (e ≡ SourceRefused) × (after ≡ before)
