-- A range of a source, handed on to a sink.
use Rattle.std.specs.Prelude.{◌≡◌, ℕ, ◌+◌, ◌<◌, ◌≤◌, true, false, List, length, Ok, Err, Result}
use Rattle.error.specs.declared.storage.StorageError.{StorageError}
use Rattle.error.specs.declared.storage.StorageError.TheVariants.{SourceRefused, BlockNotTaken, OutOfMemory}
use Rattle.storage.specs.Answers.{range}
use Rattle.storage.specs.Ports.{Port, takes, added}

-- Taken: the source has the range, and the sink takes it. Refused by the source: nothing changes. Refused by the sink: the memory
-- holds the range, and the sink is as it was.
abbrev pub Copied : List ℕ → ℕ → List ℕ → Port → Result (Unit {0}) StorageError → List ℕ → Port → Type 0
Copied bs at before p (Ok _) after q = (at + length before ≤ length bs) × (after ≡ range at (length before) bs) × (takes p after ≡ true) × (q ≡ added p after)
Copied bs at before p (Err SourceRefused) after q = (length bs < at + length before) × (after ≡ before) × (q ≡ p)
Copied bs at before p (Err BlockNotTaken) after q = (at + length before ≤ length bs) × (after ≡ range at (length before) bs) × (takes p after ≡ false) × (q ≡ p)
Copied bs at before p (Err OutOfMemory) after q = ⊥
