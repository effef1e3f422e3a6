-- What a limit means as a sink, and what it does to the sink below it.
use Rattle.std.specs.Prelude.{◌≡◌, ℕ, ◌-◌, min, List, length, Ok, Err, Result}
use Rattle.error.specs.declared.storage.StorageError.{StorageError}
use Rattle.storage.specs.Ports.{Port, added}
use Rattle.storage.specs.declared.limit.Limit.{Limit}

-- the sink under a limit: the lesser number holds
abbrev pub limited : Port → ℕ → Port
limited p n = record { taken = p.taken; room = min p.room n; is_open = p.is_open }

abbrev pub limit_port : {S : Type 0} → (S → Port) → Limit S → Port
limit_port port l = limited (port l.inner) l.left

-- what a write leaves of the sink below and of the limit
abbrev pub Passed : {S : Type 0} → (S → Port) → Limit S → List ℕ → Result (Unit {0}) StorageError → Limit S → Type 0
Passed port l bs (Ok _) m = (port m.inner ≡ added (port l.inner) bs) × (m.left ≡ l.left - length bs)
Passed port l bs (Err _) m = (port m.inner ≡ port l.inner) × (m.left ≡ l.left)
