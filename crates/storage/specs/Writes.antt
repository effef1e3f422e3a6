-- What writes answer and leave.
use Rattle.std.specs.Prelude.{◌≡◌, ℕ, true, false, cond, ◌&&◌, List, Ok, Err, Result}
use Rattle.error.specs.declared.storage.StorageError.{StorageError}
use Rattle.error.specs.declared.storage.StorageError.TheVariants.{BlockNotTaken}
use Rattle.storage.specs.Ports.{Port, takes, added}

-- one write: taken whole, or refused with nothing changed
abbrev pub Written : Port → List ℕ → Result (Unit {0}) StorageError → Port → Type 0
Written p bs (Ok _) q = (takes p bs ≡ true) × (q ≡ added p bs)
Written p bs (Err e) q = (takes p bs ≡ false) × (e ≡ BlockNotTaken) × (q ≡ p)

-- a second write where the first was taken
abbrev pub WrittenBoth : Port → List ℕ → List ℕ → Result (Unit {0}) StorageError → Port → Type 0
WrittenBoth p a b (Ok _) q = (takes p a ≡ true) × (takes (added p a) b ≡ true) × (q ≡ added (added p a) b)
WrittenBoth p a b (Err e) q = (takes p a && takes (added p a) b ≡ false) × (e ≡ BlockNotTaken) × (q ≡ cond (takes p a) (added p a) p)
