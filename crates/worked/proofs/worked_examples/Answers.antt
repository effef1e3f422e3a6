use mathlib.Core.Path.{refl}
use Rattle.worked.proofs.Holds.{holds}
use Rattle.worked.proofs.worked_examples.Goals as goal

pub returns : goal.returns
returns c = record { count = refl; hold = holds }
