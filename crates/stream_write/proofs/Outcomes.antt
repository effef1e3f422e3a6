-- What the outcome of a run says of the run.
use Rattle.std.proofs.Common.{◌≡◌, ℕ, true, List, Ok, Err, rules}
use Rattle.storage.specs.Ports.{Port}
use Rattle.error.specs.declared.stream.StreamError.{StreamError}
use Rattle.stream_write.specs.declared.phase.Phase.{Phase}
use Rattle.stream_write.specs.declared.phase.Phase.TheVariants.{Fresh, Open, Poisoned, Closed}
use Rattle.stream_write.specs.Writers.{State, poisoned, state_in, is_open}
use Rattle.stream_write.specs.Runs.{Run, ok, failed, run_of, Outcome}

pub outcome_ok : (x : Run) (ph : Phase) (b : List ℕ) (rest : List (List ℕ)) (q : Port) → Outcome x (Ok tt) (state_in ph b) rest q
    → (is_open ph ≡ true) × (run_of (state_in ph b) rest q ≡ x)
outcome_ok (ok t i l p) Fresh b rest q o = search rules
outcome_ok (ok t i l p) (Open held j) b rest q o = search rules
outcome_ok (ok t i l p) Poisoned b rest q o = search rules
outcome_ok (ok t i l p) Closed b rest q o = search rules
outcome_ok (failed f l p) ph b rest q o = search rules

pub outcome_err : (x : Run) (f : StreamError) (after : State) (rest : List (List ℕ)) (q : Port) → Outcome x (Err f) after rest q
    → (after ≡ poisoned) × (x ≡ failed f rest q)
outcome_err (ok t i l p) f after rest q o = search rules
outcome_err (failed k l p) f after rest q o = search rules
