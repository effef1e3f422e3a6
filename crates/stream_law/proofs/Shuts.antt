-- Which calls close a writer.
use Rattle.std.proofs.Common.{◌≡◌, ℕ, false, List, Result, rules}
use Rattle.error.specs.declared.stream.StreamError.{StreamError}
use Rattle.storage.specs.Ports.{Port}
use Rattle.stream_write.specs.Calls.{Called}
use Rattle.stream_write.specs.Runs.{Run, ok, failed, Outcome, Ended}
use Rattle.stream_write.specs.Writers.{State, fresh, opened, poisoned, closed}
use Rattle.stream_write.specs.declared.call.FileCall.{FileCall}
use Rattle.stream_write.specs.declared.call.FileCall.TheVariants.{Write, Close}
use Rattle.stream_law.specs.Deeds.{closes, is_closed}

module _ (r : Result (Unit {0}) StreamError) (after : State) (rest : List (List ℕ)) (q : Port) where
  -- a write leaves the writer open or poisoned
  after_write : (run : Run) → Outcome run r after rest q → is_closed after ≡ false
  after_write (ok t i l p) o = search rules
  after_write (failed e l p) o = search rules

  -- the end of a file closes it, or is refused
  after_close : (run : Run) → Ended run r after rest q → is_closed after ≡ closes Close r false
  after_close (ok t i l p) o = search rules
  after_close (failed e l p) o = search rules

  pub shuts : (size : ℕ) (block : ℕ → List ℕ → List ℕ → List ℕ) (call : FileCall) (s : State) (left : List (List ℕ)) (p : Port)
      → Called size block call s left p r after rest q → is_closed after ≡ closes call r (is_closed s)
  shuts size block (Write b) fresh left p o = search (rules, after_write)
  shuts size block (Write b) (opened t i) left p o = search (rules, after_write)
  shuts size block (Write b) poisoned left p o = search rules
  shuts size block (Write b) closed left p o = search rules
  shuts size block Close fresh left p o = search (rules, after_close)
  shuts size block Close (opened t i) left p o = search (rules, after_close)
  shuts size block Close poisoned left p o = search rules
  shuts size block Close closed left p o = search rules
