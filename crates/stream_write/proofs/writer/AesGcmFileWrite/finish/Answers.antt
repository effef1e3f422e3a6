use Rattle.std.proofs.Common.{◌≡◌, ℕ, Bool, false, cond, ◌&&◌, eqb, ltb, List, length, take, drop, Ok, arith, rules, length-take, length-drop}
use Rattle.std.proofs.lemmas.Bool.Decides.{nat_tests}
use Rattle.storage.specs.Ports.{Port, shut}
use Rattle.stream_write.specs.Runs.{Run, ok, failed, Outcome, Ended}
use Rattle.stream_write.specs.Writers.{State, closed}
use Rattle.stream_write.proofs.writer.AesGcmFileWrite.finish.Goals as goal
use Rattle.stream_write.proofs.writer.AesGcmFileWrite.finish.Goals.{then-held-gt0, else-held-gt0, then-due+in_ok-send, else-due}

-- the sink is closed after a send that was answered
ended_ok : (b : Bool) (y x : Run) (after : State) (rest : List (List ℕ)) (q q' : Port)
    → b ≡ false → Outcome x (Ok tt) after rest q → q' ≡ shut q → Ended (cond b y x) (Ok tt) closed rest q'
ended_ok b y (ok t i l p) after rest q q' e o s = search rules
ended_ok b y (failed f l p) after rest q q' e o s = search rules

pub returns-clause-ended : goal.returns-clause-ended
returns-clause-ended g c =
    let n : ℕ = length (take c.args.held (drop 12 c.args.self.now.block.items)) in
    let l : n ≡ c.args.held = simp (length-take, length-drop) (omega arith) in
    elim c.if-due.branch [
      | then-due+in_ok-send w ↦
          let b : (eqb n 0 && ltb 0 c.args.blocks) ≡ false = elim c.if-held-gt0.branch [ then-held-gt0 v ↦ grind (arith, nat_tests) | else-held-gt0 v ↦ grind (arith, nat_tests) ] in
          search (rules, ended_ok)
      | else-due w ↦ elim c.if-held-gt0.branch [ then-held-gt0 v ↦ grind (arith, nat_tests) | else-held-gt0 v ↦ grind (arith, nat_tests) ]
    ]
