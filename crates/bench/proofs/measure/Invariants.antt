use denote.Param.Always.{always_mut}
use Rattle.bench.proofs.measure.Given as goal

abbrev pub invariant-loop-seed : goal.invariant-loop-seed
invariant-loop-seed g l = always_mut g.F.FnMut l.kernel
