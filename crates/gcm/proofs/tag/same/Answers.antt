use Rattle.std.proofs.Common.{refl, arith}
use Rattle.gcm.proofs.Gaps.{same_by_gap}
use Rattle.gcm.proofs.tag.same.Goals as goal

pub returns : goal.returns
returns c = same_by_gap _ c.args.a.now c.args.b.now c.difference.result (omega arith) c.difference.ensures refl
