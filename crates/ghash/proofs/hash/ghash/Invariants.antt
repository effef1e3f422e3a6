use Rattle.std.proofs.Common.{◌≡◌}
use Rattle.ghash.specs.Ghash.{Y}
use Rattle.ghash.proofs.hash.ghash.Given as goal

abbrev pub invariant-loop-block : goal.invariant-loop-block
invariant-loop-block l = l.sum ≡ Y l.h l.y l.s l.block-index
