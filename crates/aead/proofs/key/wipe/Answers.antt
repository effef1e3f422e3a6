use Rattle.std.proofs.Common.{arith}
use Rattle.std.proofs.lemmas.Bool.Decides.{nat_tests}
use Rattle.std.proofs.lemmas.Grind.{common_steps}
use Rattle.aead.specs.Keys.{zeros}
use Rattle.aead.proofs.key.wipe.Goals as goal

pub returns : goal.returns
unfolding zeros
returns c = grind (arith, nat_tests, common_steps, c.fill.ensures.after (λ y e. e))
