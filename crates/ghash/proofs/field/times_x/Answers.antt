use Rattle.std.proofs.Common.{◌/◌, ◌%◌, arith}
use Rattle.ghash.specs.Ghash.{R, times_x}
use Rattle.ghash.proofs.Products.{added, not_added}
use Rattle.ghash.proofs.field.times_x.Goals as goal

pub returns-then-v-eq1 : goal.returns-then-v-eq1
unfolding times_x
returns-then-v-eq1 c = added (c.args.v / 2) (c.args.v % 2) R c.if-v-eq1.true

pub returns-else-v-eq1 : goal.returns-else-v-eq1
unfolding times_x
returns-else-v-eq1 c = not_added (c.args.v / 2) (c.args.v % 2) R (omega arith) c.if-v-eq1.false
