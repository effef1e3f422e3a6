use Rattle.std.proofs.Common.{◌*◌, ◌%◌, ◌^◌, refl, arith}
use Rattle.std.proofs.lemmas.Grind.{or_after_shift}
use Rattle.gcm.specs.Gcm.{bits}
use Rattle.gcm.proofs.tag.lengths.Goals as goal

pub returns : goal.returns
unfolding bits
returns c = or_after_shift (c.args.aad * 8 % 2 ^ 64) (2 ^ 64) (2 ^ 128) (c.args.text * 8 % 2 ^ 64) refl (omega arith) (omega arith)
