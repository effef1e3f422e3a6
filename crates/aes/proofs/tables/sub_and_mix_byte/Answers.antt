use Rattle.std.proofs.Common.{arith}
use Rattle.aes.proofs.TableValues.{mixed_at}
use Rattle.aes.proofs.tables.sub_and_mix_byte.Goals as goal

pub returns : goal.returns
returns c = mixed_at c.args.byte (omega arith)
