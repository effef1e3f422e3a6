use Rattle.std.proofs.Common.{arith}
use Rattle.aes.proofs.TableValues.{sbox_at}
use Rattle.aes.proofs.tables.sub_byte.Goals as goal

pub returns : goal.returns
returns c = sbox_at c.args.byte (omega arith)
