use Rattle.std.proofs.Common.{arith}
use Rattle.aes.specs.Field.{sbox}
use Rattle.aes.proofs.Bytes.{sbox_lt}
use Rattle.aes.proofs.Columns.{column_is}
use Rattle.aes.proofs.cipher.mixed_column.Goals as goal

pub returns : goal.returns
returns c =
    let e = column_is (sbox c.args.a) (sbox c.args.b) (sbox c.args.c) (sbox c.args.d) c.args.key
    (sbox_lt _) (sbox_lt _) (sbox_lt _) (sbox_lt _) (omega arith) in
    cc
