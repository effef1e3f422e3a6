use Rattle.std.proofs.Common.{◌≡◌, ◌++◌, take, drop}
use Rattle.aes.specs.Cipher.{xor_bytes}
use Rattle.ctr.proofs.gctr.xor_block.Given as goal

abbrev pub invariant-loop-i : goal.invariant-loop-i
invariant-loop-i l = take l.i l.byte-items ++ xor_bytes (drop l.i l.byte-items) (drop l.i l.block) ≡ xor_bytes l.initial.byte-items l.block
