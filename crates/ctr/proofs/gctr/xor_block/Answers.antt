use Rattle.std.proofs.Common.{◌≡◌, min, length, take, drop, ◌∙◌, arith}
use Rattle.std.proofs.lemmas.List.{take_min, drop_min, length-take}
use Rattle.ctr.proofs.Xors.{xor_more, xor_all}
use Rattle.ctr.proofs.gctr.xor_block.Goals as goal

pub loop-i-preserved : goal.loop-i-preserved
loop-i-preserved c =
    let t = length-take c.min-n.result c.args.text.now in
    xor_more c.loop-i.byte-items c.args.block.now c.loop-i.i (omega arith) (omega arith) ∙ c.loop-i.invariant

pub returns : goal.returns
returns c =
    let n : c.min-n.result ≡ min 16 (length c.args.text.now) = omega arith in
    let f : take c.min-n.result c.args.text.now ≡ take 16 c.args.text.now = rw n (take_min 16 c.args.text.now) in
    let d : drop c.min-n.result c.args.text.now ≡ drop 16 c.args.text.now = rw n (drop_min 16 c.args.text.now) in
    let a = xor_all c.loop-i.byte-items c.args.block.now c.loop-i.i (omega arith) in
    cc
