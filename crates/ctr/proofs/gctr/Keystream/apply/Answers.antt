use Rattle.std.proofs.Common.{◌+◌, refl, sym, ◌∙◌, arith}
use Rattle.ctr.specs.Gctr.{inc32}
use Rattle.ctr.specs.Keystreams.{keystream_of}
use Rattle.ctr.proofs.Xors.{turn, end}
use Rattle.ctr.proofs.gctr.Keystream.apply.Goals as goal

pub loop-at-preserved : goal.loop-at-preserved
unfolding inc32
loop-at-preserved c =
    turn (keystream_of c.args.self) c.block.result c.loop-at.text c.xor_block.new.text c.loop-at.at c.loop-at.count _
    (omega arith) (omega arith) c.block.ensures refl c.xor_block.ensures
    ∙ c.loop-at.invariant

pub returns-2 : goal.returns-2
returns-2 c =
    sym (end (keystream_of c.args.self) (inc32 c.loop-at.count) (c.loop-at.at + 16) _ (omega arith))
    ∙ turn (keystream_of c.args.self) c.block.result c.loop-at.text c.xor_block.new.text c.loop-at.at c.loop-at.count (inc32 c.loop-at.count)
    (omega arith) (omega arith) c.block.ensures refl c.xor_block.ensures
    ∙ c.loop-at.invariant

pub returns : goal.returns
returns c = sym (end (keystream_of c.args.self) c.loop-at.count c.loop-at.at c.loop-at.text (omega arith)) ∙ c.loop-at.invariant
