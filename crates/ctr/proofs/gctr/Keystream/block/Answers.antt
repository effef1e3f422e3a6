use Rattle.std.proofs.Common.{◌∙◌}
use Rattle.ctr.specs.Gctr.{stream}
use Rattle.ctr.specs.Ivs.{iv_bytes}
use Rattle.ctr.proofs.gctr.Keystream.block.Goals as goal

pub returns : goal.returns
unfolding stream iv_bytes
returns c = c.to_bytes.ensures ∙ c.encrypt.ensures
