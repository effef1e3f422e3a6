use Rattle.std.proofs.Common.{ap, ◌∙◌}
use Rattle.ghash.specs.Ghash.{block_of}
use Rattle.gcm.specs.Gcm.{subkey}
use Rattle.gcm.proofs.tag.subkey.Goals as goal

pub returns : goal.returns
unfolding subkey
returns c = c.load_block.ensures ∙ ap block_of (c.to_bytes.ensures ∙ c.encrypt.ensures)
