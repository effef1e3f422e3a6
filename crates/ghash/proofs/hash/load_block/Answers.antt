use Rattle.std.proofs.Common.{◌∙◌, arith}
use Rattle.ghash.specs.Ghash.{bytes_of, block_of}
use Rattle.ghash.proofs.hash.load_block.Goals as goal

pub returns : goal.returns
unfolding bytes_of block_of
returns c = c.from_be_bytes.ensures ∙ omega arith
