use Rattle.std.proofs.Common.{rules}
use Rattle.aes.specs.KeyExpansion.{rot_word}
use Rattle.aes.proofs.key_expansion.rot_word.Goals as goal

pub returns : goal.returns
unfolding rot_word
returns c = search rules
