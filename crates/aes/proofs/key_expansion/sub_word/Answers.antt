use Rattle.std.proofs.Common.{rules}
use Rattle.aes.specs.KeyExpansion.{sub_word}
use Rattle.aes.proofs.key_expansion.sub_word.Goals as goal

pub returns : goal.returns
unfolding sub_word
returns c = search rules
