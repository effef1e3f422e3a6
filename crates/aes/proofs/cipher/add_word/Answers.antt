use Rattle.std.proofs.Common.{rules}
use Rattle.aes.proofs.Rounds.{xor_words}
use Rattle.aes.proofs.cipher.add_word.Goals as goal

pub returns : goal.returns
returns c = search (rules, xor_words)
