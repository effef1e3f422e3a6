use Rattle.std.proofs.Common.{arith}
use Rattle.std.proofs.lemmas.Bool.Decides.{nat_tests}
use Rattle.aes.specs.KeyExpansion.{next_word}
use Rattle.aes.proofs.key_expansion.next_word.Goals as goal

pub returns-then-i-nk-eq0 : goal.returns-then-i-nk-eq0
unfolding next_word
returns-then-i-nk-eq0 c = grind (arith, nat_tests)

pub returns-then-i-nk-eq4 : goal.returns-then-i-nk-eq4
unfolding next_word
returns-then-i-nk-eq4 c = grind (arith, nat_tests)

pub returns-else-nk-gt6 : goal.returns-else-nk-gt6
unfolding next_word
returns-else-nk-gt6 c = grind (arith, nat_tests)
