use Rattle.std.proofs.Common.{◌∙◌, arith}
use Rattle.std.proofs.lemmas.List.{length-set}
use Rattle.aes.specs.KeyExpansion.{key_words}
use Rattle.aes.proofs.Expansion.{expand_turn, expand_none}
use Rattle.aes.proofs.key_expansion.expand_key.Goals as goal

pub loop-i-init : goal.loop-i-init
loop-i-init c = (omega arith, c.key_words-words.ensures ∙ expand_none c.args.nk (key_words c.args.key.now c.args.nk))

pub loop-i-preserved : goal.loop-i-preserved
loop-i-preserved c = (
  length-set c.loop-i.words c.loop-i.i c.next_word.result ∙ c.loop-i.invariant.0,
  expand_turn c.loop-i.words (key_words c.args.key.now c.args.nk) c.args.nk c.loop-i.i c.next_word.result
      (omega arith) (omega arith) (omega arith) c.loop-i.invariant.1 c.next_word.ensures,
)
