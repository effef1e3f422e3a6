use Rattle.std.proofs.Common.{◌≡◌, ◌-◌, length, take}
use Rattle.aes.specs.KeyExpansion.{expand, key_words}
use Rattle.aes.proofs.key_expansion.expand_key.Given as goal

abbrev pub invariant-loop-i : goal.invariant-loop-i
invariant-loop-i l = (length l.words ≡ 60) × (take l.i l.words ≡ expand l.nk (l.i - l.nk) (key_words l.key l.nk))
