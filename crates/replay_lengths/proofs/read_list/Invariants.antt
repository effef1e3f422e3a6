use Rattle.std.proofs.Common.{◌≡◌, ◌++◌, length, vec_items}
use denote.Text.{Utf8}
use denote.Shadow.{shadow}
use Rattle.replay_lengths.specs.Listed.{list_text}
use Rattle.replay_lengths.proofs.read_list.Given as goal

abbrev pub invariant-loop-line : goal.invariant-loop-line
invariant-loop-line l = shadow (Utf8 l.rest) × (l.text ≡ list_text (vec_items l.cases) ++ l.rest)

abbrev pub decreases-loop-line : goal.decreases-loop-line
decreases-loop-line l = length l.rest
