use Rattle.std.proofs.Common.{is_ok, sym, ap, arith, rules}
use Rattle.std.proofs.ResultArms.{chosen}
use Rattle.std.proofs.lemmas.Str.Pattern.{split_parts}
use Rattle.std.proofs.lemmas.Option.{MatchOption-at_some}
use Rattle.std.proofs.lemmas.Bool.{eqb-true}
use Rattle.replay_lengths.proofs.Lines.{list_more, list_end}
use Rattle.replay_lengths.proofs.read_list.Goals as goal

pub loop-line-preserved : goal.loop-line-preserved
loop-line-preserved c =
    let p = chosen _ _ _ _ c.push.ensures.items (ap is_ok c.in_ok-push.was) in
    let s = (MatchOption-at_some _ _ _ c.in-Some.is (split_parts 10 c.loop-line.rest.now c.split_once.result c.split_once.ensures.cases (omega arith))).0 in
    (search rules, list_more _ _ _ _ _ _ _ c.loop-line.invariant.1 s (search rules) p)

pub returns : goal.returns
returns c = list_end _ _ _ c.loop-line.invariant.1 (eqb-true _ 0 (sym c.if-not-is_empty.ensures))
