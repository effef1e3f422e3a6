use Rattle.std.proofs.Common.{rules, length, ap, arith}
use Rattle.std.proofs.lemmas.List.{length-append, length-drop}
use Rattle.storage.proofs.Ranges.{across, from_place}
use Rattle.storage.proofs.two_memories.copy_across.Goals as goal

pub returns : goal.returns
returns c =
    let F = c.args.front.now in
    let S = c.args.back.now in
    let f = from_place c.args.at c.min.result F c.min.ensures in
    let b = c.in_ok-copy_range.ensures in (
      omega (arith, b.0, length-append F S, ap length f, length-drop c.args.at F),
      across F S c.args.into.now _ _ _ c.args.at c.min-head.result c.saturating_sub-skip.result _ f c.saturating_sub-skip.ensures c.min-head.ensures
          (search rules) c.copy_from_slice.ensures.after b.1,
    )
