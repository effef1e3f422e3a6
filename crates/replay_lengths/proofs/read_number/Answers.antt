use Rattle.std.proofs.Common.{arith}
use Rattle.std.proofs.lemmas.Str.Pattern.{starts_char}
use Rattle.std.proofs.lemmas.Bool.{both_ways}
use Rattle.replay_lengths.proofs.Numbers.{first_digit, leading_zero, no_leading_zero, reads_number}
use Rattle.replay_lengths.proofs.read_number.Goals as goal
use Rattle.replay_lengths.proofs.read_number.Goals.{then-starts_with-via-then-starts_with, then-starts_with-via-else-starts_with+then-text-gt1}

pub returns-then-starts_with : goal.returns-then-starts_with
returns-then-starts_with c n h e =
    let f = first_digit n c.args.text.now h e in
    let z = leading_zero n c.args.text.now h e in
    elim c.then-starts_with.branch [
      | then-starts_with-via-then-starts_with w ↦
          let p = (starts_char 43 c.args.text.now c.starts_with.result c.starts_with.ensures.cases (omega arith) (omega arith)).0 w.if-starts_with.true in
          omega arith
      | then-starts_with-via-else-starts_with+then-text-gt1 w ↦
          let t = w.if-text-gt1.true in
          let p = (starts_char 48 c.args.text.now w.starts_with-else-starts_with.result w.starts_with-else-starts_with.ensures.cases (omega arith) (omega arith)).0 t.0 in
          omega (arith, z p)
    ]

pub returns : goal.returns
returns c =
    let bs = c.args.text.now in
    let plus = starts_char 43 bs c.starts_with.result c.starts_with.ensures.cases (omega arith) (omega arith) in
    let zero = starts_char 48 bs c.starts_with-else-starts_with.result c.starts_with-else-starts_with.ensures.cases (omega arith) (omega arith) in
    reads_number bs c.parse.result c.ok.result c.ok.ensures.value c.parse.ensures.value.0
    (λ e. both_ways c.starts_with.result c.if-starts_with.false (plus.1 e))
    (no_leading_zero bs c.starts_with-else-starts_with.result zero c.if-text-gt1.either)
