use Rattle.std.proofs.Common.{arith}
use Rattle.std.proofs.lemmas.Str.Pattern.{split_parts}
use Rattle.std.proofs.lemmas.Option.{MatchOption-at_none, MatchOption-at_some}
use Rattle.replay_lengths.proofs.Lines.{reads_none, parts, whole}
use Rattle.replay_lengths.proofs.read_case.Goals as goal

pub returns-in_err-file_length : goal.returns-in_err-file_length
returns-in_err-file_length c =
    reads_none _ _ c.args.line.now c.from_residual.ensures
    (λ x f e. MatchOption-at_none _ _ c.in_err-file_length.was (parts c.args.line.now c.split_once.result c.split_once.ensures.cases x f e))

pub returns-in_err-read_number : goal.returns-in_err-read_number
returns-in_err-read_number c =
    reads_none _ _ c.args.line.now c.from_residual-in_err-read_number.ensures
    (λ x f e.
    let s = MatchOption-at_some _ _ _ c.in_ok-file_length.was (parts c.args.line.now c.split_once.result c.split_once.ensures.cases x f e) in
    c.in_err-read_number.ensures x.file_length f.0 s.0)

pub returns-in_err-read_answer : goal.returns-in_err-read_answer
returns-in_err-read_answer c =
    reads_none _ _ c.args.line.now c.from_residual-in_err-read_answer.ensures
    (λ x f e.
    let s = MatchOption-at_some _ _ _ c.in_ok-file_length.was (parts c.args.line.now c.split_once.result c.split_once.ensures.cases x f e) in
    c.in_err-read_answer.ensures x.answer f.1 s.1)

pub returns : goal.returns
returns c =
    let s = MatchOption-at_some _ _ _ c.in_ok-file_length.was (split_parts 32 c.args.line.now c.split_once.result c.split_once.ensures.cases (omega arith)) in
    let a = c.in_ok-read_number.ensures in
    let b = c.in_ok-read_answer.ensures in (
      (a.0, b.0),
      whole c.args.line.now c.in_ok-file_length.file_length.now c.in_ok-file_length.answer.now (record { file_length = c.in_ok-read_number.field-0; answer = c.in_ok-read_answer.field-0 }) s.0 a.1 b.1,
    )
