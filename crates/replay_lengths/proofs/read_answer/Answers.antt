use Rattle.std.proofs.Common.{◌≡◌, ℕ, ◌^◌, ◌<◌, Bool, true, false, List, ◌++◌, drop, is_ok, codes, sym, ap, ◌∙◌, arith}
use Rattle.std.proofs.lemmas.Result.{OkIff-decides}
use Rattle.std.proofs.lemmas.Bool.{both_ways}
use Rattle.replay_lengths.proofs.Lines.{reads_none, refusal, no_code}
use Rattle.replay_lengths.proofs.read_answer.Goals as goal

-- what `strip_prefix` left
stripped : (bs code : List ℕ) (n : ℕ) → bs ≡ codes "refused " ++ drop n bs → code ≡ drop n bs → bs ≡ codes "refused " ++ code
stripped bs code n e d = e ∙ ap (λ s. codes "refused " ++ s) (sym d)

failed : (b : Bool) → false ≡ b → b ≡ true → ⊥
failed b f t = both_ways b (sym f) t

pub returns-in_err-read_number-in-Some : goal.returns-in_err-read_number-in-Some
returns-in_err-read_number-in-Some c =
    reads_none _ _ c.args.text.now c.from_residual.ensures
    (λ x f e.
    let s = c.in-Some.ensures.cases in
    let m = refusal c.args.text.now c.in-Some.code.now (stripped c.args.text.now c.in-Some.code.now s.0 s.1.1 s.2) x f e in
    c.in_err-read_number-in-Some.ensures m.0 (omega (arith, m.1)) m.2)

pub returns-in_err-ok-in-Some : goal.returns-in_err-ok-in-Some
returns-in_err-ok-in-Some c =
    let s = c.in-Some.ensures.cases in
    let n = c.in_ok-read_number-in-Some.ensures in
    let d = OkIff-decides c.try_from.result (c.in_ok-read_number-in-Some.field-0 < 2 ^ 8) c.in_ok-read_number-in-Some.field-0 c.try_from.ensures in
    reads_none _ _ c.args.text.now c.from_residual-in_err-ok-in-Some.ensures
    (no_code c.args.text.now c.in-Some.code.now c.in_ok-read_number-in-Some.field-0
    (stripped c.args.text.now c.in-Some.code.now s.0 s.1.1 s.2)
    n.0
    n.1
    (λ l. failed (is_ok c.try_from.result) c.in_err-ok-in-Some.ensures.variant (d.1 l)))
