use Rattle.std.proofs.Common.{sym, refl, ◌∙◌, below_more}
use mathlib.Core.Bool.{false≢true}
use Rattle.std.proofs.lemmas.Slice.Eq.{slice_eq-Decides}
use Rattle.aead.specs.Records.{apart_more, apart_none}
use Rattle.aead.proofs.recorded.any_twice.Goals as goal
use Rattle.std.proofs.lemmas.Bool.Decides.{Decides-eqb}

pub loop-i-preserved : goal.loop-i-preserved
loop-i-preserved c =
    below_more _ _ c.loop-i.invariant
    (λ e. false≢true (sym c.if-eq.false ∙ (slice_eq-Decides Decides-eqb _ _ _ c.eq.ensures).1 e))

pub loop-j-preserved : goal.loop-j-preserved
loop-j-preserved c = apart_more c.args.nonces.now c.loop-j.j c.loop-i.i c.loop-i-test.false c.loop-j.invariant c.loop-i.invariant

pub returns-then-eq : goal.returns-then-eq
returns-then-eq c = (
  λ _. (c.loop-i.i, c.loop-j.j, c.loop-i-test.true, c.loop-j-test.true, (slice_eq-Decides Decides-eqb _ _ _ c.eq.ensures).0 c.if-eq.true),
  λ _. refl,
)

pub returns : goal.returns
returns c = apart_none c.args.nonces.now c.loop-j.j c.loop-j-test.false c.loop-j.invariant
