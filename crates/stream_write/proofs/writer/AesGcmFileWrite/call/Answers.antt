use Rattle.std.proofs.Common.{◌≡◌, ℕ, List, [], Ok, refl, sym, rules}
use Rattle.std.proofs.lemmas.Bool.{cond_both}
use Rattle.std.proofs.lemmas.Result.{err_from_is_err_and}
use Rattle.error.specs.declared.storage.StorageError.TheVariants.{BlockNotTaken}
use Rattle.error.specs.declared.stream.StreamError.TheVariants.{HeaderNotTaken}
use Rattle.layout.specs.Format.{header}
use Rattle.storage.specs.Ports.{Port, takes, added}
use Rattle.stream_write.specs.Runs.{ok, failed, begin_run, Outcome}
use Rattle.stream_write.specs.Writers.{State}
use Rattle.stream_write.proofs.Outcomes.{outcome_ok, outcome_err}
use Rattle.stream_write.proofs.Pushes.{push_failed}
use Rattle.stream_write.proofs.writer.AesGcmFileWrite.call.Goals as goal

-- a header that was taken
begun_ok : (size : ℕ) (left : List (List ℕ)) (p q : Port) (after : State) → Outcome (begin_run size left p) (Ok tt) after left q → begin_run size left p ≡ ok [] 0 left q
begun_ok size left p q after =
    cond_both (takes p (header size)) (ok [] 0 left (added p (header size))) (failed (HeaderNotTaken BlockNotTaken) left p) (λ x. Outcome x (Ok tt) after left q → x ≡ ok [] 0 left q)
    (λ k o. search rules)
    (λ k o. search rules)

pub returns-in_err-begin-in-Fresh-Write-clause-called : goal.returns-in_err-begin-in-Fresh-Write-clause-called
returns-in_err-begin-in-Fresh-Write-clause-called g c =
    let p = err_from_is_err_and c.from_residual.result c.from_residual.ensures.1 in
    let o = outcome_err _ _ _ _ _ (c.in_err-begin-in-Fresh-Write.ensures.begun (g.N.NonceSource.left c.args.nonces.now)) in
    rw (c.in-Fresh-Write.is-1, c.in-Fresh-Write.is-0, p.1, p.2, o.1, push_failed) (refl, o.0, refl, refl)

pub gather-requires : goal.gather-requires
gather-requires g c = (outcome_ok _ _ _ _ _ (c.in_ok-begin-in-Fresh-Write.ensures.begun (g.N.NonceSource.left c.args.nonces.now))).0

pub returns-in_ok-begin-in-Fresh-Close-clause-called : goal.returns-in_ok-begin-in-Fresh-Close-clause-called
returns-in_ok-begin-in-Fresh-Close-clause-called g c =
    let b = c.begin-in-Fresh-Close in
    let left = g.N.NonceSource.left c.args.nonces.now in
    let o = begun_ok c.args.self.now.size.bytes left (g.K.FileWrite.port c.args.sink.now) (g.K.FileWrite.port b.new.sink) _ (c.in_ok-begin-in-Fresh-Close.ensures.begun left) in
    let e = sym b.ensures.kept.1 in
    rw (c.in-Fresh-Close.is-1, c.in-Fresh-Close.is-0, o, e) c.finish.ensures.ended
