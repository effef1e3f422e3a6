use Rattle.std.proofs.Common.{inr, refl, arith}
use Rattle.std.proofs.lemmas.Result.{err_from_is_err_and}
use Rattle.gcm.specs.Gcm.{gcm}
use Rattle.gcm.proofs.Under.{under_key}
use Rattle.gcm.proofs.aes_gcm.AesGcmAead.open_into.Goals as goal

pub returns-in_err-check : goal.returns-in_err-check
returns-in_err-check c =
    let p = err_from_is_err_and c.from_residual.result c.from_residual.ensures.1 in
    let u = under_key (λ f n. gcm f n c.args.aad.now) c.new-schedule.ensures.encrypts c.bytes.ensures c.from_bytes.ensures in
    rw (p.1, p.2, ← u) (inr (omega arith, c.in_err-check.ensures.refuses), refl)
