use Rattle.std.proofs.Common.{◌≡◌, append-nil, sym, refl, ◌∙◌}
use Rattle.aes.proofs.Lengths.{length-scheduled}
use Rattle.ctr.specs.Keystreams.{cipher_of, iv_of}
use Rattle.gcm.specs.Gcm.{tag}
use Rattle.gcm.specs.Laws.{gcm_opens, gcm_refuses}
use Rattle.gcm.proofs.aes_gcm.check.Goals as goal

pub returns-clause-opens : goal.returns-clause-opens
returns-clause-opens c =
    let k = c.args.keys in
    let t : c.tag-real.result ≡ tag (cipher_of k) (iv_of k) c.args.aad.now c.args.text.now = rw append-nil at c.tag-real.ensures in
    gcm_opens (cipher_of k) (length-scheduled k.schedule.now) (iv_of k) c.args.aad.now c.args.text.now c.args.tag.now (sym t ∙ c.if-not-same.ensures)

pub returns-then-not-same-clause-refuses : goal.returns-then-not-same-clause-refuses
returns-then-not-same-clause-refuses c =
    let k = c.args.keys in
    let t : c.tag-real.result ≡ tag (cipher_of k) (iv_of k) c.args.aad.now c.args.text.now = rw append-nil at c.tag-real.ensures in
    (gcm_refuses (cipher_of k) (iv_of k) c.args.aad.now c.args.text.now c.args.tag.now (λ h. c.if-not-same.ensures (t ∙ h)), refl)
