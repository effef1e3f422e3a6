use Rattle.std.proofs.Common.{sym, refl, ◌∙◌}
use Rattle.aes.specs.Aes.{aes}
use Rattle.aead.specs.Seals.{key_of}
use Rattle.gcm.specs.Macs.{gmac_is, gmac_refuses}
use Rattle.gcm.proofs.gmac.check.Goals as goal

pub returns : goal.returns
returns c =
    gmac_is (aes (key_of c.args.key.now)) c.args.nonce.now c.args.aad.now c.args.text.now c.args.tag.now
    (sym c.mac-real.ensures ∙ c.if-not-same.ensures)

pub returns-then-not-same : goal.returns-then-not-same
returns-then-not-same c = (
  (
    gmac_refuses (aes (key_of c.args.key.now)) c.args.nonce.now c.args.aad.now c.args.text.now c.args.tag.now
        (λ h. c.if-not-same.ensures (c.mac-real.ensures ∙ h)),
    refl,
  ),
  refl,
)
