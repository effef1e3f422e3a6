use Rattle.gcm.specs.Gcm.{gmac}
use Rattle.gcm.proofs.gmac.GmacAead.seal.Goals as goal

pub returns : goal.returns
unfolding gmac
returns c = let m = c.mac.ensures in let n = c.into_bytes.ensures in cc
