use Rattle.std.proofs.Common.{arith}
use Rattle.std.proofs.lemmas.Grind.{common_steps}
use Rattle.gcm.specs.Gcm.{gcm}
use Rattle.gcm.proofs.aes_gcm.AesGcmAead.seal.Goals as goal

pub returns : goal.returns
unfolding gcm
returns c = grind (arith, common_steps)
