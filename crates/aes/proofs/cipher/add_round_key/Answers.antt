use Rattle.std.proofs.Common.{rules}
use Rattle.aes.specs.Cipher.{xor_bytes, add_round_key}
use Rattle.aes.proofs.cipher.add_round_key.Goals as goal

pub returns : goal.returns
unfolding xor_bytes add_round_key
returns c = search rules
