use Rattle.std.proofs.Common.{rules}
use Rattle.aes.proofs.Rounds.{round_by}
use Rattle.aes.proofs.cipher.mixed_round.Goals as goal

pub returns : goal.returns
returns c = search (rules, round_by)
