use Rattle.std.proofs.Common.{rules}
use Rattle.aes.proofs.Rounds.{final_by}
use Rattle.aes.proofs.cipher.final_round.Goals as goal

pub returns : goal.returns
returns c = search (rules, final_by)
