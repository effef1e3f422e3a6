use Rattle.std.proofs.Common.{rules}
use Rattle.stream_law.proofs.Keeps.{call_keeps}
use Rattle.stream_law.proofs.Shuts.{shuts}
use Rattle.stream_law.proofs.call.call.Goals as goal

pub returns-clause-shut : goal.returns-clause-shut
returns-clause-shut g c = search (rules, shuts)

pub returns-clause-does : goal.returns-clause-does
returns-clause-does g c = search (rules, call_keeps)
