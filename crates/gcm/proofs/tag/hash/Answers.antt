use Rattle.std.proofs.Common.{rules}
use Rattle.gcm.specs.Macs.{hash_both}
use Rattle.gcm.proofs.tag.hash.Goals as goal

pub returns : goal.returns
returns c = search (rules, hash_both)
