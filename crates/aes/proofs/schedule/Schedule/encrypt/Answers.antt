use Rattle.std.proofs.Common.{◌-◌, arith}
use Rattle.aes.specs.Blocks.{bytes_of, zero_block}
use Rattle.aes.specs.Schedules.{scheduled}
use Rattle.aes.proofs.Each.{each_part}
use Rattle.aes.proofs.schedule.Schedule.encrypt.Goals as goal

pub returns : goal.returns
unfolding scheduled
returns c =
    let s = c.args.self.now in
    let e = each_part bytes_of s.keys zero_block 1 (s.rounds - 1) (omega arith) in
    cc
