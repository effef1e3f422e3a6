use Rattle.std.proofs.Common.{◌-◌, arith}
use Rattle.storage.proofs.Ranges.{windowed}
use Rattle.storage.proofs.window.WindowFileRead.read.Goals as goal

pub returns : goal.returns
returns g c =
    let r = c.args.self.now.range in
    windowed (g.R.FileRead.bytes c.args.self.now.source) r.start (r.end - r.start) c.args.at
    c.args.into.now c.read.new.into c.read.result (omega arith) (omega arith) c.read.ensures
