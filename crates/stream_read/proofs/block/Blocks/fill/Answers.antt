use Rattle.std.proofs.Common.{◌≡◌, ◌+◌, ◌-◌, length, Err, arith, rules}
use Rattle.stream_read.specs.Fetches.{OpensIn}
use Rattle.stream_read.specs.Readers.{size_of}
use Rattle.stream_read.proofs.Spots.{next_shows}
use Rattle.stream_read.proofs.block.Blocks.fill.Goals as goal

pub returns-in_err-filled : goal.returns-in_err-filled
returns-in_err-filled g c =
    let i = c.loop-filled.invariant in
    let e : c.from_residual.result ≡ Err c.in_err-filled.field-0.0 = search rules in
    rw e (c.args.start + c.loop-filled.filled, omega arith, omega arith, c.in_err-filled.ensures, λ p h l. ((i.1 p h l).0, (i.1 p h l).1))

pub loop-filled-preserved : goal.loop-filled-preserved
loop-filled-preserved g c =
    let s = c.args.self.now.reader.now in
    let i = c.loop-filled.invariant in
    let w = c.in_ok-filled.ensures in
    let lw : length c.fill_some.new.out ≡ length c.loop-filled.out - c.loop-filled.filled = search rules in (
      omega arith,
      next_shows (OpensIn g.A.Aead.sealed g.R.FileRead.bytes c.args.self.now) (size_of s) c.args.start c.loop-filled.filled c.in_ok-filled.field-0
          c.loop-filled.out c.fill_some.new.out _ (omega arith) (omega arith) w.2 i.1 w.3,
    )

pub returns : goal.returns
returns g c = λ p h l. c.loop-filled.invariant.1 p h (omega arith)
