use Rattle.std.proofs.Common.{ℕ, ◌+◌, ◌-◌, ◌<◌, ◌≤◌, length, get_or}
use Rattle.stream_read.specs.Fetches.{OpensIn}
use Rattle.stream_read.specs.Ranges.{Shows}
use Rattle.stream_read.specs.Readers.{size_of}
use Rattle.stream_read.proofs.block.Blocks.fill.Given as goal

-- the bytes so far are there
abbrev pub invariant-loop-filled : goal.invariant-loop-filled
invariant-loop-filled g l =
    (l.filled ≤ length l.out)
    × ((p : ℕ) → l.start ≤ p → p < l.start + l.filled → Shows (OpensIn g.A.Aead.sealed g.R.FileRead.bytes l.self) (size_of l.self.reader.now) p (get_or l.out (p - l.start) 0))

abbrev pub decreases-loop-filled : goal.decreases-loop-filled
decreases-loop-filled g l = length l.out - l.filled
