use Rattle.std.proofs.Common.{◌≡◌, ◌++◌, take, drop}
use Rattle.ctr.specs.Gctr.{gctr}
use Rattle.ctr.specs.Keystreams.{keystream_of}
use Rattle.ctr.proofs.gctr.Keystream.apply.Given as goal

abbrev pub invariant-loop-at : goal.invariant-loop-at
invariant-loop-at l = take l.at l.text ++ gctr (keystream_of l.self) l.count (drop l.at l.text) ≡ gctr (keystream_of l.self) l.counter l.initial.text
