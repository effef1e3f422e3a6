use Rattle.std.proofs.Common.{◌≡◌, map, drop}
use Rattle.aes.specs.Cipher.{rounds}
use Rattle.aes.specs.Blocks.{bytes_of}
use Rattle.aes.proofs.cipher.encrypt_under.Given as goal

-- what is left of the rounds gives what all of them give
abbrev pub invariant-loop-key : goal.invariant-loop-key
invariant-loop-key l = rounds (map bytes_of (drop l.key-index l.middle)) (bytes_of l.state) ≡ rounds (map bytes_of l.middle) (bytes_of l.initial.state)
