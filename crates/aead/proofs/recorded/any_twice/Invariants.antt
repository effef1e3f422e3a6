use Rattle.std.proofs.Common.{ℕ, ◌<◌, ◌≢◌, [], get_or}
use Rattle.aead.proofs.recorded.any_twice.Given as goal

abbrev pub invariant-loop-j : goal.invariant-loop-j
invariant-loop-j l = (a b : ℕ) → a < b → b < l.j → get_or l.nonces a [] ≢ get_or l.nonces b []

abbrev pub invariant-loop-i : goal.invariant-loop-i
invariant-loop-i l = (a : ℕ) → a < l.i → get_or l.nonces a [] ≢ get_or l.nonces l.j []
