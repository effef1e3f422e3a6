-- What a writer means.
use Rattle.std.specs.Prelude.{ℕ, Bool, true, false, List, take, drop}
use Rattle.stream_write.specs.declared.phase.Phase.{Phase}
use Rattle.stream_write.specs.declared.phase.Phase.TheVariants.{Fresh, Open, Poisoned, Closed}

-- fresh, open with the bytes gathered and the number of blocks sent, poisoned, or closed
pub data State : Type 0 where
  fresh : State
  opened : List ℕ → ℕ → State
  poisoned : State
  closed : State

-- the bytes gathered stand behind the place of the nonce
abbrev pub state_in : Phase → List ℕ → State
state_in Fresh memory = fresh
state_in (Open held blocks) memory = opened (take held (drop 12 memory)) blocks
state_in Poisoned memory = poisoned
state_in Closed memory = closed

-- how many bytes are gathered
abbrev pub held_in : Phase → ℕ
held_in Fresh = 0
held_in (Open held blocks) = held
held_in Poisoned = 0
held_in Closed = 0

abbrev pub is_open : Phase → Bool
is_open Fresh = false
is_open (Open held blocks) = true
is_open Poisoned = false
is_open Closed = false
