-- What a sink means: the bytes that it took, how many more it will take, and whether it is open.
use Rattle.std.specs.Prelude.{ℕ, ◌+◌, ◌-◌, Bool, true, false, ◌&&◌, List, [], ◌++◌, length, nat_le}

pub record Port : Type 0 where
  pub taken : List ℕ
  pub room : ℕ
  pub is_open : Bool

-- a new sink
abbrev pub fresh : ℕ → Port
fresh n = record { taken = []; room = n; is_open = true }

-- whether a write of these bytes is taken
abbrev pub takes : Port → List ℕ → Bool
takes p bs = p.is_open && nat_le (length bs) p.room

-- the sink after it took these bytes
abbrev pub added : Port → List ℕ → Port
added p bs = record { taken = p.taken ++ bs; room = p.room - length bs; is_open = p.is_open }

-- the sink after a close
abbrev pub shut : Port → Port
shut p = record { taken = p.taken; room = p.room; is_open = false }

-- the sink after it forgot what it took
abbrev pub emptied : Port → Port
emptied p = record { taken = []; room = p.room + length p.taken; is_open = p.is_open }

-- two sinks that are filled in turn, open while both are
abbrev pub in_turn : Port → Port → Port
in_turn p q = record { taken = p.taken ++ q.taken; room = p.room + q.room; is_open = p.is_open && q.is_open }
