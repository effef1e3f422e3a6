-- What files in memory mean as sinks and as sources.
use Rattle.std.specs.Prelude.{◌≡◌, ℕ, List, ◌++◌, vec_items}
use Rattle.storage.specs.Ports.{Port, in_turn}
use Rattle.storage.specs.declared.memory.MemoryFile.{MemoryFile}
use Rattle.storage.specs.declared.memory.TwoMemories.{TwoMemories}

abbrev pub memory_port : MemoryFile → Port
memory_port m = record { taken = vec_items m.bytes; room = m.room; is_open = m.open }

abbrev pub memory_bytes : MemoryFile → List ℕ
memory_bytes m = vec_items m.bytes

abbrev pub two_port : TwoMemories → Port
two_port m = in_turn (memory_port m.first) (memory_port m.second)

abbrev pub two_bytes : TwoMemories → List ℕ
two_bytes m = memory_bytes m.first ++ memory_bytes m.second

-- what is read is what was taken
abbrev pub ReadsTaken : {F : Type 0} → (F → Port) → (F → List ℕ) → Type 0
ReadsTaken {F} port bytes = (f : F) → bytes f ≡ (port f).taken
