-- The round keys of a schedule, numbers 0 to `rounds`, and the cipher under them.
use Rattle.std.specs.Prelude.{ℕ, ◌-◌, cond, List, Some, None, Option, nat_le, slice_index_or}
use Rattle.aes.specs.Cipher.{cipher}
use Rattle.aes.specs.KeyExpansion.{each}
use Rattle.aes.specs.Blocks.{bytes_of, zero_block}
use Rattle.aes.specs.declared.block.Block.{Block}
use Rattle.aes.specs.declared.schedule.Schedule.{Schedule}

-- round key i, and none past the last
abbrev pub key_at : Schedule → ℕ → Option Block
key_at s i = cond (nat_le i s.rounds) (Some (slice_index_or s.keys i zero_block)) None

-- the bytes of round key i
abbrev pub key_bytes : Schedule → ℕ → List ℕ
key_bytes s i = bytes_of (slice_index_or s.keys i zero_block)

-- a block encrypted under the round keys
unfoldable pub scheduled : Schedule → List ℕ → List ℕ
scheduled s x = cipher (key_bytes s 0) (each (key_bytes s) 1 (s.rounds - 1)) (key_bytes s s.rounds) x
