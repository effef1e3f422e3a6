-- A block encrypted has 16 bytes, for the crates that cut a text into blocks.
use Rattle.std.proofs.Common.{◌≡◌, ℕ, List, length, refl}
use Rattle.aes.specs.Cipher.{xor_bytes, shift_rows, add_round_key, final_round, cipher}
use Rattle.aes.specs.KeyExpansion.{round_key}
use Rattle.aes.specs.Aes.{aes}
use Rattle.aes.specs.Schedules.{scheduled}
use Rattle.aes.specs.declared.schedule.Schedule.{Schedule}

pub length-aes : (key x : List ℕ) → length (aes key x) ≡ 16
unfolding xor_bytes shift_rows add_round_key final_round cipher round_key aes
length-aes key x = refl

pub length-scheduled : (s : Schedule) (x : List ℕ) → length (scheduled s x) ≡ 16
unfolding xor_bytes shift_rows add_round_key final_round cipher scheduled
length-scheduled s x = refl
