-- FIPS 197: AES-128, AES-192 and AES-256, by the length of the key. A key of any other length than 16, 24 or 32 bytes has a meaning too,
-- so that every definition is total: one under 24 bytes counts as 16, one under 32 as 24, a longer one as 32, and missing bytes count as 0.
use Rattle.std.specs.Prelude.{ℕ, ◌+◌, List, length}
use Rattle.aes.specs.Cipher.{cipher}
use Rattle.aes.specs.KeyExpansion.{each, key_length, expansion, round_key}

-- a block encrypted under the bytes of a key
unfoldable pub aes : List ℕ → List ℕ → List ℕ
aes key x =
    let ws = expansion key in
    let nk = key_length (length key) in
    cipher (round_key ws 0) (each (round_key ws) 1 (nk + 5)) (round_key ws (nk + 6)) x
