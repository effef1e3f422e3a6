-- The keystream of a schedule and an IV.
use Rattle.std.specs.Prelude.{ℕ, List}
use Rattle.aes.specs.Schedules.{scheduled}
use Rattle.ctr.specs.Gctr.{stream}
use Rattle.ctr.specs.Ivs.{iv_bytes}
use Rattle.ctr.specs.declared.gctr.Keystream.{Keystream}

-- its block cipher
abbrev pub cipher_of : Keystream → List ℕ → List ℕ
cipher_of k = scheduled k.schedule.now

-- the bytes of its IV
abbrev pub iv_of : Keystream → List ℕ
iv_of k = iv_bytes k.iv

-- its block of each counter
abbrev pub keystream_of : Keystream → ℕ → List ℕ
keystream_of k = stream (cipher_of k) (iv_of k)
