-- Keys: 16, 24 or 32 bytes, in 32 bytes of memory.
use Rattle.std.specs.Prelude.{ℕ, cond, List, ◌++◌, length, take, drop, replicate, Ok, Err, Result, ◌==◌, nat_lt}
use Rattle.error.specs.declared.cipher.CipherError.{CipherError}
use Rattle.error.specs.declared.cipher.CipherError.TheVariants.{KeyLength, MemoryTooSmall}
use Rattle.aead.specs.declared.key.KeySize.{KeySize}
use Rattle.aead.specs.declared.key.KeySize.TheVariants.{Bits128, Bits192, Bits256}

abbrev pub size_bytes : KeySize → ℕ
size_bytes Bits128 = 16
size_bytes Bits192 = 24
size_bytes Bits256 = 32

-- memory for a key of that size, or too little
abbrev in_memory : ℕ → KeySize → Result KeySize CipherError
in_memory memory size = cond (nat_lt memory 32) (Err MemoryTooSmall) (Ok size)

abbrev pub key_size : ℕ → ℕ → Result KeySize CipherError
key_size n memory =
    cond (n == 16) (in_memory memory Bits128)
    (cond (n == 24) (in_memory memory Bits192)
    (cond (n == 32) (in_memory memory Bits256) (Err KeyLength)))

abbrev pub key_bytes : KeySize → List ℕ → List ℕ
key_bytes size mem = take (size_bytes size) mem

-- n zeros; shut, since a numeral n would be written out in every goal
unfoldable pub zeros : ℕ → List ℕ
zeros n = replicate n 0

-- memory whose key has ended: 32 zeros (or as many as there are), and the rest as it was
abbrev pub wiped : List ℕ → List ℕ
wiped mem = cond (nat_lt (length mem) 32) (zeros (length mem)) (zeros 32 ++ drop 32 mem)
