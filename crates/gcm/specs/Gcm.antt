-- SP 800-38D, GCM: authenticated encryption under a block cipher on 16 bytes, with an IV of 12 bytes and a tag of 16.
-- The standard bounds a text to 2^39 - 256 bits and AAD to 2^64 - 1 bits; the definitions go on past that, with lengths and counters that wrap.
use Rattle.std.specs.Prelude.{ℕ, zero, suc, ◌+◌, ◌*◌, ◌/◌, ◌%◌, ◌^◌, List, [], ◌∷◌, ◌++◌, length, replicate, bit_xor}
use Rattle.aes.specs.Cipher.{xor_bytes}
use Rattle.ctr.specs.Gctr.{stream, gctr}
use Rattle.ghash.specs.Ghash.{gmul, block_of, ghash}
use Rattle.aead.specs.Seals.{Sealed}

-- the n bytes of a number, the most significant first
unfoldable pub bytes_big : ℕ → ℕ → List ℕ
bytes_big zero x = []
bytes_big (suc n) x = (x / 256 ^ n % 256) ∷ bytes_big n x

-- a length in bits, as 64 bits
unfoldable pub bits : ℕ → ℕ
bits n = n * 8 % 2 ^ 64

-- GHASH of the AAD and the ciphertext, each filled up with zeros, and the block of their lengths
unfoldable pub hash : ℕ → List ℕ → List ℕ → ℕ
hash h a c = gmul (bit_xor (ghash h (ghash h 0 a) c) (bits (length a) * 2 ^ 64 + bits (length c))) h

module _ (ciph : List ℕ → List ℕ) where
  -- the hash subkey H
  unfoldable pub subkey : ℕ
  subkey = block_of (ciph (replicate 16 0))

  -- under the keystream's block of the counter 1, that of J0
  unfoldable pub masked : List ℕ → ℕ → List ℕ
  masked iv s = xor_bytes (bytes_big 16 s) (stream ciph iv 1)

  -- the tag T of AAD and ciphertext
  unfoldable pub tag : List ℕ → List ℕ → List ℕ → List ℕ
  tag iv a c = masked iv (hash subkey a c)

  -- GCM-AE: the ciphertext from the counter 2 on, and its tag
  unfoldable pub gcm : List ℕ → List ℕ → List ℕ → Sealed
  gcm iv a p = let c = gctr (stream ciph iv) 2 p in record { text = c; tag = tag iv a c }

  -- GMAC: the text stays, and its tag is that of an empty ciphertext with the text after the AAD
  unfoldable pub gmac : List ℕ → List ℕ → List ℕ → Sealed
  gmac iv a p = record { text = p; tag = tag iv (a ++ p) [] }
