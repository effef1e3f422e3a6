-- Worked examples from the standards, as statements about the definitions.
use Rattle.std.specs.Prelude.{◌≡◌, List, [], ◌∷◌, ℕ, get_or}
use Rattle.aes.specs.Field.{product, sbox}
use Rattle.aes.specs.Cipher.{mix_column}
use Rattle.aes.specs.KeyExpansion.{expansion}
use Rattle.aes.specs.Aes.{aes}
use Rattle.ghash.specs.Ghash.{gmul}
use Rattle.aead.specs.Seals.{Sealed}
use Rattle.gcm.specs.Gcm.{bytes_big, subkey, gcm, gmac}

-- the 256-bit key and the plaintext of FIPS 197's examples of the cipher
abbrev pub counting : List ℕ
counting = bytes_big 32 0x000102030405060708090a0b0c0d0e0f101112131415161718191a1b1c1d1e1f

abbrev pub plain : List ℕ
plain = bytes_big 16 0x00112233445566778899aabbccddeeff

-- n zeros
abbrev pub zeros : ℕ → List ℕ
zeros n = bytes_big n 0

abbrev pub sealed_as : List ℕ → List ℕ → Sealed
sealed_as c t = record { text = c; tag = t }

pub record Worked : Type 0 where
  -- FIPS 197: multiplication in GF(2^8), the S-box, MixColumns() of a column of the example of the cipher
  pub product_83 : product 0x57 0x83 ≡ 0xc1
  pub product_13 : product 0x57 0x13 ≡ 0xfe
  pub sbox_53 : sbox 0x53 ≡ 0xed
  pub column : mix_column 0xd4 0xbf 0x5d 0x30 ≡ 0x04 ∷ 0x66 ∷ 0x81 ∷ 0xe5 ∷ []
  -- the first new word of each example of the key expansion
  pub expansion_128 : get_or (expansion (bytes_big 16 0x2b7e151628aed2a6abf7158809cf4f3c)) 4 0 ≡ 0xa0fafe17
  pub expansion_192 : get_or (expansion (bytes_big 24 0x8e73b0f7da0e6452c810f32b809079e562f8ead2522c6b7b)) 6 0 ≡ 0xfe0c91f7
  pub expansion_256 : get_or (expansion (bytes_big 32 0x603deb1015ca71be2b73aef0857d77811f352c073b6108d72d9810a30914dff4)) 8 0 ≡ 0x9ba35411
  -- the cipher, for the three key lengths
  pub cipher_128 : aes (bytes_big 16 0x000102030405060708090a0b0c0d0e0f) plain ≡ bytes_big 16 0x69c4e0d86a7b0430d8cdb78070b4c55a
  pub cipher_192 : aes (bytes_big 24 0x000102030405060708090a0b0c0d0e0f1011121314151617) plain ≡ bytes_big 16 0xdda97ca4864cdfe06eaf70a0ec0d7191
  pub cipher_256 : aes counting plain ≡ bytes_big 16 0x8ea2b7ca516745bfeafc49904b496089
  -- the GCM specification, test cases 1 and 2: the hash subkey, the first product, the sealed texts
  pub hash_subkey : subkey (aes (zeros 16)) ≡ 0x66e94bd4ef8a2c3b884cfa59ca342b2e
  pub first_product : gmul 0x0388dace60b6a392f328c2b971b2fe78 0x66e94bd4ef8a2c3b884cfa59ca342b2e ≡ 0x5e2ec746917062882c85b0685353deb7
  pub case_1 : gmac (aes (zeros 16)) (zeros 12) [] [] ≡ sealed_as [] (bytes_big 16 0x58e2fccefa7e3061367f1d57a4e7455a)
  pub case_2 : gcm (aes (zeros 16)) (zeros 12) [] (zeros 16)
      ≡ sealed_as (bytes_big 16 0x0388dace60b6a392f328c2b971b2fe78) (bytes_big 16 0xab6e47d42cec13bdf53a67b21257bddf)
