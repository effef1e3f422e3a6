-- Each worked example, by computing it.
use mathlib.Core.Path.{◌≡◌, refl}
use mathlib.Core.List.{[]}
use Rattle.aes.specs.Field.{xtime, times, product, inverse_up_to, inverse, bit, affine_bit, affine_bits, sbox}
use Rattle.aes.specs.Cipher.{xor_bytes, sub_bytes, shift_rows, mix_column, mix_columns, add_round_key, round, final_round, rounds, cipher}
use Rattle.aes.specs.KeyExpansion.{sub_word, rot_word, power, rcon, next_word, expand, each, expansion, round_key}
use Rattle.aes.specs.Aes.{aes}
use Rattle.ctr.specs.Gctr.{inc32, stream, blocks, gctr}
use Rattle.ghash.specs.Ghash.{times_x, V, Z, gmul, bytes_of, block_of, Y, ghash}
use Rattle.gcm.specs.Gcm.{bytes_big, bits, hash, subkey, masked, tag, gcm, gmac}
use Rattle.worked.specs.Worked.{counting, plain, zeros, sealed_as, Worked}

cipher_128 : aes (bytes_big 16 0x000102030405060708090a0b0c0d0e0f) plain ≡ bytes_big 16 0x69c4e0d86a7b0430d8cdb78070b4c55a
unfolding xtime times product inverse_up_to inverse bit affine_bit affine_bits sbox xor_bytes sub_bytes shift_rows mix_column mix_columns add_round_key round final_round rounds cipher sub_word rot_word power rcon next_word expand each expansion round_key aes inc32 stream blocks gctr times_x V Z gmul bytes_of block_of Y ghash bytes_big bits hash subkey masked tag gcm gmac
cipher_128 = refl

cipher_192 : aes (bytes_big 24 0x000102030405060708090a0b0c0d0e0f1011121314151617) plain ≡ bytes_big 16 0xdda97ca4864cdfe06eaf70a0ec0d7191
unfolding xtime times product inverse_up_to inverse bit affine_bit affine_bits sbox xor_bytes sub_bytes shift_rows mix_column mix_columns add_round_key round final_round rounds cipher sub_word rot_word power rcon next_word expand each expansion round_key aes inc32 stream blocks gctr times_x V Z gmul bytes_of block_of Y ghash bytes_big bits hash subkey masked tag gcm gmac
cipher_192 = refl

cipher_256 : aes counting plain ≡ bytes_big 16 0x8ea2b7ca516745bfeafc49904b496089
unfolding xtime times product inverse_up_to inverse bit affine_bit affine_bits sbox xor_bytes sub_bytes shift_rows mix_column mix_columns add_round_key round final_round rounds cipher sub_word rot_word power rcon next_word expand each expansion round_key aes inc32 stream blocks gctr times_x V Z gmul bytes_of block_of Y ghash bytes_big bits hash subkey masked tag gcm gmac
cipher_256 = refl

hash_subkey : subkey (aes (zeros 16)) ≡ 0x66e94bd4ef8a2c3b884cfa59ca342b2e
unfolding xtime times product inverse_up_to inverse bit affine_bit affine_bits sbox xor_bytes sub_bytes shift_rows mix_column mix_columns add_round_key round final_round rounds cipher sub_word rot_word power rcon next_word expand each expansion round_key aes inc32 stream blocks gctr times_x V Z gmul bytes_of block_of Y ghash bytes_big bits hash subkey masked tag gcm gmac
hash_subkey = refl

case_1 : gmac (aes (zeros 16)) (zeros 12) [] [] ≡ sealed_as [] (bytes_big 16 0x58e2fccefa7e3061367f1d57a4e7455a)
unfolding xtime times product inverse_up_to inverse bit affine_bit affine_bits sbox xor_bytes sub_bytes shift_rows mix_column mix_columns add_round_key round final_round rounds cipher sub_word rot_word power rcon next_word expand each expansion round_key aes inc32 stream blocks gctr times_x V Z gmul bytes_of block_of Y ghash bytes_big bits hash subkey masked tag gcm gmac
case_1 = refl

case_2 : gcm (aes (zeros 16)) (zeros 12) [] (zeros 16) ≡ sealed_as (bytes_big 16 0x0388dace60b6a392f328c2b971b2fe78) (bytes_big 16 0xab6e47d42cec13bdf53a67b21257bddf)
unfolding xtime times product inverse_up_to inverse bit affine_bit affine_bits sbox xor_bytes sub_bytes shift_rows mix_column mix_columns add_round_key round final_round rounds cipher sub_word rot_word power rcon next_word expand each expansion round_key aes inc32 stream blocks gctr times_x V Z gmul bytes_of block_of Y ghash bytes_big bits hash subkey masked tag gcm gmac
case_2 = refl

pub holds : Worked
unfolding xtime times product inverse_up_to inverse bit affine_bit affine_bits sbox xor_bytes sub_bytes shift_rows mix_column mix_columns add_round_key round final_round rounds cipher sub_word rot_word power rcon next_word expand each expansion round_key aes inc32 stream blocks gctr times_x V Z gmul bytes_of block_of Y ghash bytes_big bits hash subkey masked tag gcm gmac
holds =
    record {
      product_83 = refl;
      product_13 = refl;
      sbox_53 = refl;
      column = refl;
      expansion_128 = refl;
      expansion_192 = refl;
      expansion_256 = refl;
      cipher_128 = cipher_128;
      cipher_192 = cipher_192;
      cipher_256 = cipher_256;
      hash_subkey = hash_subkey;
      first_product = refl;
      case_1 = case_1;
      case_2 = case_2;
    }
