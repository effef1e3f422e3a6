-- Rounds on four words, column by column.
use Rattle.std.proofs.Common.{◌≡◌, ℕ, ◌/◌, ◌^◌, ◌<◌, List, [], ◌∷◌, ◌++◌, refl, ◌∙◌}
use Rattle.std.proofs.lemmas.Nat.{from_be_bytes-to_be_bytes_4}
use lib.Bits.{bit_xor}
use Rattle.aes.specs.Field.{sbox}
use Rattle.aes.specs.Words.{byte0, byte1, byte2, byte3, word_bytes, bytes_of_words}
use Rattle.aes.specs.Cipher.{mix_column, mix_columns, xor_bytes, shift_rows, sub_bytes, add_round_key, round, final_round}
use Rattle.aes.proofs.Bytes.{low_byte, xor_byte}
use Rattle.aes.proofs.Words.{xor_word, bytes_of_word}

pub xor_words : (w k : ℕ) → w < 2 ^ 32 → k < 2 ^ 32 → word_bytes (bit_xor w k) ≡ xor_bytes (word_bytes w) (word_bytes k)
unfolding xor_bytes
xor_words w k hw hk =
    let w0 = low_byte (w / 16777216) in let w1 = low_byte (w / 65536) in let w2 = low_byte (w / 256) in let w3 = low_byte w in
    let k0 = low_byte (k / 16777216) in let k1 = low_byte (k / 65536) in let k2 = low_byte (k / 256) in let k3 = low_byte k in
    let ew = from_be_bytes-to_be_bytes_4 w hw in
    let ek = from_be_bytes-to_be_bytes_4 k hk in
    let s = xor_word (byte0 w) (byte1 w) (byte2 w) (byte3 w) (byte0 k) (byte1 k) (byte2 k) (byte3 k) w1 w2 w3 k1 k2 k3 in
    let end = bytes_of_word _ _ _ _ (xor_byte w0 k0) (xor_byte w1 k1) (xor_byte w2 k2) (xor_byte w3 k3) in
    cc

abbrev mixed_column : ℕ → ℕ → ℕ → ℕ → ℕ → List ℕ
mixed_column a b c d k = xor_bytes (mix_column (sbox (byte0 a)) (sbox (byte1 b)) (sbox (byte2 c)) (sbox (byte3 d))) (word_bytes k)

abbrev final_column : ℕ → ℕ → ℕ → ℕ → ℕ → List ℕ
final_column a b c d k = xor_bytes (sbox (byte0 a) ∷ sbox (byte1 b) ∷ sbox (byte2 c) ∷ sbox (byte3 d) ∷ []) (word_bytes k)

round_is : (a b c d p q r s : ℕ)
    → mixed_column a b c d p ++ (mixed_column b c d a q ++ (mixed_column c d a b r ++ mixed_column d a b c s))
    ≡ round (bytes_of_words p q r s) (bytes_of_words a b c d)
unfolding round add_round_key xor_bytes mix_columns mix_column shift_rows sub_bytes
round_is a b c d p q r s = refl

final_is : (a b c d p q r s : ℕ)
    → final_column a b c d p ++ (final_column b c d a q ++ (final_column c d a b r ++ final_column d a b c s))
    ≡ final_round (bytes_of_words p q r s) (bytes_of_words a b c d)
unfolding final_round add_round_key xor_bytes shift_rows sub_bytes
final_is a b c d p q r s = refl

-- four columns side by side
join : {u v w x p q r s : List ℕ} → u ≡ p → v ≡ q → w ≡ r → x ≡ s → u ++ (v ++ (w ++ x)) ≡ p ++ (q ++ (r ++ s))
join e f g h = cc

module _ (a b c d p q r s u v w x : ℕ) where
  pub round_by : word_bytes u ≡ mixed_column a b c d p → word_bytes v ≡ mixed_column b c d a q
      → word_bytes w ≡ mixed_column c d a b r → word_bytes x ≡ mixed_column d a b c s
      → bytes_of_words u v w x ≡ round (bytes_of_words p q r s) (bytes_of_words a b c d)
  round_by e f g h = join e f g h ∙ round_is a b c d p q r s

  pub final_by : word_bytes u ≡ final_column a b c d p → word_bytes v ≡ final_column b c d a q
      → word_bytes w ≡ final_column c d a b r → word_bytes x ≡ final_column d a b c s
      → bytes_of_words u v w x ≡ final_round (bytes_of_words p q r s) (bytes_of_words a b c d)
  final_by e f g h = join e f g h ∙ final_is a b c d p q r s
