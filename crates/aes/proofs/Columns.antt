-- A column of a round, as the code works it out from the table of products.
use Rattle.std.proofs.Common.{◌≡◌, ℕ, ◌*◌, ◌/◌, ◌%◌, ◌^◌, ◌<◌, arith}
use Rattle.std.proofs.lemmas.Nat.{from_be_bytes-to_be_bytes_4}
use lib.Bits.{bit_xor, bit_or}
use Rattle.aes.specs.Field.{product}
use Rattle.aes.specs.Words.{byte0, byte1, byte2, byte3, word_bytes}
use Rattle.aes.specs.Cipher.{mix_column, mixed_byte, xor_bytes}
use Rattle.aes.proofs.Bytes.{low_byte, xor_byte, product_lt}
use Rattle.aes.proofs.Words.{xor_word, bytes_of_word, rot8, rot16, rot24}

twice : (a : ℕ) → product 2 a < 256
twice a = product_lt 2 a (omega arith)

thrice : (a : ℕ) → product 3 a < 256
thrice a = product_lt 3 a (omega arith)

pub column_is : (a b c d k : ℕ) → a < 256 → b < 256 → c < 256 → d < 256 → k < 2 ^ 32
    → word_bytes (bit_xor (bit_xor (bit_xor (bit_xor (mixed_byte a) (bit_or (mixed_byte b / 2 ^ 8) ((mixed_byte b * 2 ^ 24) % 2 ^ 32)))
    (bit_or (mixed_byte c / 2 ^ 16) ((mixed_byte c * 2 ^ 16) % 2 ^ 32))) (bit_or (mixed_byte d / 2 ^ 24) ((mixed_byte d * 2 ^ 8) % 2 ^ 32))) k)
    ≡ xor_bytes (mix_column a b c d) (word_bytes k)
unfolding xor_bytes mix_column
column_is a b c d k ha hb hc hd hk =
    let a2 = twice a in let b2 = twice b in let c2 = twice c in let d2 = twice d in
    let a3 = thrice a in let b3 = thrice b in let c3 = thrice c in let d3 = thrice d in
    let k0 = low_byte (k / 16777216) in let k1 = low_byte (k / 65536) in let k2 = low_byte (k / 256) in let k3 = low_byte k in
    let r8 = rot8 (product 2 b) b b (product 3 b) b2 hb hb b3 in
    let r16 = rot16 (product 2 c) c c (product 3 c) c2 hc hc c3 in
    let r24 = rot24 (product 2 d) d d (product 3 d) d2 hd hd d3 in
    let s1 = xor_word (product 2 a) a a (product 3 a) (product 3 b) (product 2 b) b b ha ha a3 b2 hb hb in
    let s2 = xor_word (bit_xor (product 2 a) (product 3 b)) _ _ _ c (product 3 c) (product 2 c) c (xor_byte ha b2) (xor_byte ha hb) (xor_byte a3 hb) c3 c2 hc in
    let s3 = xor_word (bit_xor (bit_xor (product 2 a) (product 3 b)) c) _ _ _ d d (product 3 d) (product 2 d)
    (xor_byte (xor_byte ha b2) c3) (xor_byte (xor_byte ha hb) c2) (xor_byte (xor_byte a3 hb) hc) hd d3 d2 in
    let s4 = xor_word (bit_xor (bit_xor (bit_xor (product 2 a) (product 3 b)) c) d) _ _ _ (byte0 k) (byte1 k) (byte2 k) (byte3 k)
    (xor_byte (xor_byte (xor_byte ha b2) c3) hd) (xor_byte (xor_byte (xor_byte ha hb) c2) d3) (xor_byte (xor_byte (xor_byte a3 hb) hc) d2) k1 k2 k3 in
    let kw = from_be_bytes-to_be_bytes_4 k hk in
    let end = bytes_of_word _ _ _ _
    (xor_byte (xor_byte (xor_byte (xor_byte a2 b3) hc) hd) k0) (xor_byte (xor_byte (xor_byte (xor_byte ha b2) c3) hd) k1)
    (xor_byte (xor_byte (xor_byte (xor_byte ha hb) c2) d3) k2) (xor_byte (xor_byte (xor_byte (xor_byte a3 hb) hc) d2) k3) in
    cc
