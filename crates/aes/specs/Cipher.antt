-- FIPS 197, Cipher(). A state, a round key and a block are 16 bytes, column after column: s[r, c] is byte r + 4 c.
use Rattle.std.specs.Prelude.{ℕ, List, [], ◌∷◌, ◌++◌, map, bit_xor, slice_index}
use Rattle.aes.specs.Field.{sbox, product}
use Rattle.aes.specs.Words.{word_of}

abbrev pub byte : List ℕ → ℕ → ℕ
byte s i = slice_index s i

-- byte by byte
unfoldable pub xor_bytes : List ℕ → List ℕ → List ℕ
xor_bytes [] ys = []
xor_bytes (x ∷ xs) [] = []
xor_bytes (x ∷ xs) (y ∷ ys) = bit_xor x y ∷ xor_bytes xs ys

-- SubBytes()
unfoldable pub sub_bytes : List ℕ → List ℕ
sub_bytes s = map sbox s

-- ShiftRows(): row r is shifted to the left by r places
unfoldable pub shift_rows : List ℕ → List ℕ
shift_rows s =
    byte s 0 ∷ byte s 5 ∷ byte s 10 ∷ byte s 15
    ∷ byte s 4 ∷ byte s 9 ∷ byte s 14 ∷ byte s 3
    ∷ byte s 8 ∷ byte s 13 ∷ byte s 2 ∷ byte s 7
    ∷ byte s 12 ∷ byte s 1 ∷ byte s 6 ∷ byte s 11 ∷ []

-- MixColumns(), one column
unfoldable pub mix_column : ℕ → ℕ → ℕ → ℕ → List ℕ
mix_column a b c d =
    bit_xor (bit_xor (bit_xor (product 2 a) (product 3 b)) c) d
    ∷ bit_xor (bit_xor (bit_xor a (product 2 b)) (product 3 c)) d
    ∷ bit_xor (bit_xor (bit_xor a b) (product 2 c)) (product 3 d)
    ∷ bit_xor (bit_xor (bit_xor (product 3 a) b) c) (product 2 d)
    ∷ []

-- the column (a, 0, 0, 0) mixed, as a word
abbrev pub mixed_byte : ℕ → ℕ
mixed_byte a = word_of (product 2 a) a a (product 3 a)

-- MixColumns()
unfoldable pub mix_columns : List ℕ → List ℕ
mix_columns s =
    mix_column (byte s 0) (byte s 1) (byte s 2) (byte s 3)
    ++ (mix_column (byte s 4) (byte s 5) (byte s 6) (byte s 7)
    ++ (mix_column (byte s 8) (byte s 9) (byte s 10) (byte s 11)
    ++ mix_column (byte s 12) (byte s 13) (byte s 14) (byte s 15)))

-- AddRoundKey()
unfoldable pub add_round_key : List ℕ → List ℕ → List ℕ
add_round_key s key = xor_bytes s key

unfoldable pub round : List ℕ → List ℕ → List ℕ
round key s = add_round_key (mix_columns (shift_rows (sub_bytes s))) key

-- the last round, which has no MixColumns()
unfoldable pub final_round : List ℕ → List ℕ → List ℕ
final_round key s = add_round_key (shift_rows (sub_bytes s)) key

-- one round under each of the round keys
unfoldable pub rounds : List (List ℕ) → List ℕ → List ℕ
rounds [] s = s
rounds (key ∷ keys) s = rounds keys (round key s)

-- Cipher(), under the first round key, those between, and the last
unfoldable pub cipher : List ℕ → List (List ℕ) → List ℕ → List ℕ → List ℕ
cipher first middle last s = final_round last (rounds middle (add_round_key s first))
