-- A word is four bytes, the most significant first.
use Rattle.std.specs.Prelude.{ℕ, ◌+◌, ◌*◌, ◌/◌, ◌%◌, List, [], ◌∷◌, ◌++◌}

abbrev pub byte0 : ℕ → ℕ
byte0 w = w / 16777216 % 256

abbrev pub byte1 : ℕ → ℕ
byte1 w = w / 65536 % 256

abbrev pub byte2 : ℕ → ℕ
byte2 w = w / 256 % 256

abbrev pub byte3 : ℕ → ℕ
byte3 w = w % 256

abbrev pub word_bytes : ℕ → List ℕ
word_bytes w = byte0 w ∷ byte1 w ∷ byte2 w ∷ byte3 w ∷ []

abbrev pub word_of : ℕ → ℕ → ℕ → ℕ → ℕ
word_of a b c d = a * 16777216 + b * 65536 + c * 256 + d

-- the bytes of four words
abbrev pub bytes_of_words : ℕ → ℕ → ℕ → ℕ → List ℕ
bytes_of_words a b c d = word_bytes a ++ (word_bytes b ++ (word_bytes c ++ word_bytes d))
