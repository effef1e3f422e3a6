-- FIPS 197, KeyExpansion(), on words. nk is the length of the key in words, and there are nk + 6 rounds.
use Rattle.std.specs.Prelude.{ℕ, zero, suc, ◌+◌, ◌-◌, ◌*◌, ◌/◌, ◌%◌, cond, ◌&&◌, List, [], ◌∷◌, ◌++◌, length, ◌==◌, bit_xor, nat_lt, slice_index}
use Rattle.aes.specs.Field.{sbox, xtime}
use Rattle.aes.specs.Words.{byte0, byte1, byte2, byte3, word_of, bytes_of_words}

-- SubWord()
unfoldable pub sub_word : ℕ → ℕ
sub_word w = word_of (sbox (byte0 w)) (sbox (byte1 w)) (sbox (byte2 w)) (sbox (byte3 w))

-- RotWord()
unfoldable pub rot_word : ℕ → ℕ
rot_word w = word_of (byte1 w) (byte2 w) (byte3 w) (byte0 w)

-- x^j
unfoldable pub power : ℕ → ℕ
power zero = 1
power (suc j) = xtime (power j)

-- Rcon[j]
unfoldable pub rcon : ℕ → ℕ
rcon j = word_of (power (j - 1)) 0 0 0

-- word i, from the word before it and the one nk places before it
unfoldable pub next_word : ℕ → ℕ → ℕ → ℕ → ℕ
next_word nk i before back =
    bit_xor back
    (cond (i % nk == 0) (bit_xor (sub_word (rot_word before)) (rcon (i / nk)))
    (cond (nat_lt 6 nk && i % nk == 4) (sub_word before) before))

-- the words so far, and n more
unfoldable pub expand : ℕ → ℕ → List ℕ → List ℕ
expand nk zero ws = ws
expand nk (suc n) ws = expand nk n (ws ++ next_word nk (length ws) (slice_index ws (length ws - 1)) (slice_index ws (length ws - nk)) ∷ [])

-- f i, f (i + 1) and so on, n of them
unfoldable pub each : {X : Type 0} → (ℕ → X) → ℕ → ℕ → List X
each f i zero = []
each f i (suc n) = f i ∷ each f (i + 1) n

-- Nk, from the length of the key in bytes: 16, 24 or 32
abbrev pub key_length : ℕ → ℕ
key_length n = cond (nat_lt n 24) 4 (cond (nat_lt n 32) 6 8)

abbrev pub key_word : List ℕ → ℕ → ℕ
key_word key i = word_of (slice_index key (i * 4)) (slice_index key (i * 4 + 1)) (slice_index key (i * 4 + 2)) (slice_index key (i * 4 + 3))

-- the first n words of a key
abbrev pub key_words : List ℕ → ℕ → List ℕ
key_words key n = each (key_word key) 0 n

-- the expansion of a key: 4 words for each of the nk + 7 round keys, of which the first nk words are the key
unfoldable pub expansion : List ℕ → List ℕ
expansion key = let nk = key_length (length key) in expand nk (4 * (nk + 7) - nk) (key_words key nk)

-- the bytes of round key i: the words 4 i to 4 i + 3
unfoldable pub round_key : List ℕ → ℕ → List ℕ
round_key ws i = bytes_of_words (slice_index ws (i * 4)) (slice_index ws (i * 4 + 1)) (slice_index ws (i * 4 + 2)) (slice_index ws (i * 4 + 3))
