-- SP 800-38D: the incrementing function and GCTR, over the keystream block of each counter.
use Rattle.std.specs.Prelude.{ℕ, zero, suc, ◌+◌, ◌/◌, ◌%◌, ◌^◌, List, ◌++◌, length, take, drop}
use Rattle.aes.specs.Cipher.{xor_bytes}
use Rattle.aes.specs.Words.{word_bytes}

-- inc32: the counter's 32 bits wrap, and the IV before them stays
unfoldable pub inc32 : ℕ → ℕ
inc32 n = (n + 1) % 2 ^ 32

-- the block cipher of the IV and the counter n
unfoldable pub stream : (List ℕ → List ℕ) → List ℕ → ℕ → List ℕ
stream ciph iv n = ciph (iv ++ word_bytes n)

-- m whole blocks, and then what is left, which the front of the last block of the keystream covers
unfoldable pub blocks : (ℕ → List ℕ) → ℕ → ℕ → List ℕ → List ℕ
blocks ks zero n s = xor_bytes s (ks n)
blocks ks (suc m) n s = xor_bytes (take 16 s) (ks n) ++ blocks ks m (inc32 n) (drop 16 s)

unfoldable pub gctr : (ℕ → List ℕ) → ℕ → List ℕ → List ℕ
gctr ks n s = blocks ks (length s / 16) n s
