-- An IV of 12 bytes that is held as three words.
use Rattle.std.specs.Prelude.{ℕ, List, ◌++◌}
use Rattle.aes.specs.Words.{word_bytes}
use Rattle.ctr.specs.declared.iv.Iv.{Iv}

unfoldable pub iv_bytes : Iv → List ℕ
iv_bytes v = word_bytes v.a ++ (word_bytes v.b ++ word_bytes v.c)
