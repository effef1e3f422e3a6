-- The bytes of a block that is held as four words.
use Rattle.std.specs.Prelude.{ℕ, List}
use Rattle.aes.specs.Words.{bytes_of_words}
use Rattle.aes.specs.declared.block.Block.{Block}

abbrev pub bytes_of : Block → List ℕ
bytes_of x = bytes_of_words x.a x.b x.c x.d

abbrev pub zero_block : Block
zero_block = record { a = 0; b = 0; c = 0; d = 0 }
