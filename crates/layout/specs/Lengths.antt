-- Lengths, computed: what a file of some length consists of, and what a closed file of some plaintext consists of.
use Rattle.std.specs.Prelude.{◌≡◌, ℕ, ◌+◌, ◌-◌, ◌/◌, ◌%◌, ◌<◌, ◌≤◌, Bool, true, cond, ◌&&◌, Ok, Err, Result, ◌==◌, ◌≢◌, nat_lt}
use Rattle.error.specs.declared.stream.StreamError.{StreamError}
use Rattle.error.specs.declared.stream.StreamError.TheVariants.{BlockSize, FileTooShort, CiphertextTooShort, TooManyBlocks}
use Rattle.layout.specs.declared.shape.Shape.{Shape}
use Rattle.layout.specs.declared.shape.Shape.TheVariants.{Full, Partial}
use Rattle.layout.specs.Format.{InLimits, Proper, Closed, file_bytes, plain_bytes, block_count_of}

-- the tests of the limits and of a last block
abbrev pub proper : ℕ → Shape → Bool
proper b (Full q) = true
proper b (Partial q n) = nat_lt n b

abbrev pub in_limits : ℕ → Bool
in_limits b = nat_lt 0 b && nat_lt b 4294967268

-- q full blocks, and r bytes after them
abbrev pub shaped : ℕ → ℕ → Result Shape StreamError
shaped q r = cond (r == 0) (Ok (Full q)) (cond (nat_lt r 28) (Err CiphertextTooShort) (Ok (Partial q (r - 28))))

-- what a file of l bytes consists of, or why there is no such file
abbrev pub measured : ℕ → ℕ → Result Shape StreamError
measured b l =
    cond (in_limits b)
    (cond (nat_lt l 8) (Err FileTooShort) (shaped ((l - 8) / (b + 28)) ((l - 8) % (b + 28))))
    (Err BlockSize)

-- the same of a file that a reader takes: its blocks can be numbered in four bytes
abbrev pub few : Result Shape StreamError → Result Shape StreamError
few (Ok s) = cond (nat_lt 4294967295 (block_count_of s)) (Err TooManyBlocks) (Ok s)
few (Err e) = Err e

abbrev pub readable : ℕ → ℕ → Result Shape StreamError
readable b l = few (measured b l)

abbrev pub plain_length : ℕ → Result Shape StreamError → Result ℕ StreamError
plain_length b (Ok s) = Ok (plain_bytes b s)
plain_length b (Err e) = Err e

abbrev pub file_length_of : ℕ → Result Shape StreamError → Result ℕ StreamError
file_length_of b (Ok s) = Ok (file_bytes b s)
file_length_of b (Err e) = Err e

-- what a writer leaves that closes after n plaintext bytes: full blocks alone if there are some and nothing is left over,
-- else a last block of what is left
abbrev pub closed_shape : ℕ → ℕ → Shape
closed_shape b n = cond (nat_lt 0 (n / b) && n % b == 0) (Full (n / b)) (Partial (n / b) (n % b))

abbrev pub closed : ℕ → ℕ → Result Shape StreamError
closed b n = cond (in_limits b) (few (Ok (closed_shape b n))) (Err BlockSize)

-- The law of closed files: for each plaintext length there is one, and it is answered unless it has too many blocks.
pub record ClosedLaw (b n : ℕ) (r : Result Shape StreamError) : Type 0 where
  pub size : (InLimits b → ⊥) → r ≡ Err BlockSize
  pub some : InLimits b → (s : Shape) × Proper b s × Closed s × (plain_bytes b s ≡ n)
  pub short : (s : Shape) → InLimits b → Proper b s → Closed s → plain_bytes b s ≡ n → block_count_of s ≤ 4294967295 → r ≡ Ok s
  pub long : (s : Shape) → InLimits b → Proper b s → Closed s → plain_bytes b s ≡ n → 4294967295 < block_count_of s → r ≡ Err TooManyBlocks

-- The law of lengths: each length of a file is answered with the bytes that the file holds, every other is refused
-- with the first refusal that applies, and no length is that of two files.
pub record LengthLaw (b l : ℕ) (r : Result ℕ StreamError) : Type 0 where
  pub size : (InLimits b → ⊥) → r ≡ Err BlockSize
  pub short : InLimits b → l < 8 → r ≡ Err FileTooShort
  pub file : (s : Shape) → InLimits b → Proper b s → file_bytes b s ≡ l → r ≡ Ok (plain_bytes b s)
  pub none : InLimits b → 8 ≤ l → ((s : Shape) → Proper b s → file_bytes b s ≢ l) → r ≡ Err CiphertextTooShort
  pub closed : (n : ℕ) → InLimits b → file_bytes b (closed_shape b n) ≡ l → r ≡ Ok n
  pub one : (s t : Shape) → InLimits b → Proper b s → Proper b t → file_bytes b s ≡ file_bytes b t → s ≡ t
