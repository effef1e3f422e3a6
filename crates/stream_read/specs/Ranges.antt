-- What the reading of a range answers and leaves: opens and fails say of a block's number what it opens to, and how it fails.
use Rattle.std.specs.Prelude.{◌≡◌, ℕ, ◌+◌, ◌-◌, ◌/◌, ◌%◌, ◌<◌, ◌≤◌, cond, ◌||◌, List, ◌++◌, length, take, drop, replicate, Some, None, Ok, Err, Option, Result, ◌==◌, nat_lt, slice_index}
use Rattle.error.specs.declared.stream.StreamError.{StreamError}
use Rattle.error.specs.declared.stream.StreamError.TheVariants.{RangeReversed, RangePastEnd, MemoryTooSmall}
use Rattle.aead.specs.Seals.{Sealed}
use Rattle.stream_read.specs.Blocks.{Opens, Fails}

-- byte p of the plaintext is b
abbrev pub Shows : (ℕ → List ℕ → Type 0) → ℕ → ℕ → ℕ → Type 0
Shows opens size p b = (t : List ℕ) × opens (p / size) t × (b ≡ slice_index t (p % size))

-- one turn: k bytes from pos on, out of one block
abbrev pub Filled : (ℕ → List ℕ → Type 0) → (ℕ → StreamError → Type 0) → ℕ → ℕ → ℕ → Result ℕ StreamError → List ℕ → Type 0
Filled opens fails size pos end (Ok k) after =
    (0 < k) × (k ≤ end - pos) × (pos % size + k ≤ size)
    × ((t : List ℕ) × opens (pos / size) t × ((d : ℕ) → d < k → slice_index after d ≡ slice_index t (pos % size + d)))
Filled opens fails size pos end (Err e) after = fails (pos / size) e

-- the first block of the range that fails, and how: every block before it that the range meets opens
abbrev pub FailsFirst : (ℕ → List ℕ → Type 0) → (ℕ → StreamError → Type 0) → ℕ → ℕ → ℕ → StreamError → Type 0
FailsFirst opens fails size start end e =
    (q : ℕ) × (start ≤ q) × (q < end) × fails (q / size) e × ((p : ℕ) → start ≤ p → p < q → (t : List ℕ) × opens (p / size) t)

-- the memory begins with the bytes from start to end; or the first block that fails
abbrev pub Got : (ℕ → List ℕ → Type 0) → (ℕ → StreamError → Type 0) → ℕ → ℕ → ℕ → Result (Unit {0}) StreamError → List ℕ → Type 0
Got opens fails size start end (Ok _) after = (p : ℕ) → start ≤ p → p < end → Shows opens size p (slice_index after (p - start))
Got opens fails size start end (Err e) after = FailsFirst opens fails size start end e

-- the memory is the range, or as many zeros
abbrev pub GotAll : (ℕ → List ℕ → Type 0) → (ℕ → StreamError → Type 0) → ℕ → ℕ → ℕ → Result (Unit {0}) StreamError → List ℕ → Type 0
GotAll opens fails size start end (Ok u) after = (length after ≡ end - start) × Got opens fails size start end (Ok u) after
GotAll opens fails size start end (Err e) after = (after ≡ replicate (end - start) 0) × FailsFirst opens fails size start end e

-- what is answered before any block is fetched, by the range, the plaintext bytes, the bytes of both memories and those of a block
abbrev pub early : ℕ → ℕ → ℕ → ℕ → ℕ → ℕ → Option (Result (Unit {0}) StreamError)
early start end n out block c =
    cond (start == end) (Some (Ok tt))
    (cond (nat_lt end start) (Some (Err RangeReversed))
    (cond (nat_lt n end) (Some (Err RangePastEnd))
    (cond (nat_lt out (end - start) || nat_lt block c) (Some (Err MemoryTooSmall)) None)))

-- answered early, with both memories as they were; or the range is read, and the block memory wiped
abbrev pub ReadBy : Option (Result (Unit {0}) StreamError) → (ℕ → List ℕ → Type 0) → (ℕ → StreamError → Type 0) → ℕ → ℕ → ℕ → List ℕ → List ℕ → Result (Unit {0}) StreamError → List ℕ → List ℕ → Type 0
ReadBy (Some x) opens fails size start end out block r out' block' = (r ≡ x) × (out' ≡ out) × (block' ≡ block)
ReadBy None opens fails size start end out block r out' block' =
    GotAll opens fails size start end r (take (end - start) out') × (drop (end - start) out' ≡ drop (end - start) out)
    × (block' ≡ replicate (size + 28) 0 ++ drop (size + 28) block)

-- what a read of start to end answers and leaves: out and block before, out' and block' after
abbrev pub Reads : (List ℕ → List ℕ → List ℕ → Sealed) → List ℕ → ℕ → ℕ → List ℕ → ℕ → ℕ → List ℕ → List ℕ → Result (Unit {0}) StreamError → List ℕ → List ℕ → Type 0
Reads seal prefix size n bs start end out block r out' block' =
    ReadBy (early start end n (length out) (length block) (size + 28)) (Opens seal prefix size n bs) (Fails seal prefix size n bs) size start end out block r out' block'
