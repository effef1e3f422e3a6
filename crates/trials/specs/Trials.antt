-- The trial table.
use Rattle.std.specs.Prelude.{ℕ, Bool, true, false, ◌&&◌, List, [], ◌∷◌, Ok, Err, Result, ◌==◌}
use Rattle.code.specs.Codes.{code_number}
use Rattle.error.specs.Reports.{stream_report}
use Rattle.error.specs.declared.stream.StreamError.{StreamError}
use Rattle.layout.specs.declared.shape.Shape.{Shape}
use Rattle.layout.specs.Format.{plain_bytes, block_count_of}
use Rattle.layout.specs.Lengths.{measured, readable}

-- a row: a block size, a file's length, and what is answered
pub data Trial : Type 0 where
  -- the file has so many plaintext bytes and so many blocks
  holds : ℕ → ℕ → ℕ → ℕ → Trial
  -- the length is refused by a code
  refused : ℕ → ℕ → ℕ → Trial
  -- a reader can be made
  reads : ℕ → ℕ → Trial
  -- a reader is refused by a code
  unread : ℕ → ℕ → ℕ → Trial

abbrev pub trials : List Trial
trials =
    refused 1048576 7 1
    ∷ refused 1048576 35 2
    ∷ refused 1048576 1048613 2
    ∷ holds 1048576 8 0 0
    ∷ holds 1048576 36 0 1
    ∷ holds 1048576 1048612 1048576 1
    ∷ holds 1048576 1048640 1048576 2
    ∷ holds 1048576 1048641 1048577 2
    ∷ reads 1 124554051563
    ∷ unread 1 124554051592 3
    ∷ []

abbrev gives : ℕ → ℕ → ℕ → Result Shape StreamError → Bool
gives b p n (Ok s) = plain_bytes b s == p && block_count_of s == n
gives b p n (Err e) = false

abbrev gone : ℕ → Result Shape StreamError → Bool
gone k (Ok s) = false
gone k (Err e) = code_number (stream_report e).code == k

abbrev made : Result Shape StreamError → Bool
made (Ok s) = true
made (Err e) = false

abbrev pub row_holds : Trial → Bool
row_holds (holds b l p n) = gives b p n (measured b l)
row_holds (refused b l k) = gone k (measured b l)
row_holds (reads b l) = made (readable b l)
row_holds (unread b l k) = gone k (readable b l)

abbrev pub all_hold : List Trial → Bool
all_hold [] = true
all_hold (t ∷ ts) = row_holds t && all_hold ts
