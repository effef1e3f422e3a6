-- The law of one file: a closed file reads as it was written.
use Rattle.std.specs.Prelude.{◌≡◌, ℕ, ◌+◌, ◌-◌, ◌<◌, ◌≤◌, true, false, ◌≢◌, List, ◌++◌, length, drop, Ok, Err, Result}
use Rattle.error.specs.declared.stream.StreamError.{StreamError}
use Rattle.aead.specs.Draws.{Distinct}
use Rattle.aead.specs.Seals.{Sealed}
use Rattle.layout.specs.Format.{plain_bytes}
use Rattle.layout.specs.Lengths.{readable}
use Rattle.layout.specs.declared.shape.Shape.{Shape}
use Rattle.storage.specs.Answers.{range}
use Rattle.storage.specs.Ports.{Port}
use Rattle.stream_write.specs.Blocks.{block_of}
use Rattle.stream_write.specs.declared.call.FileCall.{FileCall}
use Rattle.stream_law.specs.Files.{IsFile}
use Rattle.stream_read.specs.Ranges.{Reads}
use Rattle.stream.specs.Courses.{written, closed_from, refused, Fate, nonces, taken, losses}

-- What a reader answers over any source with these bytes: it can be made with their length and then knows the length of the plaintext t;
-- a read of a range inside, with memory enough, gives exactly the bytes of t there; a read of any other range with
-- unequal ends is refused and leaves all memory as it was.
pub record ReadsBack (seal : List ℕ → List ℕ → List ℕ → Sealed) (prefix : List ℕ) (size : ℕ) (t bytes : List ℕ) : Type 0 where
  pub made : (s : Shape) × (readable size (length bytes) ≡ Ok s) × (plain_bytes size s ≡ length t)
  pub inside : (start end : ℕ) (out block : List ℕ) (r : Result (Unit {0}) StreamError) (out' block' : List ℕ)
      → Reads seal prefix size (length t) bytes start end out block r out' block'
      → start ≤ end → end ≤ length t → end - start ≤ length out → size + 28 ≤ length block
      → (r ≡ Ok tt) × (out' ≡ range start (end - start) t ++ drop (end - start) out)
  pub outside : (start end : ℕ) (out block : List ℕ) (r : Result (Unit {0}) StreamError) (out' block' : List ℕ)
      → Reads seal prefix size (length t) bytes start end out block r out' block'
      → start ≢ end → (start < end → end ≤ length t → ⊥)
      → (e : StreamError) × (r ≡ Err e) × (out' ≡ out) × (block' ≡ block)

-- THE LAW OF ONE FILE, after any writes and closes from a fresh writer and an empty sink on. Every nonce drawn went, in order, to a block that the
-- sink took or to one that it refused, one for each call refused so, and no two are the same. Once a close has ended unrefused, the
-- sink is closed and holds the file of the bytes of the unrefused writes under the nonces of the blocks taken, and that file reads
-- back as it was written.
pub record FileLaw (seal : List ℕ → List ℕ → List ℕ → Sealed) (prefix : List ℕ) (size : ℕ) (left : List (List ℕ)) (cs : List FileCall) (rs : List (Result (Unit {0}) StreamError)) (rest : List (List ℕ)) (q : Port) : Type 0 where
  pub fates : List Fate
  pub drawn : left ≡ nonces fates ++ rest
  pub apart : Distinct (nonces fates)
  pub refusals : losses fates ≡ refused rs
  pub shut : closed_from false cs rs ≡ true → q.is_open ≡ false
  pub file : closed_from false cs rs ≡ true → IsFile size (block_of seal prefix) (taken fates) (written cs rs) q.taken
  pub reads : closed_from false cs rs ≡ true → ReadsBack seal prefix size (written cs rs) q.taken
