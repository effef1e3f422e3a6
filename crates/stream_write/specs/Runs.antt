-- What bytes that are written one after the other come to.
use Rattle.std.specs.Prelude.{◌≡◌, ℕ, ◌+◌, ◌<◌, ◌≤◌, true, cond, ◌&&◌, List, [], ◌∷◌, ◌++◌, length, take, Ok, Err, Result, ◌==◌, nat_lt}
use Rattle.error.specs.declared.storage.StorageError.TheVariants.{BlockNotTaken}
use Rattle.error.specs.declared.stream.StreamError.{StreamError}
use Rattle.error.specs.declared.stream.StreamError.TheVariants.{Storage, Cipher, TooManyBlocks, WriterClosed, WriterPoisoned, HeaderNotTaken}
use Rattle.layout.specs.Format.{header}
use Rattle.storage.specs.Ports.{Port, takes, added, shut}
use Rattle.stream_write.specs.Sends.{no_nonce, not_taken}
use Rattle.stream_write.specs.Writers.{State, fresh, opened, poisoned, closed, is_open}
use Rattle.stream_write.specs.declared.phase.Phase.{Phase}

-- bytes gathered, blocks sent, nonces left and sink; or the refusal that ended it, with nonces left and sink
pub data Run : Type 0 where
  ok : List ℕ → ℕ → List (List ℕ) → Port → Run
  failed : StreamError → List (List ℕ) → Port → Run

-- the bytes gathered, sent as block i: refused where there are too many, then where no nonce is left, then by the sink
abbrev pub send_run : (ℕ → List ℕ → List ℕ → List ℕ) → List ℕ → ℕ → List (List ℕ) → Port → Run
send_run block text i [] p = cond (nat_lt i 4294967295) (failed (Cipher (no_nonce i)) [] p) (failed TooManyBlocks [] p)
send_run block text i (n ∷ rest) p =
    cond (nat_lt i 4294967295)
    (cond (takes p (block i n text)) (ok [] (i + 1) rest (added p (block i n text))) (failed (Storage (not_taken i)) rest p))
    (failed TooManyBlocks (n ∷ rest) p)

-- one byte more: gathered, and sent with the others where that makes a full block
unfoldable pub push_byte : ℕ → (ℕ → List ℕ → List ℕ → List ℕ) → Run → ℕ → Run
push_byte size block (ok text i left p) b = cond (nat_lt (length text + 1) size) (ok (text ++ b ∷ []) i left p) (send_run block (text ++ b ∷ []) i left p)
push_byte size block (failed e left p) b = failed e left p

unfoldable pub push_bytes : ℕ → (ℕ → List ℕ → List ℕ → List ℕ) → Run → List ℕ → Run
push_bytes size block run [] = run
push_bytes size block run (b ∷ bs) = push_bytes size block (push_byte size block run b) bs

-- what a call answers and leaves, by what its bytes come to
abbrev pub Outcome : Run → Result (Unit {0}) StreamError → State → List (List ℕ) → Port → Type 0
Outcome (ok text i left p) r after rest q = (r ≡ Ok tt) × (after ≡ opened text i) × (rest ≡ left) × (q ≡ p)
Outcome (failed e left p) r after rest q = (r ≡ Err e) × (after ≡ poisoned) × (rest ≡ left) × (q ≡ p)

abbrev pub run_of : State → List (List ℕ) → Port → Run
run_of fresh left p = ok [] 0 left p
run_of (opened t i) left p = ok t i left p
run_of poisoned left p = failed WriterPoisoned left p
run_of closed left p = failed WriterClosed left p

-- what one turn of gathering does: n bytes are taken in, or a refusal ends it
abbrev pub Gathered : (Run → List ℕ → Run) → Run → List ℕ → Result ℕ StreamError → Phase → State → List (List ℕ) → Port → Type 0
Gathered push run bytes (Ok n) phase after rest q = (0 < n) × (n ≤ length bytes) × (is_open phase ≡ true) × (run_of after rest q ≡ push run (take n bytes))
Gathered push run bytes (Err e) phase after rest q = (after ≡ poisoned) × (push run bytes ≡ failed e rest q)

-- the header sent
abbrev pub begin_run : ℕ → List (List ℕ) → Port → Run
begin_run size left p = cond (takes p (header size)) (ok [] 0 left (added p (header size))) (failed (HeaderNotTaken BlockNotTaken) left p)

-- a call that finds the writer closed or poisoned: refused, and nothing changes
abbrev pub Unchanged : StreamError → State → List (List ℕ) → Port → Result (Unit {0}) StreamError → State → List (List ℕ) → Port → Type 0
Unchanged e s left p r after rest q = (r ≡ Err e) × (after ≡ s) × (rest ≡ left) × (q ≡ p)

-- what a write answers and leaves, by the state that it meets
abbrev pub Wrote : ℕ → (ℕ → List ℕ → List ℕ → List ℕ) → State → List (List ℕ) → Port → List ℕ → Result (Unit {0}) StreamError → State → List (List ℕ) → Port → Type 0
Wrote size block fresh left p bytes r after rest q = Outcome (push_bytes size block (begin_run size left p) bytes) r after rest q
Wrote size block (opened t i) left p bytes r after rest q = Outcome (push_bytes size block (ok t i left p) bytes) r after rest q
Wrote size block poisoned left p bytes r after rest q = Unchanged WriterPoisoned poisoned left p r after rest q
Wrote size block closed left p bytes r after rest q = Unchanged WriterClosed closed left p r after rest q

-- at a close the bytes gathered are sent, also none if no block was sent yet
abbrev pub last_run : (ℕ → List ℕ → List ℕ → List ℕ) → Run → Run
last_run block (ok t i left p) = cond (length t == 0 && nat_lt 0 i) (ok t i left p) (send_run block t i left p)
last_run block (failed e left p) = failed e left p

-- what the end of a file answers and leaves: the sink is closed after the last block
abbrev pub Ended : Run → Result (Unit {0}) StreamError → State → List (List ℕ) → Port → Type 0
Ended (ok t i left p) r after rest q = (r ≡ Ok tt) × (after ≡ closed) × (rest ≡ left) × (q ≡ shut p)
Ended (failed e left p) r after rest q = (r ≡ Err e) × (after ≡ poisoned) × (rest ≡ left) × (q ≡ p)

-- what a close answers and leaves, by the state that it meets
abbrev pub Closes : ℕ → (ℕ → List ℕ → List ℕ → List ℕ) → State → List (List ℕ) → Port → Result (Unit {0}) StreamError → State → List (List ℕ) → Port → Type 0
Closes size block fresh left p r after rest q = Ended (last_run block (begin_run size left p)) r after rest q
Closes size block (opened t i) left p r after rest q = Ended (last_run block (ok t i left p)) r after rest q
Closes size block poisoned left p r after rest q = Unchanged WriterPoisoned poisoned left p r after rest q
Closes size block closed left p r after rest q = Unchanged WriterClosed closed left p r after rest q
