-- Any sequence of writes and closes on one file.
use Rattle.std.specs.Prelude.{◌≡◌, ℕ, ◌+◌, Bool, List, [], ◌∷◌, ◌++◌, Result}
use Rattle.error.specs.declared.stream.StreamError.{StreamError}
use Rattle.storage.specs.Ports.{Port}
use Rattle.stream_write.specs.Writers.{State}
use Rattle.stream_write.specs.declared.call.FileCall.{FileCall}
use Rattle.stream_law.specs.Deeds.{bytes_of, closes}
use Rattle.stream_law.specs.Files.{Holds, gain, lost_by}

-- the bytes written: those of the unrefused writes in order
abbrev pub written : List FileCall → List (Result (Unit {0}) StreamError) → List ℕ
written [] rs = []
written (c ∷ cs) [] = []
written (c ∷ cs) (r ∷ rs) = gain r (bytes_of c) ++ written cs rs

-- whether a close ended unrefused
abbrev pub closed_from : Bool → List FileCall → List (Result (Unit {0}) StreamError) → Bool
closed_from was [] rs = was
closed_from was (c ∷ cs) [] = was
closed_from was (c ∷ cs) (r ∷ rs) = closed_from (closes c r was) cs rs

-- the calls refused since the sink did not take a block
abbrev pub refused : List (Result (Unit {0}) StreamError) → ℕ
refused [] = 0
refused (r ∷ rs) = lost_by r + refused rs

-- what became of a nonce that was drawn: its block was taken, or refused
pub data Fate : Type 0 where
  took : List ℕ → Fate
  lost : List ℕ → Fate

abbrev pub nonces : List Fate → List (List ℕ)
nonces [] = []
nonces (took n ∷ fs) = n ∷ nonces fs
nonces (lost n ∷ fs) = n ∷ nonces fs

-- the nonces of the blocks taken, and how many were lost
abbrev pub taken : List Fate → List (List ℕ)
taken [] = []
taken (took n ∷ fs) = n ∷ taken fs
taken (lost n ∷ fs) = taken fs

abbrev pub losses : List Fate → ℕ
losses [] = 0
losses (took n ∷ fs) = losses fs
losses (lost n ∷ fs) = 1 + losses fs

-- After any calls on a writer that held t under the nonces ns: the nonces drawn are those of blocks taken and of blocks refused, as many
-- of these as calls refused so; and writer and sink hold all that was written under the nonces of the blocks taken.
pub record Course (size : ℕ) (block : ℕ → List ℕ → List ℕ → List ℕ) (t : List ℕ) (ns left : List (List ℕ)) (cs : List FileCall) (rs : List (Result (Unit {0}) StreamError)) (after : State) (rest : List (List ℕ)) (q : Port) : Type 0 where
  pub fates : List Fate
  pub drawn : left ≡ nonces fates ++ rest
  pub refusals : losses fates ≡ refused rs
  pub holds : Holds size block (t ++ written cs rs) (ns ++ taken fates) after q
