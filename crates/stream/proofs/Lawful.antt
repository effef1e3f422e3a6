-- From the course of a file to its law.
use Rattle.std.proofs.Common.{◌≡◌, ℕ, ◌+◌, true, false, List, [], ◌∷◌, ◌++◌, length, Result, sym, ap, ◌∙◌, subst, arith, rules}
use Rattle.std.proofs.lemmas.List.{length-append, get_or_append_left}
use Rattle.error.specs.declared.stream.StreamError.{StreamError}
use Rattle.aead.specs.Draws.{Distinct, Twelve}
use Rattle.aead.specs.Seals.{Sealed}
use Rattle.layout.specs.Format.{InLimits, block_aad}
use Rattle.sealed_text.proofs.Frames.{framed-length}
use Rattle.storage.specs.Ports.{Port}
use Rattle.stream_write.specs.Blocks.{block_of}
use Rattle.stream_write.specs.Writers.{State, fresh, opened, poisoned, closed}
use Rattle.stream_write.specs.declared.call.FileCall.{FileCall}
use Rattle.stream_law.specs.Deeds.{is_closed}
use Rattle.stream_law.specs.Files.{Holds, Row}
use Rattle.stream_law.proofs.Rows.{is_file}
use Rattle.stream.specs.Courses.{written, closed_from, Fate, took, lost, nonces, taken, Course}
use Rattle.stream.specs.Laws.{FileLaw}
use Rattle.stream.proofs.Exacts.{reads_back}

apart_front : (xs ys : List (List ℕ)) → Distinct (xs ++ ys) → Distinct xs
apart_front xs ys d i j h k e =
    let l = length-append xs ys in
    d i j h (omega arith) (get_or_append_left xs ys [] i (omega arith) ∙ e ∙ sym (get_or_append_left xs ys [] j k))

-- the nonces of blocks taken have twelve bytes as all have
twelve_taken : (fs : List Fate) (rest : List (List ℕ)) → Twelve (nonces fs ++ rest) → Twelve (taken fs)
twelve_taken [] rest w = tt
twelve_taken (took n ∷ fs) rest (w, ws) = (w, twelve_taken fs rest ws)
twelve_taken (lost n ∷ fs) rest (w, ws) = twelve_taken fs rest ws

-- what a closed writer's sink holds
closed_holds : (size : ℕ) (block : ℕ → List ℕ → List ℕ → List ℕ) (t : List ℕ) (ns : List (List ℕ)) (s : State) (q : Port)
    → is_closed s ≡ true → Holds size block t ns s q → Row size block ns t q.taken × (q.is_open ≡ false)
closed_holds size block t ns fresh q e h = search rules
closed_holds size block t ns (opened g i) q e h = search rules
closed_holds size block t ns poisoned q e h = search rules
closed_holds size block t ns closed q e h = h

module _ (seal : List ℕ → List ℕ → List ℕ → Sealed) (prefix : List ℕ) (size : ℕ)
    (keeps : (n a u : List ℕ) → length (seal n a u).text ≡ length u) (tags : (n a u : List ℕ) → length (seal n a u).tag ≡ 16)
    (one : (n a u v : List ℕ) → seal n a u ≡ seal n a v → u ≡ v) (limits : InLimits size) where
  long : (i : ℕ) (n t : List ℕ) → length n ≡ 12 → length (block_of seal prefix i n t) ≡ length t + 28
  long i n t h = framed-length n (seal n (block_aad prefix i) t) h (tags n (block_aad prefix i) t) ∙ ap (λ x. x + 28) (keeps n (block_aad prefix i) t)

  pub lawful : (left : List (List ℕ)) (cs : List FileCall) (rs : List (Result (Unit {0}) StreamError)) (after : State) (rest : List (List ℕ)) (q : Port)
      → Distinct left → Twelve left → is_closed after ≡ closed_from false cs rs → Course size (block_of seal prefix) [] [] left cs rs after rest q
      → FileLaw seal prefix size left cs rs rest q
  lawful left cs rs after rest q d w e k =
      let ws : Twelve (taken k.fates) = twelve_taken k.fates rest (subst Twelve k.drawn w) in
      let row = λ (h : closed_from false cs rs ≡ true). closed_holds size (block_of seal prefix) (written cs rs) (taken k.fates) after q (e ∙ h) k.holds in
      let file = λ (h : closed_from false cs rs ≡ true). is_file size (block_of seal prefix) long (taken k.fates) (written cs rs) q.taken limits.0 ws (row h).0 in
      record {
        fates = k.fates;
        drawn = k.drawn;
        apart = apart_front (nonces k.fates) rest (subst Distinct k.drawn d);
        refusals = k.refusals;
        shut = λ h. (row h).1;
        file = file;
        reads = λ h. reads_back seal prefix size keeps tags one (taken k.fates) (written cs rs) q.taken (file h) ws limits;
      }
