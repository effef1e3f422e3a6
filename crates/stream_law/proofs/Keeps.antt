-- Every write and close keeps what holds.
use Rattle.std.proofs.Common.{◌≡◌, ℕ, zero, suc, ◌+◌, ◌*◌, ◌<◌, ◌≤◌, false, cond, ◌&&◌, eqb, ltb, ◌⊎◌, List, [], ◌∷◌, ◌++◌, length, Err, Result, sym, refl, ap, ◌∙◌, inl, inr, ⊎_elim, zero-mul, arith}
use Rattle.std.proofs.lemmas.List.{append_assoc, append-nil, length-append, length_push, nil_from_length}
use Rattle.std.proofs.lemmas.Bool.{ltb-true, ltb-false, cond_both, and_parts, and_cases, eqb-true, eqb-false}
use Rattle.storage.specs.Ports.{Port, takes, added}
use Rattle.error.specs.declared.stream.StreamError.{StreamError}
use Rattle.stream_write.specs.Writers.{State, fresh, opened, poisoned, closed}
use Rattle.error.specs.declared.stream.StreamError.TheVariants.{Storage, Cipher, TooManyBlocks, WriterClosed, WriterPoisoned, HeaderNotTaken}
use Rattle.error.specs.declared.storage.StorageError.TheVariants.{BlockNotTaken}
use Rattle.layout.specs.Format.{header}
use Rattle.stream_write.specs.Sends.{no_nonce, not_taken}
use Rattle.stream_write.specs.Runs.{Run, ok, failed, push_byte, push_bytes, send_run, begin_run, last_run, Outcome, Ended, Wrote, Closes}
use Rattle.stream_write.specs.Calls.{Called}
use Rattle.stream_write.specs.declared.call.FileCall.{FileCall}
use Rattle.stream_write.specs.declared.call.FileCall.TheVariants.{Write, Close}
use Rattle.stream_law.specs.Deeds.{bytes_of}
use Rattle.stream_law.specs.Files.{blocks_from, Counts, Row, Stands, Spoilt, Holds, lost_in, Does}
use Rattle.stream_law.proofs.Cuts.{blocks_more}

-- what a run holds: start is the nonces at its start, ns those used before it, Q what is said of a run that goes on
abbrev pub RanBy : ℕ → (ℕ → List ℕ → List ℕ → List ℕ) → List (List ℕ) → List (List ℕ) → (List (List ℕ) → List ℕ → ℕ → Port → Type 0) → Run → Type 0
RanBy size block start ns Q (ok g i left p) = (used : List (List ℕ)) × (start ≡ used ++ left) × Q used g i p
RanBy size block start ns Q (failed e left p) = (used : List (List ℕ)) × (lost : List (List ℕ)) × (start ≡ used ++ (lost ++ left)) × (length lost ≡ lost_in e) × Spoilt size block (ns ++ used) p

abbrev pub Ran : ℕ → (ℕ → List ℕ → List ℕ → List ℕ) → List (List ℕ) → List ℕ → List (List ℕ) → Run → Type 0
Ran size block start t ns run = RanBy size block start ns (λ used g i p. Stands size block t (ns ++ used) g i p) run

abbrev pub Finished : ℕ → (ℕ → List ℕ → List ℕ → List ℕ) → List (List ℕ) → List ℕ → List (List ℕ) → Run → Type 0
Finished size block start t ns run = RanBy size block start ns (λ used g i p. Row size block (ns ++ used) t p.taken) run

-- an open file as a spoilt one
pub spoils : (size : ℕ) (block : ℕ → List ℕ → List ℕ → List ℕ) (t : List ℕ) (ns : List (List ℕ)) (g : List ℕ) (i : ℕ) (p : Port) → Stands size block t ns g i p → Spoilt size block ns p
spoils size block t ns g i p s = record { full = s.full; cut = s.cut ∙ ap (λ k. k * size) (sym s.blocks); bytes = inr s.bytes }

-- a block of at most `size` bytes sent: header and blocks with this one
pub sent_bytes : (size : ℕ) (block : ℕ → List ℕ → List ℕ → List ℕ) (t : List ℕ) (ns : List (List ℕ)) (g : List ℕ) (i : ℕ) (p : Port) (n x : List ℕ)
    → (s : Stands size block t ns g i p) → length x ≤ size
    → p.taken ++ block i n x ≡ header size ++ blocks_from size block 0 (ns ++ n ∷ []) (s.full ++ x)
sent_bytes size block t ns g i p n x s u =
    let c : length s.full ≡ length ns * size = s.cut ∙ ap (λ k. k * size) (sym s.blocks) in
    let k : i ≡ 0 + length ns = omega (arith, s.blocks) in
    ap (λ w. w ++ block i n x) s.bytes
    ∙ append_assoc (header size) (blocks_from size block 0 ns s.full) (block i n x)
    ∙ ap (λ w. header size ++ w) (ap (λ k. blocks_from size block 0 ns s.full ++ block k n x) k ∙ sym (blocks_more size block 0 ns n s.full x c u))

-- a block sent: a refusal spoils the file, else Q holds of what is left
pub send_by : (size : ℕ) (block : ℕ → List ℕ → List ℕ → List ℕ) (start ns : List (List ℕ)) (Q : List (List ℕ) → List ℕ → ℕ → Port → Type 0) (t g : List ℕ) (i : ℕ) (p : Port) (used left : List (List ℕ)) (x : List ℕ)
    → start ≡ used ++ left → Stands size block t (ns ++ used) g i p → ((n : List ℕ) → i < 4294967295 → Q (used ++ n ∷ []) [] (i + 1) (added p (block i n x)))
    → RanBy size block start ns Q (send_run block x i left p)
send_by size block start ns Q t g i p used [] x e s q =
    cond_both (ltb i 4294967295) (failed (Cipher (no_nonce i)) [] p) (failed TooManyBlocks [] p) (λ w. RanBy size block start ns Q w)
    (λ h. (used, [], e, refl, spoils size block t (ns ++ used) g i p s))
    (λ h. (used, [], e, refl, spoils size block t (ns ++ used) g i p s))
send_by size block start ns Q t g i p used (n ∷ rest) x e s q =
    cond_both (ltb i 4294967295) (cond (takes p (block i n x)) (ok [] (i + 1) rest (added p (block i n x))) (failed (Storage (not_taken i)) rest p)) (failed TooManyBlocks (n ∷ rest) p) (λ w. RanBy size block start ns Q w)
    (λ h. cond_both (takes p (block i n x)) (ok [] (i + 1) rest (added p (block i n x))) (failed (Storage (not_taken i)) rest p) (λ w. RanBy size block start ns Q w)
    (λ k. (used ++ n ∷ [], e ∙ sym (append_assoc used (n ∷ []) rest), q n (ltb-true i 4294967295 h)))
    (λ k. (used, n ∷ [], e, refl, spoils size block t (ns ++ used) g i p s)))
    (λ h. (used, [], e, refl, spoils size block t (ns ++ used) g i p s))

-- a full block
pub full_stands : (size : ℕ) (block : ℕ → List ℕ → List ℕ → List ℕ) (t t' : List ℕ) (ns used : List (List ℕ)) (g : List ℕ) (i : ℕ) (p : Port) (n x : List ℕ)
    → (s : Stands size block t (ns ++ used) g i p) → i < 4294967295 → length x ≡ size → 1 ≤ size → t' ≡ s.full ++ x
    → Stands size block t' (ns ++ (used ++ n ∷ [])) [] (i + 1) (added p (block i n x))
full_stands size block t t' ns used g i p n x s f l z e =
    let a : (ns ++ used) ++ n ∷ [] ≡ ns ++ (used ++ n ∷ []) = append_assoc ns used (n ∷ []) in
    let b = s.blocks in
    let c = s.cut in
    record {
      full = s.full ++ x;
      text = e ∙ sym (append-nil (s.full ++ x));
      blocks = ap length (sym a) ∙ length_push (ns ++ used) n ∙ ap (λ k. k + 1) b;
      few = omega arith;
      cut = length-append s.full x ∙ omega arith;
      under = omega arith;
      bytes = sent_bytes size block t (ns ++ used) g i p n x s (omega arith) ∙ ap (λ w. header size ++ blocks_from size block 0 w (s.full ++ x)) a;
    }

-- a byte more keeps it
pub byte_keeps : (size : ℕ) (block : ℕ → List ℕ → List ℕ → List ℕ) (start : List (List ℕ)) (t : List ℕ) (ns : List (List ℕ)) (run : Run) (b : ℕ)
    → 1 ≤ size → Ran size block start t ns run → Ran size block start (t ++ b ∷ []) ns (push_byte size block run b)
unfolding push_byte
byte_keeps size block start t ns (ok g i left p) b z (used, e, s) =
    let a : t ++ b ∷ [] ≡ s.full ++ (g ++ b ∷ []) = ap (λ w. w ++ b ∷ []) s.text ∙ append_assoc s.full g (b ∷ []) in
    let l : length (g ++ b ∷ []) ≡ length g + 1 = length_push g b in
    let u = s.under in
    cond_both (ltb (length g + 1) size) (ok (g ++ b ∷ []) i left p) (send_run block (g ++ b ∷ []) i left p) (λ w. Ran size block start (t ++ b ∷ []) ns w)
    (λ h. (used, e, record { full = s.full; text = a; blocks = s.blocks; few = s.few; cut = s.cut; under = omega (arith, ltb-true (length g + 1) size h); bytes = s.bytes }))
    (λ h. let f = ltb-false (length g + 1) size h in
    send_by size block start ns (λ used g i p. Stands size block (t ++ b ∷ []) (ns ++ used) g i p) t g i p used left (g ++ b ∷ []) e s
    (λ n j. full_stands size block t (t ++ b ∷ []) ns used g i p n (g ++ b ∷ []) s j (omega arith) z a))
byte_keeps size block start t ns (failed f left p) b z h = h

pub push_keeps : (size : ℕ) (block : ℕ → List ℕ → List ℕ → List ℕ) (start : List (List ℕ)) (t : List ℕ) (ns : List (List ℕ)) (run : Run) (bs : List ℕ)
    → 1 ≤ size → Ran size block start t ns run → Ran size block start (t ++ bs) ns (push_bytes size block run bs)
unfolding push_bytes
push_keeps size block start t ns run [] z h = rw (append-nil t) h
push_keeps size block start t ns run (b ∷ bs) z h =
    let e : (t ++ b ∷ []) ++ bs ≡ t ++ (b ∷ bs) = append_assoc t (b ∷ []) bs in
    let k = push_keeps size block start (t ++ b ∷ []) ns (push_byte size block run b) bs z (byte_keeps size block start t ns run b z h) in
    rw e at k

-- the header
pub begin_keeps : (size : ℕ) (block : ℕ → List ℕ → List ℕ → List ℕ) (t : List ℕ) (ns left : List (List ℕ)) (p : Port)
    → 1 ≤ size → (t ≡ []) × (ns ≡ []) × (p.taken ≡ []) → Ran size block left t ns (begin_run size left p)
unfolding blocks_from
begin_keeps size block t ns left p z h =
    let en : ns ++ [] ≡ [] = append-nil ns ∙ h.1 in
    cond_both (takes p (header size)) (ok [] 0 left (added p (header size))) (failed (HeaderNotTaken BlockNotTaken) left p) (λ w. Ran size block left t ns w)
    (λ k. (
      [],
      refl,
      record {
        full = [];
        text = h.0;
        blocks = ap length en;
        few = omega arith;
        cut = omega arith;
        under = z;
        bytes = ap (λ w. w ++ header size) h.2 ∙ ap (λ w. header size ++ blocks_from size block 0 w []) (sym en);
      },
    ))
    (λ k. ([], [], refl, refl, record { full = []; cut = sym (ap (λ w. length w * size) en ∙ zero-mul size); bytes = inl (en, h.2) }))

counts_full : (size n i : ℕ) → 1 ≤ size → n ≡ i * size → 0 < i → Counts size n i
counts_full size n zero z e h = absurd (omega arith)
counts_full size n (suc j) z e h = (j, refl, omega arith, inr (omega arith))

-- the last block, or none where the text ends with a full one
pub last_keeps : (size : ℕ) (block : ℕ → List ℕ → List ℕ → List ℕ) (start : List (List ℕ)) (t : List ℕ) (ns : List (List ℕ)) (run : Run)
    → 1 ≤ size → Ran size block start t ns run → Finished size block start t ns (last_run block run)
last_keeps size block start t ns (ok g i left p) z (used, e, s) =
    let x = s.text in
    let lt : length t ≡ length s.full + length g = ap length x ∙ length-append s.full g in
    let c = s.cut in
    let b = s.blocks in
    let u = s.under in
    cond_both (eqb (length g) 0 && ltb 0 i) (ok g i left p) (send_run block g i left p) (λ w. Finished size block start t ns w)
    (λ h. let k = and_parts (eqb (length g) 0) (ltb 0 i) h in
    let g0 : length g ≡ 0 = eqb-true (length g) 0 k.0 in
    let ft : s.full ≡ t = sym (append-nil s.full) ∙ ap (λ w. s.full ++ w) (sym (nil_from_length g g0)) ∙ sym x in (
      used,
      e,
      record {
        count = rw b (counts_full size (length t) i z (omega arith) (ltb-true 0 i k.1));
        few = rw b s.few;
        is = s.bytes ∙ ap (λ w. header size ++ blocks_from size block 0 (ns ++ used) w) ft;
      },
    ))
    (λ h. send_by size block start ns (λ used g i p. Row size block (ns ++ used) t p.taken) t g i p used left g e s
    (λ n j.
    let a : (ns ++ used) ++ n ∷ [] ≡ ns ++ (used ++ n ∷ []) = append_assoc ns used (n ∷ []) in
    let l : length (ns ++ (used ++ n ∷ [])) ≡ suc i = ap length (sym a) ∙ length_push (ns ++ used) n ∙ omega arith in
    let o : (i ≡ 0) ⊎ (i * size < length t) =
    ⊎_elim (λ (k : eqb (length g) 0 ≡ false). let q = eqb-false (length g) 0 k in inr (omega arith))
    (λ (k : ltb 0 i ≡ false). let q = ltb-false 0 i k in inl (omega arith)) (and_cases (eqb (length g) 0) (ltb 0 i) h) in
    record {
      count = rw l (i, refl, omega arith, o);
      few = rw l (omega arith);
      is = sent_bytes size block t (ns ++ used) g i p n g s (omega arith)
          ∙ ap (λ w. header size ++ blocks_from size block 0 w (s.full ++ g)) a ∙ ap (λ w. header size ++ blocks_from size block 0 (ns ++ (used ++ n ∷ [])) w) (sym x);
    }))
last_keeps size block start t ns (failed f left p) z h = h

-- from a run to what a write did
pub does_of : (size : ℕ) (block : ℕ → List ℕ → List ℕ → List ℕ) (left : List (List ℕ)) (t : List ℕ) (ns : List (List ℕ)) (bytes : List ℕ) (run : Run) (r : Result (Unit {0}) StreamError) (after : State) (rest : List (List ℕ)) (q : Port)
    → Ran size block left (t ++ bytes) ns run → Outcome run r after rest q → Does size block t ns left bytes r after rest q
does_of size block left t ns bytes (ok g i l p) r after rest q (used, e, s) (er, ea, el, ep) =
    rw (er, ea, el, ep) (record { used = used; lost = []; drawn = e; losses = refl; holds = s })
does_of size block left t ns bytes (failed f l p) r after rest q (used, lost, e, k, s) (er, ea, el, ep) =
    rw (er, ea, el, ep) (record { used = used; lost = lost; drawn = e; losses = k; holds = s })

pub does_last : (size : ℕ) (block : ℕ → List ℕ → List ℕ → List ℕ) (left : List (List ℕ)) (t : List ℕ) (ns : List (List ℕ)) (run : Run) (r : Result (Unit {0}) StreamError) (after : State) (rest : List (List ℕ)) (q : Port)
    → Finished size block left t ns run → Ended run r after rest q → Does size block t ns left [] r after rest q
does_last size block left t ns (ok g i l p) r after rest q (used, e, s) (er, ea, el, ep) =
    rw (er, ea, el, ep) (record { used = used; lost = []; drawn = e; losses = refl; holds = (rw (append-nil t) s, refl) })
does_last size block left t ns (failed f l p) r after rest q (used, lost, e, k, s) (er, ea, el, ep) =
    rw (er, ea, el, ep) (record { used = used; lost = lost; drawn = e; losses = k; holds = s })

-- a refusal that does nothing
pub does_none : (size : ℕ) (block : ℕ → List ℕ → List ℕ → List ℕ) (left : List (List ℕ)) (t : List ℕ) (ns : List (List ℕ)) (bytes : List ℕ) (f : StreamError) (s : State) (p : Port) (r : Result (Unit {0}) StreamError) (after : State) (rest : List (List ℕ)) (q : Port)
    → lost_in f ≡ 0 → Holds size block t ns s p → (r ≡ Err f) × (after ≡ s) × (rest ≡ left) × (q ≡ p) → Does size block t ns left bytes r after rest q
does_none size block left t ns bytes f s p r after rest q z h (er, ea, el, ep) =
    rw (er, ea, el, ep) (record { used = []; lost = []; drawn = refl; losses = sym z; holds = rw (append-nil t, append-nil ns) h })

-- a write keeps what holds
pub write_keeps : (size : ℕ) (block : ℕ → List ℕ → List ℕ → List ℕ) (left : List (List ℕ)) (bytes : List ℕ) (s : State) (p : Port) (r : Result (Unit {0}) StreamError) (after : State) (rest : List (List ℕ)) (q : Port)
    → 1 ≤ size → Wrote size block s left p bytes r after rest q → (t : List ℕ) (ns : List (List ℕ)) → Holds size block t ns s p → Does size block t ns left bytes r after rest q
write_keeps size block left bytes fresh p r after rest q z o t ns h =
    does_of size block left t ns bytes (push_bytes size block (begin_run size left p) bytes) r after rest q (push_keeps size block left t ns (begin_run size left p) bytes z (begin_keeps size block t ns left p z h)) o
write_keeps size block left bytes (opened g i) p r after rest q z o t ns h =
    does_of size block left t ns bytes (push_bytes size block (ok g i left p) bytes) r after rest q (push_keeps size block left t ns (ok g i left p) bytes z ([], refl, rw (append-nil ns) h)) o
write_keeps size block left bytes poisoned p r after rest q z o t ns h = does_none size block left t ns bytes WriterPoisoned poisoned p r after rest q refl h o
write_keeps size block left bytes closed p r after rest q z o t ns h = does_none size block left t ns bytes WriterClosed closed p r after rest q refl h o

-- a close keeps what holds
pub close_keeps : (size : ℕ) (block : ℕ → List ℕ → List ℕ → List ℕ) (left : List (List ℕ)) (s : State) (p : Port) (r : Result (Unit {0}) StreamError) (after : State) (rest : List (List ℕ)) (q : Port)
    → 1 ≤ size → Closes size block s left p r after rest q → (t : List ℕ) (ns : List (List ℕ)) → Holds size block t ns s p → Does size block t ns left [] r after rest q
close_keeps size block left fresh p r after rest q z o t ns h =
    does_last size block left t ns (last_run block (begin_run size left p)) r after rest q (last_keeps size block left t ns (begin_run size left p) z (begin_keeps size block t ns left p z h)) o
close_keeps size block left (opened g i) p r after rest q z o t ns h =
    does_last size block left t ns (last_run block (ok g i left p)) r after rest q (last_keeps size block left t ns (ok g i left p) z ([], refl, rw (append-nil ns) h)) o
close_keeps size block left poisoned p r after rest q z o t ns h = does_none size block left t ns [] WriterPoisoned poisoned p r after rest q refl h o
close_keeps size block left closed p r after rest q z o t ns h = does_none size block left t ns [] WriterClosed closed p r after rest q refl h o

-- every call keeps what holds
pub call_keeps : (size : ℕ) (block : ℕ → List ℕ → List ℕ → List ℕ) (left : List (List ℕ)) (call : FileCall) (s : State) (p : Port) (r : Result (Unit {0}) StreamError) (after : State) (rest : List (List ℕ)) (q : Port)
    → 1 ≤ size → Called size block call s left p r after rest q → (t : List ℕ) (ns : List (List ℕ)) → Holds size block t ns s p → Does size block t ns left (bytes_of call) r after rest q
call_keeps size block left (Write b) s p r after rest q z o = write_keeps size block left b.now s p r after rest q z o
call_keeps size block left Close s p r after rest q z o = close_keeps size block left s p r after rest q z o
