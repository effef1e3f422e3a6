use Rattle.std.proofs.Common.{Err, ◌≡◌, true, ℕ, ◌+◌, ◌-◌, ◌<◌, ◌≤◌, List, ◌++◌, length, take, drop, vec_items, vec_len, sym, refl, ap, ◌∙◌, subst, arith, rules}
use borrow.Rule.Slice.PartMut.{put_mid}
use Rattle.std.specs.Vec.{with_items}
use Rattle.std.proofs.lemmas.List.{with_items_is, drop-take, drop-append-le, length-take, length-drop, take-append-drop}
use Rattle.std.proofs.lemmas.Slice.{overwrites, take-put_mid}
use Rattle.std.proofs.lemmas.Result.{err_from_is_err_and}
use Rattle.error.specs.declared.stream.StreamError.{StreamError}
use Rattle.storage.specs.Ports.{Port}
use Rattle.stream_write.specs.Runs.{Run, Outcome, ok, failed, push_bytes, send_run, run_of}
use Rattle.stream_write.specs.Writers.{State, poisoned, held_in, state_in}
use Rattle.stream_write.specs.declared.phase.Phase.TheVariants.{Open}
use Rattle.stream_write.specs.declared.writer.AesGcmFileWrite.{AesGcmFileWrite}
use Rattle.stream_write.proofs.Outcomes.{outcome_ok, outcome_err}
use Rattle.stream_write.proofs.Pushes.{push_append, push_failed, push_short, push_full}
use Rattle.stream_write.proofs.writer.AesGcmFileWrite.gather_some.Goals as goal

module _ (s : AesGcmFileWrite) (held i : ℕ) (is : s.phase ≡ Open held i) where
  room : held < s.size.bytes
  room = subst (λ p. held_in p < s.size.bytes) is s.under

  module _ (d x bytes : List ℕ) (n : ℕ) (ed : d ≡ vec_items s.block) (ex : x ≡ take n bytes) (h : n ≤ length bytes) (f : held + n ≤ s.size.bytes) where
    -- what is gathered
    abbrev before : List ℕ
    before = take held (drop 12 (vec_items s.block))

    -- the buffer once n bytes are put behind it
    abbrev more : List ℕ
    more = vec_items (with_items s.block (put_mid (12 + held) (12 + held + n - (12 + held)) d x))

    text_more : take (held + n) (drop 12 more) ≡ before ++ take n bytes
    text_more =
        let k : ℕ = 12 + held + n - (12 + held) in
        let ld : length d ≡ vec_len s.block = search rules in
        let lx : length x ≡ n = simp (ex, length-take) (omega arith) in
        let w : more ≡ put_mid (12 + held) k d x = with_items_is s.block (put_mid (12 + held) k d x) (search (rules, overwrites)) in
        sym (drop-take 12 (held + n) more)
        ∙ ap (λ y. drop 12 (take (12 + (held + n)) y)) w
        ∙ ap (drop 12) (take-put_mid (12 + held) k d x (12 + (held + n)) (omega arith) (omega arith))
        ∙ drop-append-le 12 (take (12 + held) d) x (simp length-take (omega arith))
        ∙ ap (λ y. y ++ x) (drop-take 12 held d)
        ∙ rw (ed, ex) refl

    module _ (block : ℕ → List ℕ → List ℕ → List ℕ) (l : List (List ℕ)) (p : Port) where
      gather_short : held + n < s.size.bytes → ok (take (held + n) (drop 12 more)) i l p ≡ push_bytes s.size.bytes block (run_of (state_in s.phase (vec_items s.block)) l p) (take n bytes)
      gather_short z =
          rw (is, text_more) (sym (push_short s.size.bytes block before i l p (take n bytes) (simp (length-take, length-drop) (omega arith))))

      gather_full : held + n ≡ s.size.bytes → send_run block (take (held + n) (drop 12 more)) i l p ≡ push_bytes s.size.bytes block (run_of (state_in s.phase (vec_items s.block)) l p) (take n bytes)
      gather_full e =
          let u = room in
          rw (is, text_more) (sym (push_full s.size.bytes block before i l p (take n bytes) (simp (length-take, length-drop) (omega arith)) (simp length-take (omega arith))))

-- what refuses the first n bytes refuses them all
stops_on : (size : ℕ) (block : ℕ → List ℕ → List ℕ → List ℕ) (r x : Run) (bytes : List ℕ) (n : ℕ) (e : StreamError) (after : State) (l : List (List ℕ)) (p : Port)
    → Outcome x (Err e) after l p → x ≡ push_bytes size block r (take n bytes) → (after ≡ poisoned) × (push_bytes size block r bytes ≡ failed e l p)
stops_on size block r x bytes n e after l p o h =
    let f = outcome_err x e after l p o in (
      f.0,
      ap (push_bytes size block r) (sym (take-append-drop n bytes)) ∙ push_append size block r (take n bytes) (drop n bytes) ∙ rw (sym h, f.1, push_failed) refl,
    )

pub returns-in_err-send-clause-kept : goal.returns-in_err-send-clause-kept
returns-in_err-send-clause-kept g c = search (rules, overwrites)

pub returns-then-held-n-clause-kept : goal.returns-then-held-n-clause-kept
returns-then-held-n-clause-kept g c = search (rules, overwrites)

pub returns-in_ok-send-clause-kept : goal.returns-in_ok-send-clause-kept
returns-in_ok-send-clause-kept g c = search (rules, overwrites)

pub returns-then-held-n-clause-gathered : goal.returns-then-held-n-clause-gathered
returns-then-held-n-clause-gathered g c =
    let u = room c.args.self.now c.in-Open.held c.in-Open.blocks c.in-Open.is in
    let x = c.copy_from_slice.ensures.after in
    let d = c.deref_mut.ensures.value in
    (omega arith, omega arith, refl {a = true}, search (rules, gather_short))

pub returns-in_ok-send-clause-gathered : goal.returns-in_ok-send-clause-gathered
returns-in_ok-send-clause-gathered g c =
    let u = room c.args.self.now c.in-Open.held c.in-Open.blocks c.in-Open.is in
    let x = c.copy_from_slice.ensures.after in
    let d = c.deref_mut.ensures.value in
    let o = c.in_ok-send.ensures.sent in
    search (rules, gather_full, outcome_ok)

pub returns-in_err-send-clause-gathered : goal.returns-in_err-send-clause-gathered
returns-in_err-send-clause-gathered g c =
    let s = c.args.self.now in
    let u = room s c.in-Open.held c.in-Open.blocks c.in-Open.is in
    let x = gather_full s c.in-Open.held c.in-Open.blocks c.in-Open.is _ _ c.args.bytes.now c.min-n.result c.deref_mut.ensures.value c.copy_from_slice.ensures.after (omega arith) (omega arith) _ _ _ (omega arith) in
    let p = err_from_is_err_and c.from_residual.result c.from_residual.ensures.1 in
    rw (p.1, p.2) (stops_on _ _ _ _ c.args.bytes.now c.min-n.result _ _ _ _ c.in_err-send.ensures.sent x)
