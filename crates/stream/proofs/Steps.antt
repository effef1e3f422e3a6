-- One call more.
use Rattle.std.proofs.Common.{◌≡◌, ℕ, ◌+◌, Bool, List, [], ◌∷◌, ◌++◌, length, Result, sym, refl, ap, ◌∙◌, subst, arith}
use Rattle.std.proofs.lemmas.List.{append_assoc, append-nil}
use Rattle.storage.specs.Ports.{Port}
use Rattle.aead.specs.Seals.{Sealed}
use Rattle.stream_write.specs.Writers.{State}
use Rattle.stream_write.specs.Blocks.{block_of}
use Rattle.error.specs.declared.stream.StreamError.{StreamError}
use Rattle.stream_law.specs.Files.{Holds, Does, gain, lost_by}
use Rattle.stream_write.specs.declared.call.FileCall.{FileCall}
use Rattle.stream_law.specs.Deeds.{bytes_of, closes}
use Rattle.stream.specs.Courses.{closed_from, written, refused, Fate, took, lost, nonces, taken, losses, Course}

abbrev Reply : Type 0
Reply = Result (Unit {0}) StreamError

written_push : (cs : List FileCall) (rs : List Reply) (c : FileCall) (r : Reply) → length cs ≡ length rs → written (cs ++ c ∷ []) (rs ++ r ∷ []) ≡ written cs rs ++ gain r (bytes_of c)
written_push [] [] c r h = append-nil (gain r (bytes_of c))
written_push [] (x ∷ rs) c r h = absurd (omega arith)
written_push (x ∷ cs) [] c r h = absurd (omega arith)
written_push (x ∷ cs) (y ∷ rs) c r h = ap (λ w. gain y (bytes_of x) ++ w) (written_push cs rs c r (omega arith)) ∙ sym (append_assoc (gain y (bytes_of x)) (written cs rs) (gain r (bytes_of c)))

refused_push : (rs : List Reply) (r : Reply) → refused (rs ++ r ∷ []) ≡ refused rs + lost_by r
refused_push [] r = omega arith
refused_push (x ∷ rs) r = let e = refused_push rs r in omega arith

abbrev tooks : List (List ℕ) → List Fate
tooks [] = []
tooks (n ∷ ns) = took n ∷ tooks ns

abbrev losts : List (List ℕ) → List Fate
losts [] = []
losts (n ∷ ns) = lost n ∷ losts ns

nonces_lost : (v : List (List ℕ)) → nonces (losts v) ≡ v
nonces_lost [] = refl
nonces_lost (n ∷ v) = ap (λ w. n ∷ w) (nonces_lost v)

nonces_new : (u v : List (List ℕ)) → nonces (tooks u ++ losts v) ≡ u ++ v
nonces_new [] v = nonces_lost v
nonces_new (n ∷ u) v = ap (λ w. n ∷ w) (nonces_new u v)

nonces_more : (fs gs : List Fate) → nonces (fs ++ gs) ≡ nonces fs ++ nonces gs
nonces_more [] gs = refl
nonces_more (took n ∷ fs) gs = ap (λ w. n ∷ w) (nonces_more fs gs)
nonces_more (lost n ∷ fs) gs = ap (λ w. n ∷ w) (nonces_more fs gs)

taken_lost : (v : List (List ℕ)) → taken (losts v) ≡ []
taken_lost [] = refl
taken_lost (n ∷ v) = taken_lost v

taken_new : (u v : List (List ℕ)) → taken (tooks u ++ losts v) ≡ u
taken_new [] v = taken_lost v
taken_new (n ∷ u) v = ap (λ w. n ∷ w) (taken_new u v)

taken_more : (fs gs : List Fate) → taken (fs ++ gs) ≡ taken fs ++ taken gs
taken_more [] gs = refl
taken_more (took n ∷ fs) gs = ap (λ w. n ∷ w) (taken_more fs gs)
taken_more (lost n ∷ fs) gs = taken_more fs gs

losses_lost : (v : List (List ℕ)) → losses (losts v) ≡ length v
losses_lost [] = refl
losses_lost (n ∷ v) = let e = losses_lost v in omega arith

losses_new : (u v : List (List ℕ)) → losses (tooks u ++ losts v) ≡ length v
losses_new [] v = losses_lost v
losses_new (n ∷ u) v = losses_new u v

losses_more : (fs gs : List Fate) → losses (fs ++ gs) ≡ losses fs + losses gs
losses_more [] gs = omega arith
losses_more (took n ∷ fs) gs = losses_more fs gs
losses_more (lost n ∷ fs) gs = let e = losses_more fs gs in omega arith

pub course_none : (size : ℕ) (block : ℕ → List ℕ → List ℕ → List ℕ) (t : List ℕ) (ns left : List (List ℕ)) (s : State) (p : Port) → Holds size block t ns s p → Course size block t ns left [] [] s left p
course_none size block t ns left s p h = record { fates = []; drawn = refl; refusals = refl; holds = subst (λ w. Holds size block w (ns ++ []) s p) (sym (append-nil t)) (subst (λ w. Holds size block t w s p) (sym (append-nil ns)) h) }

-- a call more; size and prefix stay as they were at the start
pub course_push : (size₀ size : ℕ) (seal : List ℕ → List ℕ → List ℕ → Sealed) (pre₀ pre t : List ℕ) (ns left : List (List ℕ)) (cs : List FileCall) (rs : List Reply) (s : State) (l : List (List ℕ)) (p : Port) (c : FileCall) (r : Reply) (after : State) (rest : List (List ℕ)) (q : Port)
    → size ≡ size₀ → pre ≡ pre₀ → length cs ≡ length rs
    → Course size₀ (block_of seal pre₀) t ns left cs rs s l p
    → ((t : List ℕ) (ns : List (List ℕ)) → Holds size (block_of seal pre) t ns s p → Does size (block_of seal pre) t ns l (bytes_of c) r after rest q)
    → Course size₀ (block_of seal pre₀) t ns left (cs ++ c ∷ []) (rs ++ r ∷ []) after rest q
course_push size₀ size seal pre₀ pre t ns left cs rs s l p c r after rest q es ep h k law =
    let fs : List Fate = k.fates in
    let h0 = subst (λ x. Holds size (block_of seal x) (t ++ written cs rs) (ns ++ taken fs) s p) (sym ep) (subst (λ x. Holds x (block_of seal pre₀) (t ++ written cs rs) (ns ++ taken fs) s p) (sym es) k.holds) in
    let z = law (t ++ written cs rs) (ns ++ taken fs) h0 in
    let u = z.used in
    let v = z.lost in
    let gs : List Fate = tooks u ++ losts v in
    let en : nonces (fs ++ gs) ≡ nonces fs ++ (u ++ v) = nonces_more fs gs ∙ ap (λ w. nonces fs ++ w) (nonces_new u v) in
    let et : taken (fs ++ gs) ≡ taken fs ++ u = taken_more fs gs ∙ ap (λ w. taken fs ++ w) (taken_new u v) in
    let el : losses (fs ++ gs) ≡ losses fs + length v = losses_more fs gs ∙ ap (λ w. losses fs + w) (losses_new u v) in
    let zl = z.losses in
    let kr = k.refusals in
    let rp = refused_push rs r in
    let h1 = subst (λ x. Holds size₀ (block_of seal x) ((t ++ written cs rs) ++ gain r (bytes_of c)) ((ns ++ taken fs) ++ u) after q) ep (subst (λ x. Holds x (block_of seal pre) ((t ++ written cs rs) ++ gain r (bytes_of c)) ((ns ++ taken fs) ++ u) after q) es z.holds) in
    record {
      fates = fs ++ gs;
      drawn = k.drawn ∙ ap (λ w. nonces fs ++ w) (z.drawn ∙ sym (append_assoc u v rest)) ∙ sym (append_assoc (nonces fs) (u ++ v) rest) ∙ ap (λ w. w ++ rest) (sym en);
      refusals = omega arith;
      holds = subst (λ w. Holds size₀ (block_of seal pre₀) w (ns ++ taken (fs ++ gs)) after q) (append_assoc t (written cs rs) (gain r (bytes_of c)) ∙ ap (λ w. t ++ w) (sym (written_push cs rs c r h)))
          (subst (λ w. Holds size₀ (block_of seal pre₀) ((t ++ written cs rs) ++ gain r (bytes_of c)) w after q) (append_assoc ns (taken fs) u ∙ ap (λ w. ns ++ w) (sym et)) h1);
    }

pub closed_push : (was : Bool) (cs : List FileCall) (rs : List Reply) (c : FileCall) (r : Reply) → length cs ≡ length rs → closed_from was (cs ++ c ∷ []) (rs ++ r ∷ []) ≡ closes c r (closed_from was cs rs)
closed_push was [] [] c r h = refl
closed_push was [] (x ∷ rs) c r h = absurd (omega arith)
closed_push was (x ∷ cs) [] c r h = absurd (omega arith)
closed_push was (x ∷ cs) (y ∷ rs) c r h = closed_push (closes x y was) cs rs c r (omega arith)
