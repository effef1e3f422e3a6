-- A file reads back as it was written.
use Rattle.std.proofs.Common.{◌≡◌, ℕ, ◌+◌, ◌-◌, ◌*◌, ◌/◌, ◌%◌, ◌<◌, ◌≤◌, min, true, false, eqb, ltb, ◌≢◌, List, [], ◌++◌, length, get_or, take, drop, Some, None, Ok, Err, Result, sym, refl, ap, ◌∙◌, subst, ⊎_elim, mul-le-mul_right, mod-lt, suc-mul, div-add-mod', div-mul-le_self, add-one, arith}
use Rattle.std.proofs.lemmas.List.{length-take, length-drop, same_lists, get_or-take, get_or-drop, get_or_default, take_at, take-append-drop}
use Rattle.std.proofs.lemmas.Bool.{cases_lt, ne_eqb, eq-eqb, lt-ltb, le-ltb, cond-true, cond-false}
use Rattle.error.specs.declared.stream.StreamError.{StreamError}
use Rattle.error.specs.declared.stream.StreamError.TheVariants.{RangeReversed, RangePastEnd}
use Rattle.aead.specs.Draws.{Twelve}
use Rattle.aead.specs.Seals.{Sealed}
use Rattle.layout.specs.Format.{InLimits, Proper, plain_bytes, block_count_of, block_start, block_aad}
use Rattle.layout.specs.Lengths.{few}
use Rattle.layout.specs.declared.shape.Shape.{Shape}
use Rattle.layout.specs.declared.shape.Shape.TheVariants.{Full, Partial}
use Rattle.layout.proofs.Laws.{measured_file}
use Rattle.sealed_text.specs.Frame.{framed, nonce_in}
use Rattle.sealed_text.proofs.Frames.{framed_one, framed-length}
use Rattle.storage.specs.Answers.{range}
use Rattle.stream_write.specs.Blocks.{block_of}
use Rattle.stream_law.specs.Files.{chunk, IsFile}
use Rattle.stream_law.proofs.Rows.{twelve_at}
use Rattle.stream_read.specs.Blocks.{text_in, block_in, Opens, Fails}
use Rattle.stream_read.specs.Ranges.{GotAll, early, ReadBy, Reads}
use Rattle.stream.specs.Laws.{ReadsBack}

-- the plaintext fits its blocks
plain_within : (size : ℕ) (s : Shape) → Proper size s → plain_bytes size s ≤ block_count_of s * size
plain_within size (Full q) p = omega arith
plain_within size (Partial q m) p =
    let e : (q + 1) * size ≡ q * size + size = ap (λ x. x * size) (add-one q) ∙ suc-mul q size in
    omega arith

index_under : (p n k size : ℕ) → p < n → n ≤ k * size → p / size < k
index_under p n k size h m =
    let d = div-mul-le_self p size in
    ⊎_elim (λ (l : p / size < k). l) (λ (l : k ≤ p / size). absurd (let x : k * size ≤ p / size * size = mul-le-mul_right size l in omega arith)) (cases_lt (p / size) k)

-- what is answered before any block is fetched
not_early : (start end n out block c : ℕ) → start < end → end ≤ n → end - start ≤ out → c ≤ block → early start end n out block c ≡ None
not_early start end n out block c h k l m =
    let e1 : eqb start end ≡ false = ne_eqb start end (λ e. omega arith) in
    let e2 : ltb end start ≡ false = le-ltb end start (omega arith) in
    let e3 : ltb n end ≡ false = le-ltb n end k in
    let e4 : ltb out (end - start) ≡ false = le-ltb out (end - start) l in
    let e5 : ltb block c ≡ false = le-ltb block c m in
    rw (e1, e2, e3, e4, e5) refl

early_outside : (start end n out block c : ℕ) → start ≢ end → (start < end → end ≤ n → ⊥) → (e : StreamError) × (early start end n out block c ≡ Some (Err e))
early_outside start end n out block c ne o =
    let e1 : eqb start end ≡ false = ne_eqb start end ne in
    ⊎_elim
    (λ (h : end < start). let e2 : ltb end start ≡ true = lt-ltb end start h in (RangeReversed, rw (e1, e2) refl))
    (λ (h : start ≤ end).
    let e2 : ltb end start ≡ false = le-ltb end start h in
    let l : start < end = ⊎_elim (λ (x : start < end). x) (λ (x : end ≤ start). absurd (ne (omega arith))) (cases_lt start end) in
    let k : n < end = ⊎_elim (λ (x : n < end). x) (λ (x : end ≤ n). absurd (o l x)) (cases_lt n end) in
    let e3 : ltb n end ≡ true = lt-ltb n end k in
    (RangePastEnd, rw (e1, e2, e3) refl))
    (cases_lt end start)

module _ (seal : List ℕ → List ℕ → List ℕ → Sealed) (prefix : List ℕ) (size : ℕ)
    (keeps : (n a u : List ℕ) → length (seal n a u).text ≡ length u) (tags : (n a u : List ℕ) → length (seal n a u).tag ≡ 16)
    (one : (n a u v : List ℕ) → seal n a u ≡ seal n a v → u ≡ v)
    (ns : List (List ℕ)) (t bs : List ℕ) (file : IsFile size (block_of seal prefix) ns t bs) (w : Twelve ns) (limits : InLimits size) where
  index : (p : ℕ) → p < length t → p / size < length ns
  index p h =
      let a = plain_within size file.shape file.proper in
      let m : block_count_of file.shape * size ≡ length ns * size = ap (λ x. x * size) file.nonces in
      let q = file.plain in
      index_under p (length t) (length ns) size h (omega arith)

  abbrev nonce : ℕ → List ℕ
  nonce p = get_or ns (p / size) []

  abbrev part : ℕ → List ℕ
  part p = chunk size t (p / size)

  abbrev bytes : ℕ → List ℕ
  bytes p = block_in size (length t) bs (p / size)

  abbrev made : ℕ → List ℕ → Sealed
  made p u = seal (nonce p) (block_aad prefix (p / size)) u

  -- what stands at the place of the block that holds byte p
  here : (p : ℕ) → p < length t → bytes p ≡ framed (nonce p) (made p (part p))
  here p h =
      let l : length (part p) ≡ text_in size (length t) (p / size) = simp (length-take, length-drop) refl in
      ap (λ k. range (block_start size (p / size)) (k + 28) bs) (sym l) ∙ file.blocks (p / size) (index p h)

  its_nonce : (p : ℕ) → p < length t → nonce_in (bytes p) ≡ nonce p
  its_nonce p h = ap (take 12) (here p h) ∙ take_at (nonce p) ((made p (part p)).text ++ (made p (part p)).tag) 12 (twelve_at ns (p / size) w (index p h))

  opens_part : (p : ℕ) → p < length t → Opens seal prefix size (length t) bs (p / size) (part p)
  opens_part p h =
      let i : ℕ = p / size in
      let l : length (part p) ≡ text_in size (length t) i = simp (length-take, length-drop) refl in
      let f : length (bytes p) ≡ text_in size (length t) i + 28 = ap length (here p h) ∙ framed-length (nonce p) (made p (part p)) (twelve_at ns i w (index p h)) (tags (nonce p) (block_aad prefix i) (part p))
      ∙ ap (λ x. x + 28) (keeps (nonce p) (block_aad prefix i) (part p) ∙ l) in
      let g : length (bytes p) ≡ min (text_in size (length t) i + 28) (length bs - block_start size i) = length-take (text_in size (length t) i + 28) (drop (block_start size i) bs) ∙ ap (min (text_in size (length t) i + 28)) (length-drop (block_start size i) bs) in
      (omega arith, ap (λ m. framed m (seal m (block_aad prefix i) (part p))) (its_nonce p h) ∙ sym (here p h))

  opens_only : (p : ℕ) (u : List ℕ) → p < length t → Opens seal prefix size (length t) bs (p / size) u → u ≡ part p
  opens_only p u h o =
      let a : List ℕ = block_aad prefix (p / size) in
      let e : framed (nonce p) (made p u) ≡ framed (nonce p) (made p (part p)) = ap (λ m. framed m (seal m a u)) (sym (its_nonce p h)) ∙ o.1 ∙ here p h in
      one (nonce p) a u (part p) (framed_one (nonce p) (made p u) (made p (part p)) (tags (nonce p) a u) (tags (nonce p) a (part p)) e)

  byte_at : (p : ℕ) → get_or (part p) (p % size) 0 ≡ get_or t p 0
  byte_at p =
      let d = div-add-mod' p size in
      let m : p % size < size = mod-lt p limits.0 in
      get_or-take size (drop (p / size * size) t) (p % size) 0 m ∙ get_or-drop (p / size * size) t (p % size) 0 ∙ ap (λ x. get_or t x 0) d

  exactly : (start end : ℕ) (r : Result (Unit {0}) StreamError) (out : List ℕ) → end ≤ length t
      → GotAll (Opens seal prefix size (length t) bs) (Fails seal prefix size (length t) bs) size start end r out
      → (r ≡ Ok tt) × (out ≡ range start (end - start) t)
  exactly start end (Ok x) out k (l, got) =
      let lr : length (range start (end - start) t) ≡ end - start = simp (length-take, length-drop) (omega arith) in (
        refl,
        same_lists out (range start (end - start) t) (l ∙ sym lr) (λ j d lj.
            let lt : start + j < length t = omega arith in
            let g = got (start + j) (omega arith) (omega arith) in
            let q : j ≡ (start + j) - start = omega arith in
            get_or_default out j d 0 lj ∙ ap (λ x. get_or out x 0) q ∙ g.2 ∙ ap (λ x. get_or x ((start + j) % size) 0) (opens_only (start + j) g.0 lt g.1) ∙ byte_at (start + j)
            ∙ get_or_default t (start + j) 0 d lt ∙ sym (get_or-drop start t j d) ∙ sym (get_or-take (end - start) (drop start t) j d (omega arith))),
      )
  exactly start end (Err e) out k (zeros, (q, hq, lq, fails, before)) =
      let o = opens_part q (omega arith) in
      absurd (⊎_elim (λ f. f.0 o.0) (λ f. f.1 (part q) o.1) fails)

  inside : (start end : ℕ) (out block : List ℕ) (r : Result (Unit {0}) StreamError) (out' block' : List ℕ)
      → Reads seal prefix size (length t) bs start end out block r out' block'
      → start ≤ end → end ≤ length t → end - start ≤ length out → size + 28 ≤ length block
      → (r ≡ Ok tt) × (out' ≡ range start (end - start) t ++ drop (end - start) out)
  inside start end out block r out' block' h hs he ho hb =
      ⊎_elim
      (λ (l : start < end).
      let e = not_early start end (length t) (length out) (length block) (size + 28) l he ho hb in
      let a = subst (λ x. ReadBy x (Opens seal prefix size (length t) bs) (Fails seal prefix size (length t) bs) size start end out block r out' block') e h in
      let x = exactly start end r (take (end - start) out') he a.0 in
      (x.0, sym (take-append-drop (end - start) out') ∙ ap (λ y. y ++ drop (end - start) out') x.1 ∙ ap (λ y. range start (end - start) t ++ y) a.1))
      (λ (l : end ≤ start).
      let q : start ≡ end = omega arith in
      let z : end - start ≡ 0 = omega arith in
      let e : early start end (length t) (length out) (length block) (size + 28) ≡ Some (Ok tt) = cond-true (eqb start end) _ _ (eq-eqb start end q) in
      let a = subst (λ x. ReadBy x (Opens seal prefix size (length t) bs) (Fails seal prefix size (length t) bs) size start end out block r out' block') e h in
      (a.0, rw z a.1))
      (cases_lt start end)

  outside : (start end : ℕ) (out block : List ℕ) (r : Result (Unit {0}) StreamError) (out' block' : List ℕ)
      → Reads seal prefix size (length t) bs start end out block r out' block'
      → start ≢ end → (start < end → end ≤ length t → ⊥)
      → (e : StreamError) × (r ≡ Err e) × (out' ≡ out) × (block' ≡ block)
  outside start end out block r out' block' h ne o =
      let e = early_outside start end (length t) (length out) (length block) (size + 28) ne o in
      let a = subst (λ x. ReadBy x (Opens seal prefix size (length t) bs) (Fails seal prefix size (length t) bs) size start end out block r out' block') e.1 h in
      (e.0, a.0, a.1, a.2)

  pub reads_back : ReadsBack seal prefix size t bs
  reads_back =
      record {
        made = (file.shape, ap few (measured_file size (length bs) file.shape limits file.proper file.long) ∙ cond-false (ltb 4294967295 (block_count_of file.shape)) _ _ (le-ltb 4294967295 (block_count_of file.shape) file.few), file.plain);
        inside = inside;
        outside = outside;
      }
