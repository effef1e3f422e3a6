-- From the opening of the part between nonce and tag to the opening of a sealed text.
use Rattle.std.proofs.Common.{◌≡◌, ℕ, ◌+◌, ◌-◌, ◌<◌, ◌≤◌, true, false, ltb, List, ◌++◌, length, take, drop, Some, None, Ok, Err, Result, sym, refl, ap, ◌∙◌, subst, inl, inr, arith, le-ltb, lt-ltb}
use Rattle.std.proofs.lemmas.List.{take_at, take-append-drop, length-take-le, length-drop, drop-drop}
use Rattle.error.specs.declared.cipher.CipherError.{CipherError}
use Rattle.error.specs.declared.cipher.CipherError.TheVariants.{MemoryTooSmall}
use Rattle.aead.specs.Seals.{Sealed, OpenedInto}
use Rattle.sealed_text.specs.Frame.{framed, nonce_in}
use Rattle.sealed_text.specs.Opening.{open_refusal, TextOpened, SealedOpens}
use Rattle.sealed_text.proofs.Frames.{parts_of, part_seals, none_seals, framed_one, framed-length}

not_refused : (s o : ℕ) → 28 ≤ s → s - 28 ≤ o → open_refusal s o ≡ None
not_refused s o h k =
    let a : ltb s 28 ≡ false = le-ltb s 28 h in
    let b : ltb o (s - 28) ≡ false = le-ltb o (s - 28) k in
    rw (a, b) refl

memory_refused : (s o : ℕ) → 28 ≤ s → o < s - 28 → open_refusal s o ≡ Some MemoryTooSmall
memory_refused s o h k =
    let a : ltb s 28 ≡ false = le-ltb s 28 h in
    let b : ltb o (s - 28) ≡ true = lt-ltb o (s - 28) k in
    rw (a, b) refl

between_length : (s : List ℕ) → 28 ≤ length s → length (parts_of s).text ≡ length s - 28
between_length s h =
    let d = length-drop 12 s in
    let k : length s - 16 - 12 ≤ length (drop 12 s) = omega arith in
    length-take-le (length s - 16 - 12) (drop 12 s) k ∙ omega arith

-- the parts as they are split off, first the nonce and then the tag
pub split_is : (s rest t g : List ℕ) → rest ≡ drop 12 s → length rest + 12 ≡ length s → t ≡ take (length rest - 16) rest → g ≡ drop (length rest - 16) rest
    → length t + 16 ≡ length rest → record { text = t; tag = g } ≡ parts_of s
split_is s rest t g e l p q m =
    let k : length rest - 16 ≡ length s - 16 - 12 = omega arith in
    let i : length s - 16 - 12 + 12 ≡ length s - 16 = omega arith in
    let x : t ≡ take (length s - 16 - 12) (drop 12 s) = p ∙ rw (k, e) refl in
    let y : g ≡ drop (length s - 16) s = q ∙ rw (k, e) (drop-drop (length s - 16 - 12) 12 s ∙ ap (λ (j : ℕ). drop j s) (omega arith)) in
    rw (x, y) refl

-- the cipher's answer comes first: it says which parts it was handed, whichever way they were split off
module _ (f : List ℕ → List ℕ → List ℕ → Sealed) (a s out after n : List ℕ) (p : Sealed) where
  text_length : p ≡ parts_of s → 28 ≤ length s → length p.text ≡ length s - 28
  text_length q h = ap (λ (x : Sealed). length x.text) q ∙ between_length s h

  pub text_opens : (k : ℕ) → OpenedInto (f n a) p out (Ok tt) after → p ≡ parts_of s → k ≡ length p.text → 28 ≤ length s → n ≡ nonce_in s → TextOpened f a s out (Ok k) after
  text_opens k o q d h e =
      let l = text_length q h in
      let m = o.0 in
      let x : f (nonce_in s) a (take (length p.text) after) ≡ parts_of s = subst (λ (y : List ℕ). f y a (take (length p.text) after) ≡ parts_of s) e (o.1 ∙ q) in
      rw d (not_refused (length s) (length out) h (omega arith), l, part_seals f a s (take (length p.text) after) h x, o.2)

  pub text_refuses : (r : CipherError) → ((n a t : List ℕ) → length (f n a t).tag ≡ 16) → OpenedInto (f n a) p out (Err r) after → p ≡ parts_of s → 28 ≤ length s → n ≡ nonce_in s
      → TextOpened f a s out (Err r) after
  text_refuses r tags o q h e =
      let l = text_length q h in (
        elim o.0 [
          | inl x ↦ let k = x.0 in inl (memory_refused (length s) (length out) h (omega arith) ∙ ap Some (sym x.1))
          | inr x ↦ let k = x.0 in inr (
            not_refused (length s) (length out) h (omega arith),
            x.1.1,
            none_seals f a s tags h (λ t w. x.1.0 t (ap (λ (y : List ℕ). f y a t) e ∙ w ∙ sym q)),
          )
        ],
        o.1,
      )

module _ (f : List ℕ → List ℕ → List ℕ → Sealed) (a s out after : List ℕ) (tags : (n a t : List ℕ) → length (f n a t).tag ≡ 16)
    (keeps : (n a t : List ℕ) → length (f n a t).text ≡ length t) (one : (n a t u : List ℕ) → f n a t ≡ f n a u → t ≡ u) where
  sealed_length : (n t : List ℕ) → length n ≡ 12 → s ≡ framed n (f n a t) → length s ≡ length t + 28
  sealed_length n t h e =
      let l = framed-length n (f n a t) h (tags n a t) in
      let k = keeps n a t in
      let m = ap length e in
      omega arith

  -- what holds of every opening by its answer also says that what was sealed opens
  pub sealed_opens : (r : Result ℕ CipherError) → TextOpened f a s out r after → SealedOpens f a s out r after
  sealed_opens (Ok m) o n t h e k =
      let l = sealed_length n t h e in
      let i : m ≡ length t = o.1 ∙ omega arith in
      let p : nonce_in s ≡ n = ap (take 12) e ∙ take_at n ((f n a t).text ++ (f n a t).tag) 12 h in
      let q : framed n (f n a (take m after)) ≡ s = subst (λ (x : List ℕ). framed x (f x a (take m after)) ≡ s) p o.2 in
      let w : take m after ≡ t = one n a (take m after) t (framed_one n (f n a (take m after)) (f n a t) (tags n a (take m after)) (tags n a t) (q ∙ e)) in (
        ap (λ (x : ℕ). let y : Result ℕ CipherError = Ok x in y) i,
        sym (take-append-drop m after) ∙ ap (λ (x : List ℕ). x ++ drop m after) w ∙ ap (λ (x : List ℕ). t ++ x) o.3
            ∙ ap (λ (x : ℕ). t ++ drop x out) i,
      )
  sealed_opens (Err c) o n t h e k =
      let l = sealed_length n t h e in
      let z : open_refusal (length s) (length out) ≡ None = not_refused (length s) (length out) (omega arith) (omega arith) in
      let p : nonce_in s ≡ n = ap (take 12) e ∙ take_at n ((f n a t).text ++ (f n a t).tag) 12 h in
      elim o.0 [
        | inl x ↦ let y : ◌≡◌ {A = ℕ} 0 1 = cc in absurd (omega arith)
        | inr x ↦ absurd (x.2 t (subst (λ (y : List ℕ). framed y (f y a t) ≡ s) (sym p) (sym e)))
      ]
