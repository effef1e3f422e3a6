-- A text that is written and sealed between its nonce and its tag.
use Rattle.std.proofs.Common.{◌≡◌, ℕ, ◌+◌, ◌-◌, ◌≤◌, false, ltb, List, ◌∷◌, ◌++◌, length, take, drop, None, refl, ap, ◌∙◌, append_assoc, arith, le-ltb}
use borrow.Rule.Slice.PartMut.{put_mid, post_of}
use Rattle.std.proofs.lemmas.List.{take_at, drop-drop, length-append, length-drop, length-take-le}
use Rattle.std.proofs.lemmas.Slice.{take-put_mid, take-put_mid_below, drop-put_mid, between-put_mid, drop-append-drop}
use Rattle.std.specs.List.{between}
use Rattle.aead.specs.Seals.{Sealed}
use Rattle.sealed_text.specs.Frame.{framed}
use Rattle.sealed_text.specs.Sealing.{seal_refusal}

pub not_refused : (t a o : ℕ) (x : List ℕ) (left rest : List (List ℕ)) → t ≤ 4294967267 → a ≤ 4294967267 → t + 28 ≤ o → left ≡ x ∷ rest
    → seal_refusal t a o left ≡ None
not_refused t a o x left rest h k m e =
    let p : ltb 4294967267 t ≡ false = le-ltb 4294967267 t h in
    let q : ltb 4294967267 a ≡ false = le-ltb 4294967267 a k in
    let w : ltb o (t + 28) ≡ false = le-ltb o (t + 28) m in
    rw (p, q, w, e) refl

module _ (out nn t x g : List ℕ) (n : ℕ) where
  -- the nonce in front; the text behind it; what it was sealed to
  abbrev o1 : List ℕ
  o1 = nn ++ post_of 0 12 out

  abbrev pub o2 : List ℕ
  o2 = put_mid 12 (12 + n - 12) o1 t

  abbrev pub o3 : List ℕ
  o3 = put_mid 12 (12 + n - 12) o2 x

  module _ (h : n + 28 ≤ length out) (ln : length nn ≡ 12) (lt : length t ≡ n) where
    length_o1 : length o1 ≡ length out
    length_o1 =
        let i = length-append nn (post_of 0 12 out) in
        let j = length-drop 12 out in
        omega arith

    pub text_there : between 12 (12 + n) o2 ≡ t
    text_there = let l = length_o1 in between-put_mid 12 (12 + n - 12) o1 t (12 + n) (omega arith) (omega arith)

    length_o2 : 12 ≤ length o2
    length_o2 =
        let l = length_o1 in
        let i = length-append (take 12 o1) (t ++ post_of 12 (12 + n - 12) o1) in
        let k : 12 ≤ length o1 = omega arith in
        let j = length-take-le 12 o1 k in
        omega arith

    module _ (lx : length x ≡ n) where
      front : take (12 + n) o3 ≡ nn ++ x
      front =
          let l = length_o1 in
          take-put_mid 12 (12 + n - 12) o2 x (12 + n) (omega arith) length_o2
          ∙ ap (λ (y : List ℕ). y ++ x) (take-put_mid_below 12 (12 + n - 12) o1 t 12 (omega arith) (omega arith) ∙ take_at nn (post_of 0 12 out) 12 ln)

      rest : drop (n + 28 - (12 + n)) (drop (12 + n) o3) ≡ drop (n + 28) out
      rest =
          let l = length_o1 in
          drop-drop (n + 28 - (12 + n)) (12 + n) o3
          ∙ ap (λ (i : ℕ). drop i o3) (omega arith)
          ∙ drop-put_mid 12 (12 + n - 12) o2 x (n + 28) (omega arith) length_o2 (omega arith)
          ∙ drop-put_mid 12 (12 + n - 12) o1 t (n + 28) (omega arith) (omega arith) (omega arith)
          ∙ drop-append-drop 12 out nn (n + 28) (omega arith) ln

      pub written : put_mid (12 + n) (n + 28 - (12 + n)) o3 g ≡ (nn ++ (x ++ g)) ++ drop (n + 28) out
      written =
          ap (λ (y : List ℕ). y ++ (g ++ drop (n + 28 - (12 + n)) (drop (12 + n) o3))) front
          ∙ ap (λ (y : List ℕ). (nn ++ x) ++ (g ++ y)) rest
          ∙ simp append_assoc

-- sealed where it lies, with its own nonce and tag beside it
pub frame_written : (f : List ℕ → List ℕ → List ℕ → Sealed) (out nonce nn a text t x tag g : List ℕ) → length text + 28 ≤ length out
    → length nn ≡ 12 → length t ≡ length text → length x ≡ length text → nn ≡ nonce → t ≡ text → g ≡ tag
    → record { text = x; tag = tag } ≡ f nonce a (between 12 (12 + length text) (o2 out nn t x g (length text)))
    → put_mid (12 + length text) (length text + 28 - (12 + length text)) (o3 out nn t x g (length text)) g ≡ framed nonce (f nonce a text) ++ drop (length text + 28) out
frame_written f out nonce nn a text t x tag g h ln lt lx p q w e =
    let n : ℕ = length text in
    let s : record { text = x; tag = tag } ≡ f nonce a text = e ∙ ap (f nonce a) (text_there out nn t x g n h ln lt ∙ q) in
    written out nn t x g n h ln lt lx
    ∙ ap (λ (y : List ℕ). (y ++ (x ++ g)) ++ drop (n + 28) out) p
    ∙ ap (λ (y : List ℕ). (nonce ++ (x ++ y)) ++ drop (n + 28) out) w
    ∙ ap (λ (z : Sealed). framed nonce z ++ drop (n + 28) out) s
