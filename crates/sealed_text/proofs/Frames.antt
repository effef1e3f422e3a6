-- A frame is its nonce, its ciphertext and its tag, in one way.
use Rattle.std.proofs.Common.{◌≡◌, ℕ, ◌+◌, ◌-◌, ◌≤◌, List, ◌++◌, length, take, drop, sym, refl, ap, ◌∙◌, arith}
use Rattle.std.proofs.lemmas.List.{append_cancel_left, take_at, drop_at, drop-drop, take-append-drop, length-append, length-drop}
use Rattle.aead.specs.Seals.{Sealed}
use Rattle.sealed_text.specs.Frame.{framed, nonce_in}
use Rattle.sealed_text.specs.Opening.{SealsTo}

-- what lies between nonce and tag, and the tag
abbrev pub parts_of : List ℕ → Sealed
parts_of s = record { text = take (length s - 16 - 12) (drop 12 s); tag = drop (length s - 16) s }

pub framed_parts : (s : List ℕ) → 28 ≤ length s → framed (nonce_in s) (parts_of s) ≡ s
framed_parts s h =
    let k : ℕ = length s - 16 - 12 in
    let i : 12 + k ≡ length s - 16 = omega arith in
    let d : drop (length s - 16) s ≡ drop k (drop 12 s) = ap (λ (j : ℕ). drop j s) (sym i) ∙ sym (drop-drop k 12 s) in
    ap (λ (x : List ℕ). take 12 s ++ (take k (drop 12 s) ++ x)) d
    ∙ ap (λ (x : List ℕ). take 12 s ++ x) (take-append-drop k (drop 12 s)) ∙ take-append-drop 12 s

pub framed_one : (n : List ℕ) (p q : Sealed) → length p.tag ≡ 16 → length q.tag ≡ 16 → framed n p ≡ framed n q → p ≡ q
framed_one n p q hp hq e =
    let d = append_cancel_left n (p.text ++ p.tag) (q.text ++ q.tag) e in
    let m = ap length d in
    let i = length-append p.text p.tag in
    let j = length-append q.text q.tag in
    let l : length q.text ≡ length p.text = omega arith in
    let x : p.text ≡ q.text = sym (take_at p.text p.tag (length p.text) refl) ∙ ap (take (length p.text)) d ∙ take_at q.text q.tag (length p.text) l in
    let y : p.tag ≡ q.tag = sym (drop_at p.text p.tag (length p.text) refl) ∙ ap (drop (length p.text)) d ∙ drop_at q.text q.tag (length p.text) l in
    ap (λ (z : List ℕ). let w : Sealed = record { text = z; tag = p.tag } in w) x ∙ ap (λ (z : List ℕ). let w : Sealed = record { text = q.text; tag = z } in w) y

pub framed-length : (n : List ℕ) (p : Sealed) → length n ≡ 12 → length p.tag ≡ 16 → length (framed n p) ≡ length p.text + 28
framed-length n p h k =
    let i = length-append n (p.text ++ p.tag) in
    let j = length-append p.text p.tag in
    omega arith

-- what seals to the parts seals to the whole, and where nothing does, nothing seals to the whole
pub part_seals : (f : List ℕ → List ℕ → List ℕ → Sealed) (a s t : List ℕ) → 28 ≤ length s → f (nonce_in s) a t ≡ parts_of s → SealsTo f a t s
part_seals f a s t h e = ap (framed (nonce_in s)) e ∙ framed_parts s h

pub none_seals : (f : List ℕ → List ℕ → List ℕ → Sealed) (a s : List ℕ) → ((n a t : List ℕ) → length (f n a t).tag ≡ 16) → 28 ≤ length s
    → ((t : List ℕ) → f (nonce_in s) a t ≡ parts_of s → ⊥) → (t : List ℕ) → SealsTo f a t s → ⊥
none_seals f a s tags h none t e =
    let d = length-drop (length s - 16) s in
    let l : length (parts_of s).tag ≡ 16 = omega arith in
    none t (framed_one (nonce_in s) (f (nonce_in s) a t) (parts_of s) (tags (nonce_in s) a t) l (e ∙ sym (framed_parts s h)))
