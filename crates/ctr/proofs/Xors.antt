-- Keystream laid over bytes in place, and over a text block by block.
use Rattle.std.proofs.Common.{◌≡◌, ℕ, suc, ◌+◌, ◌-◌, ◌/◌, ◌<◌, ◌≤◌, List, [], ◌∷◌, ◌++◌, length, get_or, take, drop, set, min, sym, refl, ap, le_of_suc-le-suc, not-suc-le-zero, arith, ⊎_elim}
use lib.Bits.{bit_xor}
use Rattle.std.proofs.lemmas.List.{append_assoc, append-nil, take_at, drop_at, length-take, length-append, take_rest, take_more_set, drop_more, drop-set-lt, take_all, drop_all, length-drop, length-take-le}
use Rattle.std.proofs.lemmas.Bool.{cases_lt}
use borrow.Rule.Slice.PartMut.{put_mid}
use Rattle.aes.specs.Cipher.{xor_bytes}
use Rattle.ctr.specs.Gctr.{inc32, blocks, gctr}

pub length-xor : (xs ys : List ℕ) → length xs ≤ length ys → length (xor_bytes xs ys) ≡ length xs
unfolding xor_bytes
length-xor [] ys h = refl
length-xor (x ∷ xs) [] h = absurd (not-suc-le-zero h)
length-xor (x ∷ xs) (y ∷ ys) h = ap suc (length-xor xs ys (le_of_suc-le-suc h))

-- one byte more
pub xor_more : (s ks : List ℕ) (i : ℕ) → i < length s → i < length ks
    → take (i + 1) (set s i (bit_xor (get_or s i 0) (get_or ks i 0))) ++ xor_bytes (drop (i + 1) (set s i (bit_xor (get_or s i 0) (get_or ks i 0)))) (drop (i + 1) ks)
    ≡ take i s ++ xor_bytes (drop i s) (drop i ks)
unfolding xor_bytes
xor_more s ks i h k =
    let b = bit_xor (get_or s i 0) (get_or ks i 0) in
    let l : i < i + 1 = omega arith in
    let e : drop i s ≡ get_or s i 0 ∷ drop (i + 1) s = drop_more s i 0 h in
    let f : drop i ks ≡ get_or ks i 0 ∷ drop (i + 1) ks = drop_more ks i 0 k in
    let g : xor_bytes (drop i s) (drop i ks) ≡ b ∷ xor_bytes (drop (i + 1) s) (drop (i + 1) ks) = rw (e, f) in
    rw (drop-set-lt (i + 1) s i b l, take_more_set s i b h, append_assoc, g)

pub xor_all : (s ks : List ℕ) (i : ℕ) → length s ≤ i → take i s ++ xor_bytes (drop i s) (drop i ks) ≡ s
unfolding xor_bytes
xor_all s ks i h = rw (drop_all i s h, take_all i s h, append-nil)

-- a list in two parts, the second empty where the first is short
parts : (p q : List ℕ) (n : ℕ) → length p ≤ n → (length p < n → q ≡ []) → (take n (p ++ q) ≡ p) × (drop n (p ++ q) ≡ q)
parts p q n l e =
    ⊎_elim
    (λ h. let z = e h in rw (z, append-nil) (take_all n p l, drop_all n p l))
    (λ h. let f : length p ≡ n = omega arith in (take_at p q n f, drop_at p q n f))
    (cases_lt (length p) n)

module _ (ks : ℕ → List ℕ) where
  gctr_nil : (n : ℕ) → gctr ks n [] ≡ []
  unfolding xor_bytes blocks gctr
  gctr_nil n = refl

  gctr_short : (n : ℕ) (s : List ℕ) → length s < 16 → gctr ks n s ≡ xor_bytes s (ks n)
  unfolding blocks gctr
  gctr_short n s h = let e : length s / 16 ≡ 0 = omega arith in ap (λ (m : ℕ). blocks ks m n s) e

  gctr_long : (n : ℕ) (s : List ℕ) → 16 ≤ length s → gctr ks n s ≡ xor_bytes (take 16 s) (ks n) ++ gctr ks (inc32 n) (drop 16 s)
  unfolding blocks gctr
  gctr_long n s h =
      let d = length-drop 16 s in
      let e : length s / 16 ≡ suc (length (drop 16 s) / 16) = omega arith in
      ap (λ (m : ℕ). blocks ks m n s) e

  -- one block more, which may be short
  gctr_more : (n : ℕ) (s : List ℕ) → gctr ks n s ≡ xor_bytes (take 16 s) (ks n) ++ gctr ks (inc32 n) (drop 16 s)
  gctr_more n s =
      ⊎_elim
      (λ h.
      let l : length s ≤ 16 = omega arith in
      rw (gctr_short n s h, drop_all 16 s l, take_all 16 s l, gctr_nil, append-nil))
      (gctr_long n s)
      (cases_lt (length s) 16)

  -- a turn of the loop, in the words of the code
  pub turn : (k s y : List ℕ) (at n n' : ℕ) → at ≤ length s → length k ≡ 16 → k ≡ ks n → n' ≡ inc32 n
      → y ≡ xor_bytes (take 16 (take (length s - at) (drop at s))) k ++ drop 16 (take (length s - at) (drop at s))
      → take (at + 16) (put_mid at (length s - at) s y) ++ gctr ks n' (drop (at + 16) (put_mid at (length s - at) s y)) ≡ take at s ++ gctr ks n (drop at s)
  turn k s y at n n' h lk ek en ey =
      let r = drop at s in
      let x = xor_bytes (take 16 r) k in
      let ld : length r ≡ length s - at = length-drop at s in
      let lt : length (take 16 r) ≡ min 16 (length r) = length-take 16 r in
      let lx : length x ≡ length (take 16 r) = length-xor (take 16 r) k (omega arith) in
      let la : length (take at s) ≡ at = length-take-le at s h in
      let lp = length-append (take at s) x in
      let fy : y ≡ x ++ drop 16 r = rw (← take_rest s at) ey in
      let e : drop (length s - at) r ≡ [] = drop_all (length s - at) r (omega arith) in
      let t : put_mid at (length s - at) s y ≡ (take at s ++ x) ++ drop 16 r = rw (e, append-nil, fy, append_assoc) in
      let p = parts (take at s ++ x) (drop 16 r) (at + 16) (omega arith) (λ e. drop_all 16 r (omega arith)) in
      rw (t, p.0, p.1, append_assoc, en, ek) (ap (λ z. take at s ++ z) (sym (gctr_more n r)))

  pub end : (n at : ℕ) (s : List ℕ) → length s ≤ at → take at s ++ gctr ks n (drop at s) ≡ s
  end n at s h = rw (drop_all at s h, take_all at s h, gctr_nil, append-nil)
