-- Blocks read from bytes.
use Rattle.std.proofs.Common.{◌≡◌, ℕ, zero, suc, ◌*◌, ◌<◌, ◌≤◌, List, [], ◌++◌, length, get_or, take, drop, replicate, refl, ap, ◌∙◌, append_assoc, arith}
use Rattle.std.specs.Simd.{first_chunks}
use Rattle.std.proofs.lemmas.List.{get_or-take, get_or-drop, get_or-replicate, get_or_past, get_or_append_left, get_or-append_right, drop-drop, length-append}
use Rattle.ghash.specs.Ghash.{bytes_of, block_of}

bytes_same : (n : ℕ) (b s : List ℕ) → ((k : ℕ) → k < n → get_or b k 0 ≡ get_or s k 0) → bytes_of n b ≡ bytes_of n s
unfolding bytes_of
bytes_same zero b s h = refl
bytes_same (suc n) b s h =
    let e = bytes_same n b s (λ k l. h k (omega arith)) in
    let f = h n (omega arith) in
    cc

-- a block is its sixteen bytes
block_same : (b s : List ℕ) → ((k : ℕ) → k < 16 → get_or b k 0 ≡ get_or s k 0) → block_of b ≡ block_of s
unfolding block_of
block_same b s h = bytes_same 16 b s h

pub block_append : (xs ys : List ℕ) → 16 ≤ length xs → block_of (xs ++ ys) ≡ block_of xs
block_append xs ys h = block_same (xs ++ ys) xs (λ k l. get_or_append_left xs ys 0 k (omega arith))

-- block i of the m blocks at the front of s
chunk_is : (m i : ℕ) (s : List ℕ) → i < m → get_or (first_chunks 16 m s) i [] ≡ take 16 (drop (i * 16) s)
chunk_is zero i s h = absurd (omega arith)
chunk_is (suc m) zero s h = refl
chunk_is (suc m) (suc i) s h =
    chunk_is m i (drop 16 s) (omega arith) ∙ ap (take 16) (drop-drop (i * 16) 16 s ∙ ap (λ (n : ℕ). drop n s) (omega arith))

pub chunk_block : (m i : ℕ) (s : List ℕ) → i < m → block_of (get_or (first_chunks 16 m s) i []) ≡ block_of (drop (i * 16) s)
chunk_block m i s h =
    let t : List ℕ = drop (i * 16) s in
    ap block_of (chunk_is m i s h) ∙ block_same (take 16 t) t (λ k l. get_or-take 16 t k 0 l)

-- zeros after a string are in its block already
zeros_after : (xs : List ℕ) → block_of (xs ++ drop (length xs) (replicate 16 0)) ≡ block_of xs
zeros_after xs = block_same (xs ++ drop (length xs) (replicate 16 0)) xs (λ k l. grind (arith, get_or_append_left, get_or-append_right, get_or-drop, get_or-replicate, get_or_past))

-- the block of a and then t, written over the front of zeros
pub block_padded : (a t : List ℕ) → block_of (a ++ (t ++ drop (length t) (drop (length a) (replicate 16 0)))) ≡ block_of (a ++ t)
block_padded a t = let e = zeros_after (a ++ t) in ap block_of (simp (append_assoc, drop-drop, length-append)) ∙ e
