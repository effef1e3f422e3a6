-- Header and blocks in a row are the file of a plaintext.
use Rattle.std.proofs.Common.{◌≡◌, ℕ, zero, suc, ◌+◌, ◌-◌, ◌*◌, ◌<◌, ◌≤◌, min, List, [], ◌∷◌, ◌++◌, length, get_or, take, drop, sym, refl, ap, ◌∙◌, ⊎_elim, mul-le-mul_right, arith}
use Rattle.std.proofs.lemmas.List.{length-take, length-drop, length-append, drop-drop, drop_at, take_at, drop_more}
use Rattle.std.proofs.lemmas.Bool.{cases_lt}
use Rattle.aead.specs.Draws.{Twelve}
use Rattle.layout.specs.Format.{Proper, Closed, file_bytes, plain_bytes, block_count_of, block_start, header}
use Rattle.layout.specs.declared.shape.Shape.{Shape}
use Rattle.layout.specs.declared.shape.Shape.TheVariants.{Full, Partial}
use Rattle.stream_law.specs.Files.{chunk, blocks_from, Counts, Row, IsFile}

pub twelve_at : (ns : List (List ℕ)) (i : ℕ) → Twelve ns → i < length ns → length (get_or ns i []) ≡ 12
twelve_at [] i w h = absurd (omega arith)
twelve_at (n ∷ ns) zero (w, ws) h = w
twelve_at (n ∷ ns) (suc i) (w, ws) h = twelve_at ns i ws (omega arith)

-- the shape of a closed file of n bytes in k blocks
abbrev Shaped : ℕ → ℕ → ℕ → Type 0
Shaped size n k = (s : Shape) × Proper size s × Closed s × (plain_bytes size s ≡ n) × (block_count_of s ≡ k) × (file_bytes size s ≡ 8 + (n + k * 28))

shape_of : (size n k : ℕ) → 1 ≤ size → Counts size n k → Shaped size n k
shape_of size n k z (j, e, h, o) =
    let a = ap (λ x. x * size) e in
    let l : j * size ≤ n = ⊎_elim (λ (q : j ≡ 0). omega (arith, ap (λ x. x * size) q)) (λ (q : j * size < n). omega arith) o in
    ⊎_elim
    (λ (m : n - j * size < size). (
      Partial j (n - j * size),
      m,
      (λ y. ⊎_elim (λ (q : j ≡ 0). q) (λ (q : j * size < n). absurd (omega arith)) o),
      omega arith,
      omega arith,
      omega arith,
    ))
    (λ (m : size ≤ n - j * size). (Full k, tt, omega arith, omega arith, refl, omega arith))
    (cases_lt (n - j * size) size)

-- the plaintext reaches to each block
reaches : (size n k i : ℕ) → Counts size n k → i < k → i * size ≤ n
reaches size n k i (j, e, h, o) l =
    let m : i * size ≤ j * size = mul-le-mul_right size (omega arith) in
    ⊎_elim (λ (q : j ≡ 0). omega (arith, ap (λ x. x * size) q)) (λ (q : j * size < n). omega arith) o

module _ (size : ℕ) (block : ℕ → List ℕ → List ℕ → List ℕ) (long : (i : ℕ) (n t : List ℕ) → length n ≡ 12 → length (block i n t) ≡ length t + 28) where
  length-blocks : (i : ℕ) (ns : List (List ℕ)) (t : List ℕ) → Twelve ns → length t ≤ length ns * size → length (blocks_from size block i ns t) ≡ length t + length ns * 28
  unfolding blocks_from
  length-blocks i [] t w h = omega arith
  length-blocks i (n ∷ ns) t (w, ws) h =
      let lb = long i n (take size t) w in
      let lt : length (take size t) ≡ min size (length t) = length-take size t in
      let ld : length (drop size t) ≡ length t - size = length-drop size t in
      let r = length-blocks (suc i) ns (drop size t) ws (omega arith) in
      length-append (block i n (take size t)) (blocks_from size block (suc i) ns (drop size t)) ∙ omega arith

  -- past k full blocks
  blocks_past : (i k : ℕ) (ns : List (List ℕ)) (t : List ℕ) → Twelve ns → k < length ns → k * size ≤ length t
      → drop (k * (size + 28)) (blocks_from size block i ns t) ≡ blocks_from size block (i + k) (drop k ns) (drop (k * size) t)
  unfolding blocks_from
  blocks_past i zero ns t w h m =
      let z : 0 * (size + 28) ≡ 0 = omega arith in
      let y : 0 * size ≡ 0 = omega arith in
      let x : i ≡ i + 0 = omega arith in
      ap (λ a. drop a (blocks_from size block i ns t)) z ∙ ap (λ a. blocks_from size block a ns t) x ∙ ap (λ a. blocks_from size block (i + 0) ns (drop a t)) (sym y)
  blocks_past i (suc k) [] t w h m = absurd (omega arith)
  blocks_past i (suc k) (n ∷ ns) t (w, ws) h m =
      let lu : length (take size t) ≡ size = simp length-take (omega arith) in
      let lb : length (block i n (take size t)) ≡ size + 28 = long i n (take size t) w ∙ ap (λ x. x + 28) lu in
      let ld : k * size ≤ length (drop size t) = simp length-drop (omega arith) in
      let a2 : suc k * (size + 28) ≡ (size + 28) + k * (size + 28) = omega arith in
      let b2 : size + k * size ≡ suc k * size = omega arith in
      let j : suc i + k ≡ i + suc k = omega arith in
      ap (λ x. drop x (block i n (take size t) ++ blocks_from size block (suc i) ns (drop size t))) a2
      ∙ sym (drop-drop (k * (size + 28)) (size + 28) (block i n (take size t) ++ blocks_from size block (suc i) ns (drop size t)))
      ∙ ap (λ x. drop (k * (size + 28)) x) (drop_at (block i n (take size t)) (blocks_from size block (suc i) ns (drop size t)) (size + 28) lb)
      ∙ blocks_past (suc i) k ns (drop size t) ws (omega arith) ld
      ∙ ap (λ x. blocks_from size block x (drop k ns) (drop (k * size) (drop size t))) j
      ∙ ap (λ x. blocks_from size block (i + suc k) (drop k ns) x) (drop-drop (k * size) size t)
      ∙ ap (λ x. blocks_from size block (i + suc k) (drop k ns) (drop x t)) b2

  -- block i at its place
  block_at : (ns : List (List ℕ)) (t bytes : List ℕ) (i : ℕ) → Twelve ns → Row size block ns t bytes → i < length ns
      → take (length (chunk size t i) + 28) (drop (block_start size i) bytes) ≡ block i (get_or ns i []) (chunk size t i)
  unfolding blocks_from
  block_at ns t bytes i w r h =
      let n : List ℕ = get_or ns i [] in
      let all : List ℕ = blocks_from size block 0 ns t in
      let rest : List ℕ = blocks_from size block (suc i) (drop (i + 1) ns) (drop size (drop (i * size) t)) in
      let z : 0 + i ≡ i = omega arith in
      ap (λ x. take (length (chunk size t i) + 28) (drop (block_start size i) x)) r.is
      ∙ ap (take (length (chunk size t i) + 28))
      (sym (drop-drop (i * (size + 28)) 8 (header size ++ all))
      ∙ ap (drop (i * (size + 28))) (drop_at (header size) all 8 refl)
      ∙ blocks_past 0 i ns t w h (reaches size (length t) (length ns) i r.count h)
      ∙ ap (λ x. blocks_from size block x (drop i ns) (drop (i * size) t)) z
      ∙ ap (λ x. blocks_from size block i x (drop (i * size) t)) (drop_more ns i [] h))
      ∙ take_at (block i n (chunk size t i)) rest (length (chunk size t i) + 28) (long i n (chunk size t i) (twelve_at ns i w h))

  pub is_file : (ns : List (List ℕ)) (t bytes : List ℕ) → 1 ≤ size → Twelve ns → Row size block ns t bytes → IsFile size block ns t bytes
  is_file ns t bytes z w r =
      let s = shape_of size (length t) (length ns) z r.count in
      let l = length-blocks 0 ns t w r.count.2 in
      let e = ap length r.is ∙ length-append (header size) (blocks_from size block 0 ns t) in
      let k = s.4 in
      let f = s.5 in
      let g = r.few in
      record {
        shape = s.0;
        proper = s.1;
        whole = s.2;
        plain = s.3;
        nonces = k;
        few = omega arith;
        long = omega arith;
        begins = ap (take 8) r.is ∙ take_at (header size) (blocks_from size block 0 ns t) 8 refl;
        blocks = λ i h. block_at ns t bytes i w r h;
      }
