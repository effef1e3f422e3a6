-- Blocks cut from a plaintext.
use Rattle.std.proofs.Common.{◌≡◌, ℕ, suc, ◌+◌, ◌*◌, ◌≤◌, List, [], ◌∷◌, ◌++◌, length, take, drop, sym, ap, ◌∙◌, arith}
use Rattle.std.proofs.lemmas.List.{append_assoc, append-nil, length-drop, take-append-le, drop-append-le, take_all, nil_from_length}
use Rattle.stream_law.specs.Files.{blocks_from}

-- one block more
pub blocks_more : (size : ℕ) (block : ℕ → List ℕ → List ℕ → List ℕ) (i : ℕ) (ns : List (List ℕ)) (n full g : List ℕ)
    → length full ≡ length ns * size → length g ≤ size
    → blocks_from size block i (ns ++ n ∷ []) (full ++ g) ≡ blocks_from size block i ns full ++ block (i + length ns) n g
unfolding blocks_from
blocks_more size block i [] n full g h u =
    let z : length full ≡ 0 = omega (arith, h) in
    let e : full ++ g ≡ g = ap (λ w. w ++ g) (nil_from_length full z) in
    let k : i ≡ i + 0 = omega arith in
    append-nil (block i n (take size (full ++ g)))
    ∙ ap (λ w. block i n (take size w)) e ∙ ap (λ w. block i n w) (take_all size g u) ∙ ap (λ j. block j n g) k
blocks_more size block i (m ∷ ns) n full g h u =
    let s : length full ≡ length ns * size + size = omega (arith, h) in
    let le : size ≤ length full = omega arith in
    let ld : length (drop size full) ≡ length ns * size = simp length-drop (omega arith) in
    let k : suc i + length ns ≡ i + suc (length ns) = omega arith in
    ap (λ w. block i m w ++ blocks_from size block (suc i) (ns ++ n ∷ []) (drop size (full ++ g))) (take-append-le size full g le)
    ∙ ap (λ w. block i m (take size full) ++ blocks_from size block (suc i) (ns ++ n ∷ []) w) (drop-append-le size full g le)
    ∙ ap (λ w. block i m (take size full) ++ w) (blocks_more size block (suc i) ns n (drop size full) g ld u)
    ∙ ap (λ j. block i m (take size full) ++ (blocks_from size block (suc i) ns (drop size full) ++ block j n g)) k
    ∙ sym (append_assoc (block i m (take size full)) (blocks_from size block (suc i) ns (drop size full)) (block (i + suc (length ns)) n g))
