-- GHASH block by block, and of one string after another.
use Rattle.std.proofs.Common.{◌≡◌, ℕ, zero, suc, ◌+◌, ◌*◌, ◌/◌, ◌<◌, ◌≤◌, List, [], ◌++◌, length, drop, sym, refl, ap, ◌∙◌, ⊎_elim, append_assoc, append-nil, add-zero, add-suc, arith}
use lib.Bits.{bit_xor}
use Rattle.std.proofs.lemmas.List.{nil_from_length, length-append, length-drop, drop_at, drop-drop, drop-append-le}
use Rattle.std.proofs.lemmas.Bool.{cases_lt}
use Rattle.ghash.specs.Ghash.{block_of, gmul, Y, ghash}
use Rattle.ghash.proofs.Blocks.{block_append}

-- one block more
pub next_Y : (h y : ℕ) (s : List ℕ) (i n sum b r : ℕ) → n ≡ suc i → sum ≡ Y h y s i → b ≡ block_of (drop (i * 16) s) → r ≡ gmul (bit_xor sum b) h
    → r ≡ Y h y s n
unfolding Y
next_Y h y s i n sum b r e hs hb hr =
    let f : r ≡ gmul (bit_xor (Y h y s i) (block_of (drop (i * 16) s))) h = cc in
    f ∙ ap (Y h y s) (sym e)

-- the blocks of xs are those of xs and anything after it
Y_front : (h m y : ℕ) (xs ys : List ℕ) (i : ℕ) → length xs ≡ m * 16 → i ≤ m → Y h y (xs ++ ys) i ≡ Y h y xs i
unfolding Y
Y_front h m y xs ys zero l le = refl
Y_front h m y xs ys (suc i) l le =
    let ld = length-drop (i * 16) xs in
    let b : block_of (drop (i * 16) (xs ++ ys)) ≡ block_of (drop (i * 16) xs) =
    ap block_of (drop-append-le (i * 16) xs ys (omega arith)) ∙ block_append (drop (i * 16) xs) ys (omega arith) in
    let f = Y_front h m y xs ys i l (omega arith) in
    cc

Y-append : (h m y : ℕ) (xs ys : List ℕ) (k : ℕ) → length xs ≡ m * 16 → Y h y (xs ++ ys) (m + k) ≡ Y h (Y h y xs m) ys k
unfolding Y
Y-append h m y xs ys zero l = ap (Y h y (xs ++ ys)) (add-zero m) ∙ Y_front h m y xs ys m l (omega arith)
Y-append h m y xs ys (suc k) l =
    let e : (m + k) * 16 ≡ m * 16 + k * 16 = omega arith in
    let d : drop ((m + k) * 16) (xs ++ ys) ≡ drop (k * 16) ys =
    ap (λ (n : ℕ). drop n (xs ++ ys)) e ∙ sym (drop-drop (k * 16) (m * 16) (xs ++ ys)) ∙ ap (drop (k * 16)) (drop_at xs ys (m * 16) l) in
    let f = Y-append h m y xs ys k l in
    ap (Y h y (xs ++ ys)) (add-suc m k) ∙ cc

-- after whole blocks
pub ghash-append : (h m y : ℕ) (xs ys : List ℕ) → length xs ≡ m * 16 → ghash h y (xs ++ ys) ≡ ghash h (ghash h y xs) ys
unfolding ghash
ghash-append h m y xs ys l =
    let la = length-append xs ys in
    let k : ℕ = (length ys + 15) / 16 in
    let a : (length (xs ++ ys) + 15) / 16 ≡ m + (length ys + 15) / 16 = omega arith in
    let b : (length xs + 15) / 16 ≡ m = omega arith in
    ap (Y h y (xs ++ ys)) a ∙ Y-append h m y xs ys k l ∙ ap (λ (n : ℕ). Y h (Y h y xs n) ys k) (sym b)

one_block : (h y : ℕ) (b : List ℕ) → 0 < length b → length b ≤ 16 → gmul (bit_xor y (block_of b)) h ≡ ghash h y b
unfolding ghash Y
one_block h y b lo hi = let e : 1 ≡ (length b + 15) / 16 = omega arith in ap (Y h y b) e

pub ghash_nil : (h y : ℕ) → ghash h y [] ≡ y
unfolding ghash Y
ghash_nil h y = refl

-- after a whole block, or with nothing more
ghash_next : (h y : ℕ) (b ys : List ℕ) → length b ≤ 16 → (length b < 16 → length ys ≡ 0) → ghash h (ghash h y b) ys ≡ ghash h y (b ++ ys)
ghash_next h y b ys l e =
    ⊎_elim
    (λ s.
    let z : ys ≡ [] = nil_from_length ys (e s) in
    ap (ghash h (ghash h y b)) z ∙ ghash_nil h (ghash h y b) ∙ ap (ghash h y) (sym (append-nil b) ∙ ap (λ (t : List ℕ). b ++ t) (sym z)))
    (λ s. sym (ghash-append h 1 y b ys (omega arith)))
    (cases_lt (length b) 16)

-- whole blocks, a block of which a string ends and another begins, and the rest of the other
pub joined_is : (h y m front middle r : ℕ) (whole rest begin end : List ℕ) → length whole ≡ m * 16
    → 0 < length rest → length rest + length begin ≤ 16 → (length rest + length begin < 16 → length end ≡ 0)
    → front ≡ ghash h y whole → middle ≡ gmul (bit_xor front (block_of (rest ++ begin))) h → r ≡ ghash h middle end
    → r ≡ ghash h y ((whole ++ rest) ++ (begin ++ end))
joined_is h y m front middle r whole rest begin end lw lr lb le ef em er =
    let l = length-append rest begin in
    er
    ∙ ap (λ (z : ℕ). ghash h z end) (em ∙ one_block h front (rest ++ begin) (omega arith) (omega arith))
    ∙ ghash_next h front (rest ++ begin) end (omega arith) (λ s. le (omega arith))
    ∙ ap (ghash h front) (append_assoc rest begin end)
    ∙ ap (λ (z : ℕ). ghash h z (rest ++ (begin ++ end))) ef
    ∙ sym (ghash-append h m y whole (rest ++ (begin ++ end)) lw)
    ∙ ap (ghash h y) (sym (append_assoc whole rest (begin ++ end)))
