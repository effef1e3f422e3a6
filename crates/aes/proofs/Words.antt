-- Words as four bytes: what their sums, rotations and bytes are.
use Rattle.std.proofs.Common.{◌≡◌, ℕ, ◌+◌, ◌*◌, ◌/◌, ◌%◌, ◌^◌, ◌<◌, List, [], ◌∷◌, ◌++◌, take, drop, sym, ap, ◌∙◌, arith}
use lib.Bits.{bit_xor, bit_or, xor_block, or_shifted_r}
use Rattle.std.proofs.lemmas.List.{drop-drop, take-append-drop}
use Rattle.aes.specs.Words.{word_of, word_bytes}

pub xor_word : (a b c d p q r s : ℕ) → b < 256 → c < 256 → d < 256 → q < 256 → r < 256 → s < 256
    → bit_xor (word_of a b c d) (word_of p q r s) ≡ word_of (bit_xor a p) (bit_xor b q) (bit_xor c r) (bit_xor d s)
xor_word a b c d p q r s hb hc hd hq hr hs =
    let e : word_of a b c d ≡ ((a * 2 ^ 8 + b) * 2 ^ 8 + c) * 2 ^ 8 + d = omega arith in
    let f : word_of p q r s ≡ ((p * 2 ^ 8 + q) * 2 ^ 8 + r) * 2 ^ 8 + s = omega arith in
    let g : bit_xor (((a * 2 ^ 8 + b) * 2 ^ 8 + c) * 2 ^ 8 + d) (((p * 2 ^ 8 + q) * 2 ^ 8 + r) * 2 ^ 8 + s)
    ≡ ((bit_xor a p * 2 ^ 8 + bit_xor b q) * 2 ^ 8 + bit_xor c r) * 2 ^ 8 + bit_xor d s =
    xor_block 8 ((a * 2 ^ 8 + b) * 2 ^ 8 + c) ((p * 2 ^ 8 + q) * 2 ^ 8 + r) d s hd hs
    ∙ ap (λ (x : ℕ). x * 2 ^ 8 + bit_xor d s)
    (xor_block 8 (a * 2 ^ 8 + b) (p * 2 ^ 8 + q) c r hc hr ∙ ap (λ (x : ℕ). x * 2 ^ 8 + bit_xor c r) (xor_block 8 a p b q hb hq)) in
    let k : ((bit_xor a p * 2 ^ 8 + bit_xor b q) * 2 ^ 8 + bit_xor c r) * 2 ^ 8 + bit_xor d s
    ≡ word_of (bit_xor a p) (bit_xor b q) (bit_xor c r) (bit_xor d s) = omega arith in
    ap (λ (x : ℕ). bit_xor x (word_of p q r s)) e ∙ ap (λ (x : ℕ). bit_xor (((a * 2 ^ 8 + b) * 2 ^ 8 + c) * 2 ^ 8 + d) x) f ∙ g ∙ k

pub bytes_of_word : (a b c d : ℕ) → a < 256 → b < 256 → c < 256 → d < 256 → word_bytes (word_of a b c d) ≡ a ∷ b ∷ c ∷ d ∷ []
bytes_of_word a b c d ha hb hc hd =
    let e0 : word_of a b c d / 16777216 % 256 ≡ a = omega arith in
    let e1 : word_of a b c d / 65536 % 256 ≡ b = omega arith in
    let e2 : word_of a b c d / 256 % 256 ≡ c = omega arith in
    let e3 : word_of a b c d % 256 ≡ d = omega arith in
    cc

-- a word before the bytes that follow it
pub before : (b : List ℕ) (i w : ℕ) (rest : List ℕ) → word_bytes w ≡ take 4 (drop i b) → rest ≡ drop (i + 4) b → word_bytes w ++ rest ≡ drop i b
before b i w rest e f =
    ap (λ (t : List ℕ). t ++ rest) e ∙ ap (λ (t : List ℕ). take 4 (drop i b) ++ t) (f ∙ sym (drop-drop 4 i b)) ∙ take-append-drop 4 (drop i b)

-- rotate_right by 8, 16 and 24, as std's contract has it
pub rot8 : (a b c d : ℕ) → a < 256 → b < 256 → c < 256 → d < 256
    → bit_or (word_of a b c d / 2 ^ 8) ((word_of a b c d * 2 ^ 24) % 2 ^ 32) ≡ word_of d a b c
rot8 a b c d ha hb hc hd =
    let hi : (word_of a b c d * 2 ^ 24) % 2 ^ 32 ≡ d * 2 ^ 24 = omega arith in
    let lo : word_of a b c d / 2 ^ 8 < 2 ^ 24 = omega arith in
    let s : d * 2 ^ 24 + word_of a b c d / 2 ^ 8 ≡ word_of d a b c = omega arith in
    ap (bit_or (word_of a b c d / 2 ^ 8)) hi ∙ or_shifted_r d 24 (word_of a b c d / 2 ^ 8) lo ∙ s

pub rot16 : (a b c d : ℕ) → a < 256 → b < 256 → c < 256 → d < 256
    → bit_or (word_of a b c d / 2 ^ 16) ((word_of a b c d * 2 ^ 16) % 2 ^ 32) ≡ word_of c d a b
rot16 a b c d ha hb hc hd =
    let hi : (word_of a b c d * 2 ^ 16) % 2 ^ 32 ≡ (c * 256 + d) * 2 ^ 16 = omega arith in
    let lo : word_of a b c d / 2 ^ 16 < 2 ^ 16 = omega arith in
    let s : (c * 256 + d) * 2 ^ 16 + word_of a b c d / 2 ^ 16 ≡ word_of c d a b = omega arith in
    ap (bit_or (word_of a b c d / 2 ^ 16)) hi ∙ or_shifted_r (c * 256 + d) 16 (word_of a b c d / 2 ^ 16) lo ∙ s

pub rot24 : (a b c d : ℕ) → a < 256 → b < 256 → c < 256 → d < 256
    → bit_or (word_of a b c d / 2 ^ 24) ((word_of a b c d * 2 ^ 8) % 2 ^ 32) ≡ word_of b c d a
rot24 a b c d ha hb hc hd =
    let hi : (word_of a b c d * 2 ^ 8) % 2 ^ 32 ≡ (b * 65536 + c * 256 + d) * 2 ^ 8 = omega arith in
    let lo : word_of a b c d / 2 ^ 24 < 2 ^ 8 = omega arith in
    let s : (b * 65536 + c * 256 + d) * 2 ^ 8 + word_of a b c d / 2 ^ 24 ≡ word_of b c d a = omega arith in
    ap (bit_or (word_of a b c d / 2 ^ 24)) hi ∙ or_shifted_r (b * 65536 + c * 256 + d) 8 (word_of a b c d / 2 ^ 24) lo ∙ s
