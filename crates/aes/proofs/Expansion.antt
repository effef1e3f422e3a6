-- The key expansion, word by word.
use Rattle.std.proofs.Common.{◌≡◌, ℕ, zero, suc, ◌+◌, ◌-◌, ◌*◌, ◌<◌, ◌≤◌, List, [], ◌∷◌, ◌++◌, length, get_or, take, set, sym, refl, ap, ◌∙◌, arith}
use Rattle.std.proofs.lemmas.List.{take_more_set, length-take-le, get_or-take}
use Rattle.aes.specs.KeyExpansion.{next_word, expand, round_key}

-- one word more at the end
expand_more : (nk n : ℕ) (ws : List ℕ) → expand nk (suc n) ws ≡
    expand nk n ws ++ next_word nk (length (expand nk n ws)) (get_or (expand nk n ws) (length (expand nk n ws) - 1) 0) (get_or (expand nk n ws) (length (expand nk n ws) - nk) 0) ∷ []
unfolding expand
expand_more nk zero ws = refl
expand_more nk (suc n) ws = expand_more nk n (ws ++ next_word nk (length ws) (get_or ws (length ws - 1) 0) (get_or ws (length ws - nk) 0) ∷ [])

pub expand_turn : (w : List ℕ) (ks : List ℕ) (nk i x : ℕ) → 4 ≤ nk → nk ≤ i → i < length w
    → take i w ≡ expand nk (i - nk) ks
    → x ≡ next_word nk i (get_or w (i - 1) 0) (get_or w (i - nk) 0)
    → take (i + 1) (set w i x) ≡ expand nk (i + 1 - nk) ks
expand_turn w ks nk i x h4 hn hi e f =
    let l : length (take i w) ≡ i = length-take-le i w (omega arith) in
    let le : length (expand nk (i - nk) ks) ≡ i = ap length (sym e) ∙ l in
    let s : i + 1 - nk ≡ suc (i - nk) = omega arith in
    let a : get_or (expand nk (i - nk) ks) (i - 1) 0 ≡ get_or w (i - 1) 0 = ap (λ (t : List ℕ). get_or t (i - 1) 0) (sym e) ∙ get_or-take i w (i - 1) 0 (omega arith) in
    let b : get_or (expand nk (i - nk) ks) (i - nk) 0 ≡ get_or w (i - nk) 0 = ap (λ (t : List ℕ). get_or t (i - nk) 0) (sym e) ∙ get_or-take i w (i - nk) 0 (omega arith) in
    let m = expand_more nk (i - nk) ks in
    let t = take_more_set w i x hi in
    cc

pub expand_none : (nk : ℕ) (ks : List ℕ) → ks ≡ expand nk (nk - nk) ks
unfolding expand
expand_none nk ks =
    let e : nk - nk ≡ 0 = omega arith in
    sym (ap (λ (n : ℕ). expand nk n ks) e)

-- a round key lies in the words before its end
pub key_of_front : (w : List ℕ) (n i : ℕ) → i * 4 + 3 < n → round_key (take n w) i ≡ round_key w i
unfolding round_key
key_of_front w n i h =
    let e0 = get_or-take n w (i * 4) 0 (omega arith) in
    let e1 = get_or-take n w (i * 4 + 1) 0 (omega arith) in
    let e2 = get_or-take n w (i * 4 + 2) 0 (omega arith) in
    let e3 = get_or-take n w (i * 4 + 3) 0 h in
    cc
