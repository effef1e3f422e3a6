-- A list of nonces in which no two are the same, and what is left of it after some draws.
use Rattle.std.specs.Prelude.{◌≡◌, ℕ, zero, suc, ◌+◌, ◌<◌, ◌≤◌, false, ◌≢◌, List, [], ◌∷◌, length, drop, Err, Decides, slice_index_or, refl}
use Rattle.std.proofs.Common.{sym, ap, ◌∙◌, arith, below_more}
use Rattle.std.proofs.lemmas.Bool.{false≢true}
use Rattle.std.proofs.lemmas.List.{length-drop, get_or-drop, drop_all, drop_more}
use Rattle.error.specs.declared.cipher.CipherError.TheVariants.{NoncesExhausted}
use Rattle.aead.specs.Draws.{Distinct, Twelve, Drawn}
use Rattle.aead.specs.Recorded.{TwelveAt, Twice, twelve_all}

-- no two of the places below n hold the same
abbrev Apart : List (List ℕ) → ℕ → Type 0
Apart xs n = (a b : ℕ) → a < b → b < n → slice_index_or xs a [] ≢ slice_index_or xs b []

pub apart_more : (xs : List (List ℕ)) (j i : ℕ) → j ≤ i → Apart xs j
    → ((a : ℕ) → a < i → slice_index_or xs a [] ≢ slice_index_or xs j []) → Apart xs (j + 1)
apart_more xs j i h p q a b l m =
    below_more (λ (y : ℕ). a < y → slice_index_or xs a [] ≢ slice_index_or xs y []) j (λ y k g. p a y g k) (λ g. q a (omega arith)) b m l

pub apart_none : (xs : List (List ℕ)) (j : ℕ) → length xs ≤ j → Apart xs j → Decides false (Twice xs)
apart_none xs j h p = (
  λ e. absurd (false≢true e),
  λ t. let m = t.3 in absurd (p t.0 t.1 t.2 (omega arith) t.4),
)

pub drop_distinct : (n : ℕ) (xs : List (List ℕ)) → Distinct xs → Distinct (drop n xs)
drop_distinct n xs d i j l m e =
    let k = length-drop n xs in
    d (n + i) (n + j) (omega arith) (omega arith) (sym (get_or-drop n xs i []) ∙ e ∙ get_or-drop n xs j [])

pub drop_twelve : (n : ℕ) (xs : List (List ℕ)) → TwelveAt xs → Twelve (drop n xs)
drop_twelve zero xs h = twelve_all xs h
drop_twelve (suc n) [] h = tt
drop_twelve (suc n) (x ∷ xs) h = drop_twelve n xs (λ k l. h (suc k) (omega arith))

pub drop_drawn : (n : ℕ) (xs : List (List ℕ)) (x : List ℕ) → n < length xs → x ≡ slice_index_or xs n x → drop n xs ≡ x ∷ drop (n + 1) xs
drop_drawn n xs x h e = drop_more xs n x h ∙ ap (λ y. y ∷ drop (n + 1) xs) (sym e)

pub drop_exhausted : (n : ℕ) (xs : List (List ℕ)) → length xs ≤ n → Drawn (drop n xs) (Err NoncesExhausted) (drop n xs)
drop_exhausted n xs h = (drop_all n xs h, refl, drop_all n xs h)
