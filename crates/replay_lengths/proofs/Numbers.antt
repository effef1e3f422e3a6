-- Numbers as they are printed.
use Rattle.std.proofs.Common.{◌≡◌, ℕ, ◌^◌, ◌<◌, ◌≤◌, Bool, true, false, ◌⊎◌, List, length, get_or, Ok, Err, decimal, Decides, Option, Result, sym, ap, ◌∙◌, subst, inl, inr, ⊎_elim, arith}
use Rattle.std.proofs.lemmas.Fmt.{decimal_is_IsNumeral, decimal_digit, decimal-digits_value, first_decimal, parse-decimal}
use Rattle.std.proofs.lemmas.Str.Parse.{IsNumeralModel, digit_at, numerals_by_value, tells_digits, parse_plain}
use Rattle.std.proofs.lemmas.Bool.{both_ways, cases_lt}
use Rattle.std.specs.Str.Parse.{AllDigits, digits_value, ParsesUnsigned}
use Rattle.std.specs.Result.{result_ok}
use Rattle.std.specs.Int.{IsInRange}
use Rattle.replay_lengths.specs.Listed.{Reads}

own : IsNumeralModel (AllDigits 10) (digits_value 10)
own = numerals_by_value (AllDigits 10) tells_digits

-- a printed number consists of digits, and begins with one
pub all_digits : (n i : ℕ) → n < 2 ^ 64 → i < length (decimal n) → IsInRange 48 57 (get_or (decimal n) i 0)
all_digits n i h l = digit_at (decimal n) i (decimal_is_IsNumeral n h).0.1 l

pub first_digit : (n : ℕ) (bs : List ℕ) → n < 2 ^ 64 → bs ≡ decimal n → IsInRange 48 57 (get_or bs 0 0)
first_digit n bs h e = subst (λ s. IsInRange 48 57 (get_or s 0 0)) (sym e) (all_digits n 0 h (decimal_is_IsNumeral n h).0.0)

-- and with 0 only if it is 0
pub leading_zero : (n : ℕ) (bs : List ℕ) → n < 2 ^ 64 → bs ≡ decimal n → get_or bs 0 0 ≡ 48 → length bs ≡ 1
leading_zero n bs h e z =
    ⊎_elim
    (λ (s : 0 < n). let f = first_decimal n s h in let g = ap (λ s. get_or s 0 0) e in absurd (omega arith))
    (λ (s : n ≤ 0). let k : n ≡ 0 = omega arith in ap length (e ∙ ap decimal k ∙ decimal_digit 0 (omega arith)))
    (cases_lt 0 n)

-- a text that passed the test for a leading zero
pub no_leading_zero : (bs : List ℕ) (r : Bool) → Decides r (get_or bs 0 0 ≡ 48) → ((r ≡ true) × (length bs ≤ 1)) ⊎ (r ≡ false) → get_or bs 0 0 ≡ 48 → length bs ≤ 1
no_leading_zero bs r d (inl h) e = h.1
no_leading_zero bs r d (inr h) e = absurd (both_ways r h (d.1 e))

-- what `parse` answers at a text with no sign and no leading zero
parsed : {E : Type 0} (bs : List ℕ) (r : Result ℕ E) → ParsesUnsigned 64 10 bs r → (get_or bs 0 0 ≡ 43 → ⊥) → (get_or bs 0 0 ≡ 48 → length bs ≤ 1) → Reads (λ n. n < 2 ^ 64) decimal bs (result_ok r)
parsed {E} bs (Ok x) h p z =
    let c = parse_plain own {E = E} 64 bs (Ok x) h p in
    (omega (arith, c.0.2, c.1), sym (ap decimal c.1 ∙ decimal-digits_value own bs c.0.0 c.0.1 (λ e. omega (arith, z e, c.0.1)) c.0.2))
parsed bs (Err y) h p z = λ n f e. let k = parse-decimal 64 n bs (Err y) f f e h in let o : ◌≡◌ {A = ℕ} 0 1 = cc in omega arith

pub reads_number : {E : Type 0} (bs : List ℕ) (r : Result ℕ E) (o : Option ℕ) → o ≡ result_ok r → ParsesUnsigned 64 10 bs r → (get_or bs 0 0 ≡ 43 → ⊥) → (get_or bs 0 0 ≡ 48 → length bs ≤ 1) → Reads (λ n. n < 2 ^ 64) decimal bs o
reads_number bs r o e h p z = subst (Reads (λ n. n < 2 ^ 64) decimal bs) (sym e) (parsed bs r h p z)
