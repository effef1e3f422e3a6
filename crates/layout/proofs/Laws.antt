-- The computed lengths obey the law of lengths.
use Rattle.std.proofs.Common.{◌≡◌, ℕ, ◌+◌, ◌-◌, ◌*◌, ◌/◌, ◌%◌, ◌<◌, ◌≤◌, true, false, ◌&&◌, eqb, ltb, Ok, Err, sym, refl, ap, ◌∙◌, ⊎_elim, mod-lt, div-add-mod', mul-div_cancel, arith}
use native.Mathlib.Nat.{mul-mod_left}
use lib.Arith.{digits_div, digits_mod}
use Rattle.std.proofs.lemmas.Bool.{lt-ltb, le-ltb, eqb-true, eqb-false, eq-eqb, ne_eqb, ltb-true, ltb-false, and_from, and_parts, and_cases, and_left, and_right, cond-true, cond-false, cond_both, cases_lt, cases_eq, cases_Bool}
use Rattle.error.specs.declared.stream.StreamError.TheVariants.{CiphertextTooShort}
use Rattle.layout.specs.declared.shape.Shape.{Shape}
use Rattle.layout.specs.declared.shape.Shape.TheVariants.{Full, Partial}
use Rattle.layout.specs.Format.{InLimits, Proper, Closed, file_bytes, plain_bytes, block_count_of}
use Rattle.layout.specs.Lengths.{in_limits, shaped, measured, few, plain_length, closed_shape, closed, LengthLaw, ClosedLaw}

in_limits_true : (b : ℕ) → InLimits b → in_limits b ≡ true
in_limits_true b (lo, hi) = and_from (ltb 0 b) (ltb b 4294967268) (lt-ltb 0 b (omega arith)) (lt-ltb b 4294967268 (omega arith))

off_limits : (b : ℕ) → (InLimits b → ⊥) → in_limits b ≡ false
off_limits b o =
    ⊎_elim
    (λ (e : in_limits b ≡ true).
    let p = and_parts (ltb 0 b) (ltb b 4294967268) e in
    let lo = ltb-true 0 b p.0 in
    let hi = ltb-true b 4294967268 p.1 in
    absurd (o (omega arith, omega arith)))
    (λ (e : in_limits b ≡ false). e)
    (cases_Bool (in_limits b))

measured_in : (b l q r : ℕ) → InLimits b → 8 ≤ l → (l - 8) / (b + 28) ≡ q → (l - 8) % (b + 28) ≡ r → measured b l ≡ shaped q r
measured_in b l q r i h eq er =
    cond-true (in_limits b) _ _ (in_limits_true b i) ∙ cond-false (ltb l 8) _ _ (le-ltb l 8 h) ∙ ap (λ x. shaped x ((l - 8) % (b + 28))) eq ∙ ap (shaped q) er

-- each length of a file measures as that file
pub measured_file : (b l : ℕ) (s : Shape) → InLimits b → Proper b s → file_bytes b s ≡ l → measured b l ≡ Ok s
measured_file b l (Full q) i p e =
    let x : l - 8 ≡ q * (b + 28) = omega arith in
    measured_in b l q 0 i (omega arith)
    (ap (λ y. y / (b + 28)) x ∙ mul-div_cancel q (omega arith))
    (ap (λ y. y % (b + 28)) x ∙ mul-mod_left q (b + 28))
measured_file b l (Partial q n) i p e =
    let x : l - 8 ≡ q * (b + 28) + (28 + n) = omega arith in
    let c : 28 + n < b + 28 = omega arith in
    let y : 28 + n - 28 ≡ n = omega arith in
    measured_in b l q (28 + n) i (omega arith) (ap (λ y. y / (b + 28)) x ∙ digits_div q c) (ap (λ y. y % (b + 28)) x ∙ digits_mod q c)
    ∙ cond-false (eqb (28 + n) 0) _ _ (ne_eqb (28 + n) 0 (λ z. omega arith))
    ∙ cond-false (ltb (28 + n) 28) _ _ (le-ltb (28 + n) 28 (omega arith))
    ∙ ap (λ y. Ok (Partial q y)) y

-- a length of no file measures as too short a block
measured_none : (b l : ℕ) → InLimits b → 8 ≤ l → ((s : Shape) → Proper b s → file_bytes b s ≡ l → ⊥) → measured b l ≡ Err CiphertextTooShort
measured_none b l i h no-file =
    let d : (l - 8) / (b + 28) * (b + 28) + (l - 8) % (b + 28) ≡ l - 8 = div-add-mod' (l - 8) (b + 28) in
    let m : (l - 8) % (b + 28) < b + 28 = mod-lt (l - 8) (omega arith) in
    measured_in b l ((l - 8) / (b + 28)) ((l - 8) % (b + 28)) i h refl refl
    ∙ ⊎_elim
    (λ (z : (l - 8) % (b + 28) ≡ 0). absurd (no-file (Full ((l - 8) / (b + 28))) tt (omega arith)))
    (λ (z : (l - 8) % (b + 28) ≡ 0 → ⊥).
    cond-false (eqb ((l - 8) % (b + 28)) 0) _ _ (ne_eqb ((l - 8) % (b + 28)) 0 z)
    ∙ ⊎_elim
    (λ (t : (l - 8) % (b + 28) < 28). cond-true (ltb ((l - 8) % (b + 28)) 28) _ _ (lt-ltb ((l - 8) % (b + 28)) 28 t))
    (λ (t : 28 ≤ (l - 8) % (b + 28)). absurd (no-file (Partial ((l - 8) / (b + 28)) ((l - 8) % (b + 28) - 28)) (omega arith) (omega arith)))
    (cases_lt ((l - 8) % (b + 28)) 28))
    (cases_eq ((l - 8) % (b + 28)) 0)

-- a closed file holds its plaintext
closed_holds : (b n : ℕ) → InLimits b → Proper b (closed_shape b n) × Closed (closed_shape b n) × (plain_bytes b (closed_shape b n) ≡ n)
closed_holds b n i =
    let d : n / b * b + n % b ≡ n = div-add-mod' n b in
    let m : n % b < b = mod-lt n (omega arith) in
    cond_both (ltb 0 (n / b) && eqb (n % b) 0) (Full (n / b)) (Partial (n / b) (n % b)) (λ s. Proper b s × Closed s × (plain_bytes b s ≡ n))
    (λ z.
    let p = and_parts (ltb 0 (n / b)) (eqb (n % b) 0) z in
    let q = ltb-true 0 (n / b) p.0 in
    let r = eqb-true (n % b) 0 p.1 in
    (tt, omega arith, omega arith))
    (λ z. (
      m,
      (λ e. ⊎_elim
          (λ (y : ltb 0 (n / b) ≡ false). let q = ltb-false 0 (n / b) y in omega arith)
          (λ (y : eqb (n % b) 0 ≡ false). absurd (eqb-false (n % b) 0 y e))
          (and_cases (ltb 0 (n / b)) (eqb (n % b) 0) z)),
      d,
    ))

-- and is the only one that does
closed_one : (b n : ℕ) (s : Shape) → InLimits b → Proper b s → Closed s → plain_bytes b s ≡ n → closed_shape b n ≡ s
closed_one b n (Full q) i p o e =
    let x : n / b ≡ q = ap (λ y. y / b) (sym e) ∙ mul-div_cancel q (omega arith) in
    let y : n % b ≡ 0 = ap (λ y. y % b) (sym e) ∙ mul-mod_left q b in
    cond-true (ltb 0 (n / b) && eqb (n % b) 0) _ _ (and_from (ltb 0 (n / b)) (eqb (n % b) 0) (lt-ltb 0 (n / b) (omega arith)) (eq-eqb (n % b) 0 y))
    ∙ ap Full x
closed_one b n (Partial q m) i p o e =
    let x : n / b ≡ q = ap (λ y. y / b) (sym e) ∙ digits_div q p in
    let y : n % b ≡ m = ap (λ y. y % b) (sym e) ∙ digits_mod q p in
    cond-false (ltb 0 (n / b) && eqb (n % b) 0) _ _
    (⊎_elim
    (λ (z : m ≡ 0). let k = o z in and_left (ltb 0 (n / b)) (eqb (n % b) 0) (le-ltb 0 (n / b) (omega arith)))
    (λ (z : m ≡ 0 → ⊥). and_right (ltb 0 (n / b)) (eqb (n % b) 0) (ne_eqb (n % b) 0 (λ w. z (omega arith))))
    (cases_eq m 0))
    ∙ ap (λ w. Partial w (n % b)) x
    ∙ ap (Partial q) y

pub closed_law : (b n : ℕ) → ClosedLaw b n (closed b n)
closed_law b n =
    record {
      size = λ o. cond-false (in_limits b) _ _ (off_limits b o);
      some = λ i. let c = closed_holds b n i in (closed_shape b n, c.0, c.1, c.2);
      short = λ s i p o e h.
          cond-true (in_limits b) _ _ (in_limits_true b i) ∙ ap (λ y. few (Ok y)) (closed_one b n s i p o e) ∙ cond-false (ltb 4294967295 (block_count_of s)) _ _ (le-ltb 4294967295 (block_count_of s) h);
      long = λ s i p o e h.
          cond-true (in_limits b) _ _ (in_limits_true b i) ∙ ap (λ y. few (Ok y)) (closed_one b n s i p o e) ∙ cond-true (ltb 4294967295 (block_count_of s)) _ _ (lt-ltb 4294967295 (block_count_of s) h);
    }

pub length_law : (b l : ℕ) → LengthLaw b l (plain_length b (measured b l))
length_law b l =
    record {
      size = λ o. ap (plain_length b) (cond-false (in_limits b) _ _ (off_limits b o));
      short = λ i h. ap (plain_length b) (cond-true (in_limits b) _ _ (in_limits_true b i) ∙ cond-true (ltb l 8) _ _ (lt-ltb l 8 h));
      file = λ s i p e. ap (plain_length b) (measured_file b l s i p e);
      none = λ i h n. ap (plain_length b) (measured_none b l i h n);
      closed = λ n i e. let c = closed_holds b n i in ap (plain_length b) (measured_file b l (closed_shape b n) i c.0 e) ∙ ap Ok c.2;
      one = λ s t i p o e. let x = measured_file b (file_bytes b t) s i p e in let y = measured_file b (file_bytes b t) t i o refl in cc;
    }
