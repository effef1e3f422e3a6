-- The parts of a line.
use Rattle.std.proofs.Common.{◌≡◌, ℕ, ◌^◌, ◌<◌, List, [], ◌∷◌, ◌++◌, length, get_or, None, codes, decimal, Option, sym, ap, ◌∙◌, subst, append_assoc, append-nil, arith, Bor, MatchOption}
use Rattle.std.proofs.lemmas.Fmt.{decimal_injective}
use Rattle.std.proofs.lemmas.List.Prefix.{front_rest}
use Rattle.std.proofs.lemmas.List.{flat_map_more}
use Rattle.std.proofs.lemmas.Str.Pattern.{IsSplitOnceResult, split_after}
use Rattle.replay_lengths.specs.declared.Answer.{Answer}
use Rattle.replay_lengths.specs.declared.Answer.TheVariants.{Plaintext, Refused}
use Rattle.replay_lengths.specs.declared.Case.{Case}
use Rattle.replay_lengths.specs.Listed.{Reads, AnswerFits, CaseFits, answer_text, case_text, line_text, list_text}
use Rattle.replay_lengths.proofs.Numbers.{first_digit, all_digits}

pub reads_none : {X : Type 0} (fits : X → Type 0) (text : X → List ℕ) (bs : List ℕ) {o : Option X} → o ≡ None → ((x : X) → fits x → bs ≡ text x → ⊥) → Reads fits text bs o
reads_none fits text bs e h = subst (Reads fits text bs) (sym e) h

-- a text that begins as a refusal does is that of no plaintext
pub refusal : (bs code : List ℕ) → bs ≡ codes "refused " ++ code → (x : Answer) → AnswerFits x → bs ≡ answer_text x → (n : ℕ) × (n < 2 ^ 8) × (code ≡ decimal n)
refusal bs code e (Plaintext n) f h = let d = first_digit n bs f h in let r : get_or bs 0 0 ≡ 114 = ap (λ s. get_or s 0 0) e in absurd (omega arith)
refusal bs code e (Refused n) f h = (n, f, sym (front_rest bs (codes "refused ") code e) ∙ front_rest bs (codes "refused ") (decimal n) h)

-- nor is it that of a refusal if its number is too large for a code
pub no_code : (bs code : List ℕ) (n : ℕ) → bs ≡ codes "refused " ++ code → n < 2 ^ 64 → code ≡ decimal n → (n < 2 ^ 8 → ⊥) → (x : Answer) → AnswerFits x → bs ≡ answer_text x → ⊥
no_code bs code n e h d l x f t =
    let m = refusal bs code e x f t in
    let k = decimal_injective n m.0 h (omega (arith, m.1)) (sym d ∙ m.2) in
    l (omega (arith, k, m.1))

-- a line is cut at its first space
pub parts : (bs : List ℕ) (r : Option (Bor (List ℕ) × Bor (List ℕ))) → IsSplitOnceResult 32 bs r → (x : Case) → CaseFits x → bs ≡ case_text x → MatchOption r ⊥ (λ p. (p.0.now ≡ decimal x.file_length) × (p.1.now ≡ answer_text x.answer))
parts bs r h x f e =
    split_after 32 bs (decimal x.file_length) (answer_text x.answer) r h (omega arith) e
    (λ i l s. let d = all_digits x.file_length i f.0 l in omega arith)

pub whole : (bs a b : List ℕ) (x : Case) → bs ≡ a ++ 32 ∷ b → a ≡ decimal x.file_length → b ≡ answer_text x.answer → bs ≡ case_text x
whole bs a b x e ea eb = e ∙ ap (λ d. d ++ 32 ∷ b) ea ∙ ap (λ d. decimal x.file_length ++ 32 ∷ d) eb

-- one line more of the list, and its end
pub list_more : (bs rest line after : List ℕ) (cs ds : List Case) (x : Case) → bs ≡ list_text cs ++ rest → rest ≡ line ++ 10 ∷ after → line ≡ case_text x → ds ≡ cs ++ x ∷ [] → bs ≡ list_text ds ++ after
list_more bs rest line after cs ds x e s k p =
    e
    ∙ ap (λ r. list_text cs ++ r) (s ∙ ap (λ l. l ++ 10 ∷ after) k ∙ sym (append_assoc (case_text x) (10 ∷ []) after))
    ∙ sym (append_assoc (list_text cs) (line_text x) after)
    ∙ ap (λ l. l ++ after) (flat_map_more line_text [] cs x ∙ ap list_text (sym p))

pub list_end : (bs rest : List ℕ) (cs : List Case) → bs ≡ list_text cs ++ rest → length rest ≡ 0 → bs ≡ list_text cs
list_end bs [] cs e z = e ∙ append-nil (list_text cs)
list_end bs (b ∷ rest) cs e z = absurd (omega arith)
