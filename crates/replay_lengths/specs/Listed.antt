-- The list of file lengths with an answer for each: its text, and what is to be answered.
use Rattle.std.specs.Prelude.{◌≡◌, ℕ, ◌^◌, ◌<◌, Bool, true, false, List, [], ◌∷◌, ◌++◌, Some, None, Ok, Err, codes, decimal, Option, Result, ◌==◌, ◌≢◌}
use Rattle.std.specs.List.{flat_map}
use Rattle.code.specs.Codes.{code_number}
use Rattle.error.specs.Reports.{stream_report}
use Rattle.error.specs.declared.stream.StreamError.{StreamError}
use Rattle.layout.specs.Lengths.{measured, plain_length}
use Rattle.replay_lengths.specs.declared.Answer.{Answer}
use Rattle.replay_lengths.specs.declared.Answer.TheVariants.{Plaintext, Refused}
use Rattle.replay_lengths.specs.declared.Case.{Case}

-- the text of an answer, of a line and of the whole list
abbrev pub answer_text : Answer → List ℕ
answer_text (Plaintext n) = decimal n
answer_text (Refused n) = codes "refused " ++ decimal n

abbrev pub case_text : Case → List ℕ
case_text c = decimal c.file_length ++ 32 ∷ answer_text c.answer

abbrev pub line_text : Case → List ℕ
line_text c = case_text c ++ 10 ∷ []

abbrev pub list_text : List Case → List ℕ
list_text cs = flat_map line_text cs

-- the numbers fit their types
abbrev pub AnswerFits : Answer → Type 0
AnswerFits (Plaintext n) = n < 2 ^ 64
AnswerFits (Refused n) = n < 2 ^ 8

abbrev pub CaseFits : Case → Type 0
CaseFits c = (c.file_length < 2 ^ 64) × AnswerFits c.answer

-- what is read from the bytes bs: that of which they are the text, or nothing where they are the text of nothing that fits
abbrev pub Reads : {X : Type 0} → (X → Type 0) → (X → List ℕ) → List ℕ → Option X → Type 0
Reads {X} fits text bs None = (x : X) → fits x → bs ≢ text x
Reads fits text bs (Some x) = fits x × (bs ≡ text x)

-- an answer of the length function as the list has it: a number or the code of the refusal
abbrev pub told : Result ℕ StreamError → Answer
told (Ok n) = Plaintext n
told (Err e) = Refused (code_number (stream_report e).code)

-- what is to be answered for a file length, by the definition of lengths
abbrev pub answer_for : ℕ → Answer
answer_for l = told (plain_length 1048576 (measured 1048576 l))

abbrev pub same_answer : Answer → Answer → Bool
same_answer (Plaintext m) (Plaintext n) = m == n
same_answer (Plaintext m) (Refused n) = false
same_answer (Refused m) (Plaintext n) = false
same_answer (Refused m) (Refused n) = m == n

-- how many lines have a plaintext, how many a refusal, and how many another answer than is to be given
abbrev pub is_plaintext : Answer → Bool
is_plaintext (Plaintext n) = true
is_plaintext (Refused n) = false

abbrev pub agreed : Case → Bool
agreed c = same_answer (answer_for c.file_length) c.answer
