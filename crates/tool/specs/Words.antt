-- What the words after the program's name ask.
use Rattle.std.specs.Prelude.{◌≡◌, ℕ, ◌^◌, ◌<◌, min, List, [], ◌∷◌, Some, None, Ok, Err, codes, Option, Result, ◌≢◌}
use Rattle.std.specs.Str.Parse.{IsNumeral, digits_value, without_leading_plus}
use Rattle.tool.specs.declared.command.Command.{Command}
use Rattle.tool.specs.declared.command.Command.TheVariants.{Account, Help, Length}
use Rattle.tool.specs.declared.command.UsageError.{UsageError}
use Rattle.tool.specs.declared.command.UsageError.TheVariants.{UnknownCommand, TooFewArguments, TooManyArguments, BlockSize, FileLength}

-- a word of decimal digits, perhaps after a plus, that writes a number of 64 bits
abbrev pub IsNumber : List ℕ → Type 0
IsNumber w = IsNumeral 10 (without_leading_plus w) × (digits_value 10 (without_leading_plus w) < 2 ^ 64)

abbrev pub NumberRead : List ℕ → Option ℕ → Type 0
NumberRead w (Some n) = IsNumber w × (n ≡ digits_value 10 (without_leading_plus w))
NumberRead w None = IsNumber w → ⊥

abbrev pub HelpAsked : List (List ℕ) → Result Command UsageError → Type 0
HelpAsked [] r = r ≡ Ok Help
HelpAsked (w ∷ ws) r = r ≡ Err TooManyArguments

abbrev pub NumbersAsked : List ℕ → List ℕ → Result Command UsageError → Type 0
NumbersAsked b l r =
    (IsNumber b → IsNumber l → r ≡ Ok (Length (min (digits_value 10 (without_leading_plus b)) 4294967295) (digits_value 10 (without_leading_plus l))))
    × ((IsNumber b → ⊥) → r ≡ Err BlockSize)
    × (IsNumber b → (IsNumber l → ⊥) → r ≡ Err FileLength)

abbrev pub LengthAsked : List (List ℕ) → Result Command UsageError → Type 0
LengthAsked [] r = r ≡ Err TooFewArguments
LengthAsked (b ∷ []) r = r ≡ Err TooFewArguments
LengthAsked (b ∷ (l ∷ [])) r = NumbersAsked b l r
LengthAsked (b ∷ (l ∷ (w ∷ ws))) r = r ≡ Err TooManyArguments

abbrev pub Asked : List (List ℕ) → Result Command UsageError → Type 0
Asked [] r = r ≡ Ok Account
Asked (c ∷ ws) r =
    (c ≡ codes "help" → HelpAsked ws r)
    × (c ≡ codes "length" → LengthAsked ws r)
    × ((c ≢ codes "help") → (c ≢ codes "length") → r ≡ Err UnknownCommand)
