-- The nonces of a counter: four fixed bytes, and then a counting value in eight bytes, most significant first.
use Rattle.std.specs.Prelude.{ℕ, zero, suc, ◌+◌, ◌-◌, ◌/◌, ◌%◌, ◌^◌, List, [], ◌∷◌, ◌++◌, Some, None, Option}

-- a value below 2^64 in eight bytes, most significant first
abbrev pub be8 : ℕ → List ℕ
be8 n = (n / 2 ^ 56) % 256 ∷ (n / 2 ^ 48) % 256 ∷ (n / 2 ^ 40) % 256 ∷ (n / 2 ^ 32) % 256 ∷ (n / 2 ^ 24) % 256 ∷ (n / 2 ^ 16) % 256 ∷ (n / 2 ^ 8) % 256 ∷ n % 256 ∷ []

-- so many nonces, from the value n on
unfoldable pub counted : List ℕ → ℕ → ℕ → List (List ℕ)
counted fixed n zero = []
counted fixed n (suc k) = (fixed ++ be8 n) ∷ counted fixed (n + 1) k

-- the nonces from the next value to the last one, 2^64 - 1; where there is no next value, none
abbrev pub counted_from : List ℕ → Option ℕ → List (List ℕ)
counted_from fixed (Some n) = counted fixed n (2 ^ 64 - n)
counted_from fixed None = []
