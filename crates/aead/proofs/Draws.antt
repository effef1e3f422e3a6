-- A draw takes the first nonce of a counter.
use Rattle.std.specs.Prelude.{◌≡◌, ℕ, suc, ◌+◌, ◌-◌, ◌^◌, ◌<◌, List, ◌∷◌, ◌++◌, length, Some, None, Option, refl}
use Rattle.std.proofs.Common.{ap, arith}
use borrow.Rule.Slice.PartMut.{put_mid}
use Rattle.std.proofs.lemmas.List.{append-nil, take_at, drop_at, drop_all}
use Rattle.std.specs.Option.{SomeIff}
use Rattle.aead.specs.Counters.{be8, counted, counted_from}

-- a list that is written over from its n-th place to its end
pub written : (xs ys old : List ℕ) (n k : ℕ) → length xs ≡ n → length old ≡ k → put_mid n k (xs ++ old) ys ≡ xs ++ ys
written xs ys old n k e g = rw (take_at xs old n e, drop_at xs old n e, drop_all k old (omega arith), append-nil ys)

counted_after : (f : List ℕ) (n m : ℕ) (after : Option ℕ) → n < 2 ^ 64 → m ≡ 2 ^ 64 - (n + 1) → SomeIff after (n + 1 < 2 ^ 64) (n + 1)
    → counted f (n + 1) m ≡ counted_from f after
unfolding counted
counted_after f n m None h e c = let q : m ≡ 0 = omega arith in rw q refl
counted_after f n m (Some x) h e c = let q = c.1 in rw (q, e) refl

pub drawn : (f bytes : List ℕ) (next : Option ℕ) (n : ℕ) (after : Option ℕ) → next ≡ Some n → n < 2 ^ 64 → bytes ≡ f ++ be8 n
    → SomeIff after (n + 1 < 2 ^ 64) (n + 1) → counted_from f next ≡ bytes ∷ counted_from f after
unfolding counted
drawn f bytes next n after s h b c =
    let m : ℕ = 2 ^ 64 - (n + 1) in
    let k : 2 ^ 64 - n ≡ suc m = omega arith in
    rw (s, b, k) (ap (λ w. (f ++ be8 n) ∷ w) (counted_after f n m after h refl c))
