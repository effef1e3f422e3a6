-- The values of a function from a place on.
use Rattle.std.proofs.Common.{◌≡◌, ℕ, zero, suc, ◌+◌, ◌<◌, ◌≤◌, List, ◌∷◌, map, length, get_or, take, drop, sym, refl, ap, ◌∙◌, arith}
use Rattle.std.proofs.lemmas.List.{drop_more, map-id}
use Rattle.aes.specs.KeyExpansion.{each}

module _ {X : Type 0} where
  pub each_same : (f g : ℕ → X) (i n : ℕ) → ((k : ℕ) → k < i + n → f k ≡ g k) → each f i n ≡ each g i n
  unfolding each
  each_same f g i zero h = refl
  each_same f g i (suc n) h =
      let e = h i (omega arith) in
      let t = each_same f g (i + 1) n (λ k l. h k (omega arith)) in
      cc

-- a part of a list, element by element
module _ {X Y : Type 0} (f : X → Y) (xs : List X) (d : X) where
  pub each_part : (i n : ℕ) → i + n ≤ length xs → map f (take n (drop i xs)) ≡ each (λ k. f (get_or xs k d)) i n
  unfolding each
  each_part i zero h = refl
  each_part i (suc n) h =
      ap (λ (ys : List X). map f (take (suc n) ys)) (drop_more xs i d (omega arith))
      ∙ ap (λ (ys : List Y). f (get_or xs i d) ∷ ys) (each_part (i + 1) n (omega arith))

-- the front of a list that holds the values from 0 on
pub front : {X : Type 0} (f : ℕ → X) (xs : List X) (d : X) (n : ℕ) → n ≤ length xs → ((k : ℕ) → k < n → get_or xs k d ≡ f k) → take n xs ≡ each f 0 n
front f xs d n l h =
    sym (map-id (take n xs)) ∙ each_part (λ x. x) xs d 0 n (omega arith)
    ∙ each_same (λ k. get_or xs k d) f 0 n (λ k m. h k (omega arith))
