use Rattle.std.proofs.Common.{◌≡◌, ℕ, List, [], ◌∷◌, length, get_or, ◌∙◌, arith, rules}
use Rattle.std.specs.List.{flat_map}
use Rattle.aes.specs.Words.{word_bytes, bytes_of_words}
use Rattle.aes.proofs.block.Block.to_bytes.Goals as goal

flattened : (words : List (List ℕ)) (a b c d : ℕ) → length words ≡ 4
    → get_or words 0 [] ≡ word_bytes a → get_or words 1 [] ≡ word_bytes b → get_or words 2 [] ≡ word_bytes c → get_or words 3 [] ≡ word_bytes d
    → flat_map (λ x. x) words ≡ bytes_of_words a b c d
flattened [] a b c d l e f g h = absurd (omega arith)
flattened (w ∷ []) a b c d l e f g h = absurd (omega arith)
flattened (w ∷ x ∷ []) a b c d l e f g h = absurd (omega arith)
flattened (w ∷ x ∷ y ∷ []) a b c d l e f g h = absurd (omega arith)
flattened (w ∷ x ∷ y ∷ z ∷ []) a b c d l e f g h = cc
flattened (w ∷ x ∷ y ∷ z ∷ more ∷ rest) a b c d l e f g h = absurd (omega arith)

pub returns : goal.returns
returns c =
    let x = c.args.self in
    let same : c.unwrap.result ≡ flat_map (λ x. x) c.map-words.result = search rules in
    same
    ∙ flattened c.map-words.result x.a x.b x.c x.d c.map-words.ensures.items.long (search rules) (search rules) (search rules) (search rules)
