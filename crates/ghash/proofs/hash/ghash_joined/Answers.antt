use Rattle.std.proofs.Common.{◌≡◌, ◌≢◌, ℕ, ◌*◌, ◌/◌, List, length, sym, ◌∙◌, arith}
use Rattle.std.proofs.lemmas.Bool.{eqb-true, eqb-false}
use Rattle.std.proofs.lemmas.List.{take_all, take-append-drop}
use Rattle.ghash.proofs.Joins.{ghash-append, joined_is}
use Rattle.ghash.proofs.hash.ghash_joined.Goals as goal

pub returns-then-is_empty : goal.returns-then-is_empty
returns-then-is_empty c =
    let a : List ℕ = c.args.a.now in
    let none : length c.split_at.result.1.now ≡ 0 = eqb-true _ _ (sym c.is_empty.ensures ∙ c.if-is_empty.true) in
    let e : c.split_at.result.0.now ≡ a = c.split_at.ensures.front ∙ take_all _ a (omega arith) in
    let f = ghash-append c.args.h (length a / 16) c.args.y a c.args.t.now (omega arith) in
    cc

pub returns : goal.returns
returns c =
    let some : length c.split_at.result.1.now ≢ 0 = eqb-false _ _ (sym c.is_empty.ensures ∙ c.if-is_empty.false) in
    let a = take-append-drop (length c.args.a.now / 16 * 16) c.args.a.now in
    let t = take-append-drop c.min.result c.args.t.now in
    let e =
    joined_is c.args.h c.args.y (length c.args.a.now / 16) c.ghash-front.result c.product-middle.result c.ghash-2.result
    c.split_at.result.0.now c.split_at.result.1.now c.split_at-2.result.0.now c.split_at-2.result.1.now
    (omega arith) (omega arith) (omega arith) (λ s. omega arith)
    c.ghash-front.ensures (cc) c.ghash-2.ensures in
    cc (c.split_at.ensures.front, c.split_at.ensures.back, c.split_at-2.ensures.front, c.split_at-2.ensures.back)
