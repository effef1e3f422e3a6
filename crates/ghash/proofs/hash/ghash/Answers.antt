use Rattle.std.proofs.Common.{◌≡◌, ◌≢◌, ℕ, ◌+◌, ◌*◌, ◌/◌, List, [], length, get_or, drop, refl, sym, ap, ◌∙◌, append-nil, arith}
use Rattle.std.proofs.lemmas.Bool.{eqb-true, eqb-false}
use Rattle.std.proofs.Math.Seq.{take-length}
use Rattle.ghash.specs.Ghash.{block_of, Y, ghash}
use Rattle.ghash.proofs.Blocks.{chunk_block}
use Rattle.ghash.proofs.Joins.{next_Y}
use Rattle.ghash.proofs.hash.ghash.Goals as goal

pub loop-block-init : goal.loop-block-init
unfolding Y
loop-block-init c = refl

pub loop-block-preserved : goal.loop-block-preserved
loop-block-preserved c =
    let i : ℕ = c.loop-block.block-index in
    let e : c.load_block.result ≡ block_of (drop (i * 16) c.args.s.now) =
    c.load_block.ensures
    ∙ ap (λ (bs : List (List ℕ)). block_of (get_or bs i [])) c.as_chunks.ensures.front
    ∙ chunk_block (length c.args.s.now / 16) i c.args.s.now (omega arith) in
    next_Y c.args.h c.args.y c.args.s.now i _ c.loop-block.sum c.load_block.result c.product-sum.result (omega arith)
    c.loop-block.invariant e c.product-sum.ensures.value

pub returns-then-not-is_empty : goal.returns-then-not-is_empty
unfolding ghash
returns-then-not-is_empty c =
    let i : ℕ = c.loop-block.block-index in
    let some : length c.as_chunks.result.1.now ≢ 0 = eqb-false _ _ (sym c.is_empty.ensures ∙ c.if-not-is_empty.true) in
    let at : length c.args.s.now / 16 * 16 ≡ i * 16 = omega arith in
    let e : c.load_padded.result ≡ block_of (drop (i * 16) c.args.s.now) =
    c.load_padded.ensures ∙ ap block_of (simp (append-nil, take-length) (c.as_chunks.ensures.back ∙ ap (λ (n : ℕ). drop n c.args.s.now) at)) in
    next_Y c.args.h c.args.y c.args.s.now i _ c.loop-block.sum c.load_padded.result c.product-sum-then-not-is_empty.result (omega arith)
    c.loop-block.invariant e c.product-sum-then-not-is_empty.ensures.value

pub returns-else-not-is_empty : goal.returns-else-not-is_empty
unfolding ghash
returns-else-not-is_empty c =
    let none : length c.as_chunks.result.1.now ≡ 0 = eqb-true _ _ (sym c.is_empty.ensures ∙ c.if-not-is_empty.false) in
    let e : c.loop-block.block-index ≡ (length c.args.s.now + 15) / 16 = omega arith in
    c.loop-block.invariant ∙ ap (Y c.args.h c.args.y c.args.s.now) e
