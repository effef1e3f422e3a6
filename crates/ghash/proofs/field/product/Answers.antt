use Rattle.std.proofs.Common.{◌≡◌, ℕ, ◌*◌, ◌/◌, ◌%◌, ◌^◌, refl, ap, ◌∙◌, arith}
use lib.Bits.{bit_xor}
use Rattle.ghash.specs.Ghash.{V, Z, bit, gmul}
use Rattle.ghash.proofs.Products.{first_bit, next_bits, added, not_added, next_Z, next_V, gmul-xor}
use Rattle.ghash.proofs.field.product.Goals as goal
use Rattle.ghash.proofs.field.product.Goals.{then-bits-eq1, else-bits-eq1}

pub loop-init : goal.loop-init
unfolding V Z
loop-init c = record { sum = refl; power = refl; left = omega arith }

pub loop-preserved : goal.loop-preserved
loop-preserved c =
    let i : ℕ = c.loop.counter in
    let b : ℕ = c.loop.bits / 2 ^ 127 in
    let is_bit : b ≡ bit c.args.x i = ap (λ (n : ℕ). n / 2 ^ 127) c.loop.invariant.left ∙ first_bit c.args.x i (omega arith) in
    let sum : c.if-bits-eq1.z ≡ bit_xor c.loop.z (b * c.loop.v) =
    elim c.if-bits-eq1.branch [
      | then-bits-eq1 w ↦ w.z-is ∙ added c.loop.z b c.loop.v w.if-bits-eq1.true
      | else-bits-eq1 w ↦ w.z-is ∙ not_added c.loop.z b c.loop.v (omega arith) w.if-bits-eq1.false
    ] in
    record {
      sum = next_Z c.args.x c.args.y i _ c.loop.z c.loop.v b c.if-bits-eq1.z (omega arith) c.loop.invariant.sum c.loop.invariant.power is_bit sum;
      power = next_V c.args.y i _ c.loop.v c.times_x-v.result (omega arith) c.loop.invariant.power c.times_x-v.ensures;
      left = ap (λ (n : ℕ). n * 2 % 2 ^ 128) c.loop.invariant.left ∙ next_bits c.args.x i;
    }

pub returns-clause-value : goal.returns-clause-value
unfolding gmul
returns-clause-value c =
    let e : c.loop.counter ≡ 128 = omega arith in
    c.loop.invariant.sum ∙ ap (Z c.args.x c.args.y) e

pub returns-clause-linear : goal.returns-clause-linear
returns-clause-linear c = λ u v. gmul-xor u v c.args.y
