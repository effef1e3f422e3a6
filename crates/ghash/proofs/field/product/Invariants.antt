use Rattle.std.proofs.Common.{◌≡◌, ◌*◌, ◌%◌, ◌^◌}
use Rattle.ghash.specs.Ghash.{V, Z}
use Rattle.ghash.proofs.field.product.Given as goal

abbrev pub invariant-loop : goal.invariant-loop
invariant-loop l = record {
  sum : l.z ≡ Z l.x l.y l.counter;
  power : l.v ≡ V l.y l.counter;
  left : l.bits ≡ l.x * 2 ^ l.counter % 2 ^ 128;
}
