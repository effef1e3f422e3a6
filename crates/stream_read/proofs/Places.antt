-- Which blocks a file has.
use Rattle.std.proofs.Common.{◌≡◌, ℕ, suc, ◌+◌, ◌*◌, ◌<◌, true, suc-mul, arith}
use Rattle.std.proofs.Math.Nat.{lt_of_mul-lt-mul_right}
use Rattle.std.proofs.lemmas.Bool.{ltb-true}
use Rattle.layout.specs.declared.shape.Shape.{Shape}
use Rattle.layout.specs.declared.shape.Shape.TheVariants.{Full, Partial}
use Rattle.layout.specs.Format.{plain_bytes, block_count_of}
use Rattle.layout.specs.Lengths.{proper}

-- the file has a block whose plaintext would start before the end
pub block_there : (i b : ℕ) (s : Shape) → proper b s ≡ true → i * b < plain_bytes b s → i < block_count_of s
block_there i b (Full q) e h = lt_of_mul-lt-mul_right b h
block_there i b (Partial q n) e h =
    let l = ltb-true n b e in
    let m : suc q * b ≡ q * b + b = suc-mul q b in
    let k : i < suc q = lt_of_mul-lt-mul_right b (omega arith) in
    omega arith
