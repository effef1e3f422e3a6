use Rattle.std.proofs.Common.{◌≡◌, ◌/◌, ap, ◌∙◌, append-nil, arith}
use Rattle.aes.specs.Cipher.{xor_bytes}
use Rattle.gcm.specs.Gcm.{bytes_big, masked}
use Rattle.gcm.proofs.tag.masked.Goals as goal

pub returns : goal.returns
unfolding bytes_big masked
returns c =
    let e : c.args.hash / 1 ≡ c.args.hash = omega arith in
    let b : c.to_be_bytes-tag.result ≡ bytes_big 16 c.args.hash = cc in
    c.xor_block.ensures ∙ rw (b, append-nil) (ap (xor_bytes (bytes_big 16 c.args.hash)) c.block.ensures)
