use Rattle.std.proofs.Common.{◌≡◌, length, sym, refl, ap, ◌∙◌, arith, rules}
use Rattle.aead.specs.Seals.{key_of}
use Rattle.sealed_text.proofs.Writes.{not_refused, frame_written}
use Rattle.sealed_text.proofs.seal.seal_text.Goals as goal

pub returns : goal.returns
returns g c =
    let f = g.A.Aead.sealed c.args.keyed.now.cipher.now (key_of c.args.keyed.now.key.now) in
    let text = c.args.text.now in
    let out = c.args.out.now in
    let nonce = c.in_ok-nonce.nonce.bytes in
    let nn = c.copy_from_slice.new.self in
    let drawn = c.in_ok-nonce.ensures in
    let n : nn ≡ nonce = c.copy_from_slice.ensures.after ∙ c.as_bytes.ensures in
    let l : length nn ≡ 12 = search rules in
    let m : length c.copy_from_slice-2.new.self ≡ length text = search rules in
    let k : length c.seal-tag.new.text ≡ length text = search rules in (
      not_refused (length text) (length c.args.aad.now) (length out) nonce _ _ (omega arith) (omega arith) (omega arith) drawn,
      refl,
      (
        nonce,
        sym (ap length n) ∙ l,
        drawn,
        frame_written f out nonce nn c.args.aad.now text c.copy_from_slice-2.new.self c.seal-tag.new.text c.seal-tag.result c.copy_from_slice-3.new.self
            (omega arith) l m k n c.copy_from_slice-2.ensures.after c.copy_from_slice-3.ensures.after c.seal-tag.ensures,
      ),
    )
