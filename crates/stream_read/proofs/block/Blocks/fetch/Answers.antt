use Rattle.std.proofs.Common.{◌≡◌, ℕ, List, length, Err, refl, inr, arith, rules}
use Rattle.std.proofs.lemmas.Grind.{common_steps}
use Rattle.error.specs.declared.cipher.CipherError.TheVariants.{NotAuthentic}
use Rattle.error.specs.declared.stream.StreamError.TheVariants.{Cipher}
use Rattle.layout.specs.Format.{block_aad}
use Rattle.aead.specs.Seals.{Sealed, key_of, sealing}
use Rattle.sealed_text.specs.Frame.{framed, nonce_in}
use Rattle.stream_read.specs.Blocks.{block_in, Reaches}
use Rattle.stream_read.specs.Readers.{size_of, plain_of}
use Rattle.stream_read.proofs.Fetches.{none_seals_block}
use Rattle.stream_read.proofs.block.Blocks.fetch.Goals as goal

pub returns-in_err-at_block-2 : goal.returns-in_err-at_block-2
returns-in_err-at_block-2 g c =
    let s = c.args.self.now.reader.now in
    let i = c.args.number in
    let keyed = c.args.self.now.keyed.now in
    let bs : List ℕ = g.R.FileRead.bytes c.args.self.now.source.now in
    let x : List ℕ = block_in (size_of s) (plain_of s) bs i in
    let h : Reaches (size_of s) (plain_of s) bs i = search rules in
    let n : List ℕ = c.unwrap-nonce.result.0.now in
    let p : Sealed = record { text = c.unwrap-text.result.0.now; tag = c.unwrap-text.result.1.now } in
    let en : n ≡ nonce_in x = search rules in
    let ep : x ≡ framed n p = grind (arith, common_steps) in
    let l : length p.tag ≡ 16 = grind (arith, common_steps) in
    let e : c.from_residual-in_err-at_block-2.result ≡ Err (Cipher (record { error = NotAuthentic; block = i })) = search rules in
    rw e (inr (h, none_seals_block (sealing g.A.Aead.sealed keyed) (block_aad s.prefix.items i) x n p (g.met.A.Aead.tags keyed.cipher.now (key_of keyed.key.now)) en ep l (search rules), refl))
