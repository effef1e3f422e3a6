use Rattle.std.proofs.Common.{◌≡◌, ℕ, length, Ok, Err, Result, sym, ap, subst, rules}
use Rattle.error.specs.declared.cipher.CipherError.{CipherError}
use Rattle.aead.specs.Seals.{Sealed, key_of}
use Rattle.sealed_text.specs.Opening.{TextOpened}
use Rattle.sealed_text.proofs.Opens.{split_is, text_opens, text_refuses, sealed_opens}
use Rattle.sealed_text.proofs.open.open_text.Goals as goal

pub returns-in_err-open_into : goal.returns-in_err-open_into
returns-in_err-open_into g c =
    let k = key_of c.args.keyed.now.key.now in
    let f = g.A.Aead.sealed c.args.keyed.now.cipher.now k in
    let a = c.args.aad.now in
    let s = c.args.sealed.now in
    let out = c.args.out.now in
    let law = g.met.A.Aead in
    let e = c.in_err-open_into.field-0.0 in
    let r : c.from_residual-in_err-open_into.result ≡ Err e = search rules in
    let p = split_is s c.in_ok-nonce.rest.now c.in_ok-text.text.now c.in_ok-text.tag.now (search rules) (search rules) (search rules) (search rules) (search rules) in
    let pt = ap (λ (y : Sealed). y.text) p in
    let pg = ap (λ (y : Sealed). y.tag) p in
    let u = text_refuses f a s out c.open_into.new.out c.in_ok-nonce.nonce.now _ e (law.tags c.args.keyed.now.cipher.now k) c.in_err-open_into.ensures (cc) (search rules) (search rules) in
    let t = subst (λ (x : Result ℕ CipherError). TextOpened f a s out x c.open_into.new.out) (sym r) u in
    record {
      answer = t;
      back = sealed_opens f a s out c.open_into.new.out (law.tags c.args.keyed.now.cipher.now k) (law.keeps c.args.keyed.now.cipher.now k) (law.one c.args.keyed.now.cipher.now k) c.from_residual-in_err-open_into.result t;
    }

pub returns : goal.returns
returns g c =
    let k = key_of c.args.keyed.now.key.now in
    let f = g.A.Aead.sealed c.args.keyed.now.cipher.now k in
    let a = c.args.aad.now in
    let s = c.args.sealed.now in
    let out = c.args.out.now in
    let law = g.met.A.Aead in
    let p = split_is s c.in_ok-nonce.rest.now c.in_ok-text.text.now c.in_ok-text.tag.now (search rules) (search rules) (search rules) (search rules) (search rules) in
    let pt = ap (λ (y : Sealed). y.text) p in
    let pg = ap (λ (y : Sealed). y.tag) p in
    let t : (m : ℕ) → m ≡ length c.in_ok-text.text.now → TextOpened f a s out (Ok m) c.open_into.new.out =
    λ m w. text_opens f a s out c.open_into.new.out c.in_ok-nonce.nonce.now _ m c.in_ok-open_into.ensures (cc) (cc) (search rules) (search rules) in
    record {
      answer = t _ (search rules);
      back = sealed_opens f a s out c.open_into.new.out (law.tags c.args.keyed.now.cipher.now k) (law.keeps c.args.keyed.now.cipher.now k) (law.one c.args.keyed.now.cipher.now k) (Ok _) (t _ (search rules));
    }
