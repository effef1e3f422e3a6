use Rattle.std.proofs.Common.{◌≡◌, ◌<◌, length, arith, rules}
use Rattle.aes.specs.KeyExpansion.{key_word}
use Rattle.aes.proofs.Each.{front}
use Rattle.aes.proofs.FromFn.{element}
use Rattle.aes.proofs.key_expansion.key_words.Goals as goal

pub returns : goal.returns
returns c =
    let key = c.args.key.now in
    let nk = c.args.nk in
    let long : length c.from_fn.result ≡ 60 = c.from_fn.ensures.items.long in
    front (key_word key) c.from_fn.result 0 nk (omega arith)
    (λ k h. element (λ i y. i < nk → y ≡ key_word key i) 0 c.from_fn.ensures.items (λ i y f' e. search rules) k (omega arith) h)
