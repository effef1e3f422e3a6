use Rattle.std.proofs.Common.{◌≡◌, rules}
use Rattle.aes.specs.KeyExpansion.{round_key}
use Rattle.aes.specs.Blocks.{bytes_of, zero_block}
use Rattle.aes.proofs.FromFn.{element}
use Rattle.aes.proofs.key_expansion.round_keys.Goals as goal

pub returns : goal.returns
unfolding round_key
returns c =
    element (λ i y. bytes_of y ≡ round_key c.args.words.now i) zero_block c.from_fn.ensures.items (λ i y f' e. search rules)
