use Rattle.std.proofs.Common.{◌≡◌, ◌+◌, ◌-◌, ap, ◌∙◌, arith}
use Rattle.aes.specs.KeyExpansion.{rcon}
use Rattle.aes.proofs.TableValues.{rcon_at}
use Rattle.aes.proofs.tables.round_constant.Goals as goal

pub returns : goal.returns
returns c =
    let e : c.args.j - 1 + 1 ≡ c.args.j = omega arith in
    rcon_at (c.args.j - 1) (omega arith) ∙ ap rcon e
