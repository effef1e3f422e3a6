use Rattle.std.proofs.Common.{◌≡◌, ◌+◌, List, map, get_or, drop, sym, ap, ◌∙◌}
use Rattle.std.proofs.lemmas.List.{at_drop_more, at_drop_all}
use Rattle.aes.specs.declared.block.Block.{Block}
use Rattle.aes.specs.Cipher.{round, rounds, final_round, cipher}
use Rattle.aes.specs.Blocks.{bytes_of, zero_block}
use Rattle.aes.proofs.cipher.encrypt_under.Goals as goal

pub loop-key-preserved : goal.loop-key-preserved
unfolding rounds
loop-key-preserved c =
    let keys = c.args.middle.now in
    let i = c.loop-key.key-index in
    let s = bytes_of c.loop-key.state in
    let e : rounds (map bytes_of (drop i keys)) s ≡ rounds (map bytes_of (drop (i + 1) keys)) (round (bytes_of (get_or keys i zero_block)) s) =
    at_drop_more (λ (t : List Block). rounds (map bytes_of t) s) keys i zero_block c.loop-key-test.true in
    ap (rounds (map bytes_of (drop (i + 1) keys))) c.mixed_round-state.ensures ∙ sym e ∙ c.loop-key.invariant

pub returns : goal.returns
unfolding rounds cipher
returns c =
    let keys = c.args.middle.now in
    let i = c.loop-key.key-index in
    let s = bytes_of c.loop-key.state in
    let e : rounds (map bytes_of (drop i keys)) s ≡ s =
    at_drop_all (λ (t : List Block). rounds (map bytes_of t) s) keys i c.loop-key-test.false in
    c.final_round.ensures
    ∙ ap (final_round (bytes_of c.args.last)) (sym e ∙ c.loop-key.invariant ∙ ap (rounds (map bytes_of keys)) c.add_round_key-state.ensures)
