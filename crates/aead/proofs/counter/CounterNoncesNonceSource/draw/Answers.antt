use Rattle.std.proofs.Common.{◌≡◌, Some, refl, ◌∙◌, rules}
use Rattle.aead.proofs.Draws.{drawn, written}
use Rattle.aead.proofs.counter.CounterNoncesNonceSource.draw.Goals as goal

pub returns : goal.returns
returns c =
    let self = c.args.self.now in
    let is : self.next ≡ Some c.in_ok-n.n = search rules in
    drawn self.fixed _ self.next c.in_ok-n.n c.checked_add-self.result is (self.fits c.in_ok-n.n is)
    (written c.copy_from_slice.new.self c.copy_from_slice-2.new.self _ 4 8 c.copy_from_slice.ensures.len refl ∙ cc)
    c.checked_add-self.ensures
