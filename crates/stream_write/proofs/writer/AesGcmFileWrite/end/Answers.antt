use Rattle.std.proofs.Common.{◌≡◌, ◌+◌, rules, ap, ◌∙◌, replicate, arith}
use Rattle.std.proofs.lemmas.List.{length-take}
use Rattle.std.proofs.lemmas.Slice.{overwrites}
use Rattle.stream_write.proofs.writer.AesGcmFileWrite.end.Goals as goal

pub returns : goal.returns
returns c =
    let w : c.fill.new.self ≡ replicate (c.args.self.size.bytes + 28) 0 = c.fill.ensures.after (λ y e. e) ∙ ap (λ n. replicate n 0) (simp length-take (omega arith)) in
    search (rules, overwrites)
