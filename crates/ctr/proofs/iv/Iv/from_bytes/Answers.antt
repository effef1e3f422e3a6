use Rattle.std.proofs.Common.{◌≡◌, ℕ, List, [], length, sym, ◌∙◌, arith}
use Rattle.std.proofs.lemmas.List.{append-nil, drop_all}
use Rattle.aes.specs.Words.{word_bytes}
use Rattle.aes.proofs.Words.{before}
use Rattle.ctr.specs.Ivs.{iv_bytes}
use Rattle.ctr.proofs.iv.Iv.from_bytes.Goals as goal

pub returns : goal.returns
unfolding iv_bytes
returns c =
    let b : List ℕ = c.args.bytes.now in
    let l : length b ≡ 12 = omega arith in
    before b 0 c.word_at.result _ c.word_at.ensures
    (before b 4 c.word_at-2.result _ c.word_at-2.ensures
    (sym (append-nil (word_bytes c.word_at-3.result)) ∙ before b 8 c.word_at-3.result [] c.word_at-3.ensures (sym (drop_all 12 b (omega arith)))))
