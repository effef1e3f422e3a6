use Rattle.std.proofs.Common.{◌≡◌, ℕ, ◌+◌, ◌≤◌, List, length, take, drop, arith, rules, length-take}
use Rattle.std.proofs.lemmas.List.{drop-take, take-take}
use Rattle.std.proofs.lemmas.Slice.{overwrites}
use Rattle.stream_write.specs.Sends.{inner}
use Rattle.stream_write.proofs.writer.AesGcmFileWrite.send.Goals as goal

-- the text of a block at the front of a memory
text_front : (n : ℕ) (xs : List ℕ) → n + 28 ≤ length xs → inner (take (n + 28) xs) ≡ take n (drop 12 xs)
text_front n xs h = grind (arith, length-take, drop-take, take-take)

pub returns-in_err-send_block-clause-kept : goal.returns-in_err-send_block-clause-kept
returns-in_err-send_block-clause-kept g c = search (rules, overwrites)

pub returns-clause-kept : goal.returns-clause-kept
returns-clause-kept g c = search (rules, overwrites)

pub returns-clause-sent : goal.returns-clause-sent
returns-clause-sent g c = search (rules, text_front)
