use Rattle.std.proofs.Common.{◌≡◌, ℕ, ◌+◌, ◌-◌, ◌*◌, ◌≤◌, List, length, get_or, take, sym, ap, ◌∙◌, arith}
use Rattle.aes.specs.KeyExpansion.{expand, key_length, key_words, expansion, round_key}
use Rattle.aes.specs.Aes.{aes}
use Rattle.aes.specs.Blocks.{bytes_of, zero_block}
use Rattle.aes.specs.Schedules.{key_bytes, scheduled}
use Rattle.aes.specs.declared.schedule.Schedule.{Schedule}
use Rattle.aes.proofs.Each.{each_same}
use Rattle.aes.proofs.Expansion.{key_of_front}
use Rattle.aes.proofs.schedule.Schedule.new.Goals as goal

-- the expansion, from what its words are at the length that the code worked out
front : (key w : List ℕ) (nk : ℕ) → nk ≡ key_length (length key)
    → take (4 * (nk + 7)) w ≡ expand nk (4 * (nk + 7) - nk) (key_words key nk) → take (4 * (nk + 7)) w ≡ expansion key
unfolding expansion
front key w nk n e = e ∙ ap (λ (m : ℕ). expand m (4 * (m + 7) - m) (key_words key m)) n

encrypts : (s : Schedule) (key x : List ℕ) → s.rounds ≡ key_length (length key) + 6
    → ((i : ℕ) → i ≤ s.rounds → key_bytes s i ≡ round_key (expansion key) i) → scheduled s x ≡ aes key x
unfolding scheduled aes
encrypts s key x n h =
    let middle : s.rounds - 1 ≡ key_length (length key) + 5 = omega arith in
    let a = h 0 (omega arith) in
    let b = h s.rounds (omega arith) in
    let m = each_same (key_bytes s) (round_key (expansion key)) 1 (s.rounds - 1) (λ k l. h k (omega arith)) in
    cc

pub returns : goal.returns
returns c =
    let key = c.args.key.now in
    let nk = c.key_length-nk.result in
    let w = c.expand_key.result in
    let n = c.key_length-nk.ensures.value in
    let e = front key w nk n c.expand_key.ensures in
    let rounds : nk + 6 ≡ key_length (length key) + 6 = ap (λ (k : ℕ). k + 6) n in
    let expands : (i : ℕ) → i ≤ nk + 6 → bytes_of (get_or c.round_keys-keys.result i zero_block) ≡ round_key (expansion key) i =
    λ i h. c.round_keys-keys.ensures i (omega arith) ∙ sym (key_of_front w (4 * (nk + 7)) i (omega arith)) ∙ ap (λ (t : List ℕ). round_key t i) e in
    record { rounds = rounds; expands = expands; encrypts = λ x. encrypts _ key x rounds expands }
