use Rattle.std.proofs.Common.{◌≡◌, ℕ, ◌-◌, true, List, length, take, drop, Ok, vec_items, sym, refl, ap, ◌∙◌, arith, rules}
use Rattle.std.proofs.lemmas.List.{take-append-drop, take_rest}
use Rattle.std.proofs.lemmas.Bool.Decides.{nat_tests}
use Rattle.aead.specs.Seals.{Sealed}
use Rattle.stream_write.specs.Blocks.{block_of}
use Rattle.storage.specs.Ports.{Port}
use Rattle.stream_write.specs.Runs.{Run, Outcome, push_bytes, run_of}
use Rattle.stream_write.specs.Writers.{state_in, is_open}
use Rattle.stream_write.specs.declared.phase.Phase.{Phase}
use Rattle.stream_write.specs.declared.phase.Phase.TheVariants.{Fresh, Open, Poisoned, Closed}
use Rattle.stream_write.proofs.Kepts.{kept_on}
use Rattle.stream_write.proofs.Pushes.{push_append, push_none}
use Rattle.stream_write.proofs.writer.AesGcmFileWrite.gather.Goals as goal

-- after n bytes more, what is left comes to the same; size and prefix stay as they were at the start
step_on : (size₀ size : ℕ) (seal : List ℕ → List ℕ → List ℕ → Sealed) (pre₀ pre : List ℕ) (r₁ r₂ t : Run) (rest : List ℕ) (n : ℕ)
    → size ≡ size₀ → pre ≡ pre₀
    → r₂ ≡ push_bytes size (block_of seal pre) r₁ (take n rest)
    → push_bytes size₀ (block_of seal pre₀) r₁ rest ≡ t
    → push_bytes size₀ (block_of seal pre₀) r₂ (take (length rest - n) (drop n rest)) ≡ t
step_on size₀ size seal pre₀ pre r₁ r₂ t rest n es ep e h =
    rw (e, es, ep, take_rest) (sym (push_append size₀ (block_of seal pre₀) r₁ (take n rest) (drop n rest))
    ∙ ap (λ w. push_bytes size₀ (block_of seal pre₀) r₁ w) (take-append-drop n rest) ∙ h)

-- once nothing is left, an open writer has what the run has
ends_on : (size : ℕ) (block : ℕ → List ℕ → List ℕ → List ℕ) (x : Run) (xs : List ℕ) (ph : Phase) (b : List ℕ) (rest : List (List ℕ)) (q : Port)
    → length xs ≡ 0 → is_open ph ≡ true → push_bytes size block (run_of (state_in ph b) rest q) xs ≡ x → Outcome x (Ok tt) (state_in ph b) rest q
ends_on size block x xs Fresh b rest q z o e = search rules
ends_on size block x xs (Open held i) b rest q z o e = let s = sym e in rw (s, push_none) (refl, refl, refl, refl)
ends_on size block x xs Poisoned b rest q z o e = search rules
ends_on size block x xs Closed b rest q z o e = search rules

pub loop-rest-preserved : goal.loop-rest-preserved
loop-rest-preserved g c =
    let w = c.in_ok-n.ensures.gathered in
    let es = ap (λ s. s.bytes) c.loop-rest.invariant.1.0 in
    let ep = ap vec_items c.loop-rest.invariant.1.1 in
    search (rules, kept_on, step_on)

pub returns-clause-gathered : goal.returns-clause-gathered
returns-clause-gathered g c =
    let z : length c.loop-rest.rest.now ≡ 0 = grind (arith, nat_tests) in
    search (rules, ends_on)
