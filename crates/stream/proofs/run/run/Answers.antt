use Rattle.std.proofs.Common.{◌≡◌, [], length, take, vec_items, refl, ap, arith, rules}
use Rattle.std.proofs.lemmas.List.{take_more, take_all, length-take}
use Rattle.aead.specs.Seals.{key_of}
use Rattle.stream_write.specs.Blocks.{block_of}
use Rattle.stream_write.specs.Calls.{state_of, size_of}
use Rattle.stream_write.specs.declared.call.FileCall.{FileCall}
use Rattle.stream_write.specs.declared.call.FileCall.TheVariants.{Write}
use Rattle.stream_write.proofs.Kepts.{kept_on}
use Rattle.stream_law.specs.Files.{Holds}
use Rattle.stream.proofs.Lawful.{lawful}
use Rattle.stream.proofs.Steps.{course_none, course_push, closed_push}
use Rattle.stream.proofs.run.run.Goals as goal

-- what the goals read past the end of the calls
abbrev nothing : FileCall
nothing = Write (record { ref_ptr = (0, 0); now = [] })

pub loop-next-init : goal.loop-next-init
loop-next-init g c = search (rules, course_none)

pub loop-next-preserved : goal.loop-next-preserved
loop-next-preserved g c =
    let m = take_more c.args.calls.now c.loop-next.next-index nothing c.loop-next-test.true in
    let l : length (take c.loop-next.next-index c.args.calls.now) ≡ length (vec_items c.loop-next.replies) = simp length-take (search rules) in
    let es = ap (λ y. y.bytes) c.loop-next.invariant.kept.0 in
    let ep = ap vec_items c.loop-next.invariant.kept.1 in
    search (rules, kept_on, closed_push, course_push)

pub returns-clause-course : goal.returns-clause-course
returns-clause-course g c = λ t ns h.
    let e : take c.loop-next.next-index c.args.calls.now ≡ c.args.calls.now = take_all c.loop-next.next-index c.args.calls.now (omega arith) in
    rw e at c.loop-next.invariant.course t ns h

pub returns-clause-law : goal.returns-clause-law
returns-clause-law g c = λ f z.
    let i = c.loop-next.invariant in
    let w = c.args.writer.now in
    let a = c.args.keyed.now.cipher.now in
    let k = key_of c.args.keyed.now.key.now in
    let e : take c.loop-next.next-index c.args.calls.now ≡ c.args.calls.now = take_all c.loop-next.next-index c.args.calls.now (omega arith) in
    let h : Holds (size_of w) (block_of (g.A.Aead.sealed a k) (vec_items w.prefix)) [] [] (state_of w) (g.K.FileWrite.port c.args.sink.now) = rw f (refl, refl, z) in
    lawful (g.A.Aead.sealed a k) (vec_items w.prefix) (size_of w) (g.met.A.Aead.keeps a k) (g.met.A.Aead.tags a k) (g.met.A.Aead.one a k) (w.size.some, w.size.most)
    (g.N.NonceSource.left c.args.nonces.now) c.args.calls.now (vec_items c.loop-next.replies) (state_of c.loop-next.writer) (g.N.NonceSource.left c.loop-next.nonces) (g.K.FileWrite.port c.loop-next.sink)
    (g.met.N.NonceSource.different c.args.nonces.now) (g.met.N.NonceSource.twelve c.args.nonces.now)
    (rw (f, e) at i.shut) (rw e at i.course [] [] h)
