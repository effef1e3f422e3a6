use Rattle.std.proofs.Common.{◌≡◌, ℕ, ◌-◌, ◌/◌, ◌%◌, List, length, Err, arith, rules}
use Rattle.layout.specs.Spans.{Locates}
use Rattle.stream_read.specs.Readers.{size_of}
use Rattle.stream_read.proofs.Places.{block_there}
use Rattle.stream_read.proofs.Spots.{byte_is}
use Rattle.stream_read.proofs.block.Blocks.fill_some.Goals as goal

pub fetch-requires-clause-there : goal.fetch-requires-clause-there
fetch-requires-clause-there g c =
    let s = c.args.self.now.reader.now in
    let law : Locates (size_of s) c.args.pos c.locate-place.result = search rules in
    block_there c.locate-place.result.block (size_of s) s.layout.shape s.layout.proper (omega arith)

pub returns-in_err-text : goal.returns-in_err-text
returns-in_err-text g c =
    let i : c.locate-place.result.block ≡ c.args.pos / size_of c.args.self.now.reader.now = search rules in
    let e : c.from_residual.result ≡ Err c.in_err-text.field-0.0 = search rules in
    rw (e, ← i) c.in_err-text.ensures

pub returns : goal.returns
returns g c =
    let s = c.args.self.now.reader.now in
    let law : Locates (size_of s) c.args.pos c.locate-place.result = search rules in
    let t : List ℕ = c.in_ok-text.text.now in
    let off : ℕ = c.locate-place.result.offset in
    let k : ℕ = c.min-k.result in
    let i : c.locate-place.result.block ≡ c.args.pos / size_of s = search rules in
    let o : off ≡ c.args.pos % size_of s = search rules in
    let f = c.in_ok-text.ensures in
    rw (← i, ← o) (
      omega arith,
      omega arith,
      omega arith,
      (t, f.1, (λ d h. byte_is c.copy_from_slice.new.self _ t off k (length t - off) d c.copy_from_slice.ensures.after h (omega arith) (omega arith))),
    )
