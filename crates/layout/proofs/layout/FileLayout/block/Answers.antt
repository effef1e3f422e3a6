use Rattle.std.proofs.Common.{◌≡◌, ◌+◌, ◌*◌, ◌^◌, ◌<◌, Some, sym, ap, subst, arith, rules}
use Rattle.layout.specs.Format.{block_count_of}
use Rattle.layout.specs.Spans.{spanned, CoversIf}
use Rattle.layout.proofs.Covering.{start_within, covers_if}
use Rattle.layout.proofs.layout.FileLayout.block.Goals as goal

-- the block starts within the file
starts : (c : goal.After-ciphertext) → 8 + c.args.number * c.ciphertext.result < 2 ^ 64
starts c =
    let h : c.args.number < block_count_of c.args.self.now.shape = omega arith in
    let w = start_within c.args.self.now.size.bytes c.args.number c.args.self.now.shape h in
    let e : c.args.number * c.ciphertext.result ≡ c.args.number * (c.args.self.now.size.bytes + 28) = ap (λ x. c.args.number * x) c.ciphertext.ensures in
    omega arith

pub overflow_add-start : goal.overflow_add-start
overflow_add-start c = let s = starts c in omega arith

pub returns : goal.returns
returns c =
    let v : Some (record { start = 8 + c.args.number * c.ciphertext.result; plaintext = c.plaintext_in.result }) ≡ spanned c.args.self.now.size.bytes c.args.self.now.shape c.args.number = search rules in
    record { value = v; law = subst (CoversIf c.args.self.now.size.bytes c.args.self.now.shape c.args.number) (sym v) (covers_if c.args.self.now.size.bytes c.args.number c.args.self.now.shape c.args.self.now.proper) }
