use Rattle.std.proofs.Common.{◌≡◌, ℕ, Ok, Result, sym, subst, rules}
use Rattle.error.specs.declared.stream.StreamError.{StreamError}
use Rattle.layout.specs.Lengths.{measured, plain_length, LengthLaw}
use Rattle.layout.proofs.Laws.{length_law}
use Rattle.layout.proofs.lengths.plaintext_length.Goals as goal

lawful : (b l : ℕ) (r : Result ℕ StreamError) → r ≡ plain_length b (measured b l) → LengthLaw b l r
lawful b l r v = subst (LengthLaw b l) (sym v) (length_law b l)

pub returns-in_err-of : goal.returns-in_err-of
returns-in_err-of c = let v : c.from_residual.result ≡ plain_length c.args.block_size (measured c.args.block_size c.args.file_length) = search rules in record { value = v; law = lawful _ _ _ v }

pub returns : goal.returns
returns c = let v : Ok c.plaintext_length.result ≡ plain_length c.args.block_size (measured c.args.block_size c.args.file_length) = search rules in record { value = v; law = lawful _ _ _ v }
