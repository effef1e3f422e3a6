use Rattle.ghash.proofs.Blocks.{block_padded}
use Rattle.ghash.proofs.hash.load_padded.Goals as goal

pub returns : goal.returns
returns c = cc (c.split_at_mut-front.ensures.back, block_padded c.args.a.now c.args.t.now)
