use Rattle.layout.proofs.Laws.{length_law}
use Rattle.layout.proofs.c_api.ags1_plaintext_length.Goals as goal

pub returns-in-Ok-clause-law : goal.returns-in-Ok-clause-law
returns-in-Ok-clause-law c = length_law _ _

pub returns-in-Err-clause-law : goal.returns-in-Err-clause-law
returns-in-Err-clause-law c = length_law _ _
