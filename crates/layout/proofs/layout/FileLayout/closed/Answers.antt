use Rattle.std.proofs.Common.{rules}
use Rattle.layout.proofs.Laws.{closed_law}
use Rattle.layout.proofs.layout.FileLayout.closed.Goals as goal

pub returns-then-full-gt-MAX_BLOCKS : goal.returns-then-full-gt-MAX_BLOCKS
returns-then-full-gt-MAX_BLOCKS c = record { value = search rules; law = closed_law _ _ }

pub returns-then-last-eq0 : goal.returns-then-last-eq0
returns-then-last-eq0 c = record { value = search rules; law = closed_law _ _ }

pub returns-then-full-eq-MAX_BLOCKS : goal.returns-then-full-eq-MAX_BLOCKS
returns-then-full-eq-MAX_BLOCKS c = record { value = search rules; law = closed_law _ _ }

pub returns : goal.returns
returns c = record { value = search rules; law = closed_law _ _ }
