use Rattle.std.proofs.Common.{refl}
use Rattle.lx_lexicon.proofs.parts.named.Goals as goal

pub returns-clause-table : goal.returns-clause-table
returns-clause-table c = c.in_ok-name.ensures.table refl
