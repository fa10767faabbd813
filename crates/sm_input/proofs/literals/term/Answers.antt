use Rattle.std.proofs.Common.{sym, subst}
use Rattle.sm_input.specs.Reading.{IsRawTerm}
use Rattle.sm_input.proofs.RawLemmas.{side_raw}
use Rattle.sm_input.proofs.literals.term.Goals as goal

pub returns-clause-reads : goal.returns-clause-reads
returns-clause-reads c = (c.in_ok-side.ensures.reads.0, λ later g. subst (IsRawTerm later _) (sym c.raw_term.ensures) (side_raw later _ _ (c.in_ok-side.ensures.reads.1 later g)))
