use Rattle.gr_base.proofs.ListLemmas.{Each-at}
use Rattle.td_desc.specs.Conditions.{Mentions, SaysOf}
use Rattle.td_desc.proofs.laws.numbers_are_below.Goals as goal

pub returns-clause-network : goal.returns-clause-network
returns-clause-network c d a h i = Each-at (Mentions d.vars d.slots) d.network a h.network i

pub returns-clause-literals : goal.returns-clause-literals
returns-clause-literals c d l h i = Each-at (SaysOf d.vars) d.sem l h.literals i
