use Rattle.std.proofs.Common.{map, take}
use Rattle.gr_base.specs.Lists.{gathered}
use Rattle.td_canon.specs.Renaming.{rename_literal}
use Rattle.tg_model.specs.DenseTrees.{literal_terms}
use Rattle.lx_anchor.specs.Numberings.{IsNumbered}
use Rattle.lx_anchor.proofs.numbering.Numbering.literals.Given as goal

abbrev pub invariant-literals : goal.invariant-literals
invariant-literals l = IsNumbered l.fn.self l.self (gathered literal_terms (take l.place l.literals)) (λ f. map (rename_literal f) (take l.place l.literals)) l.numbered.items
