use Rattle.std.proofs.Common.{map, take}
use Rattle.td_canon.specs.Renaming.{rename_term}
use Rattle.lx_anchor.specs.Numberings.{IsNumbered}
use Rattle.lx_anchor.proofs.numbering.Numbering.terms.Given as goal

abbrev pub invariant-terms : goal.invariant-terms
invariant-terms l = IsNumbered l.fn.self l.self (take l.place l.terms) (λ f. map (rename_term f) (take l.place l.terms)) l.numbered.items
