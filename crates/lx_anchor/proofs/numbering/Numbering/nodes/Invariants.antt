use Rattle.std.proofs.Common.{map, take}
use Rattle.gr_base.specs.Lists.{gathered}
use Rattle.td_canon.specs.Renaming.{rename_node}
use Rattle.tg_model.specs.DenseTrees.{node_terms}
use Rattle.lx_anchor.specs.Numberings.{IsNumbered}
use Rattle.lx_anchor.proofs.numbering.Numbering.nodes.Given as goal

abbrev pub invariant-nodes : goal.invariant-nodes
invariant-nodes l = IsNumbered l.fn.self l.self (gathered node_terms (take l.place l.nodes)) (λ f. map (rename_node f) (take l.place l.nodes)) l.numbered.items
