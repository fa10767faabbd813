use Rattle.std.proofs.Common.{◌≡◌}
use Rattle.tg_grammar.specs.Marks.{node_lists}
use Rattle.tg_grammar.specs.Spots.{is_auxiliary}
use Rattle.tg_grammar.proofs.SpotLemmas.{feet_from}
use Rattle.tg_grammar.proofs.spots.is_auxiliary.Given as goal

abbrev pub invariant-nodes : goal.invariant-nodes
invariant-nodes l = is_auxiliary (node_lists l.tree.nodes) ≡ feet_from l.number l.tree.nodes
