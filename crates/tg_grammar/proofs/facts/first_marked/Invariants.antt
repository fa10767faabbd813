use Rattle.std.proofs.Common.{◌≡◌, drop}
use Rattle.tg_grammar.specs.Marks.{is_marked, mark_number, marked, node_lists, numbers_from}
use Rattle.tg_grammar.proofs.facts.first_marked.Given as goal

abbrev pub invariant-loop-number : goal.invariant-loop-number
invariant-loop-number l = marked (mark_number l.wanted) (node_lists l.nodes) ≡ numbers_from l.number (is_marked (mark_number l.wanted)) (node_lists (drop l.number l.nodes))
