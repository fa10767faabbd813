use Rattle.std.proofs.Common.{ap, sym, ◌∙◌}
use Rattle.gr_terms.specs.Constants.{ANCHOR}
use Rattle.tg_grammar.specs.Marks.{marked, node_lists}
use Rattle.tg_grammar.proofs.FactLemmas.{anchor_alone, anchor_there}
use Rattle.tg_grammar.proofs.facts.anchor.Goals as goal

pub unreachable-requires : goal.unreachable-requires
unreachable-requires c = anchor_there c.args.tree.now c.requires (ap (λ ns. marked ANCHOR (node_lists ns)) (sym c.as_slice.ensures) ∙ c.in-None.ensures)

pub returns : goal.returns
returns c =
    anchor_alone c.args.tree.now c.requires c.in-Some.number c.in-Some.ensures.0 (ap (λ ns. marked ANCHOR (node_lists ns)) (sym c.as_slice.ensures) ∙ c.in-Some.ensures.1)
