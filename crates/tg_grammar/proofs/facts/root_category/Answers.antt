use Rattle.std.proofs.Common.{ap, sym, ◌∙◌}
use Rattle.tg_grammar.specs.Marks.{first_name}
use Rattle.tg_grammar.specs.Surveys.{number_of}
use Rattle.tg_grammar.proofs.FactLemmas.{root_there}
use Rattle.tg_grammar.proofs.facts.root_category.Goals as goal

pub unreachable-requires : goal.unreachable-requires
unreachable-requires c =
    root_there c.args.tree.now c.requires (ap first_name (sym c.as_slice.ensures) ∙ sym c.root_name.ensures ∙ ap number_of c.in-None.is)
