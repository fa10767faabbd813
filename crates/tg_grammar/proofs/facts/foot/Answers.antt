use Rattle.tg_grammar.proofs.FactLemmas.{foot_found}
use Rattle.tg_grammar.proofs.facts.foot.Goals as goal

pub returns : goal.returns
returns c = foot_found c.args.tree.now c.requires c.as_slice.result.now c.first_marked.result c.as_slice.ensures c.first_marked.ensures
