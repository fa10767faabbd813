use Rattle.tg_grammar.proofs.FlawLemmas.{one_name}
use Rattle.tg_grammar.proofs.survey.are_one_name.Goals as goal

pub returns-in-Some-Some : goal.returns-in-Some-Some
returns-in-Some-Some c = one_name c.args.first c.args.second c.in-Some-Some.a c.in-Some-Some.b c.eq.result c.in-Some-Some.is-0 c.in-Some-Some.is-1 c.eq.ensures
