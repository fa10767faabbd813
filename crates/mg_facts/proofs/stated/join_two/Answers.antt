use Rattle.mg_facts.proofs.StatedLemmas.{on_true, joins_accept}
use Rattle.mg_facts.proofs.stated.join_two.Goals as goal

pub returns-clause-ok : goal.returns-clause-ok
returns-clause-ok c =
    on_true c.in_ok-accept.field-0 _ _ c.in_ok-accept.ensures.agrees (joins_accept c.args.classes.now.accepted c.requires.are_joins c.args.x c.args.y) c.in_ok-accept.ensures.accepted
