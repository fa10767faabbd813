use Rattle.td_check.proofs.Standing.{amid_both}
use Rattle.td_check.proofs.shape.stands_between.Goals as goal

pub returns : goal.returns
returns c =
    amid_both c.args.nodes.now c.args.a c.args.b c.args.middle c.args.how c.stands-first.result c.stands-second.result c.stands-first.ensures c.stands-second.ensures
