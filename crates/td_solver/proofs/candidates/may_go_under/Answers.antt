use Rattle.td_desc.specs.Descriptions.{description_of}
use Rattle.td_forest.specs.Steps.{forest_of}
use Rattle.td_solver.proofs.Narrowing.{by_parent, by_kid}
use Rattle.td_solver.proofs.candidates.may_go_under.Goals as goal

pub returns-in-Some : goal.returns-in-Some
returns-in-Some c =
    by_parent (description_of c.args.task.now.d.now) c.args.node (forest_of c.args.forest.now) c.requires.model c.in-Some.parent c.in-Some.ensures.0 c.in-Some.ensures.1
    c.args.at c.relates.result c.relates.ensures

pub returns-in-Some-kid_before : goal.returns-in-Some-kid_before
returns-in-Some-kid_before c =
    by_kid (description_of c.args.task.now.d.now) c.args.node (forest_of c.args.forest.now) c.requires.model c.in-Some-kid_before.kid c.in-Some-kid_before.ensures.0 c.in-Some-kid_before.ensures.1
    c.args.at c.relates-in-Some-kid_before.result c.relates-in-Some-kid_before.ensures
