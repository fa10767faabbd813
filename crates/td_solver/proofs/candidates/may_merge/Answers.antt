use Rattle.td_desc.specs.Descriptions.{description_of}
use Rattle.td_forest.specs.Steps.{forest_of}
use Rattle.td_solver.proofs.Narrowing.{by_same, by_over}
use Rattle.td_solver.proofs.candidates.may_merge.Goals as goal

pub returns-in-Some-parent_before : goal.returns-in-Some-parent_before
returns-in-Some-parent_before c =
    by_same (description_of c.args.task.now.d.now) c.args.node (forest_of c.args.forest.now) c.requires.model c.in-Some.parent c.in-Some.ensures.0 c.in-Some.ensures.1 c.args.at c.requires.at
    c.in-Some-parent_before.other c.in-Some-parent_before.ensures.0 c.in-Some-parent_before.ensures.1 c.relates.result c.relates.ensures

pub returns-in-None : goal.returns-in-None
returns-in-None c =
    by_over (description_of c.args.task.now.d.now) c.args.node (forest_of c.args.forest.now) c.requires.model c.in-Some.parent c.in-Some.ensures.0 c.in-Some.ensures.1 c.args.at c.requires.at
    c.relates-in-None.result c.relates-in-None.ensures
