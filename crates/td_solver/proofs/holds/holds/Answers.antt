use Rattle.td_desc.specs.declared.Dominance.TheVariants.{Parent, Above, AboveOrSame, Next, Left, LeftOrSame}
use Rattle.td_forest.specs.Steps.{forest_of}
use Rattle.td_solver.proofs.Deciding.{so_test}
use Rattle.td_solver.proofs.holds.holds.Goals as goal

pub returns-in-Parent : goal.returns-in-Parent
returns-in-Parent c = so_test c.args.nodes (forest_of c.args.forest.now) c.args.related Parent c.directly.result c.in-Parent.is c.requires.forest c.directly.ensures

pub returns-in-Above : goal.returns-in-Above
returns-in-Above c = so_test c.args.nodes (forest_of c.args.forest.now) c.args.related Above c.relates.result c.in-Above.is c.requires.forest c.relates.ensures

pub returns-in-AboveOrSame : goal.returns-in-AboveOrSame
returns-in-AboveOrSame c = so_test c.args.nodes (forest_of c.args.forest.now) c.args.related AboveOrSame c.or_same.result c.in-AboveOrSame.is c.requires.forest c.or_same.ensures

pub returns-in-Next : goal.returns-in-Next
returns-in-Next c = so_test c.args.nodes (forest_of c.args.forest.now) c.args.related Next c.directly-in-Next.result c.in-Next.is c.requires.forest c.directly-in-Next.ensures

pub returns-in-Left : goal.returns-in-Left
returns-in-Left c = so_test c.args.nodes (forest_of c.args.forest.now) c.args.related Left c.relates-in-Left.result c.in-Left.is c.requires.forest c.relates-in-Left.ensures

pub returns-in-LeftOrSame : goal.returns-in-LeftOrSame
returns-in-LeftOrSame c = so_test c.args.nodes (forest_of c.args.forest.now) c.args.related LeftOrSame c.or_same-in-LeftOrSame.result c.in-LeftOrSame.is c.requires.forest c.or_same-in-LeftOrSame.ensures
