use Rattle.std.proofs.Common.{refl}
use Rattle.td_desc.specs.declared.Dominance.TheVariants.{Above, AboveOrSame, Left, LeftOrSame}
use Rattle.td_forest.specs.Steps.{forest_of}
use Rattle.td_solver.proofs.Deciding.{parent_test, next_test, kept_test}
use Rattle.td_solver.proofs.holds.still_holds.Goals as goal

pub returns-in-Parent : goal.returns-in-Parent
returns-in-Parent c =
    parent_test c.args.node (forest_of c.args.forest.now) c.args.related c.requires.forest c.requires.below c.requires.before c.stands_between.result c.in-Parent.is c.stands_between.ensures

pub returns-in-Next : goal.returns-in-Next
returns-in-Next c =
    next_test c.args.node (forest_of c.args.forest.now) c.args.related c.requires.forest c.requires.below c.requires.before c.stands_between-in-Next.result c.in-Next.is c.stands_between-in-Next.ensures

pub returns-in-Above : goal.returns-in-Above
returns-in-Above c = kept_test c.args.node (forest_of c.args.forest.now) c.args.related c.requires.forest c.requires.below c.requires.before Above c.in-Above.is refl

pub returns-in-AboveOrSame : goal.returns-in-AboveOrSame
returns-in-AboveOrSame c = kept_test c.args.node (forest_of c.args.forest.now) c.args.related c.requires.forest c.requires.below c.requires.before AboveOrSame c.in-AboveOrSame.is refl

pub returns-in-Left : goal.returns-in-Left
returns-in-Left c = kept_test c.args.node (forest_of c.args.forest.now) c.args.related c.requires.forest c.requires.below c.requires.before Left c.in-Left.is refl

pub returns-in-LeftOrSame : goal.returns-in-LeftOrSame
returns-in-LeftOrSame c = kept_test c.args.node (forest_of c.args.forest.now) c.args.related c.requires.forest c.requires.below c.requires.before LeftOrSame c.in-LeftOrSame.is refl
