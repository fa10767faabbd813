use Rattle.std.proofs.Common.{subst, sym, ◌&&◌, ◌||◌}
use Rattle.td_desc.specs.declared.Dominance.{Dominance}
use Rattle.td_check.specs.Places.{DecidesHolds}
use Rattle.td_check.proofs.Standing.{holds_parent, holds_above, holds_above_or_same, holds_next, holds_left, holds_left_or_same}
use Rattle.td_check.proofs.shape.holds.Goals as goal

pub returns-in-Parent : goal.returns-in-Parent
returns-in-Parent c =
    subst (λ (h : Dominance). DecidesHolds c.args.nodes.now h c.args.a c.args.b (c.stands-over.result && c.none_between-none.result)) (sym c.in-Parent.is)
    (holds_parent c.args.nodes.now c.args.a c.args.b c.stands-over.result c.none_between-none.result c.stands-over.ensures c.none_between-none.ensures)

pub returns-in-Above : goal.returns-in-Above
returns-in-Above c =
    subst (λ (h : Dominance). DecidesHolds c.args.nodes.now h c.args.a c.args.b c.stands.result) (sym c.in-Above.is) (holds_above c.args.nodes.now c.args.a c.args.b c.stands.result c.stands.ensures)

pub returns-in-AboveOrSame : goal.returns-in-AboveOrSame
returns-in-AboveOrSame c =
    subst (λ (h : Dominance). DecidesHolds c.args.nodes.now h c.args.a c.args.b (c.stands-over-in-AboveOrSame.result || c.stands-same.result)) (sym c.in-AboveOrSame.is)
    (holds_above_or_same c.args.nodes.now c.args.a c.args.b c.stands-over-in-AboveOrSame.result c.stands-same.result c.stands-over-in-AboveOrSame.ensures c.stands-same.ensures)

pub returns-in-Next : goal.returns-in-Next
returns-in-Next c =
    subst (λ (h : Dominance). DecidesHolds c.args.nodes.now h c.args.a c.args.b (c.stands-left.result && c.none_between-none-in-Next.result)) (sym c.in-Next.is)
    (holds_next c.args.nodes.now c.args.a c.args.b c.stands-left.result c.none_between-none-in-Next.result c.stands-left.ensures c.none_between-none-in-Next.ensures)

pub returns-in-Left : goal.returns-in-Left
returns-in-Left c =
    subst (λ (h : Dominance). DecidesHolds c.args.nodes.now h c.args.a c.args.b c.stands-in-Left.result) (sym c.in-Left.is)
    (holds_left c.args.nodes.now c.args.a c.args.b c.stands-in-Left.result c.stands-in-Left.ensures)

pub returns-in-LeftOrSame : goal.returns-in-LeftOrSame
returns-in-LeftOrSame c =
    subst (λ (h : Dominance). DecidesHolds c.args.nodes.now h c.args.a c.args.b (c.stands-left-in-LeftOrSame.result || c.stands-same-in-LeftOrSame.result)) (sym c.in-LeftOrSame.is)
    (holds_left_or_same c.args.nodes.now c.args.a c.args.b c.stands-left-in-LeftOrSame.result c.stands-same-in-LeftOrSame.result c.stands-left-in-LeftOrSame.ensures c.stands-same-in-LeftOrSame.ensures)
