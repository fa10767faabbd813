use Rattle.std.proofs.Common.{subst, sym, take, List}
use Rattle.std.proofs.lemmas.List.{take_all, take_more}
use Rattle.gr_terms.specs.declared.Sym.{Sym}
use Rattle.mg_scope.specs.Orders.{IsBest}
use Rattle.mg_scope.proofs.cycles.nearest.Goals as goal

pub loop-name-preserved : goal.loop-name-preserved
loop-name-preserved c =
    subst (λ (z : List Sym). IsBest c.args.steps.now z c.nearer-best.result) (sym (take_more c.args.names.now c.loop-name.name-index _ c.loop-name-test.true))
    (c.nearer-best.ensures (take c.loop-name.name-index c.args.names.now) c.loop-name.invariant)

pub returns : goal.returns
returns c = subst (λ (z : List Sym). IsBest c.args.steps.now z c.loop-name.best) (take_all c.loop-name.name-index c.args.names.now c.loop-name-test.false) c.loop-name.invariant
