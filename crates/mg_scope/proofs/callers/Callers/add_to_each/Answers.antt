use Rattle.std.proofs.Common.{subst, List, length}
use Rattle.std.proofs.lemmas.List.{take_all}
use Rattle.gr_terms.specs.declared.Sym.{Sym}
use Rattle.mg_scope.specs.Orders.{AddsToEach}
use Rattle.mg_scope.proofs.CallerLemmas.{adds_to_none, adds_next}
use Rattle.mg_scope.proofs.callers.Callers.add_to_each.Goals as goal

pub loop-name-init : goal.loop-name-init
loop-name-init c = adds_to_none c.args.self.now c.args.caller

pub loop-name-preserved : goal.loop-name-preserved
loop-name-preserved c =
    adds_next c.args.self.now c.loop-name.self c.add.new.self c.args.names.now c.loop-name.name-index _ c.args.caller c.loop-name-test.true c.loop-name.invariant c.in_ok-add.ensures

pub returns : goal.returns
returns c = subst (λ (z : List Sym). AddsToEach c.args.self.now c.loop-name.self z c.args.caller) (take_all c.loop-name.name-index c.args.names.now c.loop-name-test.false) c.loop-name.invariant
