use Rattle.std.proofs.Common.{subst, List}
use Rattle.std.proofs.lemmas.List.{take_all}
use Rattle.gr_terms.specs.declared.Sym.{Sym}
use Rattle.mg_scope.specs.Orders.{MeetsAll}
use Rattle.mg_scope.proofs.StepLemmas.{meets_none, meets_more}
use Rattle.mg_scope.proofs.cycles.meet_all.Goals as goal

pub loop-name-init : goal.loop-name-init
loop-name-init c = meets_none c.args.steps.now c.args.count c.args.found.now.items

pub loop-name-preserved : goal.loop-name-preserved
loop-name-preserved c =
    meets_more c.args.steps.now c.loop-name.steps c.meet.new.steps c.args.names.now c.loop-name.name-index _ c.args.count c.args.found.now.items c.loop-name.found.items c.meet.new.found.items
    c.loop-name-test.true c.loop-name.invariant c.in_ok-meet.ensures

pub returns : goal.returns
returns c =
    subst (λ (z : List Sym). MeetsAll c.args.steps.now c.loop-name.steps z c.args.count c.args.found.now.items c.loop-name.found.items)
    (take_all c.loop-name.name-index c.args.names.now c.loop-name-test.false) c.loop-name.invariant
