use Rattle.std.proofs.Common.{subst, sym, ap, ◌∙◌, List, []}
use Rattle.std.proofs.lemmas.List.{take_all}
use Rattle.gr_base.specs.Lists.{gathered}
use Rattle.gr_terms.specs.declared.Sym.{Sym}
use Rattle.mg_scope.specs.Orders.{callers_of, MeetsAll}
use Rattle.mg_scope.proofs.StepLemmas.{meets_none, meets_gathered}
use Rattle.mg_scope.proofs.cycles.next_level.Goals as goal

pub loop-name-init : goal.loop-name-init
loop-name-init c = subst (λ (z : List Sym). MeetsAll c.args.steps.now c.args.steps.now [] c.args.count [] z) (sym c.new-found.ensures.items) (meets_none c.args.steps.now c.args.count [])

pub loop-name-preserved : goal.loop-name-preserved
loop-name-preserved c =
    meets_gathered c.args.callers.now c.args.steps.now c.loop-name.steps c.meet_all.new.steps c.args.level.now c.loop-name.name-index _ c.of.result.now c.args.count [] c.loop-name.found.items c.meet_all.new.found.items
    c.loop-name-test.true c.of.ensures c.loop-name.invariant c.in_ok-meet_all.ensures

pub returns : goal.returns
returns c =
    subst (λ (z : List Sym). MeetsAll c.args.steps.now c.loop-name.steps (gathered (callers_of c.args.callers.now) z) c.args.count [] c.loop-name.found.items)
    (take_all c.loop-name.name-index c.args.level.now c.loop-name-test.false) c.loop-name.invariant
