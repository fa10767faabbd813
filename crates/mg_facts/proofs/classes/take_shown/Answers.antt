use Rattle.std.proofs.Common.{ℕ, List, [], ◌≡◌, ◌++◌, sym, subst}
use Rattle.std.proofs.lemmas.List.{append-nil}
use Rattle.mg_facts.specs.Classes.{IsShownPart}
use Rattle.mg_facts.proofs.LoopLemmas.{IsShownPart-none, shown-step, taken_all}
use Rattle.mg_facts.proofs.classes.take_shown.Goals as goal

pub loop-x-init : goal.loop-x-init
loop-x-init c = ([], sym (append-nil c.args.nodes.now.items), IsShownPart-none c.args.roots.now c.args.colours.now c.args.colour)

pub loop-x-preserved : goal.loop-x-preserved
loop-x-preserved c =
    shown-step c.args.roots.now c.args.colours.now c.args.colour c.args.firsts.now c.args.nodes.now.items c.loop-x.nodes.items c.take_if_shown.new.nodes.items c.loop-x.x-index _ c.loop-x-test.true
    c.loop-x.invariant c.in_ok-take_if_shown.ensures.taken c.in_ok-take_if_shown.ensures.left

pub returns : goal.returns
returns c =
    let p = c.loop-x.invariant in
    (p.0, p.1, subst (λ z. IsShownPart c.args.roots.now c.args.colours.now c.args.colour z p.0) (taken_all c.args.firsts.now c.loop-x.x-index c.loop-x-test.false) p.2)
