use Rattle.std.proofs.Common.{◌≡◌, ◌<◌, [], length, replicate, false, get_or, refl, subst, sym, rules, arith}
use Rattle.gr_base.specs.Lists.{Each}
use Rattle.gr_base.proofs.ListLemmas.{Each-at, IsAmong-get_or}
use Rattle.mg_facts.specs.Classes.{AreFirstOnes, AreMarked, root}
use Rattle.mg_facts.proofs.LoopLemmas.{AreMarked-none, firsts-step, taken_all}
use Rattle.mg_facts.proofs.classes.firsts.Goals as goal

pub loop-x-init : goal.loop-x-init
loop-x-init c =
    let e : c.in_ok-stands.stands.items ≡ replicate (length c.args.roots.now) false = search rules in
    record { firsts = search rules; marks = subst (λ z. AreMarked c.args.roots.now [] z) (sym e) (AreMarked-none c.args.roots.now) }

pub loop-x-preserved : goal.loop-x-preserved
loop-x-preserved c =
    let h = c.loop-x-test.true in
    let l : root c.args.roots.now (get_or c.args.standing.now c.loop-x.x-index 0) < length c.loop-x.found.stands.items =
    subst (λ n. root c.args.roots.now (get_or c.args.standing.now c.loop-x.x-index 0) < n) (sym c.loop-x.invariant.marks.size)
    (c.requires.range _ (Each-at (λ x. x < length c.args.roots.now) c.args.standing.now _ c.requires.below (IsAmong-get_or c.args.standing.now c.loop-x.x-index 0 h)))
    in
    let r = firsts-step c.args.roots.now c.args.standing.now c.loop-x.found.nodes.items c.meet.new.found.nodes.items c.loop-x.found.stands.items c.meet.new.found.stands.items c.loop-x.x-index 0 h l
    c.loop-x.invariant.firsts c.loop-x.invariant.marks c.in_ok-meet.ensures.again c.in_ok-meet.ensures.first
    in
    record { firsts = r.0; marks = r.1 }

pub returns-clause-nodes : goal.returns-clause-nodes
returns-clause-nodes c = subst (λ z. AreFirstOnes c.args.roots.now [] z c.loop-x.found.nodes.items) (taken_all c.args.standing.now c.loop-x.x-index c.loop-x-test.false) c.loop-x.invariant.firsts

pub returns-clause-stands : goal.returns-clause-stands
returns-clause-stands c = subst (λ z. AreMarked c.args.roots.now z c.loop-x.found.stands.items) (taken_all c.args.standing.now c.loop-x.x-index c.loop-x-test.false) c.loop-x.invariant.marks
