use Rattle.std.proofs.Common.{◌≡◌, ◌+◌, [], length, take, replicate, None, subst, sym, ap, rules}
use Rattle.gr_base.specs.Lists.{gathered}
use Rattle.mg_facts.specs.Numbered.{colours_in}
use Rattle.mg_facts.specs.Classes.{AreColours, IsPainted, IsOther}
use Rattle.mg_facts.proofs.GatheredLemmas.{gathered-more}
use Rattle.mg_facts.proofs.LoopLemmas.{AreColours-none, AreColours-painted, painted_below, other_colour, taken_all}
use Rattle.mg_facts.proofs.classes.colours_of.Goals as goal

pub loop-fact-init : goal.loop-fact-init
loop-fact-init c =
    let e : c.in_ok-table.table.items ≡ replicate (length c.args.roots.now) None = search rules in
    subst (λ z. AreColours c.args.roots.now [] z) (sym e) (AreColours-none c.args.roots.now)

pub loop-fact-preserved : goal.loop-fact-preserved
loop-fact-preserved c =
    subst (λ z. AreColours c.args.roots.now z c.paint.new.table.items) (sym (gathered-more colours_in c.args.facts.now c.loop-fact.fact-index c.fact-item.result c.loop-fact-test.true))
    (AreColours-painted c.args.roots.now _ _ c.loop-fact.table.items c.paint.new.table.items
    (painted_below c.args.roots.now c.requires.range c.args.facts.now c.requires.below c.loop-fact.fact-index c.fact-item.result c.loop-fact-test.true)
    (subst (λ f. IsPainted c.args.roots.now (colours_in f) c.loop-fact.table.items c.paint.new.table.items) c.fact-item.is c.if-not-paint.ensures.painted)
    c.loop-fact.invariant)

pub returns-then-not-paint : goal.returns-then-not-paint
returns-then-not-paint c =
    other_colour c.args.roots.now c.args.facts.now c.loop-fact.fact-index c.fact-item.result c.loop-fact.table.items c.loop-fact-test.true c.loop-fact.invariant
    (subst (λ f. IsOther c.args.roots.now (colours_in f) c.loop-fact.table.items) c.fact-item.is c.if-not-paint.ensures.other)

pub returns : goal.returns
returns c =
    subst (λ z. AreColours c.args.roots.now (gathered colours_in z) c.loop-fact.table.items) (taken_all c.args.facts.now c.loop-fact.fact-index c.loop-fact-test.false) c.loop-fact.invariant
