use Rattle.std.proofs.Common.{◌≡◌, ◌+◌, length, subst, sym, arith}
use Rattle.mg_facts.specs.Classes.{AreRoots}
use Rattle.mg_facts.proofs.LoopLemmas.{AreRoots-none, AreRoots-push}
use Rattle.mg_facts.proofs.classes.roots_of.Goals as goal

pub loop-x-init : goal.loop-x-init
loop-x-init c = subst (λ z. AreRoots c.args.stated.now.facts 0 z) (sym c.in_ok-roots.ensures.items) (AreRoots-none c.args.stated.now.facts)

pub loop-x-preserved : goal.loop-x-preserved
loop-x-preserved c =
    subst (λ z. AreRoots c.args.stated.now.facts (c.loop-x.x + 1) z) (sym c.in_ok-push.ensures.items)
    (AreRoots-push c.args.stated.now.facts c.loop-x.x c.loop-x.roots.items _ c.loop-x.invariant c.root.ensures)

pub returns : goal.returns
returns c =
    let e : c.loop-x.x ≡ length c.args.stated.now.names = omega (arith, c.variables-count.ensures.count) in
    subst (λ n. AreRoots c.args.stated.now.facts n c.loop-x.roots.items) e c.loop-x.invariant
