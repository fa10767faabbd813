-- Each turn of the loop adds a level; there are no more levels than items.
use Rattle.std.proofs.Common.{subst, sym, ap, ◌∙◌, ◌+◌, suc, List, arith, ◌≡◌, ℕ, [], length}
use Rattle.std.proofs.lemmas.Bool.{eqb-true}
use Rattle.gr_base.specs.Lists.{gathered}
use Rattle.gr_terms.specs.declared.Sym.{Sym}
use Rattle.mg_scope.specs.Classes.{mentioned}
use Rattle.mg_scope.specs.Orders.{callers_of, MeetsAll}
use Rattle.mg_scope.proofs.StepLemmas.{IsLevel, first_level, next_level, last_level, no_long_chain, none_in}
use Rattle.mg_scope.proofs.cycles.steps_to.Goals as goal

pub loop-count-init : goal.loop-count-init
loop-count-init c = first_level (mentioned c.args.directory.now) c.args.goal c.new-steps.result c.set.new.self c.in_ok-level.level.items c.new-steps.ensures c.in_ok-set.ensures.ok c.in_ok-level.ensures.items

pub loop-count-preserved : goal.loop-count-preserved
loop-count-preserved c =
    let next = mentioned c.args.directory.now in
    let one : c.loop-count.count + 1 ≡ suc c.loop-count.count = omega arith in
    let meets = subst (λ (z : List Sym). MeetsAll c.loop-count.steps c.next_level.new.steps (gathered (callers_of c.args.callers.now) z) (c.loop-count.count + 1) [] c.in_ok-level-2.level.items) c.deref.ensures.value c.in_ok-level-2.ensures in
    subst (λ (k : ℕ). IsLevel next c.args.goal k c.next_level.new.steps c.in_ok-level-2.level.items) (sym one)
    (next_level next c.args.goal c.args.callers.now c.loop-count.count c.loop-count.steps c.next_level.new.steps c.loop-count.level.items c.in_ok-level-2.level.items c.requires.callers c.loop-count.invariant
    (subst (λ (k : ℕ). MeetsAll c.loop-count.steps c.next_level.new.steps (gathered (callers_of c.args.callers.now) c.loop-count.level.items) k [] c.in_ok-level-2.level.items) one meets))

pub returns-then-is_empty : goal.returns-then-is_empty
returns-then-is_empty c =
    let known = c.loop-count.invariant in
    let empty : length c.loop-count.level.items ≡ 0 = let e = eqb-true _ 0 (sym c.is_empty.ensures ∙ c.if-is_empty.true) in omega (arith, e, c.loop-count.level.ok.0) in
    last_level (mentioned c.args.directory.now) c.args.goal c.loop-count.count c.loop-count.steps c.loop-count.level.items known (λ a e. none_in c.loop-count.level.items a empty (known.here a e))

pub returns : goal.returns
returns c =
    let long = rw c.items-count-end.ensures at c.loop-count-test.false in
    last_level (mentioned c.args.directory.now) c.args.goal c.loop-count.count c.loop-count.steps c.loop-count.level.items c.loop-count.invariant
    (no_long_chain c.args.directory.now c.args.goal c.loop-count.count c.loop-count.steps c.loop-count.level.items c.loop-count.invariant c.requires.there long)
