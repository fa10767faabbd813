use Rattle.std.proofs.Common.{refl, sym, ap, ◌∙◌, subst, true≢false, take, List, Option}
use Rattle.gr_base.specs.Lists.{Each}
use Rattle.gr_base.proofs.ListLemmas.{IsAmong-slice_get}
use Rattle.gr_terms.specs.declared.Sym.{Sym}
use Rattle.mg_syntax.specs.declared.item.Item.TheVariants as item
use Rattle.std.specs.Prelude.{MatchOption}
use Rattle.mg_scope.specs.Classes.{mentioned}
use Rattle.mg_scope.specs.Cycles.{IsCycle}
use Rattle.mg_scope.specs.Faults.{IsThere}
use Rattle.mg_scope.specs.Checks.{HasNoWayBack}
use Rattle.mg_scope.proofs.CheckLemmas.{duplicate_fault, cycle_fault, stands_there}
use Rattle.mg_scope.proofs.check.check_names.Goals as goal

pub returns-then-not-is_first-clause-err : goal.returns-then-not-is_first-clause-err
returns-then-not-is_first-clause-err c = λ _.
    duplicate_fault c.args.directory.now (take c.args.place c.args.directory.now) c.args.class.now
    (subst (Each (IsThere c.args.directory.now)) c.requires.named c.in_default.ensures)
    (c.is_first.ensures.later c.args.class.now c.requires.here refl (λ yes. true≢false (sym yes ∙ c.if-not-is_first.true)))

pub cycle_of-requires-clause-there : goal.cycle_of-requires-clause-there
cycle_of-requires-clause-there c =
    stands_there c.args.directory.now c.args.class.now.name (c.args.class.now, IsAmong-slice_get c.args.directory.now c.args.place (item.Class c.args.class.now) c.requires.here, refl)

pub returns-in-Some-2-clause-err : goal.returns-in-Some-2-clause-err
returns-in-Some-2-clause-err c = λ _.
    let next = mentioned c.args.directory.now in
    cycle_fault c.args.directory.now (take c.args.place c.args.directory.now) c.args.class.now c.in-Some-2.way
    (subst (Each (IsThere c.args.directory.now)) c.requires.named c.in_default.ensures)
    (c.is_first.ensures.first c.args.class.now c.requires.here refl c.if-not-is_first.false)
    (subst (λ (w : Option (List Sym)). MatchOption w (HasNoWayBack next c.args.class.now.name) (IsCycle next c.args.class.now.name)) c.in-Some-2.is c.in_ok-way.ensures)
