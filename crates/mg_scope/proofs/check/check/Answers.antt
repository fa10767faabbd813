use Rattle.std.proofs.Common.{◌≡◌, Err, List, subst, rules}
use Rattle.mg_syntax.specs.declared.item.Item.{Item}
use Rattle.mg_scope.specs.Directories.{ArePlaces}
use Rattle.mg_scope.proofs.CheckLemmas.{next_right, scoped, first_refusal}
use Rattle.mg_scope.proofs.check.check.Goals as goal

pub returns-in_err-check_item-clause-err : goal.returns-in_err-check_item-clause-err
returns-in_err-check_item-clause-err c =
    let is : c.from_residual-in_err-check_item.result ≡ Err c.in_err-check_item.field-0.0 = search rules in
    rw is
    (first_refusal c.in_ok-directory.directory c.args.items.now c.loop-place.place c.in_err-check_item.field-0.0 c.in_ok-directory.ensures c.loop-place-test.true c.loop-place.invariant
    c.in_err-check_item.ensures.err)

pub loop-place-preserved : goal.loop-place-preserved
loop-place-preserved c = next_right c.in_ok-directory.directory c.args.items.now c.loop-place.place c.in_ok-directory.ensures c.loop-place.invariant c.in_ok-check_item.ensures.ok

pub returns-clause-ok : goal.returns-clause-ok
returns-clause-ok c = (
  scoped c.args.items.now c.loop-place.place c.loop-place-test.false c.loop-place.invariant,
  subst (λ (m : List Item). ArePlaces m c.into_places.result) c.in_ok-directory.ensures c.into_places.ensures,
)
