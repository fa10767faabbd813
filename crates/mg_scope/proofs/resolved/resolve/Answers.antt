use Rattle.std.proofs.Common.{◌≡◌, Err, rules}
use Rattle.mg_scope.proofs.resolved.resolve.Goals as goal

pub returns-in_err-places-clause-err : goal.returns-in_err-places-clause-err
returns-in_err-places-clause-err c =
    let is : c.from_residual.result ≡ Err c.in_err-places.field-0.0 = search rules in
    rw is (rw c.as_slice.ensures at c.in_err-places.ensures.err)
