use Rattle.std.proofs.Common.{◌∙◌, subst}
use Rattle.gr_base.specs.Lists.{IsAmong}
use Rattle.sm_match.specs.declared.index.Row.{Row}
use Rattle.sm_match.proofs.IndexLemmas.{rows_there, rows_more}
use Rattle.sm_match.proofs.index.add_row.Goals as goal

pub returns-in-Some : goal.returns-in-Some
returns-in-Some c = λ some are.
    rows_there c.args.any c.args.input.now some c.args.rows.now.items c.args.literal.now c.in-Some.field-0.now
    (subst (λ rs. IsAmong rs c.in-Some.field-0.now) c.as_slice.ensures.value c.in-Some.ensures.0)
    (c.in-Some.ensures.1 ∙ c.row_name-pred.ensures, c.in-Some.ensures.2 ∙ c.len-arity.ensures) are

pub returns-in_ok-push-in-None : goal.returns-in_ok-push-in-None
returns-in_ok-push-in-None c = λ some are.
    let r : Row = record { pred = c.row_name-pred.result; arity = c.len-arity.result; places = c.in_ok-places-in-None.places } in
    rows_more c.args.any c.args.input.now some c.args.rows.now.items c.args.literal.now r c.push.new.self.items c.in_ok-push-in-None.ensures.items c.in_ok-places-in-None.ensures
    (c.row_name-pred.ensures, c.len-arity.ensures) are
