use Rattle.std.proofs.Common.{rules, ◌≡◌, Err}
use Rattle.gr_grammar.specs.Grammars.{run_both}
use Rattle.mg_syntax.specs.declared.item.Header.TheVariants as header
use Rattle.mg_reader.proofs.Steps.{first_stops, then_stops}
use Rattle.mg_reader.proofs.cursor.Cursor.principle.Goals as goal

pub returns-in_err-_use : goal.returns-in_err-_use
returns-in_err-_use c = let e : c.from_residual.result ≡ Err c.in_err-_use.field-0.0 = search rules in rw e ((first_stops c.in_err-_use.ensures))

pub returns-in_err-name : goal.returns-in_err-name
returns-in_err-name c = let e : c.from_residual-in_err-name.result ≡ Err c.in_err-name.field-0.0 = search rules in rw e ((then_stops c.in_ok-_use.ensures.0 (first_stops c.in_err-name.ensures)))

pub returns-in_err-_with : goal.returns-in_err-_with
returns-in_err-_with c = let e : c.from_residual-in_err-_with.result ≡ Err c.in_err-_with.field-0.0 = search rules in rw e ((then_stops c.in_ok-_use.ensures.0 (then_stops c.in_ok-name.ensures.0 (first_stops c.in_err-_with.ensures))))

pub returns-in_err-_open : goal.returns-in_err-_open
returns-in_err-_open c = let e : c.from_residual-in_err-_open.result ≡ Err c.in_err-_open.field-0.0 = search rules in rw e ((then_stops c.in_ok-_use.ensures.0 (then_stops c.in_ok-name.ensures.0 (then_stops c.in_ok-_with.ensures.0 (first_stops c.in_err-_open.ensures)))))

pub returns-in_err-arguments : goal.returns-in_err-arguments
returns-in_err-arguments c = let e : c.from_residual-in_err-arguments.result ≡ Err c.in_err-arguments.field-0.0 = search rules in rw e ((then_stops c.in_ok-_use.ensures.0 (then_stops c.in_ok-name.ensures.0 (then_stops c.in_ok-_with.ensures.0 (then_stops c.in_ok-_open.ensures.0 (first_stops c.in_err-arguments.ensures))))))

pub returns-in_err-_close : goal.returns-in_err-_close
returns-in_err-_close c = let e : c.from_residual-in_err-_close.result ≡ Err c.in_err-_close.field-0.0 = search rules in rw e ((then_stops c.in_ok-_use.ensures.0 (then_stops c.in_ok-name.ensures.0 (then_stops c.in_ok-_with.ensures.0 (then_stops c.in_ok-_open.ensures.0 (then_stops c.in_ok-arguments.ensures.0 (first_stops c.in_err-_close.ensures)))))))

pub returns-in_err-_dims : goal.returns-in_err-_dims
returns-in_err-_dims c = let e : c.from_residual-in_err-_dims.result ≡ Err c.in_err-_dims.field-0.0 = search rules in rw e ((then_stops c.in_ok-_use.ensures.0 (then_stops c.in_ok-name.ensures.0 (then_stops c.in_ok-_with.ensures.0 (then_stops c.in_ok-_open.ensures.0 (then_stops c.in_ok-arguments.ensures.0 (then_stops c.in_ok-_close.ensures.0 (first_stops c.in_err-_dims.ensures))))))))

pub returns-in_err-_left : goal.returns-in_err-_left
returns-in_err-_left c = let e : c.from_residual-in_err-_left.result ≡ Err c.in_err-_left.field-0.0 = search rules in rw e ((then_stops c.in_ok-_use.ensures.0 (then_stops c.in_ok-name.ensures.0 (then_stops c.in_ok-_with.ensures.0 (then_stops c.in_ok-_open.ensures.0 (then_stops c.in_ok-arguments.ensures.0 (then_stops c.in_ok-_close.ensures.0 (then_stops c.in_ok-_dims.ensures.0 (first_stops c.in_err-_left.ensures)))))))))

pub returns-in_err-dimension : goal.returns-in_err-dimension
returns-in_err-dimension c = let e : c.from_residual-in_err-dimension.result ≡ Err c.in_err-dimension.field-0.0 = search rules in rw e ((then_stops c.in_ok-_use.ensures.0 (then_stops c.in_ok-name.ensures.0 (then_stops c.in_ok-_with.ensures.0 (then_stops c.in_ok-_open.ensures.0 (then_stops c.in_ok-arguments.ensures.0 (then_stops c.in_ok-_close.ensures.0 (then_stops c.in_ok-_dims.ensures.0 (then_stops c.in_ok-_left.ensures.0 (first_stops c.in_err-dimension.ensures))))))))))

pub returns-in_err-_right : goal.returns-in_err-_right
returns-in_err-_right c = let e : c.from_residual-in_err-_right.result ≡ Err c.in_err-_right.field-0.0 = search rules in rw e ((then_stops c.in_ok-_use.ensures.0 (then_stops c.in_ok-name.ensures.0 (then_stops c.in_ok-_with.ensures.0 (then_stops c.in_ok-_open.ensures.0 (then_stops c.in_ok-arguments.ensures.0 (then_stops c.in_ok-_close.ensures.0 (then_stops c.in_ok-_dims.ensures.0 (then_stops c.in_ok-_left.ensures.0 (then_stops c.in_ok-dimension.ensures.0 c.in_err-_right.ensures))))))))))

pub returns : goal.returns
returns c = ((run_both c.in_ok-_use.ensures.0 (run_both c.in_ok-name.ensures.0 (run_both c.in_ok-_with.ensures.0 (run_both c.in_ok-_open.ensures.0 (run_both c.in_ok-arguments.ensures.0 (run_both c.in_ok-_close.ensures.0 (run_both c.in_ok-_dims.ensures.0 (run_both c.in_ok-_left.ensures.0 (run_both c.in_ok-dimension.ensures.0 c.in_ok-_right.ensures.0))))))))), (λ i. header.Principle (c.in_ok-name.ensures.1 i).name (c.in_ok-arguments.ensures.1 i) (c.in_ok-dimension.ensures.1 i).name))
