use Rattle.std.proofs.Common.{rules, ◌≡◌, Err}
use Rattle.gr_grammar.specs.Grammars.{run_both}
use Rattle.mg_reader.proofs.Steps.{then_stops}
use Rattle.mg_reader.proofs.cursor.Cursor.next_arg.Goals as goal

pub returns-in_err-side : goal.returns-in_err-side
returns-in_err-side c = let e : c.from_residual.result ≡ Err c.in_err-side.field-0.0 = search rules in rw e ((then_stops c.skip-comma.ensures.0 c.in_err-side.ensures))

pub returns : goal.returns
returns c = ((run_both c.skip-comma.ensures.0 c.in_ok-side.ensures.0), c.in_ok-side.ensures.1)
