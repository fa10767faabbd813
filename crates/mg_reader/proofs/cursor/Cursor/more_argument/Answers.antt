use Rattle.std.proofs.Common.{rules, ◌≡◌, Err}
use Rattle.gr_grammar.specs.Grammars.{run_both}
use Rattle.mg_reader.proofs.Steps.{first_stops, then_stops}
use Rattle.mg_reader.proofs.cursor.Cursor.more_argument.Goals as goal

pub returns-in_err-_comma : goal.returns-in_err-_comma
returns-in_err-_comma c = let e : c.from_residual.result ≡ Err c.in_err-_comma.field-0.0 = search rules in rw e ((first_stops c.in_err-_comma.ensures))

pub returns-in_err-argument : goal.returns-in_err-argument
returns-in_err-argument c = let e : c.from_residual-in_err-argument.result ≡ Err c.in_err-argument.field-0.0 = search rules in rw e ((then_stops c.in_ok-_comma.ensures.0 c.in_err-argument.ensures))

pub returns : goal.returns
returns c = ((run_both c.in_ok-_comma.ensures.0 c.in_ok-argument.ensures.0), c.in_ok-argument.ensures.1)
