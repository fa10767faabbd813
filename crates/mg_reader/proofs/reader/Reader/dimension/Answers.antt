use Rattle.std.proofs.Common.{rules, ◌≡◌, Err}
use Rattle.gr_grammar.specs.Grammars.{run_both}
use Rattle.mg_reader.proofs.Steps.{first_stops, then_stops}
use Rattle.mg_reader.proofs.reader.Reader.dimension.Goals as goal

pub returns-in_err-_less : goal.returns-in_err-_less
returns-in_err-_less c = let e : c.from_residual.result ≡ Err c.in_err-_less.field-0.0 = search rules in rw e ((first_stops c.in_err-_less.ensures))

pub returns-in_err-statement : goal.returns-in_err-statement
returns-in_err-statement c = let e : c.from_residual-in_err-statement.result ≡ Err c.in_err-statement.field-0.0 = search rules in rw e ((then_stops c.in_ok-_less.ensures.0 c.in_err-statement.ensures))

pub returns : goal.returns
returns c = ((run_both c.in_ok-_less.ensures.0 c.in_ok-statement.ensures.0), c.in_ok-statement.ensures.1, c.in_ok-statement.ensures.2)
