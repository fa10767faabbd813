use Rattle.std.proofs.Common.{rules, ◌≡◌, Err}
use Rattle.gr_grammar.specs.Grammars.{run_both}
use Rattle.mg_reader.proofs.Steps.{first_stops, then_stops}
use Rattle.mg_reader.proofs.cursor.Cursor.argument.Goals as goal

pub returns-in_err-name : goal.returns-in_err-name
returns-in_err-name c = let e : c.from_residual.result ≡ Err c.in_err-name.field-0.0 = search rules in rw e ((first_stops c.in_err-name.ensures))

pub returns-in_err-given : goal.returns-in_err-given
returns-in_err-given c = let e : c.from_residual-in_err-given.result ≡ Err c.in_err-given.field-0.0 = search rules in rw e ((then_stops c.in_ok-name.ensures.0 c.in_err-given.ensures))

pub returns : goal.returns
returns c = ((run_both c.in_ok-name.ensures.0 c.in_ok-given.ensures.0), (λ i. ((c.in_ok-name.ensures.1 i).name, c.in_ok-given.ensures.1 i)))
