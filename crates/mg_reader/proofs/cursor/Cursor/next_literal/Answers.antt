use Rattle.std.proofs.Common.{rules, ◌≡◌, Err}
use Rattle.gr_grammar.specs.Grammars.{run_both}
use Rattle.mg_reader.proofs.Steps.{then_stops}
use Rattle.mg_reader.proofs.cursor.Cursor.next_literal.Goals as goal

pub returns-in_err-literal : goal.returns-in_err-literal
returns-in_err-literal c = let e : c.from_residual.result ≡ Err c.in_err-literal.field-0.0 = search rules in rw e ((then_stops c.skip-semicolon.ensures.0 c.in_err-literal.ensures))

pub returns : goal.returns
returns c = ((run_both c.skip-semicolon.ensures.0 c.in_ok-literal.ensures.0), c.in_ok-literal.ensures.1)
