use Rattle.std.proofs.Common.{rules, ◌≡◌, Err}
use Rattle.gr_grammar.specs.Grammars.{run_both}
use Rattle.mg_syntax.specs.declared.item.Header.TheVariants as header
use Rattle.mg_reader.proofs.Steps.{first_stops, then_stops}
use Rattle.mg_reader.proofs.cursor.Cursor.type_line.Goals as goal

pub returns-in_err-_type : goal.returns-in_err-_type
returns-in_err-_type c = let e : c.from_residual.result ≡ Err c.in_err-_type.field-0.0 = search rules in rw e ((first_stops c.in_err-_type.ensures))

pub returns-in_err-name : goal.returns-in_err-name
returns-in_err-name c = let e : c.from_residual-in_err-name.result ≡ Err c.in_err-name.field-0.0 = search rules in rw e ((then_stops c.in_ok-_type.ensures.0 (first_stops c.in_err-name.ensures)))

pub returns-in_err-domain : goal.returns-in_err-domain
returns-in_err-domain c = let e : c.from_residual-in_err-domain.result ≡ Err c.in_err-domain.field-0.0 = search rules in rw e ((then_stops c.in_ok-_type.ensures.0 (then_stops c.in_ok-name.ensures.0 c.in_err-domain.ensures)))

pub returns : goal.returns
returns c = ((run_both c.in_ok-_type.ensures.0 (run_both c.in_ok-name.ensures.0 c.in_ok-domain.ensures.0)), (λ i. header.Domain (c.in_ok-name.ensures.1 i).name (c.in_ok-domain.ensures.1 i)))
