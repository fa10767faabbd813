use Rattle.std.proofs.Common.{rules, ◌≡◌, Err, ap, ◌∙◌}
use Rattle.std.specs.Prelude.{◌==◌}
use Rattle.gr_grammar.specs.Grammars.{run_both}
use Rattle.mg_reader.specs.Complaints.{or_first, too_many}
use Rattle.mg_reader.proofs.Steps.{first_stops, then_stops, noted}
use Rattle.mg_reader.proofs.reader.Reader.class.Goals as goal

pub returns-in_err-word : goal.returns-in_err-word
returns-in_err-word c = let e : c.from_residual.result ≡ Err c.in_err-word.field-0.0 = search rules in rw e ((first_stops c.in_err-word.ensures))

pub returns-in_err-name : goal.returns-in_err-name
returns-in_err-name c = let e : c.from_residual-in_err-name.result ≡ Err c.in_err-name.field-0.0 = search rules in rw e ((then_stops c.in_ok-word.ensures.0 (first_stops c.in_err-name.ensures)))

pub returns-in_err-imports : goal.returns-in_err-imports
returns-in_err-imports c = let e : c.from_residual-in_err-imports.result ≡ Err c.in_err-imports.field-0.0 = search rules in rw e ((then_stops c.in_ok-word.ensures.0 (then_stops c.in_ok-name.ensures.0 (first_stops c.in_err-imports.ensures))))

pub returns-in_err-exports : goal.returns-in_err-exports
returns-in_err-exports c = let e : c.from_residual-in_err-exports.result ≡ Err c.in_err-exports.field-0.0 = search rules in rw e ((then_stops c.in_ok-word.ensures.0 (then_stops c.in_ok-name.ensures.0 (then_stops c.in_ok-imports.ensures.0 (first_stops c.in_err-exports.ensures)))))

pub returns-in_err-declares : goal.returns-in_err-declares
returns-in_err-declares c = let e : c.from_residual-in_err-declares.result ≡ Err c.in_err-declares.field-0.0 = search rules in rw e ((then_stops c.in_ok-word.ensures.0 (then_stops c.in_ok-name.ensures.0 (then_stops c.in_ok-imports.ensures.0 (then_stops c.in_ok-exports.ensures.0 (first_stops c.in_err-declares.ensures))))))

pub returns-in_err-_open : goal.returns-in_err-_open
returns-in_err-_open c = let e : c.from_residual-in_err-_open.result ≡ Err c.in_err-_open.field-0.0 = search rules in rw e ((then_stops c.in_ok-word.ensures.0 (then_stops c.in_ok-name.ensures.0 (then_stops c.in_ok-imports.ensures.0 (then_stops c.in_ok-exports.ensures.0 (then_stops c.in_ok-declares.ensures.0 (first_stops c.in_err-_open.ensures)))))))

pub returns-in_err-body : goal.returns-in_err-body
returns-in_err-body c = let e : c.from_residual-in_err-body.result ≡ Err c.in_err-body.field-0.0 = search rules in rw e ((then_stops c.in_ok-word.ensures.0 (then_stops c.in_ok-name.ensures.0 (then_stops c.in_ok-imports.ensures.0 (then_stops c.in_ok-exports.ensures.0 (then_stops c.in_ok-declares.ensures.0 (then_stops c.in_ok-_open.ensures.0 (first_stops c.in_err-body.ensures))))))))

pub returns-in_err-_close : goal.returns-in_err-_close
returns-in_err-_close c = let e : c.from_residual-in_err-_close.result ≡ Err c.in_err-_close.field-0.0 = search rules in rw e ((then_stops c.in_ok-word.ensures.0 (then_stops c.in_ok-name.ensures.0 (then_stops c.in_ok-imports.ensures.0 (then_stops c.in_ok-exports.ensures.0 (then_stops c.in_ok-declares.ensures.0 (then_stops c.in_ok-_open.ensures.0 (then_stops c.in_ok-body.ensures.0 c.in_err-_close.ensures))))))))

pub returns : goal.returns
returns c = ((run_both c.in_ok-word.ensures.0 (run_both c.in_ok-name.ensures.0 (run_both c.in_ok-imports.ensures.0 (run_both c.in_ok-exports.ensures.0 (run_both c.in_ok-declares.ensures.0 (run_both c.in_ok-_open.ensures.0 (run_both c.in_ok-body.ensures.0 c.in_ok-_close.ensures.0))))))), (λ i. record { name = (c.in_ok-name.ensures.1 i).name; imports = c.in_ok-imports.ensures.1 i; exports = c.in_ok-exports.ensures.1 i; declares = c.in_ok-declares.ensures.1 i; body = c.in_ok-body.ensures.1 i }), noted _ _ _ c.in_ok-body.ensures.2 (c.too_many-self.ensures ∙ ap (λ z. or_first c.args.self.now.complaint (too_many (c.args.count == 4096) z)) c.in_ok-word.ensures.1))
