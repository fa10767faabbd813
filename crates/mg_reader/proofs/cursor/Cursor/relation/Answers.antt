use Rattle.std.proofs.Common.{rules, ◌≡◌, Err, ap, ◌∙◌}
use Rattle.gr_grammar.specs.Grammars.{run_both}
use Rattle.mg_reader.specs.Values.{relate_of}
use Rattle.mg_syntax.specs.declared.block.SynItem.TheVariants as syn_item
use Rattle.mg_reader.proofs.Steps.{first_stops, then_stops}
use Rattle.mg_reader.proofs.cursor.Cursor.relation.Goals as goal

pub returns-in_err-left : goal.returns-in_err-left
returns-in_err-left c = let e : c.from_residual.result ≡ Err c.in_err-left.field-0.0 = search rules in rw e ((first_stops c.in_err-left.ensures))

pub returns-in_err-operator : goal.returns-in_err-operator
returns-in_err-operator c = let e : c.from_residual-in_err-operator.result ≡ Err c.in_err-operator.field-0.0 = search rules in rw e ((then_stops c.in_ok-left.ensures.0 (first_stops c.in_err-operator.ensures)))

pub returns-in_err-right : goal.returns-in_err-right
returns-in_err-right c = let e : c.from_residual-in_err-right.result ≡ Err c.in_err-right.field-0.0 = search rules in rw e ((then_stops c.in_ok-left.ensures.0 (then_stops c.in_ok-operator.ensures.0 c.in_err-right.ensures)))

pub returns : goal.returns
returns c = ((run_both c.in_ok-left.ensures.0 (run_both c.in_ok-operator.ensures.0 c.in_ok-right.ensures.0)), (λ i. syn_item.Relation (c.in_ok-left.ensures.1 i) ((c.relate_of.ensures ∙ ap (λ z. relate_of z.kind) c.in_ok-operator.ensures.1) i) (c.in_ok-right.ensures.1 i)))
