use Rattle.std.proofs.Common.{rules, ◌≡◌, Err, refl, sym, ◌∙◌}
use Rattle.gr_grammar.specs.Grammars.{run_left, run_right}
use Rattle.mg_syntax.specs.declared.block.SynItem.TheVariants as syn_item
use Rattle.mg_reader.proofs.Steps.{left_stops, right_stops}
use Rattle.mg_reader.proofs.reader.Reader.syn_item.Goals as goal

pub returns-in_err-node : goal.returns-in_err-node
returns-in_err-node c = let e : c.from_residual.result ≡ Err c.in_err-node.field-0.0 = search rules in rw e (left_stops (sym c.sees.ensures ∙ c.if-sees.true) (c.in_err-node.ensures))

pub returns-in_ok-node : goal.returns-in_ok-node
returns-in_ok-node c = (run_left (sym c.sees.ensures ∙ c.if-sees.true) (c.in_ok-node.ensures.0), (λ i. syn_item.Node (c.in_ok-node.ensures.1 i)), c.in_ok-node.ensures.2)

pub returns-in_err-relation : goal.returns-in_err-relation
returns-in_err-relation c = let e : c.from_residual-in_err-relation.result ≡ Err c.in_err-relation.field-0.0 = search rules in rw e (right_stops (sym c.sees.ensures ∙ c.if-sees.false) (c.in_err-relation.ensures))

pub returns-in_ok-relation : goal.returns-in_ok-relation
returns-in_ok-relation c = (run_right (sym c.sees.ensures ∙ c.if-sees.false) (c.in_ok-relation.ensures.0), c.in_ok-relation.ensures.1, refl)
