use Rattle.std.proofs.Common.{rules, ◌≡◌, Err, refl, sym, ◌∙◌, append-nil}
use Rattle.gr_reader.proofs.Steps.{pushed}
use Rattle.gr_grammar.specs.Grammars.{tree_of, start, round, round_items}
use Rattle.gr_grammar.proofs.Loops.{ended}
use Rattle.mg_reader.specs.Complaints.{item_read}
use Rattle.mg_reader.proofs.Steps.{row_stops, memory_stops, shorter}
use Rattle.mg_reader.proofs.Keys.{counts_pushed, counts_fit, item_notes_pushed, items_value, items_complaints}
use Rattle.mg_reader.proofs.reader.Reader.items.Goals as goal

pub returns-in_err-item : goal.returns-in_err-item
returns-in_err-item c = let e : c.from_residual.result ≡ Err c.in_err-item.field-0.0 = search rules in rw e (row_stops c.rows.invariant.0 (sym c.sees.ensures ∙ c.rows-test.true) c.in_err-item.ensures)

pub returns-in_err-_item : goal.returns-in_err-_item
returns-in_err-_item c = let e : c.from_residual-in_err-_item.result ≡ Err c.in_err-_item.field-0.0 = search rules in rw e (memory_stops c.in_err-_item.ensures)

pub rows-init : goal.rows-init
rows-init c = (start, sym (append-nil _), refl, refl)

pub rows-smaller : goal.rows-smaller
rows-smaller c = shorter refl c.in_ok-item.ensures.0

pub rows-preserved : goal.rows-preserved
rows-preserved c = (round c.rows.invariant.0 (sym c.sees.ensures ∙ c.rows-test.true) c.in_ok-item.ensures.0, pushed _ _ c.in_ok-_item.ensures c.rows.invariant.1 c.in_ok-item.ensures.1, counts_pushed (round_items (λ ts rest m. item_read m) c.rows.invariant.0) (tree_of c.in_ok-item.ensures.0) c.count_with-count.ensures c.rows.invariant.2 c.in_ok-item.ensures.1, item_notes_pushed _ (round_items (λ ts rest m. item_read m) c.rows.invariant.0) _ c.in_ok-item.ensures.2 c.rows.invariant.3 c.rows.invariant.2)

pub returns : goal.returns
returns c = (ended c.rows.invariant.0 (sym c.sees.ensures ∙ c.rows-test.false), items_value c.rows.invariant.0 (sym c.sees.ensures ∙ c.rows-test.false) c.new-row.ensures c.rows.invariant.1, items_complaints _ c.rows.invariant.0 (sym c.sees.ensures ∙ c.rows-test.false) c.rows.invariant.3)

pub count_with-count-requires : goal.count_with-count-requires
count_with-count-requires c = counts_fit _ c.rows.invariant.2
