use Rattle.std.proofs.Common.{rules, ◌≡◌, Err, refl, sym, ap, ◌∙◌}
use Rattle.gr_grammar.specs.Grammars.{tree_of, run_both, start, round, round_items}
use Rattle.gr_grammar.proofs.Loops.{ended}
use Rattle.mg_reader.specs.Values.{with_feature}
use Rattle.mg_reader.specs.Complaints.{or_first, feature_read, more_feature_read, feature_bad}
use Rattle.mg_reader.proofs.Steps.{first_stops, then_stops, row_stops, shorter}
use Rattle.mg_reader.proofs.Keys.{given_same, features_pushed, feature_notes_pushed, features_value, features_complaints}
use Rattle.mg_reader.proofs.reader.Reader.features.Goals as goal

pub returns-in_err-first : goal.returns-in_err-first
returns-in_err-first c = let e : c.from_residual.result ≡ Err c.in_err-first.field-0.0 = search rules in rw e (first_stops c.in_err-first.ensures)

pub returns-in_err-more : goal.returns-in_err-more
returns-in_err-more c = let e : c.from_residual-in_err-more.result ≡ Err c.in_err-more.field-0.0 = search rules in rw e (then_stops c.in_ok-first.ensures.0 (row_stops c.rows.invariant.0 (sym c.sees.ensures ∙ c.rows-test.true) c.in_err-more.ensures))

pub rows-smaller : goal.rows-smaller
rows-smaller c = shorter refl c.in_ok-more.ensures.0

pub rows-init : goal.rows-init
rows-init c = (start, refl, refl)

pub rows-preserved : goal.rows-preserved
rows-preserved c = (round c.rows.invariant.0 (sym c.sees.ensures ∙ c.rows-test.true) c.in_ok-more.ensures.0, features_pushed _ (round_items (λ ts rest m. more_feature_read m) c.rows.invariant.0) _ c.put-in-rows.ensures c.rows.invariant.1 (c.in_ok-more.ensures.1 ∙ given_same (tree_of c.in_ok-more.ensures.0)), feature_notes_pushed _ _ (round_items (λ ts rest m. more_feature_read m) c.rows.invariant.0) _ c.in_ok-more.ensures.2 c.rows.invariant.2 c.rows.invariant.1)

pub returns : goal.returns
returns c = (run_both c.in_ok-first.ensures.0 (ended c.rows.invariant.0 (sym c.sees.ensures ∙ c.rows-test.false)), features_value c.rows.invariant.0 (sym c.sees.ensures ∙ c.rows-test.false) (c.put.ensures ∙ ap (λ z. with_feature z c.in_ok-first.first) c.new-found.ensures) c.in_ok-first.ensures.1 c.rows.invariant.1, features_complaints (feature_read (tree_of c.in_ok-first.ensures.0)) _ c.rows.invariant.0 (sym c.sees.ensures ∙ c.rows-test.false) (c.put.ensures ∙ ap (λ z. with_feature z c.in_ok-first.first) c.new-found.ensures) c.in_ok-first.ensures.1 (c.in_ok-first.ensures.2 ∙ ap (λ z. or_first c.args.self.now.complaint (feature_bad z (feature_read (tree_of c.in_ok-first.ensures.0)))) c.new-found.ensures) c.rows.invariant.2)
