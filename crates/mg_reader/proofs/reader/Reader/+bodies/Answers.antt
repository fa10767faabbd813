use Rattle.std.proofs.Common.{rules, ◌≡◌, [], ◌∷◌, ◌++◌, Err, refl, sym, ap, ◌∙◌, arith, append-nil}
use Rattle.gr_reader.proofs.Steps.{pushed}
use Rattle.gr_grammar.specs.Grammars.{tree_of, run_both, run_left, run_right, run_part, take_nothing, start, round, round_items}
use Rattle.gr_grammar.proofs.Fronts.{no_longer}
use Rattle.gr_grammar.proofs.Loops.{ended}
use Rattle.mg_reader.specs.Grammar.{system}
use Rattle.mg_reader.specs.Values.{more_alternative_of, more_statement_of}
use Rattle.mg_reader.specs.Complaints.{more_alternative_bad, more_statement_bad}
use Rattle.mg_syntax.specs.declared.body.Statement.TheVariants as statement
use Rattle.mg_reader.proofs.Steps.{first_stops, then_stops, left_stops, right_stops, part_stops, row_stops, memory_stops, shorter, below, row_value_by, all_pushed, row_notes_by, alternatives_items, alternatives_notes, statements_items, statements_notes}
use Rattle.mg_reader.proofs.reader.Reader.+bodies.Goals as goal

pub body-returns-in_err-alternatives : goal.body-returns-in_err-alternatives
body-returns-in_err-alternatives t c = let e : c.from_residual.result ≡ Err c.in_err-alternatives.field-0.0 = search rules in rw e (part_stops (left_stops (sym c.sees.ensures ∙ c.if-sees.true) c.in_err-alternatives.ensures))

pub body-returns-in_ok-alternatives : goal.body-returns-in_ok-alternatives
body-returns-in_ok-alternatives t c = (run_part (run_left (sym c.sees.ensures ∙ c.if-sees.true) c.in_ok-alternatives.ensures.0), c.in_ok-alternatives.ensures.1, c.in_ok-alternatives.ensures.2)

pub body-returns-else-sees : goal.body-returns-else-sees
body-returns-else-sees t c = (run_part (run_right (sym c.sees.ensures ∙ c.if-sees.false) take_nothing), c.new.ensures, refl)

pub alternatives-returns-in_err-first : goal.alternatives-returns-in_err-first
alternatives-returns-in_err-first t c = let e : c.from_residual.result ≡ Err c.in_err-first.field-0.0 = search rules in rw e (first_stops c.in_err-first.ensures)

pub alternatives-returns-in_err-_first : goal.alternatives-returns-in_err-_first
alternatives-returns-in_err-_first t c = let e : c.from_residual-in_err-_first.result ≡ Err c.in_err-_first.field-0.0 = search rules in rw e (memory_stops c.in_err-_first.ensures)

pub alternatives-returns-in_err-more : goal.alternatives-returns-in_err-more
alternatives-returns-in_err-more t c = let e : c.from_residual-in_err-more.result ≡ Err c.in_err-more.field-0.0 = search rules in rw e (then_stops c.in_ok-first.ensures.0 (row_stops c.rows.invariant.0 (sym c.sees.ensures ∙ c.rows-test.true) c.in_err-more.ensures))

pub alternatives-returns-in_err-_more : goal.alternatives-returns-in_err-_more
alternatives-returns-in_err-_more t c = let e : c.from_residual-in_err-_more.result ≡ Err c.in_err-_more.field-0.0 = search rules in rw e (memory_stops c.in_err-_more.ensures)

pub alternatives-rows-init : goal.alternatives-rows-init
alternatives-rows-init t c = (start, sym (append-nil _), refl)

pub alternatives-rows-smaller : goal.alternatives-rows-smaller
alternatives-rows-smaller t c = shorter refl c.in_ok-more.ensures.0

pub alternatives-rows-preserved : goal.alternatives-rows-preserved
alternatives-rows-preserved t c = (round c.rows.invariant.0 (sym c.sees.ensures ∙ c.rows-test.true) c.in_ok-more.ensures.0, pushed _ _ c.in_ok-_more.ensures c.rows.invariant.1 (c.in_ok-more.ensures.1), all_pushed (round_items (λ ts rest m. more_alternative_bad m) c.rows.invariant.0) _ _ c.in_ok-more.ensures.2 c.rows.invariant.2)

pub alternatives-returns : goal.alternatives-returns
alternatives-returns t c = (run_both c.in_ok-first.ensures.0 (ended c.rows.invariant.0 (sym c.sees.ensures ∙ c.rows-test.false)), row_value_by (λ ts rest m. more_alternative_of m) c.rows.invariant.0 (sym c.sees.ensures ∙ c.rows-test.false) (c.in_ok-_first.ensures ∙ ap (λ z. z ++ (c.in_ok-first.first) ∷ []) c.new-row.ensures) (c.in_ok-first.ensures.1) c.rows.invariant.1 (alternatives_items (tree_of (ended c.rows.invariant.0 (sym c.sees.ensures ∙ c.rows-test.false)))), row_notes_by _ _ (λ ts rest m. more_alternative_bad m) c.rows.invariant.0 (sym c.sees.ensures ∙ c.rows-test.false) c.in_ok-first.ensures.2 c.rows.invariant.2 (alternatives_notes (tree_of (ended c.rows.invariant.0 (sym c.sees.ensures ∙ c.rows-test.false)))))

pub more_alternative-returns-in_err-_bar : goal.more_alternative-returns-in_err-_bar
more_alternative-returns-in_err-_bar t c = let e : c.from_residual.result ≡ Err c.in_err-_bar.field-0.0 = search rules in rw e ((first_stops c.in_err-_bar.ensures))

pub more_alternative-returns-in_err-alternative : goal.more_alternative-returns-in_err-alternative
more_alternative-returns-in_err-alternative t c = let e : c.from_residual-in_err-alternative.result ≡ Err c.in_err-alternative.field-0.0 = search rules in rw e ((then_stops c.in_ok-_bar.ensures.0 c.in_err-alternative.ensures))

pub more_alternative-returns : goal.more_alternative-returns
more_alternative-returns t c = ((run_both c.in_ok-_bar.ensures.0 c.in_ok-alternative.ensures.0), c.in_ok-alternative.ensures.1, c.in_ok-alternative.ensures.2)

pub alternative-returns-in_err-first : goal.alternative-returns-in_err-first
alternative-returns-in_err-first t c = let e : c.from_residual.result ≡ Err c.in_err-first.field-0.0 = search rules in rw e (first_stops c.in_err-first.ensures)

pub alternative-returns-in_err-_first : goal.alternative-returns-in_err-_first
alternative-returns-in_err-_first t c = let e : c.from_residual-in_err-_first.result ≡ Err c.in_err-_first.field-0.0 = search rules in rw e (memory_stops c.in_err-_first.ensures)

pub alternative-returns-in_err-more : goal.alternative-returns-in_err-more
alternative-returns-in_err-more t c = let e : c.from_residual-in_err-more.result ≡ Err c.in_err-more.field-0.0 = search rules in rw e (then_stops c.in_ok-first.ensures.0 (row_stops c.rows.invariant.0 (sym c.sees.ensures ∙ c.rows-test.true) c.in_err-more.ensures))

pub alternative-returns-in_err-_more : goal.alternative-returns-in_err-_more
alternative-returns-in_err-_more t c = let e : c.from_residual-in_err-_more.result ≡ Err c.in_err-_more.field-0.0 = search rules in rw e (memory_stops c.in_err-_more.ensures)

pub alternative-rows-init : goal.alternative-rows-init
alternative-rows-init t c = (start, sym (append-nil _), refl)

pub alternative-rows-smaller : goal.alternative-rows-smaller
alternative-rows-smaller t c = shorter refl c.in_ok-more.ensures.0

pub alternative-rows-preserved : goal.alternative-rows-preserved
alternative-rows-preserved t c = (round c.rows.invariant.0 (sym c.sees.ensures ∙ c.rows-test.true) c.in_ok-more.ensures.0, pushed _ _ c.in_ok-_more.ensures c.rows.invariant.1 (c.in_ok-more.ensures.1), all_pushed (round_items (λ ts rest m. more_statement_bad m) c.rows.invariant.0) _ _ c.in_ok-more.ensures.2 c.rows.invariant.2)

pub alternative-returns : goal.alternative-returns
alternative-returns t c = (run_both c.in_ok-first.ensures.0 (ended c.rows.invariant.0 (sym c.sees.ensures ∙ c.rows-test.false)), row_value_by (λ ts rest m. more_statement_of m) c.rows.invariant.0 (sym c.sees.ensures ∙ c.rows-test.false) (c.in_ok-_first.ensures ∙ ap (λ z. z ++ (c.in_ok-first.first) ∷ []) c.new-row.ensures) (c.in_ok-first.ensures.1) c.rows.invariant.1 (statements_items (tree_of (ended c.rows.invariant.0 (sym c.sees.ensures ∙ c.rows-test.false)))), row_notes_by _ _ (λ ts rest m. more_statement_bad m) c.rows.invariant.0 (sym c.sees.ensures ∙ c.rows-test.false) c.in_ok-first.ensures.2 c.rows.invariant.2 (statements_notes (tree_of (ended c.rows.invariant.0 (sym c.sees.ensures ∙ c.rows-test.false)))))

pub more_statement-returns-in_err-_semicolon : goal.more_statement-returns-in_err-_semicolon
more_statement-returns-in_err-_semicolon t c = let e : c.from_residual.result ≡ Err c.in_err-_semicolon.field-0.0 = search rules in rw e ((first_stops c.in_err-_semicolon.ensures))

pub more_statement-returns-in_err-statement : goal.more_statement-returns-in_err-statement
more_statement-returns-in_err-statement t c = let e : c.from_residual-in_err-statement.result ≡ Err c.in_err-statement.field-0.0 = search rules in rw e ((then_stops c.in_ok-_semicolon.ensures.0 c.in_err-statement.ensures))

pub more_statement-returns : goal.more_statement-returns
more_statement-returns t c = ((run_both c.in_ok-_semicolon.ensures.0 c.in_ok-statement.ensures.0), c.in_ok-statement.ensures.1, c.in_ok-statement.ensures.2)

pub statement-returns-in_err-group : goal.statement-returns-in_err-group
statement-returns-in_err-group t c = let e : c.from_residual.result ≡ Err c.in_err-group.field-0.0 = search rules in rw e (left_stops (sym c.sees.ensures ∙ c.if-sees.true) (c.in_err-group.ensures))

pub statement-returns-in_ok-group : goal.statement-returns-in_ok-group
statement-returns-in_ok-group t c = (run_left (sym c.sees.ensures ∙ c.if-sees.true) (c.in_ok-group.ensures.0), (λ i. statement.Group (c.in_ok-group.ensures.1 i)), c.in_ok-group.ensures.2)

pub statement-returns-in_err-call : goal.statement-returns-in_err-call
statement-returns-in_err-call t c = let e : c.from_residual-in_err-call.result ≡ Err c.in_err-call.field-0.0 = search rules in rw e (right_stops (sym c.sees.ensures ∙ c.if-sees.false) (left_stops (sym c.sees-else-sees.ensures ∙ c.if-sees-2.true) (c.in_err-call.ensures)))

pub statement-returns-in_ok-call : goal.statement-returns-in_ok-call
statement-returns-in_ok-call t c = (run_right (sym c.sees.ensures ∙ c.if-sees.false) (run_left (sym c.sees-else-sees.ensures ∙ c.if-sees-2.true) (c.in_ok-call.ensures.0)), (λ i. statement.Call (c.in_ok-call.ensures.1 i)), refl)

pub statement-returns-in_err-variable : goal.statement-returns-in_err-variable
statement-returns-in_err-variable t c = let e : c.from_residual-in_err-variable.result ≡ Err c.in_err-variable.field-0.0 = search rules in rw e (right_stops (sym c.sees.ensures ∙ c.if-sees.false) (right_stops (sym c.sees-else-sees.ensures ∙ c.if-sees-2.false) (left_stops (sym c.sees-else-sees-2.ensures ∙ c.if-sees-3.true) (c.in_err-variable.ensures))))

pub statement-returns-in_ok-variable : goal.statement-returns-in_ok-variable
statement-returns-in_ok-variable t c = (run_right (sym c.sees.ensures ∙ c.if-sees.false) (run_right (sym c.sees-else-sees.ensures ∙ c.if-sees-2.false) (run_left (sym c.sees-else-sees-2.ensures ∙ c.if-sees-3.true) (c.in_ok-variable.ensures.0))), c.in_ok-variable.ensures.1, refl)

pub statement-returns-in_err-dimension : goal.statement-returns-in_err-dimension
statement-returns-in_err-dimension t c = let e : c.from_residual-in_err-dimension.result ≡ Err c.in_err-dimension.field-0.0 = search rules in rw e (right_stops (sym c.sees.ensures ∙ c.if-sees.false) (right_stops (sym c.sees-else-sees.ensures ∙ c.if-sees-2.false) (right_stops (sym c.sees-else-sees-2.ensures ∙ c.if-sees-3.false) (c.in_err-dimension.ensures))))

pub statement-returns-in_ok-dimension : goal.statement-returns-in_ok-dimension
statement-returns-in_ok-dimension t c = (run_right (sym c.sees.ensures ∙ c.if-sees.false) (run_right (sym c.sees-else-sees.ensures ∙ c.if-sees-2.false) (run_right (sym c.sees-else-sees-2.ensures ∙ c.if-sees-3.false) (c.in_ok-dimension.ensures.0))), c.in_ok-dimension.ensures.1, c.in_ok-dimension.ensures.2)

pub group-returns-in_err-_open : goal.group-returns-in_err-_open
group-returns-in_err-_open t c = let e : c.from_residual.result ≡ Err c.in_err-_open.field-0.0 = search rules in rw e ((first_stops c.in_err-_open.ensures))

pub group-returns-in_err-body : goal.group-returns-in_err-body
group-returns-in_err-body t c = let e : c.from_residual-in_err-body.result ≡ Err c.in_err-body.field-0.0 = search rules in rw e ((then_stops c.in_ok-_open.ensures.0 (first_stops c.in_err-body.ensures)))

pub group-returns-in_err-_close : goal.group-returns-in_err-_close
group-returns-in_err-_close t c = let e : c.from_residual-in_err-_close.result ≡ Err c.in_err-_close.field-0.0 = search rules in rw e ((then_stops c.in_ok-_open.ensures.0 (then_stops c.in_ok-body.ensures.0 c.in_err-_close.ensures)))

pub group-returns : goal.group-returns
group-returns t c = ((run_both c.in_ok-_open.ensures.0 (run_both c.in_ok-body.ensures.0 c.in_ok-_close.ensures.0)), c.in_ok-body.ensures.1, c.in_ok-body.ensures.2)

pub alternatives-more_alternative-requires : goal.alternatives-more_alternative-requires
alternatives-more_alternative-requires t c = (let d = c.decreases in let a = no_longer system (tree_of c.in_ok-first.ensures.0) in let b = below c.rows.invariant.0 in omega arith, tt)

pub alternative-more_statement-requires : goal.alternative-more_statement-requires
alternative-more_statement-requires t c = (let d = c.decreases in let a = no_longer system (tree_of c.in_ok-first.ensures.0) in let b = below c.rows.invariant.0 in omega arith, tt)
