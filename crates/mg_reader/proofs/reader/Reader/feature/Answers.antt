use Rattle.std.proofs.Common.{rules, ◌≡◌, Err, sym, ◌∙◌}
use Rattle.gr_grammar.specs.Grammars.{run_both, run_left, run_right}
use Rattle.mg_reader.specs.declared.found.Feature.TheVariants as feature
use Rattle.mg_reader.proofs.Steps.{first_stops, then_stops, left_stops, right_stops}
use Rattle.mg_reader.proofs.Keys.{key_noted, key_noted_then}
use Rattle.mg_reader.proofs.reader.Reader.feature.Goals as goal

pub returns-in_err-cat : goal.returns-in_err-cat
returns-in_err-cat c = let e : c.from_residual.result ≡ Err c.in_err-cat.field-0.0 = search rules in rw e (left_stops (sym c.sees.ensures ∙ c.if-sees.true) ((first_stops c.in_err-cat.ensures)))

pub returns-in_err-_equals : goal.returns-in_err-_equals
returns-in_err-_equals c = let e : c.from_residual-in_err-_equals.result ≡ Err c.in_err-_equals.field-0.0 = search rules in rw e (left_stops (sym c.sees.ensures ∙ c.if-sees.true) ((then_stops c.in_ok-cat.ensures.0 (first_stops c.in_err-_equals.ensures))))

pub returns-in_err-value : goal.returns-in_err-value
returns-in_err-value c = let e : c.from_residual-in_err-value.result ≡ Err c.in_err-value.field-0.0 = search rules in rw e (left_stops (sym c.sees.ensures ∙ c.if-sees.true) ((then_stops c.in_ok-cat.ensures.0 (then_stops c.in_ok-_equals.ensures.0 c.in_err-value.ensures))))

pub returns-in_ok-value : goal.returns-in_ok-value
returns-in_ok-value c = (run_left (sym c.sees.ensures ∙ c.if-sees.true) ((run_both c.in_ok-cat.ensures.0 (run_both c.in_ok-_equals.ensures.0 c.in_ok-value.ensures.0))), (λ i. feature.Category (c.in_ok-value.ensures.1 i)), key_noted _ _ _ c.again_at-self.ensures c.is_some-known.ensures c.in_ok-cat.ensures.1)

pub returns-in_err-top : goal.returns-in_err-top
returns-in_err-top c = let e : c.from_residual-in_err-top.result ≡ Err c.in_err-top.field-0.0 = search rules in rw e (right_stops (sym c.sees.ensures ∙ c.if-sees.false) (left_stops (sym c.sees-else-sees.ensures ∙ c.if-sees-2.true) ((first_stops c.in_err-top.ensures))))

pub returns-in_err-_is : goal.returns-in_err-_is
returns-in_err-_is c = let e : c.from_residual-in_err-_is.result ≡ Err c.in_err-_is.field-0.0 = search rules in rw e (right_stops (sym c.sees.ensures ∙ c.if-sees.false) (left_stops (sym c.sees-else-sees.ensures ∙ c.if-sees-2.true) ((then_stops c.in_ok-top.ensures.0 (first_stops c.in_err-_is.ensures)))))

pub returns-in_err-bag : goal.returns-in_err-bag
returns-in_err-bag c = let e : c.from_residual-in_err-bag.result ≡ Err c.in_err-bag.field-0.0 = search rules in rw e (right_stops (sym c.sees.ensures ∙ c.if-sees.false) (left_stops (sym c.sees-else-sees.ensures ∙ c.if-sees-2.true) ((then_stops c.in_ok-top.ensures.0 (then_stops c.in_ok-_is.ensures.0 c.in_err-bag.ensures)))))

pub returns-in_ok-bag : goal.returns-in_ok-bag
returns-in_ok-bag c = (run_right (sym c.sees.ensures ∙ c.if-sees.false) (run_left (sym c.sees-else-sees.ensures ∙ c.if-sees-2.true) ((run_both c.in_ok-top.ensures.0 (run_both c.in_ok-_is.ensures.0 c.in_ok-bag.ensures.0)))), (λ i. feature.Top (c.in_ok-bag.ensures.1 i)), key_noted_then _ _ _ _ c.in_ok-bag.ensures.2 c.again_at-self-then-sees-2.ensures c.is_some-known-then-sees-2.ensures c.in_ok-top.ensures.1)

pub returns-in_err-bot : goal.returns-in_err-bot
returns-in_err-bot c = let e : c.from_residual-in_err-bot.result ≡ Err c.in_err-bot.field-0.0 = search rules in rw e (right_stops (sym c.sees.ensures ∙ c.if-sees.false) (right_stops (sym c.sees-else-sees.ensures ∙ c.if-sees-2.false) ((first_stops c.in_err-bot.ensures))))

pub returns-in_err-_sign : goal.returns-in_err-_sign
returns-in_err-_sign c = let e : c.from_residual-in_err-_sign.result ≡ Err c.in_err-_sign.field-0.0 = search rules in rw e (right_stops (sym c.sees.ensures ∙ c.if-sees.false) (right_stops (sym c.sees-else-sees.ensures ∙ c.if-sees-2.false) ((then_stops c.in_ok-bot.ensures.0 (first_stops c.in_err-_sign.ensures)))))

pub returns-in_err-pairs : goal.returns-in_err-pairs
returns-in_err-pairs c = let e : c.from_residual-in_err-pairs.result ≡ Err c.in_err-pairs.field-0.0 = search rules in rw e (right_stops (sym c.sees.ensures ∙ c.if-sees.false) (right_stops (sym c.sees-else-sees.ensures ∙ c.if-sees-2.false) ((then_stops c.in_ok-bot.ensures.0 (then_stops c.in_ok-_sign.ensures.0 c.in_err-pairs.ensures)))))

pub returns-in_ok-pairs : goal.returns-in_ok-pairs
returns-in_ok-pairs c = (run_right (sym c.sees.ensures ∙ c.if-sees.false) (run_right (sym c.sees-else-sees.ensures ∙ c.if-sees-2.false) ((run_both c.in_ok-bot.ensures.0 (run_both c.in_ok-_sign.ensures.0 c.in_ok-pairs.ensures.0)))), (λ i. feature.Bottom (c.in_ok-pairs.ensures.1 i)), key_noted_then _ _ _ _ c.in_ok-pairs.ensures.2 c.again_at-self-else-sees-2.ensures c.is_some-known-else-sees-2.ensures c.in_ok-bot.ensures.1)
