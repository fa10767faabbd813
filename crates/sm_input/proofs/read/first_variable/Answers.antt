use Rattle.std.proofs.Common.{refl, sym, ◌∙◌}
use Rattle.sm_input.proofs.VariableLemmas.{none_there, skipped_one, found_one}
use Rattle.sm_input.proofs.read.first_variable.Goals as goal

pub rest-init : goal.rest-init
rest-init c = λ bytes. refl

pub rest-preserved : goal.rest-preserved
rest-preserved c = λ bytes. c.rest.invariant bytes ∙ skipped_one bytes _ _ _ _ c.in-Some.ensures.cases.0 (c.is_variable.ensures bytes) c.if-is_variable.false

pub returns-then-is_variable : goal.returns-then-is_variable
returns-then-is_variable c = λ bytes. sym (c.rest.invariant bytes ∙ found_one bytes _ _ _ _ _ c.in-Some.ensures.cases.0 (c.is_variable.ensures bytes) c.if-is_variable.true refl)

pub returns : goal.returns
returns c = λ bytes. sym (c.rest.invariant bytes ∙ none_there bytes _ c.in_default.ensures.cases)
