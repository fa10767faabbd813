use Rattle.std.proofs.Common.{refl, sym, ◌∙◌}
use Rattle.gr_grammar.specs.Grammars.{take_token}
use Rattle.mg_reader.specs.Reading.{for_syntax}
use Rattle.mg_reader.proofs.Steps.{no_token_at, no_token_end}
use Rattle.mg_reader.proofs.cursor.Cursor.take.Goals as goal

pub returns-in_default : goal.returns-in_default
returns-in_default c = for_syntax (no_token_end _ _ c.in_default.ensures.cases)

pub returns-then-not-has : goal.returns-then-not-has
returns-then-not-has c = rw c.in-Some.ensures.cases.0 (for_syntax (no_token_at _ _ _ (sym c.has.ensures ∙ c.if-not-has.true)))

pub returns : goal.returns
returns c = rw c.in-Some.ensures.cases.0 (take_token (sym c.has.ensures ∙ c.if-not-has.false), refl)
