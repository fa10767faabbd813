use Rattle.std.proofs.Common.{rules, ◌≡◌, Err, sym, ◌∙◌}
use Rattle.tg_syntax.proofs.Noting.{then_read, first_read, no_braces, no_brace, some_braces, token_read}
use Rattle.tg_syntax.proofs.reader.Reader.braces.Goals as goal

pub returns-then-room-eq0 : goal.returns-then-room-eq0
returns-then-room-eq0 c = no_braces c.args.room c.if-room-eq0.true

pub returns-then-not-sees : goal.returns-then-not-sees
returns-then-not-sees c = no_brace c.args.room (sym c.sees.ensures ∙ c.if-not-sees.true)

pub returns-in_err-_opening : goal.returns-in_err-_opening
returns-in_err-_opening c = let e : c.from_residual.result ≡ Err c.in_err-_opening.field-0.0 = search rules in rw e (some_braces c.args.room c.if-room-eq0.false (sym c.sees.ensures ∙ c.if-not-sees.false) (first_read (token_read c.in_err-_opening.ensures _)))

pub returns-in_err-_properties : goal.returns-in_err-_properties
returns-in_err-_properties c = let e : c.from_residual-in_err-_properties.result ≡ Err c.in_err-_properties.field-0.0 = search rules in rw e (some_braces c.args.room c.if-room-eq0.false (sym c.sees.ensures ∙ c.if-not-sees.false) (then_read (token_read c.in_ok-_opening.ensures _) (first_read c.in_err-_properties.ensures)))

pub returns-in_err-_closing : goal.returns-in_err-_closing
returns-in_err-_closing c = let e : c.from_residual-in_err-_closing.result ≡ Err c.in_err-_closing.field-0.0 = search rules in rw e (some_braces c.args.room c.if-room-eq0.false (sym c.sees.ensures ∙ c.if-not-sees.false) (then_read (token_read c.in_ok-_opening.ensures _) (then_read c.in_ok-_properties.ensures (token_read c.in_err-_closing.ensures _))))

pub returns : goal.returns
returns c = some_braces c.args.room c.if-room-eq0.false (sym c.sees.ensures ∙ c.if-not-sees.false) (then_read (token_read c.in_ok-_opening.ensures _) (then_read c.in_ok-_properties.ensures (token_read c.in_ok-_closing.ensures _)))
