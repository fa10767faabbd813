use Rattle.std.proofs.Common.{sym, ◌∙◌}
use Rattle.mg_reader.proofs.Tables.{sign_not_of_width}
use Rattle.mg_reader.proofs.lexeme.Kind.of_sign.Goals as goal

pub returns-else-text-eq1 : goal.returns-else-text-eq1
returns-else-text-eq1 c = c.of_long_sign.ensures ∙ sym (sign_not_of_width 1 c.args.text.now c.if-text-eq1.false)
