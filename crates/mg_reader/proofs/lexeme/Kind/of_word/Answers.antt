use Rattle.std.proofs.Common.{sym, ◌∙◌}
use Rattle.mg_reader.proofs.Tables.{word_of_width}
use Rattle.mg_reader.proofs.lexeme.Kind.of_word.Goals as goal

pub returns-in-3 : goal.returns-in-3
returns-in-3 c = c.of_three_letters.ensures ∙ sym (word_of_width 3 c.args.text.now c.in-3.is)

pub returns-in-4 : goal.returns-in-4
returns-in-4 c = c.of_four_letters.ensures ∙ sym (word_of_width 4 c.args.text.now c.in-4.is)

pub returns-in-5 : goal.returns-in-5
returns-in-5 c = c.of_five_letters.ensures ∙ sym (word_of_width 5 c.args.text.now c.in-5.is)

pub returns-in-6 : goal.returns-in-6
returns-in-6 c = c.of_six_letters.ensures ∙ sym (word_of_width 6 c.args.text.now c.in-6.is)

pub returns-in-7 : goal.returns-in-7
returns-in-7 c = c.of_seven_letters.ensures ∙ sym (word_of_width 7 c.args.text.now c.in-7.is)
