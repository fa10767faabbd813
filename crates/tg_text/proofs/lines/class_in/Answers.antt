use Rattle.std.proofs.lemmas.Bool.{false≢true}
use Rattle.tg_text.proofs.FrontLemmas.{no_class_line, no_class_word}
use Rattle.tg_text.proofs.lines.class_in.Goals as goal

pub returns-in_err-name : goal.returns-in_err-name
returns-in_err-name c = rw c.from_residual-in_err-name.ensures (λ name more word e. no_class_line c.args.text.now c.in_ok-rest.rest.now c.in_ok-rest.ensures c.in_err-name.ensures name more e)

pub returns-else-is_word : goal.returns-else-is_word
returns-else-is_word c =
    no_class_word c.args.text.now c.in_ok-rest.rest.now c.in_ok-name.name.now c.in_ok-name.more.now c.in_ok-rest.ensures c.in_ok-name.ensures.0 c.in_ok-name.ensures.1 (λ w. false≢true (c.if-is_word.ensures.1 w))
