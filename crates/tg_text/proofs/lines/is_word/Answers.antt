use Rattle.tg_text.proofs.FrontLemmas.{word_is}
use Rattle.tg_text.proofs.lines.is_word.Goals as goal

pub returns-then-text-le-NAME_LIMIT : goal.returns-then-text-le-NAME_LIMIT
returns-then-text-le-NAME_LIMIT c = word_is c.is_bare.result c.args.text.now c.if-text-le-NAME_LIMIT.true c.utf8.text c.is_bare.ensures
