use Rattle.mg_reader.proofs.Keywords.{known_on}
use Rattle.mg_reader.proofs.Numbering.{interned}
use Rattle.mg_reader.proofs.answer.name_with.Goals as goal

pub returns-in-Str-clause-numbered : goal.returns-in-Str-clause-numbered
returns-in-Str-clause-numbered c = rw c.in-Str.is (interned c.intern.result c.args.text.now _ _ c.intern.ensures.known c.intern.ensures.fresh)

pub returns-in-Var-clause-numbered : goal.returns-in-Var-clause-numbered
returns-in-Var-clause-numbered c = rw c.in-Var.is (interned c.intern-in-Var.result c.args.text.now _ _ c.intern-in-Var.ensures.known c.intern-in-Var.ensures.fresh)

pub returns-in-Str-clause-keywords : goal.returns-in-Str-clause-keywords
returns-in-Str-clause-keywords c = known_on c.intern.result c.args.symbols.now _ c.args.keywords.now c.intern.ensures.grows c.requires.keywords

pub returns-in-Var-clause-keywords : goal.returns-in-Var-clause-keywords
returns-in-Var-clause-keywords c = known_on c.intern-in-Var.result c.args.symbols.now _ c.args.keywords.now c.intern-in-Var.ensures.grows c.requires.keywords
