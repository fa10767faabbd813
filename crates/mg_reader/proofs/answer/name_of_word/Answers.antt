use Rattle.std.proofs.Common.{arith, inl, refl, ◌∙◌}
use Rattle.gr_symbols.proofs.NumberLemmas.{IsAmong-Names}
use Rattle.mg_reader.proofs.Keywords.{known_name, known_on, one_known}
use Rattle.mg_reader.proofs.Numbering.{interned, settled}
use Rattle.mg_reader.proofs.answer.name_of_word.Goals as goal

pub returns-in-Word-clause-numbered : goal.returns-in-Word-clause-numbered
returns-in-Word-clause-numbered c = interned c.intern.result c.args.text.now _ _ c.intern.ensures.known c.intern.ensures.fresh

pub returns-in-Word-clause-keywords : goal.returns-in-Word-clause-keywords
returns-in-Word-clause-keywords c = known_on c.intern.result c.args.symbols.now _ c.args.keywords.now c.intern.ensures.grows c.requires.keywords

pub returns-in-Some-clause-named : goal.returns-in-Some-clause-named
returns-in-Some-clause-named c = known_name c.args.symbols.now c.args.keywords.now c.args.kind c.args.text.now c.from-number.result c.in-Some.name c.requires.keywords c.requires.kind c.in_default.not-Word (c.from-number.ensures ∙ c.number.ensures) c.in-Some.is

pub returns-in-Some-clause-numbered : goal.returns-in-Some-clause-numbered
returns-in-Some-clause-numbered c =
    let named = known_name c.args.symbols.now c.args.keywords.now c.args.kind c.args.text.now c.from-number.result c.in-Some.name c.requires.keywords c.requires.kind c.in_default.not-Word (c.from-number.ensures ∙ c.number.ensures) c.in-Some.is in
    inl (IsAmong-Names c.args.symbols.now c.in-Some.name.0 c.args.text.now named, refl)

pub returns-clause-numbered : goal.returns-clause-numbered
returns-clause-numbered c = settled c.args.text.now c.args.symbols.now _ c.in_ok-name.ensures.known c.in_ok-name.ensures.fresh

pub returns-clause-keywords : goal.returns-clause-keywords
returns-clause-keywords c =
    one_known c.args.symbols.now _ c.args.keywords.now c.args.kind c.args.text.now c.from-number.result c.in_ok-name.name c.requires.keywords c.requires.kind c.in_default.not-Word (c.from-number.ensures ∙ c.number.ensures) (omega arith) c.in_ok-name.ensures.grows c.in_ok-name.ensures.named
