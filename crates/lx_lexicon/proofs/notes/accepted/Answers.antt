use Rattle.std.proofs.Common.{◌∙◌, ap, map}
use Rattle.lx_lexicon.specs.Reading.{co_name_of}
use Rattle.lx_lexicon.proofs.NoteLemmas.{entry_is, entry_noted}
use Rattle.lx_lexicon.proofs.notes.accepted.Goals as goal

pub returns-clause-entry : goal.returns-clause-entry
returns-clause-entry c = λ texts w is. entry_is texts w c.args.found _ is (c.in_ok-coanchors.ensures.names ∙ ap (map co_name_of) c.as_slice.ensures)

pub returns-clause-noted : goal.returns-clause-noted
returns-clause-noted c = λ w is.
    entry_noted c.args.symbols.now c.note_lemma.ensures.distinct w c.args.found is c.args.complaints.now _ _ _ _ _
    (rw c.len.ensures at c.note_if.ensures) (c.note_lemma.ensures.noted w.head.lemma is.head.lemma) c.note_again.ensures c.note_again-2.ensures
    (c.in_ok-coanchors.ensures.noted w.body.coanchors (rw c.as_slice.ensures is.body.coanchors))
