use Rattle.std.proofs.Common.{◌∙◌}
use Rattle.gr_reader.specs.Complaints.{all_noted}
use Rattle.gr_feats.specs.Complaints.{complaint_if}
use Rattle.lx_lexicon.specs.Complaints.{lemma_bad, names_of}
use Rattle.gr_reader.specs.Classes.{is_one_of}
use Rattle.gr_reader.specs.declared.complaints.Fault.TheVariants.{Duplicate}
use Rattle.lx_lexicon.proofs.MetLemmas.{met_before, met_behind}
use Rattle.lx_lexicon.proofs.NoteLemmas.{noted_then}
use Rattle.lx_lexicon.proofs.notes.note_coanchor.Goals as goal

pub returns-clause-noted : goal.returns-clause-noted
returns-clause-noted c = λ before w are is.
    let known = met_before c.args.symbols.now before c.args.met.now w c.args.coanchor _ are is c.in_ok-again.ensures.known in
    noted_then c.args.complaints.now _ _ (complaint_if (is_one_of (names_of before) w.name.text) Duplicate w.name.left) (lemma_bad w.lemma)
    (c.note_if.ensures ∙ (λ i. all_noted c.args.complaints.now (complaint_if (known i) Duplicate (is.name.left i)))) (c.note_lemma.ensures.noted w.lemma is.lemma)

pub returns-clause-met : goal.returns-clause-met
returns-clause-met c = λ before w are is. met_behind c.args.symbols.now c.note_lemma.ensures.distinct before c.args.met.now _ w c.args.coanchor are is c.in_ok-again.ensures.members
