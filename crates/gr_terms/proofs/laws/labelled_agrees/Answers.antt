use Rattle.gr_terms.proofs.NetworkLemmas.{label-linked, label-linked_slots, Agrees-labels}
use Rattle.gr_terms.proofs.laws.labelled_agrees.Goals as goal

pub returns : goal.returns
returns c = record {
  terms = λ N f. label-linked N f;
  slots = λ N f. label-linked_slots N f;
  agrees = λ N f. Agrees-labels N f;
}
