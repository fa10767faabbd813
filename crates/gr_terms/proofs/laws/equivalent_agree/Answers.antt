use Rattle.gr_terms.proofs.NetworkLemmas.{AreLinked-equivalent, AreLinkedSlots-equivalent, Agrees-equivalent}
use Rattle.gr_terms.proofs.laws.equivalent_agree.Goals as goal

pub returns : goal.returns
returns c = record {
  terms = λ N M e. AreLinked-equivalent N M e;
  slots = λ N M e. AreLinkedSlots-equivalent N M e;
  agrees = λ N M e. Agrees-equivalent N M e;
}
