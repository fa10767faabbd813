use Rattle.gr_terms.proofs.NetworkLemmas.{Follows-put, AreLinked-put, AreLinkedSlots-put, Agrees-from}
use Rattle.gr_terms.proofs.laws.interpreted_agrees.Goals as goal

pub returns : goal.returns
returns c = record {
  follows = λ f g M N by. Follows-put f g M N by;
  terms = λ f g M N by. AreLinked-put f g M N by;
  slots = λ f g M N by. AreLinkedSlots-put f g M N by;
  agrees = λ f g M N by. Agrees-from f g M N by;
}
