use Rattle.gr_terms.proofs.NetworkLemmas.{Entails-within, AreLinked-alike, AreLinkedSlots-alike, Agrees-alike}
use Rattle.gr_terms.proofs.laws.order_is_free.Goals as goal

pub returns : goal.returns
returns c = record {
  terms = λ M N there home. AreLinked-alike M N (Entails-within M N there) (Entails-within N M home);
  slots = λ M N there home. AreLinkedSlots-alike M N (Entails-within M N there) (Entails-within N M home);
  agrees = λ M N there home. Agrees-alike M N (Entails-within M N there) (Entails-within N M home);
}
