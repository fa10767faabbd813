use Rattle.gr_terms.proofs.NetworkLemmas.{Follows-entailed, AreLinked-entailed, AreLinkedSlots-entailed, Agrees-entailed}
use Rattle.gr_terms.proofs.laws.entailed_agrees.Goals as goal

pub returns : goal.returns
returns c = record {
  follows = λ N M entails. Follows-entailed N M entails;
  terms = λ N M entails. AreLinked-entailed N M entails;
  slots = λ N M entails. AreLinkedSlots-entailed N M entails;
  agrees = λ N M entails. Agrees-entailed N M entails;
}
