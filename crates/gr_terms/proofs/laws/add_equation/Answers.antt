use Rattle.gr_terms.proofs.AdditionLemmas.{AreLinked-equate, AreLinkedSlots-equate, Agrees-equate}
use Rattle.gr_terms.proofs.laws.add_equation.Goals as goal

pub returns : goal.returns
returns c = record {
  terms = λ N x y. AreLinked-equate N x y;
  slots = λ N x y. AreLinkedSlots-equate N x y;
  agrees = λ N x y. Agrees-equate N x y;
}
