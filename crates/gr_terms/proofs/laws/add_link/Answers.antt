use Rattle.gr_terms.proofs.AdditionLemmas.{AreLinkedSlots-link, AreLinked-link, Agrees-link}
use Rattle.gr_terms.proofs.laws.add_link.Goals as goal

pub returns : goal.returns
returns c = record {
  slots = λ N s t. AreLinkedSlots-link N s t;
  terms = λ N s t x y values. AreLinked-link N s t values x y;
  agrees = λ N s t values. Agrees-link N s t values;
}
