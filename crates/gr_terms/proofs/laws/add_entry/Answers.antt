use Rattle.gr_terms.proofs.AdditionLemmas.{AreLinked-entry, AreLinkedSlots-entry, Agrees-entry}
use Rattle.gr_terms.proofs.laws.add_entry.Goals as goal

pub returns : goal.returns
returns c = record {
  terms = λ N s a x y u v has. AreLinked-entry N s a x y has u v;
  slots = λ N s a x. AreLinkedSlots-entry N s a x;
  agrees = λ N s a x y has. Agrees-entry N s a x y has;
}
