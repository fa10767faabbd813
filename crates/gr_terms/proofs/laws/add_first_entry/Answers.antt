use Rattle.gr_terms.proofs.AdditionLemmas.{AreLinked-entry_new, Agrees-entry_new}
use Rattle.gr_terms.proofs.laws.add_first_entry.Goals as goal

pub returns : goal.returns
returns c = record {
  terms = λ N s a x u v lacks. AreLinked-entry_new N s a x lacks u v;
  agrees = λ N s a x lacks. Agrees-entry_new N s a x lacks;
}
