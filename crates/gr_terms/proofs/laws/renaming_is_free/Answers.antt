use Rattle.gr_terms.proofs.NetworkLemmas.{linked_back, linked_slot_back, AreLinked-renamed, AreLinkedSlots-renamed, Agrees-renamed}
use Rattle.gr_terms.proofs.laws.renaming_is_free.Goals as goal

pub returns : goal.returns
returns c = record {
  terms = λ f h g k N e d. AreLinked-renamed f g h k N (linked_back f h N e) (linked_slot_back g k N d);
  slots = λ f h g k N e d. AreLinkedSlots-renamed f g h k N (linked_back f h N e) (linked_slot_back g k N d);
  agrees = λ f h g k N e d. Agrees-renamed f g h k N (linked_back f h N e) (linked_slot_back g k N d);
}
