use Rattle.gr_terms.proofs.NetworkLemmas.{AreLinked-part, AreLinkedSlots-part, Agrees-part}
use Rattle.gr_terms.proofs.laws.part_agrees.Goals as goal

pub returns : goal.returns
returns c = record {
  terms = λ part whole within. AreLinked-part part whole within;
  slots = λ part whole within. AreLinkedSlots-part part whole within;
  agrees = λ part whole within. Agrees-part part whole within;
}
