use Rattle.gr_terms.proofs.AdditionLemmas.{AreLinked-follows, AreLinkedSlots-follows, Agrees-follows}
use Rattle.gr_terms.proofs.laws.add_consequence.Goals as goal

pub returns : goal.returns
returns c = record {
  terms = λ N e follows. AreLinked-follows N e follows;
  slots = λ N e follows. AreLinkedSlots-follows N e follows;
  agrees = λ N e follows. Agrees-follows N e follows;
}
