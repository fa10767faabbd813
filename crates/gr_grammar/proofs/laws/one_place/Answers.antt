use Rattle.gr_grammar.proofs.Places.{one_fault, no_fault, one_place, no_place}
use Rattle.gr_grammar.proofs.laws.one_place.Goals as goal

pub returns : goal.returns
returns g c = record {
  one = λ S g ts r s a b. one_fault S g a b;
  none = λ S g ts r m a. no_fault S g r m a;
  one_inside = λ S turn limit g ts r s a b. one_place S turn limit g a b;
  none_inside = λ S turn limit g ts r m room a. no_place S turn limit g r m room a;
}
