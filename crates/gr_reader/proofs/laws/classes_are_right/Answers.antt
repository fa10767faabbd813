use Rattle.gr_reader.proofs.Systems.{are_apart, shown, flat_is_system}
use Rattle.gr_reader.proofs.laws.classes_are_right.Goals as goal

pub returns : goal.returns
returns g = record { are_apart = λ c d t a p q. are_apart c d t a p q; shown = λ c. shown c; system = flat_is_system }
