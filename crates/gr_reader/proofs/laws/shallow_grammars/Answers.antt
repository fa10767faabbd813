use Rattle.gr_reader.proofs.Levels.{all_shallow, fault_inside, fault_outside}
use Rattle.gr_reader.proofs.laws.shallow_grammars.Goals as goal

pub returns : goal.returns
returns c = record {
  inside = λ parts info g limit m e ts t. all_shallow limit m e ts t;
  place = λ parts info g limit m e ts rest. (λ f. fault_outside limit parts info g m e ts rest f, λ f. fault_inside limit parts info g m e ts rest f);
}
