use Rattle.td_colour.proofs.Likening.{same_count, same_models, same_number, same_minimal, same_forms}
use Rattle.td_colour.proofs.laws.models_go_by_what_is_said.Goals as goal

pub returns : goal.returns
returns g c = record {
  nodes = λ a b h. same_count a b h;
  models = λ a b m F h. same_models a b h m F;
  count = λ a b m n h. same_number a b h m n;
  minimal = λ a b F h. same_minimal a b h F;
  form = λ text a b F c h. same_forms a b h text F c;
}
