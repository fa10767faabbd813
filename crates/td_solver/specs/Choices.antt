-- Which steps a search has to try.
use Rattle.std.specs.Prelude.{◌≡◌, ℕ, suc, List}
use Rattle.gr_base.specs.Forests.{Forest}
use Rattle.td_desc.specs.Descriptions.{Description}
use Rattle.td_forest.specs.declared.Step.{Step}
use Rattle.td_forest.specs.Names.{IsNamedStep}
use Rattle.td_forest.specs.Steps.{after_step}
use Rattle.td_forest.specs.Without.{without}
use Rattle.td_colour.specs.Models.{IsForestModel}

-- the steps that have P are named ones of F, and each model of one node more that comes from F comes by one of them
pub record Suffices (d : Description ℕ ℕ) (m : ℕ) (F : Forest (List ℕ)) (P : Step → Type 0) : Type 0 where
  pub named : (s : Step) → P s → IsNamedStep F s
  pub all : (H : Forest (List ℕ)) → IsForestModel d (suc m) H → without m H ≡ F → (s : Step) × P s × (H ≡ after_step m s F)
