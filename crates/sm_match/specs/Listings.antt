-- Lists of instances in order, and what a search adds to one.
use Rattle.std.specs.Prelude.{◌≡◌, ◌+◌, ◌<◌, ◌≤◌, ⊤, List, ◌++◌, length, Result, Ok, Err}
use Rattle.gr_base.specs.Lists.{Each, IsAmong}
use Rattle.tg_model.specs.declared.instance.Instance.{Instance}
use Rattle.tg_model.specs.Instances.{InOrder}
use Rattle.sm_match.specs.declared.refusal.SelectRefusal.{SelectRefusal}
use Rattle.sm_match.specs.declared.refusal.SelectRefusal.TheVariants.{Over, Memory}

-- just the instances of which P holds, in order
pub record Lists (P : Instance → Type 0) (is : List Instance) : Type 0 where
  pub order : InOrder is
  pub only : Each P is
  pub all : (i : Instance) → P i → IsAmong is i

-- behind the old list stand just these instances, and there are still not too many
pub record Adds (P : Instance → Type 0) (old new : List Instance) : Type 0 where
  pub more : List Instance
  pub is : new ≡ old ++ more
  pub lists : Lists P more
  pub few : length old ≤ 4096 → length new ≤ 4096

-- with some of these instances behind the old list there are too many
pub record Overflows (P : Instance → Type 0) (old : List Instance) : Type 0 where
  pub more : List Instance
  pub many : 4096 < length old + length more
  pub order : InOrder more
  pub only : Each P more

-- all of them were added, or they are too many, or memory was wanting
abbrev pub Finds : {U : Type 0} → (Instance → Type 0) → List Instance → List Instance → Result U SelectRefusal → Type 0
Finds P old new (Ok u) = Adds P old new
Finds P old new (Err Over) = Overflows P old
Finds P old new (Err Memory) = ⊤
