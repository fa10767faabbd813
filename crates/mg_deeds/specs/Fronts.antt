-- Lists that have grown by a front of another list.
use Rattle.std.specs.Prelude.{◌≡◌, List, ◌++◌}

-- of all that is to be added to the old list, what is left is not in the new one yet
pub record HasLeft {A : Type 0} (old new all left : List A) : Type 0 where
  pub front : List A
  pub added : new ≡ old ++ front
  pub whole : all ≡ front ++ left

-- some front of all that is to be added was added
abbrev pub AddsFront : {A : Type 0} → List A → List A → List A → Type 0
AddsFront {A} old new all = (left : List A) × HasLeft old new all left
