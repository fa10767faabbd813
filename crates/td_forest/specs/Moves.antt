-- What a step makes of positions.
use Rattle.std.specs.Prelude.{◌≡◌, ℕ, suc, ◌+◌, ◌-◌, List, [], ◌∷◌, ◌==◌, nat_lt, if◌then◌else◌, ◌⊎◌, Option, Some, None}
use Rattle.gr_base.specs.Forests.{Forest}
use Rattle.td_forest.specs.Nodes.{Stands, IsIn}

-- the position under which the children of a node stand, or the roots
abbrev pub IsBase : Forest (List ℕ) → Option ℕ → List ℕ → Type 0
IsBase F None base = base ≡ []
IsBase F (Some u) base = Stands F u base

-- nothing moves
abbrev pub stay : List ℕ → List ℕ
stay p = p

-- the new position of what stood at one, after a tree node came in under `base` that took the trees from one number up to another
abbrev pub moved : List ℕ → ℕ → ℕ → List ℕ → List ℕ
moved base from to [] = []
moved [] from to (i ∷ q) = if nat_lt i from then i ∷ q else if nat_lt i to then from ∷ (i - from) ∷ q else suc (from + (i - to)) ∷ q
moved (b ∷ base) from to (i ∷ q) = if i == b then i ∷ moved base from to q else i ∷ q

-- G has the nodes of F, each moved to where its position goes, and x at a place
pub record IsMoved (F G : Forest (List ℕ)) (move : List ℕ → List ℕ) (x : ℕ) (place : List ℕ) : Type 0 where
  pub old : (y : ℕ) (p : List ℕ) → Stands F y p → Stands G y (move p)
  pub new : Stands G x place
  pub only : (y : ℕ) → IsIn G y → IsIn F y ⊎ (y ≡ x)
