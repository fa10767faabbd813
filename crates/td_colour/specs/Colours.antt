-- The colour rule: a tree node is one black with any number of whites, or one red alone.
use Rattle.std.specs.Prelude.{◌≡◌, ℕ, ◌<◌, List, [], ◌∷◌, ◌⊎◌, Option, Some, None, slice_get}
use Rattle.gr_base.specs.Lists.{IsAmong}
use Rattle.gr_base.specs.Forests.{Forest, labels}
use Rattle.td_forest.specs.declared.Relation.TheVariants.{Same}
use Rattle.td_forest.specs.Nodes.{Relates}
use Rattle.td_desc.specs.declared.Colour.{Colour}
use Rattle.td_desc.specs.declared.Colour.TheVariants.{Black, White, Red}
use Rattle.td_desc.specs.Descriptions.{DescribedNode}

-- the node with this number has the colour
abbrev pub IsOf : {S : Type 0} → List (DescribedNode S) → Colour → ℕ → Type 0
IsOf {S} nodes c x = (n : DescribedNode S) × (slice_get nodes x ≡ Some n) × (n.colour ≡ c)

-- the set has one black and else only whites
abbrev pub HasOneBlack : {S : Type 0} → List (DescribedNode S) → List ℕ → Type 0
HasOneBlack nodes set = (b : ℕ) × IsAmong set b × IsOf nodes Black b × ((y : ℕ) → IsAmong set y → (y ≡ b → ⊥) → IsOf nodes White y)

-- the set is one red alone
abbrev pub IsOneRed : {S : Type 0} → List (DescribedNode S) → List ℕ → Type 0
IsOneRed nodes set = (r : ℕ) × (set ≡ r ∷ []) × IsOf nodes Red r

abbrev pub IsLawful : {S : Type 0} → List (DescribedNode S) → List ℕ → Type 0
IsLawful nodes set = HasOneBlack nodes set ⊎ IsOneRed nodes set

-- the rule holds at the tree node of x
abbrev pub IsAllowed : {S : Type 0} → List (DescribedNode S) → Forest (List ℕ) → ℕ → Type 0
IsAllowed nodes F x = (set : List ℕ) × IsAmong (labels F) set × IsAmong set x × IsLawful nodes set

-- in search order blacks stand before all others
abbrev pub BlacksFirst : {S : Type 0} → List (DescribedNode S) → Type 0
BlacksFirst nodes = (x y : ℕ) → x < y → IsOf nodes Black y → IsOf nodes Black x

-- y is another node in the tree node of x
abbrev pub IsBeside : Forest (List ℕ) → ℕ → ℕ → Type 0
IsBeside F x y = (y ≡ x → ⊥) × Relates F x y Same

-- what colours give together: none but whites is white, one black with whites is black, one red alone is red
abbrev pub Together : {S : Type 0} → List (DescribedNode S) → (ℕ → Type 0) → Colour → Type 0
Together nodes P Black = (b : ℕ) × P b × IsOf nodes Black b × ((y : ℕ) → P y → (y ≡ b → ⊥) → IsOf nodes White y)
Together nodes P White = (y : ℕ) → P y → IsOf nodes White y
Together nodes P Red = (r : ℕ) × P r × IsOf nodes Red r × ((y : ℕ) → P y → y ≡ r)

-- what two colours give together, where they may share a tree node
abbrev pub both : Colour → Colour → Option Colour
both Black White = Some Black
both White Black = Some Black
both White White = Some White
both Black Black = None
both Black Red = None
both White Red = None
both Red c = None
