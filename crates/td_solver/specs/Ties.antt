-- The relations that a search tests when it adds a node.
use Rattle.std.specs.Prelude.{◌≡◌, ℕ, zero, suc, ◌<◌, List, [], ◌∷◌, ◌++◌, ⊤, Bool, true, false, ◌==◌, ◌&&◌, nat_lt, filter, max, length, Option, Some, None, slice_get}
use Rattle.gr_base.specs.Lists.{IsAmong}
use Rattle.gr_base.specs.Forests.{Forest}
use Rattle.td_desc.specs.declared.Dominance.{Dominance}
use Rattle.td_desc.specs.declared.Dominance.TheVariants.{Parent, Above, AboveOrSame, Next, Left, LeftOrSame}
use Rattle.td_desc.specs.declared.Related.{Related}
use Rattle.td_forest.specs.declared.Relation.{Relation}
use Rattle.td_forest.specs.Nodes.{Relates}
use Rattle.td_colour.specs.Relations.{Holds}

-- whether node m is the later one of the two
abbrev pub is_of : ℕ → Related → Bool
is_of m r = max r.from r.to == m

-- whether a tree node that comes between two others can break the relation
abbrev pub is_tight_in : Dominance → Bool
is_tight_in Parent = true
is_tight_in Above = false
is_tight_in AboveOrSame = false
is_tight_in Next = true
is_tight_in Left = false
is_tight_in LeftOrSame = false

abbrev pub is_tight : Related → Bool
is_tight r = is_tight_in r.how

-- whether it can, and both nodes are below m
abbrev pub is_tight_before : ℕ → Related → Bool
is_tight_before m r = is_tight r && nat_lt (max r.from r.to) m

-- for each node below the count the relations that the test keeps for it
abbrev pub kept_for : (ℕ → Related → Bool) → ℕ → List Related → List (List Related)
kept_for test zero relations = []
kept_for test (suc m) relations = kept_for test m relations ++ filter (test m) relations ∷ []

-- both nodes are below m
abbrev pub IsBelow : ℕ → Related → Type 0
IsBelow m r = (r.from < m) × (r.to < m)

-- the relation holds in the forest
abbrev pub HoldsOf : Forest (List ℕ) → Related → Type 0
HoldsOf F r = Holds F r.how r.from r.to

-- no node below m stands so between x and y
abbrev pub NoneSo : Forest (List ℕ) → ℕ → ℕ → ℕ → Relation → Type 0
NoneSo F m x y how = (z : ℕ) → z < m → Relates F x z how → Relates F z y how → ⊥

-- what stands for a relation beyond the end of a list
abbrev pub no_relation : Related
no_relation = record { from = 0; how = Parent; to = 0 }

-- a relation says that x is the parent of y
abbrev pub HasParent : List Related → ℕ → ℕ → Type 0
HasParent relations x y = IsAmong relations (record { from = x; how = Parent; to = y })

-- the parent of y is told, if there is one
abbrev pub IsToldParent : List Related → ℕ → Option ℕ → Type 0
IsToldParent relations y None = ⊤
IsToldParent relations y (Some x) = HasParent relations x y

-- and it is below m
abbrev pub IsParentBefore : List Related → ℕ → ℕ → Option ℕ → Type 0
IsParentBefore relations m y None = ⊤
IsParentBefore relations m y (Some x) = (x < m) × HasParent relations x y

-- the relation says that the node x is the parent of y, if there is one
abbrev pub SaysParent : Related → ℕ → Option ℕ → Type 0
SaysParent r y None = ⊤
SaysParent r y (Some x) = r ≡ record { from = x; how = Parent; to = y }

-- for each node below the count a parent, where one was found
pub record ArePlaced (relations : List Related) (count : ℕ) (parents : List (Option ℕ)) : Type 0 where
  pub long : length parents ≡ count
  pub told : (y : ℕ) (o : Option ℕ) → slice_get parents y ≡ Some o → IsToldParent relations y o

-- some node below m is told to be the parent of y
abbrev pub HasParentBelow : List Related → ℕ → ℕ → Type 0
HasParentBelow relations m y = (x : ℕ) × (x < m) × HasParent relations x y

-- a node below m is told to be a child of m, if there is one
abbrev pub IsToldKid : List Related → ℕ → Option ℕ → Type 0
IsToldKid relations m None = ⊤
IsToldKid relations m (Some y) = (y < m) × HasParent relations m y

-- the relation says that the node y below m is a child of m, if there is one
abbrev pub SaysKid : Related → ℕ → Option ℕ → Type 0
SaysKid r m None = ⊤
SaysKid r m (Some y) = (y < m) × (r ≡ record { from = m; how = Parent; to = y })

-- for each node below the count a child below it, where one was found
pub record AreKidsTold (relations : List Related) (count : ℕ) (kids : List (Option ℕ)) : Type 0 where
  pub long : length kids ≡ count
  pub told : (m : ℕ) (o : Option ℕ) → slice_get kids m ≡ Some o → IsToldKid relations m o
