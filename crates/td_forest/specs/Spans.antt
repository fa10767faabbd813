-- The places of the nodes of a forest in preorder, and arrays that hold them.
use Rattle.std.specs.Prelude.{◌≡◌, ℕ, ◌+◌, ◌-◌, ◌<◌, ◌≤◌, List, [], ◌∷◌, ◌⊎◌, Bool, true, false, if◌then◌else◌, Option, Some, None, length, take, slice_index_or}
use Rattle.gr_base.specs.Lists.{IsAmong}
use Rattle.gr_base.specs.Forests.{Forest, empty, tree, size}
use Rattle.td_forest.specs.declared.Made.{Made}
use Rattle.td_forest.specs.Limits.{node_limit}
use Rattle.td_forest.specs.Nodes.{IsIn}
use Rattle.td_forest.specs.Spots.{Spot, join, wrap, down, along, under_spot}
use Rattle.td_forest.specs.Steps.{forest_of, IsGrown, trees_of, width, first_trees}

-- in a forest whose first tree node is number n in preorder, the tree node of y is number first, and the first one behind its tree is number behind
abbrev pub IsSpan : ℕ → Forest (List ℕ) → ℕ → ℕ → ℕ → Type 0
IsSpan n empty y first behind = ⊥
IsSpan n (tree set kids more) y first behind =
    (IsAmong set y × (first ≡ n) × (behind ≡ n + 1 + size kids)) ⊎ (IsSpan (n + 1) kids y first behind ⊎ IsSpan (n + 1 + size kids) more y first behind)

-- the list of trees that begins at the place m, among those of a forest that begins at the place n
abbrev pub StartsAt : ℕ → Forest (List ℕ) → ℕ → Forest (List ℕ) → Type 0
StartsAt n empty m G = (m ≡ n) × (G ≡ empty)
StartsAt n (tree set kids more) m G = ((m ≡ n) × (G ≡ tree set kids more)) ⊎ (StartsAt (n + 1) kids m G ⊎ StartsAt (n + 1 + size kids) more m G)

-- the new tree node of the step is number p, its children are those up to q, and the list of its siblings begins at c; the current list begins at l
abbrev pub IsWrap : ℕ → ℕ → Forest (List ℕ) → Spot → ℕ → ℕ → ℕ → Type 0
IsWrap l n F join c p q = ⊥
IsWrap l n F (wrap k) c p q = (c ≡ l) × (p ≡ n) × (q ≡ n + size (first_trees k F))
IsWrap l n empty (down s) c p q = ⊥
IsWrap l n (tree set kids more) (down s) c p q = IsWrap (n + 1) (n + 1) kids s c p q
IsWrap l n empty (along s) c p q = ⊥
IsWrap l n (tree set kids more) (along s) c p q = IsWrap l (n + 1 + size kids) more s c p q

-- what becomes of a node's places where a tree node is put at p among siblings that begin at c: it moves on, or it is over the new one, or it stands to the left
pub data Shifts (c p first behind first' behind' : ℕ) : Type 0 where
  moves : p ≤ first → first' ≡ first + 1 → behind' ≡ behind + 1 → Shifts c p first behind first' behind'
  grows : first < c → c ≤ behind → p ≤ behind → first < p → first' ≡ first → behind' ≡ behind + 1 → Shifts c p first behind first' behind'
  stays : behind < c ⊎ c ≤ first → behind ≤ p → first < p → first' ≡ first → behind' ≡ behind → Shifts c p first behind first' behind'

-- what the code makes of places: the three cases without what the forest adds to them
pub data IsShiftedOn (c p first behind first' behind' : ℕ) : Type 0 where
  moved_on : p ≤ first → first' ≡ first + 1 → behind' ≡ behind + 1 → IsShiftedOn c p first behind first' behind'
  has_grown : first < p → first < c → c ≤ behind → first' ≡ first → behind' ≡ behind + 1 → IsShiftedOn c p first behind first' behind'
  has_stayed : first < p → behind < c ⊎ c ≤ first → first' ≡ first → behind' ≡ behind → IsShiftedOn c p first behind first' behind'

-- what the code makes of places when the tree node at p goes
pub data IsShiftedBack (p first behind first' behind' : ℕ) : Type 0 where
  moved_back : p < first → first ≡ first' + 1 → behind ≡ behind' + 1 → IsShiftedBack p first behind first' behind'
  has_shrunk : first ≤ p → p < behind → first' ≡ first → behind ≡ behind' + 1 → IsShiftedBack p first behind first' behind'
  has_kept : first ≤ p → behind ≤ p → first' ≡ first → behind' ≡ behind → IsShiftedBack p first behind first' behind'

-- each entry that is here is moved
abbrev pub AreShiftedOn : ℕ → ℕ → List Bool → List ℕ → List ℕ → List ℕ → List ℕ → Type 0
AreShiftedOn c p here first behind first' behind' =
    (k : ℕ) → slice_index_or here k false ≡ true → IsShiftedOn c p (slice_index_or first k 0) (slice_index_or behind k 0) (slice_index_or first' k 0) (slice_index_or behind' k 0)

abbrev pub AreShiftedBack : ℕ → List Bool → List ℕ → List ℕ → List ℕ → List ℕ → Type 0
AreShiftedBack p here first behind first' behind' =
    (k : ℕ) → slice_index_or here k false ≡ true → IsShiftedBack p (slice_index_or first k 0) (slice_index_or behind k 0) (slice_index_or first' k 0) (slice_index_or behind' k 0)

-- the first k entries that are here are changed by R, and the others are as they were
pub record IsPartly (R : ℕ → ℕ → ℕ → ℕ → Type 0) (here : List Bool) (first behind : List ℕ) (k : ℕ) (first' behind' : List ℕ) : Type 0 where
  pub done : (j : ℕ) → j < k → slice_index_or here j false ≡ true → R (slice_index_or first j 0) (slice_index_or behind j 0) (slice_index_or first' j 0) (slice_index_or behind' j 0)
  pub rest : (j : ℕ) → k ≤ j → (slice_index_or first' j 0 ≡ slice_index_or first j 0) × (slice_index_or behind' j 0 ≡ slice_index_or behind j 0)

-- the place behind that of a node at a place, or any where none of the first k is there
pub data IsEndAt (here : List Bool) (first behind : List ℕ) (k place end : ℕ) : Type 0 where
  at_tree : (y : ℕ) → slice_index_or here y false ≡ true → slice_index_or first y 0 ≡ place → end ≡ slice_index_or behind y 0 → IsEndAt here first behind k place end
  at_none : ((j : ℕ) → j < k → slice_index_or here j false ≡ true → slice_index_or first j 0 ≡ place → ⊥) → IsEndAt here first behind k place end

-- the places behind those of the nodes, by the places where they begin, as far as the first k entries tell
abbrev pub AreEnds : List Bool → List ℕ → List ℕ → ℕ → List ℕ → Type 0
AreEnds here first behind k ends = (place : ℕ) → place < node_limit → IsEndAt here first behind k place (slice_index_or ends place 0)

-- what a table of a place for each node has at one
abbrev pub IsReadAt : List ℕ → ℕ → ℕ → Type 0
IsReadAt ends place end = place < node_limit → end ≡ slice_index_or ends place 0

-- where the list of the children of a node begins, and the list of the roots
abbrev pub start_of : Option ℕ → List ℕ → ℕ
start_of None first = 0
start_of (Some u) first = slice_index_or first u 0 + 1

-- the place is the one behind the tree at a place
abbrev pub IsTreeEnd : List Made → ℕ → ℕ → Type 0
IsTreeEnd made place end = (set : List ℕ) (kids more : Forest (List ℕ)) → StartsAt 0 (forest_of made) place (tree set kids more) → end ≡ place + 1 + size kids

-- the table has the places behind the trees, and no tree begins beyond it
pub record AreTreeEnds (made : List Made) (ends : List ℕ) : Type 0 where
  pub within : (place : ℕ) → place < node_limit → IsTreeEnd made place (slice_index_or ends place 0)
  pub beyond : (place end : ℕ) → node_limit ≤ place → IsTreeEnd made place end

-- the place is the one behind so many trees from a place on
abbrev pub AreSkipped : List Made → ℕ → ℕ → ℕ → Type 0
AreSkipped made place trees end = (G : Forest (List ℕ)) → StartsAt 0 (forest_of made) place G → trees ≤ width G → end ≡ place + size (first_trees trees G)

-- the place is that of the first of the children of a node, or of the roots
abbrev pub IsStart : List Made → Option ℕ → ℕ → Type 0
IsStart made under place = StartsAt 0 (forest_of made) place (trees_of under (forest_of made))
    × ((s : Spot) (c p q : ℕ) → IsWrap place place (trees_of under (forest_of made)) s c p q → IsWrap 0 0 (forest_of made) (under_spot under s (forest_of made)) c p q)

-- how many are false
abbrev pub free : List Bool → ℕ
free [] = 0
free (b ∷ bs) = (if b then 0 else 1) + free bs

-- the arrays hold the places of the nodes of the forest
pub record ArePlaces (F : Forest (List ℕ)) (here : List Bool) (first behind : List ℕ) : Type 0 where
  pub low : (y : ℕ) → IsIn F y → y < node_limit
  pub there : (y : ℕ) → IsIn F y → slice_index_or here y false ≡ true
  pub only : (y : ℕ) → slice_index_or here y false ≡ true → IsIn F y
  pub spans : (y : ℕ) → IsIn F y → IsSpan 0 F y (slice_index_or first y 0) (slice_index_or behind y 0)

pub record IsKept (made : List Made) (count : ℕ) (here : List Bool) (first behind : List ℕ) : Type 0 where
  pub cells : length made ≡ node_limit
  pub room : count + free here ≡ node_limit
  pub grown : IsGrown empty (take count made)
  pub places : ArePlaces (forest_of (take count made)) here first behind

-- no entry of the first k that is here is greater, and one is it, or it is 0
pub record IsGreatestOf (here : List Bool) (behind : List ℕ) (k most : ℕ) : Type 0 where
  pub high : (y : ℕ) → y < k → slice_index_or here y false ≡ true → slice_index_or behind y 0 ≤ most
  pub one : (most ≡ 0) ⊎ ((y : ℕ) × (slice_index_or here y false ≡ true) × (slice_index_or behind y 0 ≡ most))

abbrev pub IsGreatest : List Bool → List ℕ → ℕ → Type 0
IsGreatest here behind most = IsGreatestOf here behind node_limit most

-- the places of the first of the children of a node, or of the roots, and behind them all
pub record IsRange (made : List Made) (under : Option ℕ) (start end : ℕ) : Type 0 where
  pub starts : StartsAt 0 (forest_of made) start (trees_of under (forest_of made))
  pub ends : end ≡ start + size (trees_of under (forest_of made))
  pub high : end ≤ node_limit

-- so many trees of the list lead from the start to a place
pub record IsCounted (made : List Made) (under : Option ℕ) (start trees at : ℕ) : Type 0 where
  pub low : trees ≤ width (trees_of under (forest_of made))
  pub is : at ≡ start + size (first_trees trees (trees_of under (forest_of made)))

-- no entry before k that is here begins at the place
abbrev pub NoneAt : List Bool → List ℕ → ℕ → ℕ → Type 0
NoneAt here first place k = (y : ℕ) → y < k → slice_index_or here y false ≡ true → slice_index_or first y 0 ≡ place → ⊥

-- the least entry that begins at the place
pub record IsLeastAt (here : List Bool) (first : List ℕ) (place node : ℕ) : Type 0 where
  pub there : slice_index_or here node false ≡ true
  pub at : slice_index_or first node 0 ≡ place
  pub least : NoneAt here first place node

-- a tree that begins before the place and ends behind it
pub record Covers (here : List Bool) (first behind : List ℕ) (place y : ℕ) : Type 0 where
  pub there : slice_index_or here y false ≡ true
  pub starts : slice_index_or first y 0 < place
  pub ends : place < slice_index_or behind y 0

-- where the last of the trees that cover the place begins, of the first k entries, or none of them covers it
abbrev pub IsCover : List Bool → List ℕ → List ℕ → ℕ → ℕ → Option ℕ → Type 0
IsCover here first behind place k None = (y : ℕ) → y < k → Covers here first behind place y → ⊥
IsCover here first behind place k (Some p) =
    ((y : ℕ) × Covers here first behind place y × (slice_index_or first y 0 ≡ p)) × ((y : ℕ) → y < k → Covers here first behind place y → slice_index_or first y 0 ≤ p)

-- the least number above the first k entries that are here, or 0
pub record IsHighest (here : List Bool) (k most : ℕ) : Type 0 where
  pub high : (y : ℕ) → y < k → slice_index_or here y false ≡ true → y < most
  pub few : most ≤ k
  pub least : (most ≡ 0) ⊎ (slice_index_or here (most - 1) false ≡ true)
