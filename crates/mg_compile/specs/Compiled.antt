-- What compiling a class gives: the texts of its trees, in how many steps they are found, which lists a budget allows, and which
-- expansions are refused.
use Rattle.std.specs.Prelude.{◌≡◌, ℕ, suc, ◌+◌, ◌<◌, ◌≤◌, List, Bool, true, false, Some, ◌⊎◌, ◌↔◌, length, sum, take, slice_get}
use Rattle.std.specs.List.{AllZip}
use Rattle.gr_base.specs.Lists.{IsAmong, Each, InByteOrder}
use Rattle.gr_terms.specs.declared.Sym.{Sym}
use Rattle.mg_syntax.specs.declared.item.Item.{Item}
use Rattle.td_desc.specs.Descriptions.{Description}
use Rattle.td_canon.specs.TreeSets.{Entry}
use Rattle.td_forest.specs.Limits.{node_limit}
use Rattle.td_solver.specs.Solutions.{IsModelTotal, IsSolution, IsSolutionText}
use Rattle.mg_facts.specs.declared.variable.Variable.{Variable}
use Rattle.mg_facts.specs.Said.{Slot}
use Rattle.mg_facts.specs.Meanings.{Clashes, IsDescribed}
use Rattle.mg_expand.specs.Walks.{Walk, IsExpansion, AreExpansions}
use Rattle.mg_expand.specs.Items.{expansion_said}
use Rattle.mg_expand.specs.Steps.{IsTooLarge}
use Rattle.mg_compile.specs.declared.refusal.CompileRefusal.{CompileRefusal}
use Rattle.mg_compile.specs.declared.refusal.CompileRefusal.TheVariants as refusal

-- the expansion doesn't clash, and d is its description
abbrev pub Describes : List Item → Walk → Description Variable Slot → Type 0
Describes m w d = (Clashes (expansion_said m w) → ⊥) × IsDescribed (expansion_said m w) d

-- the bytes are the text of the tree of a minimal model of an expansion of the class that doesn't clash
abbrev pub IsCompiledText : (ℕ → List ℕ) → List Item → Sym → List ℕ → Type 0
IsCompiledText text m c bytes =
    (w : Walk) × (d : Description Variable Slot) × IsExpansion m c w × Describes m w d × IsSolutionText text d bytes

-- the tree and the text beside it are those of a minimal model of an expansion of the class that doesn't clash
abbrev pub IsCompiledTree : List (List ℕ) → List Item → Sym → Entry → Type 0
IsCompiledTree texts m c e =
    (w : Walk) × (d : Description Variable Slot) × IsExpansion m c w × Describes m w d × IsSolution texts d e

-- these are all texts of the class, each once, in byte order
pub record IsCompiledList (text : ℕ → List ℕ) (m : List Item) (c : Sym) (texts : List (List ℕ)) : Type 0 where
  pub order : InByteOrder texts
  pub all : (bytes : List ℕ) → IsAmong texts bytes ↔ IsCompiledText text m c bytes

-- how many forest models are counted for the expansion: those of its first node, of its first two, and so on; none where it clashes
abbrev pub IsExpansionTotal : List Item → Walk → ℕ → Type 0
IsExpansionTotal m w n =
    (Clashes (expansion_said m w) × (n ≡ 0)) ⊎ ((d : Description Variable Slot) × Describes m w d × IsModelTotal d (length d.nodes) n)

-- the steps of a class: the number of its expansions and of the forest models of each
pub record IsModelSteps (m : List Item) (c : Sym) (steps : ℕ) : Type 0 where
  pub walks : List Walk
  pub totals : List ℕ
  pub expansions : AreExpansions m c walks
  pub counted : AllZip (IsExpansionTotal m) walks totals
  pub sum : steps ≡ length walks + sum totals

-- the steps of the first k walks: one for each, and one for each of its forest models
pub record AreFirstSteps (m : List Item) (walks : List Walk) (k steps : ℕ) : Type 0 where
  pub totals : List ℕ
  pub counted : AllZip (IsExpansionTotal m) (take k walks) totals
  pub sum : steps ≡ k + sum totals

-- the bytes are the text of the tree of a minimal model of the expansion, which doesn't clash
abbrev pub IsExpansionText : (ℕ → List ℕ) → List Item → Walk → List ℕ → Type 0
IsExpansionText text m w bytes = (d : Description Variable Slot) × Describes m w d × IsSolutionText text d bytes

-- a text of an expansion that the budget pays for: its steps with those of all expansions before it are no more than the budget
pub record IsPaidText (text : ℕ → List ℕ) (m : List Item) (c : Sym) (budget : ℕ) (bytes : List ℕ) : Type 0 where
  pub walks : List Walk
  pub place : ℕ
  pub walk : Walk
  pub steps : ℕ
  pub expansions : AreExpansions m c walks
  pub here : slice_get walks place ≡ Some walk
  pub counted : AreFirstSteps m walks (suc place) steps
  pub most : steps ≤ budget
  pub is_text : IsExpansionText text m walk bytes

-- a text of an expansion that the budget reaches: it is among the first ones, as many as the budget, and the steps of those before it
-- are less than the budget
pub record IsTextWithin (text : ℕ → List ℕ) (m : List Item) (c : Sym) (budget : ℕ) (bytes : List ℕ) : Type 0 where
  pub walks : List Walk
  pub place : ℕ
  pub walk : Walk
  pub expansions : AreExpansions m c walks
  pub within : place < budget
  pub reached : (steps : ℕ) → AreFirstSteps m walks place steps → steps < budget
  pub here : slice_get walks place ≡ Some walk
  pub is_text : IsExpansionText text m walk bytes

-- a list that isn't cut is the whole one, and the budget is at least 1 and at least the steps of the class
pub record IsUncutList (text : ℕ → List ℕ) (m : List Item) (c : Sym) (budget : ℕ) (texts : List (List ℕ)) : Type 0 where
  pub whole : IsCompiledList text m c texts
  pub some : 0 < budget
  pub enough : (steps : ℕ) → IsModelSteps m c steps → steps ≤ budget

-- A list that is cut has, in byte order, all texts of the expansions that the budget pays for, and no others than texts of expansions that
-- it reaches; and the budget is less than the steps of the class.
pub record IsCutList (text : ℕ → List ℕ) (m : List Item) (c : Sym) (budget : ℕ) (texts : List (List ℕ)) : Type 0 where
  pub order : InByteOrder texts
  pub all : (bytes : List ℕ) → IsPaidText text m c budget bytes → IsAmong texts bytes
  pub only : Each (IsTextWithin text m c budget) texts
  pub past : (steps : ℕ) → IsModelSteps m c steps → budget < steps

-- the list of texts that a class may have under a budget, and whether it is cut
abbrev pub IsRightList : (ℕ → List ℕ) → List Item → Sym → ℕ → List (List ℕ) → Bool → Type 0
IsRightList text m c budget texts false = IsUncutList text m c budget texts
IsRightList text m c budget texts true = IsCutList text m c budget texts

-- the expansion doesn't clash and has more nodes than the limit
abbrev pub HasTooManyNodes : List Item → Walk → Type 0
HasTooManyNodes m w = (d : Description Variable Slot) × Describes m w d × (node_limit < length d.nodes)

-- the expansion of the class is refused so: it has too many calls and items, or else too many nodes
abbrev pub IsFaultOf : List Item → Sym → Walk → CompileRefusal → Type 0
IsFaultOf m c w (refusal.TooLarge k) = (k ≡ c) × IsTooLarge m w
IsFaultOf m c w (refusal.TooManyNodes k) = (k ≡ c) × (IsTooLarge m w → ⊥) × HasTooManyNodes m w
IsFaultOf m c w refusal.Memory = ⊥

abbrev pub IsFaultless : List Item → Sym → Walk → Type 0
IsFaultless m c w = (e : CompileRefusal) → IsFaultOf m c w e → ⊥

-- the refusal of a class: that of the first of its expansions that has one, among the first ones, as many as the budget
pub record IsClassFault (m : List Item) (c : Sym) (budget : ℕ) (e : CompileRefusal) : Type 0 where
  pub walks : List Walk
  pub place : ℕ
  pub walk : Walk
  pub expansions : AreExpansions m c walks
  pub within : place < budget
  pub here : slice_get walks place ≡ Some walk
  pub fault : IsFaultOf m c walk e
  pub before : (n : ℕ) (w : Walk) → n < place → slice_get walks n ≡ Some w → IsFaultless m c w
