-- Where the walk over the expansions of a class stands.
use Rattle.std.specs.Prelude.{◌≡◌, ℕ, suc, ◌+◌, ◌<◌, ◌≤◌, List, length, sum, take, Bool, true, false, Some, slice_get}
use Rattle.std.specs.List.{AllZip}
use Rattle.gr_base.specs.Lists.{IsAmong, Each}
use Rattle.gr_terms.specs.declared.Sym.{Sym}
use Rattle.mg_syntax.specs.declared.item.Item.{Item}
use Rattle.td_canon.specs.CanonicalTexts.{text_in}
use Rattle.td_canon.specs.TreeSets.{Entry, IsWhole, texts_of}
use Rattle.td_desc.specs.Descriptions.{Description}
use Rattle.td_solver.specs.Solutions.{IsSolutionText}
use Rattle.mg_facts.specs.declared.variable.Variable.{Variable}
use Rattle.mg_facts.specs.Said.{Slot}
use Rattle.mg_expand.specs.Walks.{Walk, AreExpansions}
use Rattle.mg_expand.specs.Progress.{Progress}
use Rattle.mg_compile.specs.declared.found.Found.{Found}
use Rattle.mg_compile.specs.Compiled.{Describes, IsCompiledTree, IsExpansionTotal, IsTextWithin, IsFaultless}

-- the texts of the first k expansions are all there
abbrev pub HasTextsOf : List (List ℕ) → List Item → List Walk → ℕ → List Entry → Type 0
HasTextsOf texts m ws k trees =
    (n : ℕ) (w : Walk) (d : Description Variable Slot) (bytes : List ℕ) → n < k → slice_get ws n ≡ Some w → Describes m w d
    → IsSolutionText (text_in texts) d bytes → IsAmong (texts_of trees) bytes

-- what was spent are the steps of the first k expansions
abbrev pub IsPaid : List Item → ℕ → List Walk → ℕ → ℕ → Type 0
IsPaid m budget ws k left = (totals : List ℕ) → AllZip (IsExpansionTotal m) (take k ws) totals → budget ≡ left + k + sum totals

pub record IsUncut (texts : List (List ℕ)) (m : List Item) (budget : ℕ) (ws : List Walk) (k : ℕ) (f : Found) : Type 0 where
  pub all : HasTextsOf texts m ws k f.trees
  pub paid : IsPaid m budget ws k f.left.left
  pub within : f.left.left + k ≤ budget

-- all texts of the first expansions are there, as many as were paid for whole, and one more costs more than the budget
pub record IsCut (texts : List (List ℕ)) (m : List Item) (budget : ℕ) (ws : List Walk) (f : Found) : Type 0 where
  pub paid : ℕ
  pub left_out : paid < length ws
  pub all : HasTextsOf texts m ws paid f.trees
  pub past : (totals : List ℕ) → AllZip (IsExpansionTotal m) (take (suc paid) ws) totals → budget < suc paid + sum totals
  pub none : f.left.left ≡ 0

abbrev pub IsListed : Bool → List (List ℕ) → List Item → ℕ → List Walk → ℕ → Found → Type 0
IsListed false texts m budget ws k f = IsUncut texts m budget ws k f
IsListed true texts m budget ws k f = IsCut texts m budget ws f

-- what was found of the first k expansions, where ws are all of the class
pub record HasGone (texts : List (List ℕ)) (m : List Item) (c : Sym) (budget : ℕ) (ws : List Walk) (k : ℕ) (f : Found) : Type 0 where
  pub only : Each (IsCompiledTree texts m c) f.trees
  pub within : Each (IsTextWithin (text_in texts) m c budget) (texts_of f.trees)
  pub faultless : (n : ℕ) (w : Walk) → n < k → slice_get ws n ≡ Some w → IsFaultless m c w
  pub listed : IsListed f.cut texts m budget ws k f

-- an expander that gave its first expansions without a refusal, with what may still be looked at
pub record IsOnWay (texts : List (List ℕ)) (m : List Item) (c : Sym) (budget : ℕ) (p : Progress) (looks : ℕ) (f : Found) : Type 0 where
  pub metagrammar : p.metagrammar ≡ m
  pub class : p.class ≡ c
  pub too_large : p.too_large ≡ false
  pub looked : looks + p.given ≡ budget
  pub whole : IsWhole texts f.trees
  pub gone : (ws : List Walk) → AreExpansions m c ws → HasGone texts m c budget ws p.given f
