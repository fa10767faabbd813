-- What holds of an item that keeps the rules.
use Rattle.std.specs.Prelude.{◌≡◌, ℕ, suc, ◌<◌, List, Some, slice_get, take, ⊤}
use Rattle.gr_base.specs.Lists.{Each}
use Rattle.gr_terms.specs.declared.Sym.{Sym}
use Rattle.mg_syntax.specs.declared.item.Class.{Class}
use Rattle.mg_syntax.specs.declared.item.Item.{Item}
use Rattle.mg_syntax.specs.declared.item.Item.TheVariants as item
use Rattle.mg_scope.specs.declared.refusal.ScopeRefusal.{ScopeRefusal}
use Rattle.mg_scope.specs.declared.refusal.ScopeRefusal.TheVariants.{Memory}
use Rattle.mg_scope.specs.Classes.{mentions, mentioned, uses_of}
use Rattle.mg_scope.specs.Cycles.{LeadsTo}
use Rattle.mg_scope.specs.Faults.{IsThere, StandsIn, IsRightUse, IsRightExport, IsRightDot, IsFaultOf}

abbrev pub HasNoWayBack : (Sym → List Sym) → Sym → Type 0
HasNoWayBack next c = (n : ℕ) → LeadsTo next c (suc n) c → ⊥

-- what a class mentions is there, no earlier class has its name, and it does not lead back to itself
pub record HasRightNames (m done : List Item) (k : Class) : Type 0 where
  pub there : Each (IsThere m) (mentions k)
  pub fresh : StandsIn done k.name → ⊥
  pub no_way_back : HasNoWayBack (mentioned m) k.name

-- variables, exports and dots are right
pub record HasRightVariables (m : List Item) (k : Class) : Type 0 where
  pub uses : Each (IsRightUse m k) (uses_of k)
  pub exports : Each (IsRightExport m k) k.exports
  pub dots : Each (IsRightDot m k) (uses_of k)

abbrev pub IsRightItem : List Item → List Item → Item → Type 0
IsRightItem m done (item.Class k) = HasRightNames m done k × HasRightVariables m k
IsRightItem m done (item.Value v) = IsThere m v
IsRightItem m done (item.Header h) = ⊤

-- the first items, so many, keep the rules
abbrev pub AreRightTo : List Item → ℕ → Type 0
AreRightTo m place = (n : ℕ) (i : Item) → n < place → slice_get m n ≡ Some i → IsRightItem m (take n m) i

-- a refusal that is not want of memory is the first fault of the item
abbrev pub IsItemRefusal : List Item → List Item → Item → ScopeRefusal → Type 0
IsItemRefusal m done i f = (f ≡ Memory → ⊥) → IsFaultOf m done i f
