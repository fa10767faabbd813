-- The rules of scope, the faults of a metagrammar against them, and the first fault.
use Rattle.std.specs.Prelude.{◌≡◌, ℕ, zero, suc, ◌<◌, ◌≤◌, List, [], ◌∷◌, ◌++◌, map, Option, Some, None, ◌⊎◌, ⊤}
use Rattle.gr_base.specs.Lists.{IsAmong, Each}
use Rattle.gr_terms.specs.declared.Sym.{Sym}
use Rattle.mg_syntax.specs.declared.body.Ref.{Ref}
use Rattle.mg_syntax.specs.declared.item.Class.{Class}
use Rattle.mg_syntax.specs.declared.item.Item.{Item}
use Rattle.mg_syntax.specs.declared.item.Item.TheVariants as item
use Rattle.mg_scope.specs.declared.uses.Use.{Use}
use Rattle.mg_scope.specs.declared.uses.Use.TheVariants.{Alone, Bound, Called, Dotted}
use Rattle.mg_scope.specs.declared.refusal.ScopeRefusal.{ScopeRefusal}
use Rattle.mg_scope.specs.declared.refusal.ScopeRefusal.TheVariants.{UnknownClass, ClassCycle, DuplicateClass, UndeclaredVariable, NotExported, Memory}
use Rattle.mg_scope.specs.Classes.{class_of, mentions, mentioned, uses_of, bindings, call_variables, exports_of, Sees}
use Rattle.mg_scope.specs.Cycles.{LeadsTo, HasNoCycle, IsCycle}

-- x is the first element of the list for which P does not hold
abbrev pub IsFirstWithout : {A : Type 0} → (A → Type 0) → List A → A → Type 0
IsFirstWithout {A} P xs x = (before after : List A) × (xs ≡ before ++ x ∷ after) × Each P before × (P x → ⊥)

-- the element stands in the list just once
abbrev pub StandsOnce : List Sym → Sym → Type 0
StandsOnce xs x = (before after : List Sym) × (xs ≡ before ++ x ∷ after) × (IsAmong before x → ⊥) × (IsAmong after x → ⊥)

-- one of these items is a class of this name
abbrev pub StandsIn : List Item → Sym → Type 0
StandsIn items c = (k : Class) × IsAmong items (item.Class k) × (k.name ≡ c)

-- the variable that a use prints, and a use with a dot as it stands
abbrev pub IsVariableOf : Use → Ref → Type 0
IsVariableOf (Alone x) r = r ≡ record { of = None; name = x }
IsVariableOf (Bound x c) r = r ≡ record { of = None; name = x }
IsVariableOf (Called c) r = ⊥
IsVariableOf (Dotted x y) r = r ≡ record { of = None; name = x }

abbrev pub IsDotOf : Use → Ref → Type 0
IsDotOf (Alone x) r = ⊥
IsDotOf (Bound x c) r = ⊥
IsDotOf (Called c) r = ⊥
IsDotOf (Dotted x y) r = r ≡ record { of = Some x; name = y }

module _ (m : List Item) where
  -- a class has the name
  abbrev pub IsThere : Sym → Type 0
  IsThere c = (k : Class) × (class_of m c ≡ Some k)

  -- The rule on variables. A variable that stands alone is seen and is no call variable. One that stands left of a call is
  -- declared and stands so just once. One before a dot is a call variable and is seen.
  abbrev pub IsRightUse : Class → Use → Type 0
  IsRightUse k (Alone x) = Sees m k x × (IsAmong (call_variables k) x → ⊥)
  IsRightUse k (Bound x c) = IsAmong k.declares x × StandsOnce (call_variables k) x
  IsRightUse k (Called c) = ⊤
  IsRightUse k (Dotted x y) = IsAmong (call_variables k) x × Sees m k x

  -- the rule on exports: an exported name is seen and is no call variable
  abbrev pub IsRightExport : Class → Sym → Type 0
  IsRightExport k x = Sees m k x × (IsAmong (call_variables k) x → ⊥)

  -- the rule on dots: each class that is bound to the variable before the dot exports the name behind it
  abbrev pub IsRightDot : Class → Use → Type 0
  IsRightDot k (Alone x) = ⊤
  IsRightDot k (Bound x c) = ⊤
  IsRightDot k (Called c) = ⊤
  IsRightDot k (Dotted x y) = (c : Sym) → IsAmong (bindings (uses_of k)) (x, c) → IsAmong (exports_of m c) y

  -- The class, which stands behind these items, has the fault: it mentions a name without a class; it leads back to itself;
  -- an earlier class has its name; a variable in its body breaks the rule; a name of its exports or, where these are right,
  -- one behind a dot is not exported.
  abbrev pub HasClassFault : List Item → Class → ScopeRefusal → Type 0
  HasClassFault done k (UnknownClass c) = IsFirstWithout IsThere (mentions k) c
  HasClassFault done k (ClassCycle names) = (StandsIn done k.name → ⊥) × IsCycle (mentioned m) k.name names
  HasClassFault done k (DuplicateClass c) = (k.name ≡ c) × StandsIn done c
  HasClassFault done k (UndeclaredVariable c r) = (k.name ≡ c) × (u : Use) × IsVariableOf u r × IsFirstWithout (IsRightUse k) (uses_of k) u
  HasClassFault done k (NotExported c r) =
      (k.name ≡ c)
      × (((r.of ≡ None) × IsFirstWithout (IsRightExport k) k.exports r.name)
      ⊎ (Each (IsRightExport k) k.exports × ((u : Use) × IsDotOf u r × IsFirstWithout (IsRightDot k) (uses_of k) u)))
  HasClassFault done k Memory = ⊥

  abbrev pub HasValueFault : Sym → ScopeRefusal → Type 0
  HasValueFault v (UnknownClass c) = (v ≡ c) × (IsThere c → ⊥)
  HasValueFault v (ClassCycle names) = ⊥
  HasValueFault v (DuplicateClass c) = ⊥
  HasValueFault v (UndeclaredVariable c r) = ⊥
  HasValueFault v (NotExported c r) = ⊥
  HasValueFault v Memory = ⊥

  -- the item, which stands behind these items, has the fault
  abbrev pub HasFault : List Item → Item → ScopeRefusal → Type 0
  HasFault done (item.Class k) f = HasClassFault done k f
  HasFault done (item.Value v) f = HasValueFault v f
  HasFault done (item.Header h) f = ⊥

abbrev pub code : ScopeRefusal → ℕ
code (UnknownClass c) = 13
code (ClassCycle names) = 14
code (DuplicateClass c) = 15
code (UndeclaredVariable c r) = 16
code (NotExported c r) = 17
code Memory = 0

-- the item behind these items has the fault, and none of a lower code
abbrev pub IsFaultOf : List Item → List Item → Item → ScopeRefusal → Type 0
IsFaultOf m done i f = HasFault m done i f × ((g : ScopeRefusal) → HasFault m done i g → code f ≤ code g)

-- no item among the first ones has a fault
abbrev pub AreRight : List Item → List Item → Type 0
AreRight m items = (done rest : List Item) (i : Item) (f : ScopeRefusal) → items ≡ done ++ i ∷ rest → HasFault m done i f → ⊥

-- the first fault: of the first item that has one, that of the lowest code
abbrev pub IsFirstFault : List Item → ScopeRefusal → Type 0
IsFirstFault m f = (done rest : List Item) × (i : Item) × (m ≡ done ++ i ∷ rest) × IsFaultOf m done i f × AreRight m done

-- The metagrammar keeps all rules of scope: what is valued and what is mentioned is there, no class leads back to itself, no
-- two classes have one name, and variables, exports and dots are right.
pub record IsScoped (m : List Item) : Type 0 where
  pub valued : (c : Sym) → IsAmong m (item.Value c) → IsThere m c
  pub there : (k : Class) → IsAmong m (item.Class k) → Each (IsThere m) (mentions k)
  pub no_cycle : HasNoCycle (mentioned m)
  pub once : (done rest : List Item) (k : Class) → m ≡ done ++ item.Class k ∷ rest → StandsIn done k.name → ⊥
  pub uses : (k : Class) → IsAmong m (item.Class k) → Each (IsRightUse m k) (uses_of k)
  pub exports : (k : Class) → IsAmong m (item.Class k) → Each (IsRightExport m k) k.exports
  pub dots : (k : Class) → IsAmong m (item.Class k) → Each (IsRightDot m k) (uses_of k)
