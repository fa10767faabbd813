-- What the tables of a class's variables have.
use Rattle.std.specs.Prelude.{◌≡◌, ℕ, zero, suc, List, [], ◌∷◌, ◌++◌, map, Option, Some, None, ◌==◌, if◌then◌else◌, slice_get, ◌↔◌, ◌⊎◌}
use Rattle.gr_base.specs.Lists.{IsAmong, gathered}
use Rattle.gr_terms.specs.declared.Sym.{Sym}
use Rattle.mg_syntax.specs.declared.item.Class.{Class}
use Rattle.mg_syntax.specs.declared.item.Item.{Item}
use Rattle.mg_scope.specs.declared.uses.Use.{Use}
use Rattle.mg_scope.specs.declared.uses.Use.TheVariants.{Alone, Bound, Called, Dotted}
use Rattle.mg_scope.specs.declared.variables.Variables.{Variables}
use Rattle.mg_scope.specs.Classes.{uses_of, bindings, exports_of, Sees}
use Rattle.mg_scope.specs.Faults.{IsVariableOf, IsRightUse, IsFirstWithout}
use Rattle.mg_scope.specs.Tables.{Cells, value_at, Puts}
use Rattle.mg_scope.specs.Orders.{IsSet}

-- the variables that stand left of calls
abbrev pub bound_variables : List Use → List Sym
bound_variables uses = map (λ (b : Sym × Sym). b.0) (bindings uses)

-- how often the name stands in the list
abbrev pub occurrences : List Sym → Sym → ℕ
occurrences [] x = 0
occurrences (y ∷ ys) x = if y.0 == x.0 then suc (occurrences ys x) else occurrences ys x

-- nothing for 0, and 2 for more than once
abbrev pub tally : ℕ → Option ℕ
tally zero = None
tally (suc zero) = Some 1
tally (suc (suc n)) = Some 2

-- a variable that stands left of n calls gets the tally of one more
abbrev pub CountsCall : Cells → Cells → Sym → Type 0
CountsCall old new x = (n : ℕ) → value_at old x ≡ tally n → (j : ℕ) × Puts old new x j × (Some j ≡ tally (suc n))

-- the new table has the old names, and these too
abbrev pub Marks : Cells → Cells → List Sym → Type 0
Marks old new names = (x : Sym) → IsSet new x ↔ (IsSet old x ⊎ IsAmong names x)

-- the variable, or the class, that stands first in a use
abbrev pub variable_in : Use → Sym
variable_in (Alone x) = x
variable_in (Bound x c) = x
variable_in (Called c) = c
variable_in (Dotted x y) = x

-- the names that a class asks for: those that it exports, and those in its uses
abbrev pub asked_in : Class → List Sym
asked_in k = k.exports ++ map variable_in (uses_of k)

-- the new table has the old names, and of these more, all that are asked for among them
pub record MarksAsked (old new : Cells) (names asked : List Sym) : Type 0 where
  pub kept : (x : Sym) → IsSet old x → IsSet new x
  pub only : (x : Sym) → IsSet new x → IsSet old x ⊎ IsAmong names x
  pub all : (x : Sym) → IsAmong names x → IsAmong asked x → IsSet new x

-- the classes so far are put into one table, and what they export into the other
abbrev pub HasImported : List Item → Cells → Cells → Cells → List Sym → List Sym → Type 0
HasImported m base table imported done asked = ((c : Sym) → IsSet imported c ↔ IsAmong done c) × MarksAsked base table (gathered (exports_of m) done) asked

-- the table has places of uses that bind their names
abbrev pub AreStatements : Cells → List Use → Type 0
AreStatements t uses = (x : Sym) (i : ℕ) → value_at t x ≡ Some i → (c : Sym) × (slice_get uses i ≡ Some (Bound x c))

-- the tables tell of each variable how often it is bound, and where it is
pub record AreCalls (calls statements : Cells) (uses : List Use) : Type 0 where
  pub count : (x : Sym) → value_at calls x ≡ tally (occurrences (bound_variables uses) x)
  pub places : AreStatements statements uses
  pub bound : (x : Sym) → IsAmong (bound_variables uses) x → IsSet statements x

-- the tables are those of this class of the metagrammar
pub record AreVariables (m : List Item) (k : Class) (v : Variables) : Type 0 where
  pub declared : (x : Sym) → IsSet v.declared x ↔ IsAmong k.declares x
  pub seen : (x : Sym) → IsAmong (asked_in k) x → IsSet v.seen x ↔ Sees m k x
  pub calls : AreCalls v.calls v.statements (uses_of k)

-- the class that is bound to the variable, by the table, exports the name
abbrev pub IsExported : List Item → Cells → List Use → Sym → Sym → Type 0
IsExported m t uses x y = (i : ℕ) (c : Sym) → value_at t x ≡ Some i → slice_get uses i ≡ Some (Bound x c) → IsAmong (exports_of m c) y

-- the first use that breaks the rule on variables prints this one
abbrev pub IsFirstWrongUse : List Item → Class → List Use → Sym → Type 0
IsFirstWrongUse m k uses x = (u : Use) × IsVariableOf u (record { of = None; name = x }) × IsFirstWithout (IsRightUse m k) uses u
