-- The classes of a metagrammar, what each mentions, and which variables it sees.
use Rattle.std.specs.Prelude.{◌≡◌, ℕ, List, [], ◌∷◌, ◌++◌, map, Option, Some, None, ◌==◌, ◌⊎◌, if◌then◌else◌, not}
use Rattle.std.specs.List.{filter}
use Rattle.gr_base.specs.Lists.{IsAmong, gathered}
use Rattle.gr_terms.specs.declared.Sym.{Sym}
use Rattle.mg_syntax.specs.declared.item.Class.{Class}
use Rattle.mg_syntax.specs.declared.item.Item.{Item}
use Rattle.mg_syntax.specs.declared.item.Item.TheVariants as item
use Rattle.mg_scope.specs.declared.uses.Use.{Use}
use Rattle.mg_scope.specs.declared.uses.Use.TheVariants.{Alone, Bound, Called, Dotted}
use Rattle.mg_scope.specs.Uses.{body_uses}

-- the first class of a name
abbrev pub class_of : List Item → Sym → Option Class
class_of [] c = None
class_of (item.Class k ∷ m) c = if k.name.0 == c.0 then Some k else class_of m c
class_of (item.Value v ∷ m) c = class_of m c
class_of (item.Header h ∷ m) c = class_of m c

-- the names that are valued, each once, in the order of the first valuation
abbrev pub valuation : Item → List Sym
valuation (item.Class k) = []
valuation (item.Value v) = v ∷ []
valuation (item.Header h) = []

abbrev pub firsts : List Sym → List Sym
firsts [] = []
firsts (x ∷ xs) = x ∷ filter (λ y. not (y.0 == x.0)) (firsts xs)

abbrev pub valued_classes : List Item → List Sym
valued_classes m = firsts (gathered valuation m)

abbrev pub uses_of : Class → List Use
uses_of k = body_uses k.body

-- the classes that are called in the order of the text, in groups too
abbrev pub called_class : Use → List Sym
called_class (Alone x) = []
called_class (Bound x c) = c ∷ []
called_class (Called c) = c ∷ []
called_class (Dotted x y) = []

abbrev pub called_classes : List Use → List Sym
called_classes us = gathered called_class us

-- the variables that stand left of a call, each with the class that is called
abbrev pub binding : Use → List (Sym × Sym)
binding (Alone x) = []
binding (Bound x c) = (x, c) ∷ []
binding (Called c) = []
binding (Dotted x y) = []

abbrev pub bindings : List Use → List (Sym × Sym)
bindings us = gathered binding us

-- the classes that a class mentions: its imports, then its calls
abbrev pub mentions : Class → List Sym
mentions k = k.imports ++ called_classes (uses_of k)

-- what the class of a name mentions; nothing where no class has it
abbrev pub mentions_of : Option Class → List Sym
mentions_of None = []
mentions_of (Some k) = mentions k

abbrev pub mentioned : List Item → Sym → List Sym
mentioned m c = mentions_of (class_of m c)

abbrev pub call_variables : Class → List Sym
call_variables k = map (λ (b : Sym × Sym). b.0) (bindings (uses_of k))

-- the names that the class of a name exports
abbrev pub exports_in : Option Class → List Sym
exports_in None = []
exports_in (Some k) = k.exports

abbrev pub exports_of : List Item → Sym → List Sym
exports_of m c = exports_in (class_of m c)

-- the class sees the variable: it declares it, or one of its imports exports it
abbrev pub Sees : List Item → Class → Sym → Type 0
Sees m k x = IsAmong k.declares x ⊎ IsAmong (gathered (exports_of m) k.imports) x
