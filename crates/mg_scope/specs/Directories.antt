-- What is looked up in a directory of classes.
use Rattle.std.specs.Prelude.{◌≡◌, ℕ, List, [], ◌∷◌, ◌++◌, map, length, slice_get, Option, Some, None}
use Rattle.gr_base.specs.Lists.{IsAmong}
use Rattle.gr_terms.specs.declared.Sym.{Sym}
use Rattle.mg_syntax.specs.declared.item.Class.{Class}
use Rattle.mg_syntax.specs.declared.item.Item.{Item}
use Rattle.mg_syntax.specs.declared.item.Item.TheVariants as item
use Rattle.mg_scope.specs.declared.uses.Use.{Use}
use Rattle.mg_scope.specs.declared.directory.Outline.{Outline}
use Rattle.mg_scope.specs.Classes.{mentions, uses_of}
use Rattle.mg_scope.specs.Faults.{StandsIn}
use Rattle.mg_scope.specs.Names.{AreNumbers}
use Rattle.mg_scope.specs.Tables.{Cells, value_at, Puts}

-- what an item mentions, and the uses in its body
abbrev pub outline_of : Item → List Sym × List Use
outline_of (item.Class k) = (mentions k, uses_of k)
outline_of (item.Value v) = ([], [])
outline_of (item.Header h) = ([], [])

abbrev pub outlined : Outline → List Sym × List Use
outlined o = (o.mentions.items, o.uses.items)

-- the names that an item exports
abbrev pub exported : Item → List Sym
exported (item.Class k) = k.exports
exported (item.Value v) = []
exported (item.Header h) = []

abbrev pub IsOutline : Item → Outline → Type 0
IsOutline i o = (outlined o ≡ outline_of i) × AreNumbers o.exports (exported i)

-- each item has its outline
abbrev pub AreExports : List Item → List Outline → Type 0
AreExports m outlines = (n : ℕ) (i : Item) (o : Outline) → slice_get m n ≡ Some i → slice_get outlines n ≡ Some o → AreNumbers o.exports (exported i)

abbrev pub AreOutlines : List Item → List Outline → Type 0
AreOutlines m outlines = (map outlined outlines ≡ map outline_of m) × AreExports m outlines

-- the place has the first class of the name
abbrev pub IsFirstPlace : List Item → Sym → ℕ → Type 0
IsFirstPlace m c i =
    (before after : List Item) × (k : Class) × (m ≡ before ++ item.Class k ∷ after) × (length before ≡ i) × (k.name ≡ c) × (StandsIn before c → ⊥)

abbrev pub IsPlace : List Item → Sym → Option ℕ → Type 0
IsPlace m c None = StandsIn m c → ⊥
IsPlace m c (Some i) = IsFirstPlace m c i

-- the table has the place of the first class of each name
abbrev pub ArePlaces : List Item → Cells → Type 0
ArePlaces m places = (c : Sym) → IsPlace m c (value_at places c)

-- the value is put where nothing stands at the name
abbrev pub PutsFirst : Cells → Cells → Sym → ℕ → Type 0
PutsFirst old new y v = ((n : ℕ) → value_at old y ≡ Some n → (x : Sym) → value_at new x ≡ value_at old x) × (value_at old y ≡ None → Puts old new y v)

abbrev pub AreClasses : List Item → List Outline → Cells → Type 0
AreClasses m outlines places = AreOutlines m outlines × ArePlaces m places
