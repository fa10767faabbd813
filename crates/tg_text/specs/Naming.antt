-- Which texts grammar text puts into the table of names, in which order.
use Rattle.std.specs.Prelude.{ℕ, List}
use Rattle.gr_symbols.specs.Numbers.{with_text}
use Rattle.tg_reader.specs.Naming.{PutsTreeNames}
use Rattle.tg_reader.specs.Reading.{InTurn}
use Rattle.tg_text.specs.GrammarText.{ClassText}

-- those that the trees of these texts name, one tree after another
abbrev pub PutsTrees : List (List ℕ) → List (List ℕ) → List (List ℕ) → Type 0
PutsTrees = InTurn PutsTreeNames

-- the name of a class, and then those that its trees name
abbrev pub PutsClass : ClassText → List (List ℕ) → List (List ℕ) → Type 0
PutsClass c old new = PutsTrees c.trees (with_text old c.name) new

-- those of classes, one class after another
abbrev pub PutsClasses : List ClassText → List (List ℕ) → List (List ℕ) → Type 0
PutsClasses = InTurn PutsClass
