-- What loops keep while they write the pieces of a list.
use Rattle.std.specs.Prelude.{◌≡◌, ℕ, List, ◌++◌, Bool, ◌||◌, map, length}
use Rattle.std.specs.List.{filter}
use Rattle.gr_base.specs.Lists.{Each, gathered}
use Rattle.mg_syntax.specs.declared.item.Item.{Item}
use Rattle.mg_printer.specs.Pieces.{Piece, IsKnown}
use Rattle.mg_printer.specs.Items.{item_pieces}
use Rattle.mg_printer.specs.Lists.{begun_parts, has_some}
use Rattle.mg_printer.specs.Printing.{spelled, spelling}

-- From the old text on, all of the list will have been written once the rest is behind the new text; the rest's numbers have texts.
pub record IsLeft {A : Type 0} (texts : List (List ℕ)) (f : A → List Piece) (all rest : List A) (old new : List ℕ) : Type 0 where
  pub known : Each (IsKnown (length texts)) (gathered f rest)
  pub text : new ++ spelled texts (gathered f rest) ≡ old ++ spelled texts (gathered f all)

-- the same of those that pass a test, as parts of a list in brackets
pub record ArePartsLeft {A : Type 0} (texts : List (List ℕ)) (before : List ℕ) (passes : A → Bool) (f : A → List Piece) (all rest : List A) (begun_old begun : Bool) (old new : List ℕ) : Type 0 where
  pub known : Each (Each (IsKnown (length texts))) (map f (filter passes rest))
  pub text : new ++ spelled texts (begun_parts begun before (map f (filter passes rest))) ≡ old ++ spelled texts (begun_parts begun_old before (map f (filter passes all)))
  pub some : (begun || has_some (map f (filter passes rest))) ≡ (begun_old || has_some (map f (filter passes all)))

-- each number among the pieces of the items has a text
abbrev pub AreWritable : List (List ℕ) → List Item → Type 0
AreWritable texts m = Each (λ i. Each (IsKnown (length texts)) (item_pieces i)) m

-- once the lines of the rest are behind the new text, those of all items are written; the rest's numbers have texts
pub record AreLinesLeft (texts : List (List ℕ)) (all rest : List Item) (new : List ℕ) : Type 0 where
  pub known : AreWritable texts rest
  pub text : new ++ spelling texts rest ≡ spelling texts all
