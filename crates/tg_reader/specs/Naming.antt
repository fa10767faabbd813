-- The texts that a tree names, in the order in which its text has them.
use Rattle.std.specs.Prelude.{◌≡◌, ℕ, List, [], ◌∷◌, ◌++◌}
use Rattle.gr_base.specs.Forests.{Forest, labels}
use Rattle.gr_base.specs.Lists.{gathered}
use Rattle.gr_symbols.specs.Numbers.{with_texts}
use Rattle.gr_terms.specs.Canonical.{Decorated, Label, Literal, Node, Pairs, category, literal_terms, named, numbered, properties}
use Rattle.td_canon.specs.CanonicalTexts.{text_in}
use Rattle.tg_reader.specs.Writable.{IsTreeText}

-- by the text that a form's number of a name has
module _ (text : ℕ → List ℕ) where
  -- a name has its text, and a variable has none
  abbrev pub label_names : Label → List (List ℕ)
  label_names (named a) = text a ∷ []
  label_names (numbered k) = []

  -- the attribute, then the value
  abbrev pub pair_names : ℕ × Label → List (List ℕ)
  pair_names p = text p.0 ∷ label_names p.1

  -- the category, the properties, the top and the bottom
  abbrev pub node_names : Node Pairs → List (List ℕ)
  node_names n =
      gathered label_names (category n.own)
      ++ gathered pair_names (properties n.own)
      ++ gathered pair_names n.top
      ++ gathered pair_names n.bottom

  -- each node before those under it
  abbrev pub forest_names : Forest (Node Pairs) → List (List ℕ)
  forest_names f = gathered node_names (labels f)

  -- the handle, the predicate and the arguments
  abbrev pub literal_names : Literal Label → List (List ℕ)
  literal_names l = gathered label_names (literal_terms l)

  -- the nodes, the interface and the literals
  abbrev pub form_names : Decorated Pairs Label → List (List ℕ)
  form_names c = forest_names c.nodes ++ gathered pair_names c.interface ++ gathered literal_names c.literals

-- the texts that the tree of a text names
abbrev pub names_in : {text : List ℕ} → IsTreeText text → List (List ℕ)
names_in is = form_names (text_in is.texts) is.has.spells.form

-- the table got the texts that the tree of the text names, one after another
abbrev pub PutsTreeNames : List ℕ → List (List ℕ) → List (List ℕ) → Type 0
PutsTreeNames text old new = (is : IsTreeText text) × (new ≡ with_texts old (names_in is))
