-- The text of a canonical form.
use Rattle.std.specs.Prelude.{ℕ, List, [], ◌∷◌, ◌++◌, map, codes, if◌then◌else◌}
use Rattle.std.specs.Fmt.{decimal}
use Rattle.std.specs.List.{join_with_byte}
use Rattle.gr_base.specs.Lists.{gathered}
use Rattle.gr_base.specs.Forests.{Forest, empty, tree}
use Rattle.gr_text.specs.Words.{is_word, quoted}
use Rattle.gr_terms.specs.Canonical.{Node, Decorated, Literal, Label, named, numbered, Pairs, category, properties}

-- the spelling of a name: a word stands for itself, and any other text stands between `"`
abbrev pub spelled : List ℕ → List ℕ
spelled t = if is_word t then t else quoted t

-- texts between two texts, with a byte between each two; nothing where there is none
abbrev pub enclosed : List ℕ → ℕ → List ℕ → List (List ℕ) → List ℕ
enclosed before between after [] = []
enclosed before between after (x ∷ xs) = before ++ join_with_byte between (x ∷ xs) ++ after

module _ (text : ℕ → List ℕ) where
  -- a name as it is spelled, and another value as `?` with its number
  abbrev pub label_text : Label → List ℕ
  label_text (named a) = spelled (text a)
  label_text (numbered k) = codes "?" ++ decimal k

  -- each attribute, `=` and its value
  abbrev pub pair_texts : Pairs → List (List ℕ)
  pair_texts ps = map (λ p. text p.0 ++ codes "=" ++ label_text p.1) ps

  -- the category, or `-` where there is none
  abbrev pub category_text : List Label → List ℕ
  category_text [] = codes "-"
  category_text (v ∷ vs) = label_text v

  -- the category, the properties in braces, `^` and the top, `/` and the bottom
  abbrev pub node_text : Node Pairs → List ℕ
  node_text n =
      category_text (category n.own)
      ++ enclosed (codes "{") 44 (codes "}") (pair_texts (properties n.own))
      ++ enclosed (codes "^[") 44 (codes "]") (pair_texts n.top)
      ++ enclosed (codes "/[") 44 (codes "]") (pair_texts n.bottom)

  -- the texts of trees side by side: each node, and its children in parentheses
  abbrev pub tree_texts : Forest (Node Pairs) → List (List ℕ)
  tree_texts empty = []
  tree_texts (tree n kids more) = (node_text n ++ enclosed (codes "(") 32 (codes ")") (tree_texts kids)) ∷ tree_texts more

  -- the handle, `:`, the predicate and the arguments in parentheses
  abbrev pub literal_text : Literal Label → List ℕ
  literal_text l = label_text l.handle ++ codes ":" ++ label_text l.pred ++ codes "(" ++ join_with_byte 32 (map label_text l.args) ++ codes ")"

  -- the whole text: the tree, its interface, its literals
  abbrev pub decorated_text : Decorated Pairs Label → List ℕ
  decorated_text c =
      join_with_byte 32 (tree_texts c.nodes)
      ++ enclosed (codes " iface[") 44 (codes "]") (pair_texts c.interface)
      ++ gathered (λ l. codes " " ++ literal_text l) c.literals
