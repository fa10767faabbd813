-- Grammar text, version 1: for each class the canonical texts of its trees.
use Rattle.std.specs.Prelude.{ℕ, suc, List, [], ◌∷◌, ◌++◌, length, codes, Bool, true, false}
use Rattle.std.specs.Fmt.{decimal}
use Rattle.gr_base.specs.Lists.{gathered}
use Rattle.td_canon.specs.CanonicalTexts.{text_in}
use Rattle.td_canon.specs.TreeSets.{texts_of}
use Rattle.td_canon.specs.declared.tree_set.ClassTrees.{ClassTrees}

-- what is written of a class: its name, the texts of its trees, and whether it was cut
pub record ClassText : Type 0 where
  pub name : List ℕ
  pub trees : List (List ℕ)
  pub cut : Bool

-- a text and the end of its line
abbrev pub ended : List ℕ → List ℕ
ended text = text ++ 10 ∷ []

-- the line of the tree of number n
abbrev pub tree_line : ℕ → List ℕ → List ℕ
tree_line n t = ended (codes "tree " ++ decimal n ++ codes " " ++ t)

-- a line for each tree, with their numbers from n on
abbrev pub tree_lines : ℕ → List (List ℕ) → List ℕ
tree_lines n [] = []
tree_lines n (t ∷ ts) = tree_line n t ++ tree_lines (suc n) ts

abbrev pub closing_word : Bool → List ℕ
closing_word true = codes "cut "
closing_word false = codes "trees "

-- the line of the class, those of its trees, and how many they are
abbrev pub class_text : ClassText → List ℕ
class_text c = ended (codes "class " ++ c.name) ++ tree_lines 1 c.trees ++ ended (closing_word c.cut ++ decimal (length c.trees))

abbrev pub grammar_text : List ClassText → List ℕ
grammar_text cs = ended (codes "grammar 1") ++ gathered class_text cs ++ ended (codes "end")

-- what is written of the class, in a table of names
abbrev pub class_text_of : List (List ℕ) → ClassTrees → ClassText
class_text_of texts c = record { name = text_in texts c.class.0; trees = texts_of c.trees; cut = c.cut }
