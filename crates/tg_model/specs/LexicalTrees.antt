-- What every lexical tree keeps.
use Rattle.std.specs.Prelude.{◌≡◌, ◌≢◌, List, [], map}
use Rattle.gr_base.specs.Lists.{Each}
use Rattle.gr_terms.specs.Constants.{COANCHOR}
use Rattle.tg_grammar.specs.Marks.{marked, node_lists}
use Rattle.tg_grammar.specs.NamedMarks.{HasNamedMarks}
use Rattle.tg_grammar.specs.Shapes.{IsWellFormedTree}
use Rattle.tg_model.specs.declared.lexical.LexicalTree.{LexicalTree}

-- the tree is well formed, no mark of its nodes is a variable, it has a literal, and just its leaves of mark `coanchor` have lemmas, in preorder
pub record IsLexical (l : LexicalTree) : Type 0 where
  pub well_formed : IsWellFormedTree l.tree
  pub named : HasNamedMarks l.tree
  pub literal : l.tree.sem ≢ []
  pub coanchors : map (λ c. c.0) l.coanchors ≡ marked COANCHOR (node_lists l.tree.nodes)

abbrev pub AreLexical : List LexicalTree → Type 0
AreLexical ls = Each IsLexical ls
