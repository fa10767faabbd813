-- What is found on the way: of one tree and one entry, and of all before a pair of them.
use Rattle.std.specs.Prelude.{◌≡◌, ℕ, suc, List, Option, Some, None, slice_get, ⊤}
use Rattle.gr_base.specs.Lists.{IsAmong, Each}
use Rattle.gr_terms.specs.Constants.{COANCHOR}
use Rattle.gr_terms.specs.Networks.{Agrees}
use Rattle.gr_terms.specs.declared.Sym.{Sym}
use Rattle.td_tree.specs.Trees.{AreTreeNodes}
use Rattle.td_tree.specs.declared.Tree.{Tree}
use Rattle.td_canon.specs.TreeSets.{trees_of}
use Rattle.td_canon.specs.declared.tree_set.ClassTrees.{ClassTrees}
use Rattle.tg_grammar.specs.Grammars.{IsClassNamed}
use Rattle.tg_grammar.specs.Marks.{marked, node_lists}
use Rattle.tg_grammar.specs.NamedMarks.{HasNamedMarks, HaveNamedMarks}
use Rattle.tg_grammar.specs.Shapes.{IsWellFormedTree}
use Rattle.lx_lexicon.specs.declared.entry.Entry.{Entry}
use Rattle.tg_model.specs.DenseTrees.{IsDense}
use Rattle.tg_model.specs.LexicalTrees.{AreLexical, IsLexical}
use Rattle.tg_model.specs.declared.lexical.LexicalTree.{LexicalTree}
use Rattle.lx_anchor.specs.Anchoring.{HasLiteral, InOrder, IsBare, IsLexicalTree, IsOfPair, IsPair, IsSooner, Makes, co_leaves, place_of}
use Rattle.lx_anchor.specs.Networks.{anchored_network, anchored_tree}
use Rattle.lx_anchor.specs.TreesOver.{IsTreeOver}
use Rattle.lx_anchor.specs.declared.refusal.AnchorRefusal.{AnchorRefusal}
use Rattle.lx_anchor.specs.declared.refusal.AnchorRefusal.TheVariants as refusal

-- the network of the tree and the entry agrees, and this is the tree over it; where no mark is a variable it keeps the shape, the marks and the leaves of mark `coanchor`
pub record IsAnchoredTree (t : Tree) (e : Entry) (new : Tree) : Type 0 where
  pub agrees : (nodes : AreTreeNodes t.nodes) → Agrees (anchored_network nodes.forest t e)
  pub over : (nodes : AreTreeNodes t.nodes) → IsTreeOver (anchored_network nodes.forest t e) (anchored_tree nodes.forest t e) new
  pub well_formed : HasNamedMarks t → IsWellFormedTree new
  pub named : HasNamedMarks t → HasNamedMarks new
  pub leaves : HasNamedMarks t → marked COANCHOR (node_lists new.nodes) ≡ co_leaves t

-- the tree over the network with its variables numbered densely, or none where the network doesn't agree
abbrev pub IsAnchored : Tree → Entry → Option Tree → Type 0
IsAnchored t e None = (nodes : AreTreeNodes t.nodes) → Agrees (anchored_network nodes.forest t e) → ⊥
IsAnchored t e (Some new) = IsAnchoredTree t e new × IsDense new

-- the lexical tree of a tree of a class and an entry, or none where they make none
abbrev pub IsFound : ClassTrees → ℕ → ℕ → Entry → Option LexicalTree → Type 0
IsFound class k n e None = (t : Tree) → slice_get (trees_of class.trees) k ≡ Some t → Makes t e → ⊥
IsFound class k n e (Some l) = (t : Tree) → slice_get (trees_of class.trees) k ≡ Some t → IsLexicalTree class.class k t n e l × HasLiteral l × (HasNamedMarks t → IsLexical l)

-- the two make a lexical tree without a literal
pub record IsBarePair (class : ClassTrees) (k : ℕ) (e : Entry) (lemma name : Sym) (number : ℕ) : Type 0 where
  pub t : Tree
  pub tree : slice_get (trees_of class.trees) k ≡ Some t
  pub makes : Makes t e
  pub bare : IsBare t e
  pub lemma_is : lemma ≡ e.lemma
  pub class_is : name ≡ class.class
  pub number_is : number ≡ suc k

abbrev pub IsRefused : ClassTrees → ℕ → Entry → AnchorRefusal → Type 0
IsRefused class k e (refusal.NoLiteral lemma name number) = IsBarePair class k e lemma name number
IsRefused class k e refusal.Memory = ⊤

-- the class is the family of entry number n
abbrev pub IsFamily : List ClassTrees → List Entry → ℕ → ClassTrees → Type 0
IsFamily classes es n class = (e : Entry) → slice_get es n ≡ Some e → IsClassNamed classes e.family class

-- just the lexical trees before tree number k and entry number n, of which each has a literal
pub record AreDone (classes : List ClassTrees) (es : List Entry) (n k : ℕ) (ls : List LexicalTree) : Type 0 where
  pub order : InOrder ls
  pub only : Each (IsOfPair classes es) ls
  pub before : Each (λ l. IsSooner (place_of l) (n, suc k)) ls
  pub all : (m j : ℕ) (class : ClassTrees) (t : Tree) (e : Entry) → IsPair classes es m j class t e → Makes t e → IsSooner (m, j) (n, k) → (l : LexicalTree) × IsAmong ls l × (place_of l ≡ (m, suc j))
  pub filled : (m j : ℕ) (class : ClassTrees) (t : Tree) (e : Entry) → IsPair classes es m j class t e → Makes t e → IsSooner (m, j) (n, k) → IsBare t e → ⊥
  pub literals : Each HasLiteral ls
  pub lexical : HaveNamedMarks classes → AreLexical ls
