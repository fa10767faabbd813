-- Lexical trees: which trees and entries make one, which one it is, and which list has all of them.
use Rattle.std.specs.Prelude.{◌≡◌, ◌≢◌, ℕ, suc, ◌<◌, List, [], ◌∷◌, Option, Some, None, slice_get, ⊤, ◌⊎◌, ◌==◌, if◌then◌else◌}
use Rattle.std.specs.List.{AllZip}
use Rattle.gr_base.specs.Lists.{IsAmong, Each}
use Rattle.gr_terms.specs.Canonical.{Node}
use Rattle.gr_terms.specs.Constants.{NAME, COANCHOR}
use Rattle.gr_terms.specs.Networks.{Agrees}
use Rattle.gr_terms.specs.declared.Sym.{Sym}
use Rattle.td_tree.specs.Trees.{AreTreeNodes}
use Rattle.td_tree.specs.TreeViews.{Pairs}
use Rattle.td_tree.specs.declared.Tree.{Tree}
use Rattle.td_canon.specs.TreeSets.{trees_of}
use Rattle.td_canon.specs.declared.tree_set.ClassTrees.{ClassTrees}
use Rattle.tg_grammar.specs.Grammars.{IsClassNamed}
use Rattle.tg_grammar.specs.Marks.{marked, name_of, node_lists, value_of}
use Rattle.lx_lexicon.specs.declared.entry.Entry.{Entry}
use Rattle.tg_model.specs.DenseTrees.{IsDense}
use Rattle.tg_model.specs.declared.lexical.LexicalTree.{LexicalTree}
use Rattle.lx_anchor.specs.Networks.{anchored_network, anchored_tree}
use Rattle.lx_anchor.specs.TreesOver.{IsTreeOver}
use Rattle.lx_anchor.specs.declared.refusal.AnchorRefusal.{AnchorRefusal}
use Rattle.lx_anchor.specs.declared.refusal.AnchorRefusal.TheVariants as refusal

-- the numbers of the nodes of mark `coanchor`, which are leaves in a well-formed tree
abbrev pub co_leaves : Tree → List ℕ
co_leaves t = marked COANCHOR (node_lists t.nodes)

-- node number n has this name as its property `name`
abbrev pub IsNamedNode : Tree → ℕ → ℕ → Type 0
IsNamedNode t n a = (x : Node Pairs) × (slice_get (node_lists t.nodes) n ≡ Some x) × (name_of (value_of x.own NAME) ≡ Some a)

-- a leaf of mark `coanchor` has this name
abbrev pub HasLeaf : Tree → ℕ → Type 0
HasLeaf t a = (n : ℕ) × IsAmong (co_leaves t) n × IsNamedNode t n a

-- the lemma that co-anchors give a name; the first one, where they give several
abbrev pub lemma_for : List (Sym × Sym) → ℕ → Option Sym
lemma_for [] a = None
lemma_for (c ∷ cs) a = if c.0.0 == a then Some c.1 else lemma_for cs a

-- the entry gives the name of node number n the lemma
abbrev pub IsGiven : Tree → Entry → ℕ → ℕ × Sym → Type 0
IsGiven t e n c = (c.0 ≡ n) × ((a : ℕ) × IsNamedNode t n a × (lemma_for e.coanchors a ≡ Some c.1))

-- Each leaf of mark `coanchor` has a name, and the names of these leaves are those that the entry gives lemmas. These are the leaves'
-- lemmas, in preorder
pub record AreLemmas (t : Tree) (e : Entry) (lemmas : List (ℕ × Sym)) : Type 0 where
  pub given : AllZip (IsGiven t e) (co_leaves t) lemmas
  pub taken : Each (λ c. HasLeaf t c.0.0) e.coanchors

-- a tree and an entry make a lexical tree: the names of co-anchors are the same set, and the network agrees
pub record Makes (t : Tree) (e : Entry) : Type 0 where
  pub lemmas : List (ℕ × Sym)
  pub are : AreLemmas t e lemmas
  pub nodes : AreTreeNodes t.nodes
  pub agrees : Agrees (anchored_network nodes.forest t e)

-- the lexical tree of the tree number k of a class and the entry number n, both counted from 0. Its variables are numbered by where they
-- first stand
pub record IsLexicalTree (class : Sym) (k : ℕ) (t : Tree) (n : ℕ) (e : Entry) (l : LexicalTree) : Type 0 where
  pub makes : Makes t e
  pub entry : l.entry ≡ n
  pub class_is : l.class ≡ class
  pub number : l.number ≡ suc k
  pub lemma : l.lemma ≡ e.lemma
  pub coanchors : l.coanchors ≡ makes.lemmas
  pub tree : IsTreeOver (anchored_network makes.nodes.forest t e) (anchored_tree makes.nodes.forest t e) l.tree
  pub dense : IsDense l.tree

-- tree number k of the class that is the family of entry number n
pub record IsPair (classes : List ClassTrees) (es : List Entry) (n k : ℕ) (class : ClassTrees) (t : Tree) (e : Entry) : Type 0 where
  pub entry : slice_get es n ≡ Some e
  pub family : IsClassNamed classes e.family class
  pub tree : slice_get (trees_of class.trees) k ≡ Some t

-- by entry, then by tree
abbrev pub IsSooner : ℕ × ℕ → ℕ × ℕ → Type 0
IsSooner a b = (a.0 < b.0) ⊎ ((a.0 ≡ b.0) × (a.1 < b.1))

abbrev pub place_of : LexicalTree → ℕ × ℕ
place_of l = (l.entry, l.number)

abbrev pub InOrder : List LexicalTree → Type 0
InOrder [] = ⊤
InOrder (l ∷ ls) = Each (λ m. IsSooner (place_of l) (place_of m)) ls × InOrder ls

-- it is the lexical tree of its entry and its tree
pub record IsOfPair (classes : List ClassTrees) (es : List Entry) (l : LexicalTree) : Type 0 where
  pub k : ℕ
  pub class : ClassTrees
  pub t : Tree
  pub e : Entry
  pub pair : IsPair classes es l.entry k class t e
  pub is : IsLexicalTree class.class k t l.entry e l

-- just the lexical trees, in order
pub record AreLexicalTrees (classes : List ClassTrees) (es : List Entry) (ls : List LexicalTree) : Type 0 where
  pub order : InOrder ls
  pub only : Each (IsOfPair classes es) ls
  pub all : (n k : ℕ) (class : ClassTrees) (t : Tree) (e : Entry) → IsPair classes es n k class t e → Makes t e → (l : LexicalTree) × IsAmong ls l × (place_of l ≡ (n, suc k))

-- the lexical tree has a literal
abbrev pub HasLiteral : LexicalTree → Type 0
HasLiteral l = l.tree.sem ≢ []

-- a lexical tree of the two has no literal
abbrev pub IsBare : Tree → Entry → Type 0
IsBare t e = (t.sem ≡ []) × (e.sem ≡ [])

-- the first lexical tree that has no literal: its entry's lemma, its class, and the number of its tree, counted from 1
pub record IsFirstBare (classes : List ClassTrees) (es : List Entry) (lemma class : Sym) (number : ℕ) : Type 0 where
  pub n : ℕ
  pub k : ℕ
  pub of : ClassTrees
  pub t : Tree
  pub e : Entry
  pub pair : IsPair classes es n k of t e
  pub makes : Makes t e
  pub bare : IsBare t e
  pub lemma_is : lemma ≡ e.lemma
  pub class_is : class ≡ of.class
  pub number_is : number ≡ suc k
  pub earlier : (m j : ℕ) (c : ClassTrees) (s : Tree) (d : Entry) → IsPair classes es m j c s d → Makes s d → IsSooner (m, j) (n, k) → IsBare s d → ⊥

-- what a refusal says; want of memory says nothing
abbrev pub IsAnchorRefusal : List ClassTrees → List Entry → AnchorRefusal → Type 0
IsAnchorRefusal classes es (refusal.NoLiteral lemma class number) = IsFirstBare classes es lemma class number
IsAnchorRefusal classes es refusal.Memory = ⊤
