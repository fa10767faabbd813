-- What a text of version 1 can say: the words, names and trees that its grammar has room for, and the texts of such trees.
use Rattle.std.specs.Prelude.{◌≡◌, ◌≢◌, ℕ, ◌≤◌, List, length, codes, true, ⊤}
use Rattle.std.specs.Str.{IsUtf8}
use Rattle.gr_base.specs.Lists.{Each, IsAmong, NoneTwice}
use Rattle.gr_symbols.specs.Numbers.{Grows, first_texts}
use Rattle.gr_terms.specs.Constants.{MARK, mark_numbers}
use Rattle.gr_terms.specs.declared.Literal.{Literal}
use Rattle.gr_terms.specs.declared.Sym.{Sym}
use Rattle.gr_terms.specs.declared.Term.{Term}
use Rattle.gr_terms.specs.declared.Term.TheVariants.{Const, Var}
use Rattle.gr_text.specs.Words.{is_word, IsStringByte}
use Rattle.td_canon.specs.CanonicalTexts.{HasText, text_in}
use Rattle.td_tree.specs.declared.Tree.{Tree}
use Rattle.td_tree.specs.declared.TreeNode.{TreeNode}

-- a name: at most 255 bytes, each of which may stand inside a string
pub record IsName (text : List ℕ) : Type 0 where
  pub bytes : Each IsStringByte text
  pub few : length text ≤ 255
  pub utf8 : IsUtf8 text

-- a name that is one word
pub record IsWord (text : List ℕ) : Type 0 where
  pub name : IsName text
  pub word : is_word text ≡ true

-- the marks, by their numbers
abbrev pub IsMark : Term → Type 0
IsMark (Const s) = IsAmong mark_numbers s.0
IsMark (Var v) = ⊥

module _ (texts : List (List ℕ)) where
  abbrev pub IsWritableTerm : Term → Type 0
  IsWritableTerm (Const s) = IsName (text_in texts s.0)
  IsWritableTerm (Var v) = ⊤

  -- a feature of a top, of a bottom or of the interface
  pub record IsWritablePair (p : Sym × Term) : Type 0 where
    pub attribute : IsWord (text_in texts p.0.0)
    pub value : IsWritableTerm p.1

  -- a node's category or one of its properties: none is named `color`, and the mark is one of six
  pub record IsWritableOwn (p : Sym × Term) : Type 0 where
    pub pair : IsWritablePair p
    pub uncoloured : text_in texts p.0.0 ≢ codes "color"
    pub mark : p.0.0 ≡ MARK → IsMark p.1

  pub record IsWritableNode (n : TreeNode) : Type 0 where
    pub own : Each IsWritableOwn n.own
    pub top : Each IsWritablePair n.top
    pub bot : Each IsWritablePair n.bot

  pub record IsWritableLiteral (l : Literal) : Type 0 where
    pub handle : IsWritableTerm l.handle
    pub pred : IsWritableTerm l.pred
    pub args : Each IsWritableTerm l.args

  pub record IsWritableTree (t : Tree) : Type 0 where
    pub nodes : Each IsWritableNode t.nodes
    pub iface : Each IsWritablePair t.iface
    pub sem : Each IsWritableLiteral t.sem

-- a table of texts, each once, of which the first are those that have numbers of their own
pub record IsTable (texts : List (List ℕ)) : Type 0 where
  pub once : NoneTwice texts
  pub first : Grows first_texts texts

-- The text is the canonical text of some tree of at most 24 nodes that can be written. Trees with one text are the same up to their variables, so it is that of the tree that it spells
pub record IsTreeText (text : List ℕ) : Type 0 where
  pub texts : List (List ℕ)
  pub table : IsTable texts
  pub tree : Tree
  pub has : HasText texts tree text
  pub writable : IsWritableTree texts tree
