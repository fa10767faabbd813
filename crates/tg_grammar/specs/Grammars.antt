-- Grammars: classes whose trees are all well formed; and the first refusal of other classes.
use Rattle.std.specs.Prelude.{◌≡◌, ℕ, suc, List, take, slice_get, Some, ⊤}
use Rattle.gr_base.specs.Lists.{Each}
use Rattle.gr_terms.specs.declared.Sym.{Sym}
use Rattle.td_tree.specs.declared.Tree.{Tree}
use Rattle.td_canon.specs.TreeSets.{trees_of}
use Rattle.td_canon.specs.declared.tree_set.ClassTrees.{ClassTrees}
use Rattle.tg_grammar.specs.declared.flaw.Flaw.{Flaw}
use Rattle.tg_grammar.specs.declared.refusal.GrammarRefusal.{GrammarRefusal}
use Rattle.tg_grammar.specs.declared.refusal.GrammarRefusal.TheVariants as refusal
use Rattle.tg_grammar.specs.Shapes.{IsWellFormedTree, IsFirstFlaw, code_of}

-- each tree of the class is well formed
abbrev pub IsWellFormedClass : ClassTrees → Type 0
IsWellFormedClass c = Each IsWellFormedTree (trees_of c.trees)

abbrev pub IsGrammar : List ClassTrees → Type 0
IsGrammar classes = Each IsWellFormedClass classes

-- tree `number`, counted from 1, is the first of the class that isn't well formed, and the code is that of its first flaw
pub record IsFirstOfClass (c : ClassTrees) (code number : ℕ) : Type 0 where
  pub at : ℕ
  pub counted : number ≡ suc at
  pub tree : Tree
  pub here : slice_get (trees_of c.trees) at ≡ Some tree
  pub earlier : Each IsWellFormedTree (take at (trees_of c.trees))
  pub flaw : Flaw
  pub first : IsFirstFlaw tree flaw
  pub coded : code ≡ code_of flaw

-- of all classes this is the first that has a tree which isn't well formed, with that tree's number and the code of its first flaw
pub record IsFirstRefusal (classes : List ClassTrees) (code : ℕ) (class : Sym) (number : ℕ) : Type 0 where
  pub at : ℕ
  pub here : ClassTrees
  pub is : slice_get classes at ≡ Some here
  pub named : here.class ≡ class
  pub earlier : IsGrammar (take at classes)
  pub first : IsFirstOfClass here code number

-- what a refusal says holds; want of memory says nothing
abbrev pub IsRefusalOf : List ClassTrees → GrammarRefusal → Type 0
IsRefusalOf classes (refusal.Shape code class number) = IsFirstRefusal classes code class number
IsRefusalOf classes refusal.Memory = ⊤

-- the same of a class alone
abbrev pub IsClassRefusal : ClassTrees → GrammarRefusal → Type 0
IsClassRefusal c (refusal.Shape code class number) = (c.class ≡ class) × IsFirstOfClass c code number
IsClassRefusal c refusal.Memory = ⊥

-- no class has the name
abbrev pub LacksClass : List ClassTrees → Sym → Type 0
LacksClass classes name = Each (λ c. c.class ≡ name → ⊥) classes

-- the class is the first that has the name
pub record IsFirstNamed (classes : List ClassTrees) (name : Sym) (at : ℕ) (class : ClassTrees) : Type 0 where
  pub here : slice_get classes at ≡ Some class
  pub named : class.class ≡ name
  pub earlier : LacksClass (take at classes) name

abbrev pub IsClassNamed : List ClassTrees → Sym → ClassTrees → Type 0
IsClassNamed classes name class = (at : ℕ) × IsFirstNamed classes name at class
