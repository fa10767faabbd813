-- Trees whose names can be spelled: what is needed so that their texts tell them apart.
use Rattle.std.specs.Prelude.{◌≡◌, ℕ, ◌+◌, ◌<◌, ◌^◌, List, [], ◌∷◌, length, ⊤}
use Rattle.gr_base.specs.Lists.{Each}
use Rattle.gr_terms.specs.declared.Literal.{Literal}
use Rattle.gr_terms.specs.declared.Term.{Term}
use Rattle.gr_terms.specs.declared.Term.TheVariants.{Const, Var}
use Rattle.td_tree.specs.Trees.{BagPairs}
use Rattle.td_tree.specs.declared.Tree.{Tree}
use Rattle.td_tree.specs.declared.TreeNode.{TreeNode}
use Rattle.td_canon.specs.CanonicalTexts.{text_in}

-- the text has no such byte
abbrev pub Lacks : ℕ → List ℕ → Type 0
Lacks byte text = Each (λ b. b ≡ byte → ⊥) text

-- a name has no `"`, the byte 34, and an attribute no `=`, the byte 61
abbrev pub IsSpellableTerm : List (List ℕ) → Term → Type 0
IsSpellableTerm texts (Const s) = Lacks 34 (text_in texts s.0)
IsSpellableTerm texts (Var v) = ⊤

abbrev pub IsSpellableBag : List (List ℕ) → BagPairs → Type 0
IsSpellableBag texts bag = Each (λ p. Lacks 61 (text_in texts p.0.0) × IsSpellableTerm texts p.1) bag

pub record IsSpellableNode (texts : List (List ℕ)) (n : TreeNode) : Type 0 where
  pub own : IsSpellableBag texts n.own
  pub top : IsSpellableBag texts n.top
  pub bot : IsSpellableBag texts n.bot

pub record IsSpellableLiteral (texts : List (List ℕ)) (l : Literal) : Type 0 where
  pub handle : IsSpellableTerm texts l.handle
  pub pred : IsSpellableTerm texts l.pred
  pub args : Each (IsSpellableTerm texts) l.args

-- the sum of what f counts
abbrev pub total : {X : Type 0} → (X → ℕ) → List X → ℕ
total f [] = 0
total f (x ∷ xs) = f x + total f xs

-- how many values the tree has
abbrev pub node_count : TreeNode → ℕ
node_count n = length n.own + length n.top + length n.bot

abbrev pub literal_count : Literal → ℕ
literal_count l = 2 + length l.args

abbrev pub value_count : Tree → ℕ
value_count t = total node_count t.nodes + length t.iface + total literal_count t.sem

-- so has the tree, and its values are few enough for numbers of nine digits
pub record IsSpellableTree (texts : List (List ℕ)) (t : Tree) : Type 0 where
  pub nodes : Each (IsSpellableNode texts) t.nodes
  pub iface : IsSpellableBag texts t.iface
  pub sem : Each (IsSpellableLiteral texts) t.sem
  pub few : value_count t < 10 ^ 9
