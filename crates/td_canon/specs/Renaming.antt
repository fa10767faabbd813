-- Trees that are the same up to the names of their variables.
use Rattle.std.specs.Prelude.{◌≡◌, ℕ, map}
use Rattle.gr_terms.specs.declared.Term.{Term}
use Rattle.gr_terms.specs.declared.Term.TheVariants.{Const, Var}
use Rattle.gr_terms.specs.declared.Literal.{Literal}
use Rattle.td_tree.specs.Trees.{BagPairs}
use Rattle.td_tree.specs.declared.Tree.{Tree}
use Rattle.td_tree.specs.declared.TreeNode.{TreeNode}

-- the same with f of each variable
abbrev pub rename_term : (ℕ → ℕ) → Term → Term
rename_term f (Const s) = Const s
rename_term f (Var v) = Var (f v)

abbrev pub rename_bag : (ℕ → ℕ) → BagPairs → BagPairs
rename_bag f bag = map (λ p. (p.0, rename_term f p.1)) bag

abbrev pub rename_node : (ℕ → ℕ) → TreeNode → TreeNode
rename_node f n = record { parent = n.parent; own = rename_bag f n.own; top = rename_bag f n.top; bot = rename_bag f n.bot }

abbrev pub rename_literal : (ℕ → ℕ) → Literal → Literal
rename_literal f l = record { handle = rename_term f l.handle; pred = rename_term f l.pred; args = map (rename_term f) l.args }

abbrev pub rename_tree : (ℕ → ℕ) → Tree → Tree
rename_tree f t = record { nodes = map (rename_node f) t.nodes; iface = rename_bag f t.iface; sem = map (rename_literal f) t.sem }

-- each tree is the other one with its variables renamed
pub record AreRenamed (t u : Tree) : Type 0 where
  pub there : ℕ → ℕ
  pub back : ℕ → ℕ
  pub renamed : rename_tree there t ≡ u
  pub home : rename_tree back u ≡ t
