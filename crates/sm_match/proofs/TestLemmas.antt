-- What the lexical trees of the tests are.
use Rattle.std.specs.Prelude.{◌≡◌, ℕ, List, [], ◌∷◌, map, length, Bool, true, false, if◌then◌else◌, None}
use Rattle.std.proofs.Common.{ap, sym, ◌∙◌, subst, arith}
use Rattle.gr_base.specs.Forests.{empty, tree}
use Rattle.gr_base.specs.Lists.{Each}
use Rattle.gr_terms.specs.Constants.{ANCHOR, COANCHOR}
use Rattle.td_tree.specs.Trees.{AreTreeNodes}
use Rattle.td_tree.specs.declared.TreeNode.{TreeNode}
use Rattle.tg_grammar.specs.Marks.{is_marked, lists_at, marked, node_lists}
use Rattle.tg_grammar.specs.NamedMarks.{IsNamedMark}
use Rattle.tg_grammar.specs.Shapes.{IsWellFormedTree}
use Rattle.tg_grammar.proofs.NamedLemmas.{marked-named}
use Rattle.tg_model.specs.LexicalTrees.{IsLexical}
use Rattle.tg_model.specs.declared.lexical.LexicalTree.{LexicalTree}

-- a node alone
pub one_node : (nodes : List TreeNode) (x : TreeNode) → nodes ≡ x ∷ [] → x.parent ≡ None → AreTreeNodes nodes
one_node nodes x are root = record {
  forest = tree (record { own = x.own; top = x.top; bottom = x.bot }) empty empty;
  one = tt;
  few = let count : length nodes ≡ 1 = ap length are in omega arith;
  laid = are ∙ (λ i. record { parent = root i; own = x.own; top = x.top; bot = x.bot } ∷ []);
}

-- a lexical tree of it
pub lexical_one : (l : LexicalTree) (x : TreeNode) → l.tree.nodes ≡ x ∷ [] → l.coanchors ≡ [] → is_marked COANCHOR (lists_at x) ≡ false → is_marked ANCHOR (lists_at x) ≡ true → (l.tree.sem ≡ [] → ⊥) → IsWellFormedTree l.tree → IsLexical l
lexical_one l x are none unmarked anchored some well_formed = record {
  well_formed = well_formed;
  named = subst (λ ns. Each IsNamedMark (node_lists ns)) (sym are) (marked-named ANCHOR (lists_at x) anchored, tt);
  literal = some;
  coanchors =
      ap (λ (cs : List (ℕ × _)). map (λ c. c.0) cs) none
      ∙ sym (ap (λ ns. marked COANCHOR (node_lists ns)) are ∙ ap (λ (b : Bool). if b then (0 ∷ []) else []) unmarked);
}
