-- A tree of the code has one text.
use Rattle.std.specs.Prelude.{◌≡◌, ℕ, suc, ◌+◌, ◌<◌, List, length, Option, Some, None}
use Rattle.std.proofs.Common.{ap, sym, ◌∙◌, subst}
use Rattle.gr_base.specs.Lists.{Each, NoneTwice}
use Rattle.gr_base.specs.Forests.{Forest, empty, tree, labels, map_forest, size}
use Rattle.gr_base.proofs.ListLemmas.{Each-append, Each-at, Each-left, Each-right, IsAmong-slice_get}
use Rattle.gr_terms.specs.BagViews.{pairs_of}
use Rattle.gr_terms.specs.Canonical.{Decorated, Node}
use Rattle.gr_terms.specs.Networks.{Assertion, Term}
use Rattle.td_tree.specs.Trees.{BagPairs, preorder}
use Rattle.td_tree.specs.TreeNetworks.{Part, TreeSlot, own_part, top_part, bottom_part, at_node, at_interface, slotted, tree_network}
use Rattle.td_tree.specs.TreeViews.{Pairs, decorated_of, lists_of}
use Rattle.td_tree.specs.declared.Tree.{Tree}
use Rattle.td_tree.proofs.PreorderLemmas.{preorder-unique}
use Rattle.td_tree.proofs.TreeNetworkLemmas.{IsPairAt, list_of, value_pair}
use Rattle.td_canon.specs.CanonicalTexts.{HasText, IsCanonicalText, IsNamedNode, IsNamedTree, TellsAttributesApart, text_in}
use Rattle.td_canon.specs.TreeText.{decorated_text}
use Rattle.td_canon.proofs.OrderLemmas.{texts_apart}
use Rattle.td_canon.proofs.SortLemmas.{named_attributes}
use Rattle.td_canon.proofs.UniqueForms.{one_form}

-- one text over a network
pub one_network_text : {V S : Type 0} (text : ℕ → List ℕ) (N : List (Assertion V S)) (t : Decorated S (Term V)) (x y : List ℕ) → TellsAttributesApart text N t → IsCanonicalText text N t x → IsCanonicalText text N t y → x ≡ y
one_network_text text N t x y tells a b =
    a.spells
    ∙ ap (decorated_text text) (one_form text N t (λ p q (s, v, i, h) (r, w, j, k) e. tells p q s r v w i j h k e) a.form b.form a.canonical b.canonical)
    ∙ sym b.spells

-- ---- the lists of a named tree

module _ (texts : List (List ℕ)) where
  -- each attribute has a number of a text
  abbrev pub AreNamedPairs : Pairs → Type 0
  AreNamedPairs ps = Each (λ (p : ℕ × Term ℕ). p.0 < length texts) ps

  pub record AreNamedLists (n : Node Pairs) : Type 0 where
    pub own : AreNamedPairs n.own
    pub top : AreNamedPairs n.top
    pub bottom : AreNamedPairs n.bottom

  named_lists : (n : ℕ) (parent : Option ℕ) (f : Forest (Node BagPairs)) → Each (IsNamedNode (length texts)) (preorder n parent f) → Each AreNamedLists (labels (map_forest lists_of f))
  named_lists n parent empty named = tt
  named_lists n parent (tree b kids more) named = (
    record { own = named_attributes (length texts) b.own named.0.own; top = named_attributes (length texts) b.top named.0.top; bottom = named_attributes (length texts) b.bottom named.0.bot },
    Each-append AreNamedLists (labels (map_forest lists_of kids)) (labels (map_forest lists_of more))
        (named_lists (suc n) (Some n) kids (Each-left (IsNamedNode (length texts)) (preorder (suc n) (Some n) kids) (preorder (suc n + size kids) parent more) named.1))
        (named_lists (suc n + size kids) parent more (Each-right (IsNamedNode (length texts)) (preorder (suc n) (Some n) kids) (preorder (suc n + size kids) parent more) named.1)),
  )

  part_named : (n : Node Pairs) (part : Part) → AreNamedLists n → AreNamedPairs (list_of part n)
  part_named n own_part named = named.own
  part_named n top_part named = named.top
  part_named n bottom_part named = named.bottom

  tree_named : (t : Tree) (f : Forest (Node BagPairs)) → t.nodes ≡ preorder 0 None f → IsNamedTree (length texts) t → Each AreNamedLists (labels (decorated_of f t).nodes)
  tree_named t f laid named = named_lists 0 None f (subst (λ ns. Each (IsNamedNode (length texts)) ns) laid named.nodes)

  pair_named : (t : Tree) (f : Forest (Node BagPairs)) → t.nodes ≡ preorder 0 None f → IsNamedTree (length texts) t → (s : TreeSlot) (p : ℕ × Term ℕ) → IsPairAt (decorated_of f t) s p → p.0 < length texts
  pair_named t f laid named (at_node n part) p (lists, at, i) =
      Each-at (λ (q : ℕ × Term ℕ). q.0 < length texts) (list_of part lists) p
      (part_named lists part (Each-at AreNamedLists (labels (decorated_of f t).nodes) lists (tree_named t f laid named) (IsAmong-slice_get (labels (decorated_of f t).nodes) n lists at))) i
  pair_named t f laid named at_interface p i = Each-at (λ (q : ℕ × Term ℕ). q.0 < length texts) (pairs_of t.iface) p (named_attributes (length texts) t.iface named.iface) i

  pub tree_tells : (t : Tree) (f : Forest (Node BagPairs)) → NoneTwice texts → t.nodes ≡ preorder 0 None f → IsNamedTree (length texts) t →
      TellsAttributesApart (text_in texts) (tree_network (decorated_of f t)) (slotted (decorated_of f t))
  tree_tells t f once laid named p q s r x y i j h k e =
      texts_apart texts p q once
      (pair_named t f laid named s (p, x) (value_pair (decorated_of f t) s p x h))
      (pair_named t f laid named r (q, y) (value_pair (decorated_of f t) r q y k)) e

  -- ---- a tree has one text

  pub one_tree_text : (t : Tree) (x y : List ℕ) → NoneTwice texts → HasText texts t x → HasText texts t y → x ≡ y
  one_tree_text t x y once a b =
      let same : a.nodes.forest ≡ b.nodes.forest = preorder-unique a.nodes.forest b.nodes.forest (sym a.nodes.laid ∙ b.nodes.laid) in
      one_network_text (text_in texts) (tree_network (decorated_of b.nodes.forest t)) (slotted (decorated_of b.nodes.forest t)) x y (tree_tells t b.nodes.forest once b.nodes.laid b.named)
      (subst (λ f. IsCanonicalText (text_in texts) (tree_network (decorated_of f t)) (slotted (decorated_of f t)) x) same a.spells) b.spells
