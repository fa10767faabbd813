-- A tree whose bags have each attribute once links nothing by itself, so it agrees with equations that bindings solve.
use Rattle.std.specs.Prelude.{◌≡◌, ℕ, suc, ◌+◌, List, ◌++◌, slice_get, Option, Some, None, refl}
use Rattle.std.proofs.Common.{inl, inr, ap, sym, ◌∙◌, subst}
use Rattle.std.proofs.lemmas.Option.{same_Some}
use Rattle.gr_base.specs.Lists.{IsAmong, Each}
use Rattle.gr_base.specs.Forests.{Forest, empty, tree, labels, map_forest, size}
use Rattle.gr_base.proofs.ListLemmas.{IsAmong-append, IsAmong-slice_get, Each-at, Each-left, Each-right, Each-append}
use Rattle.gr_base.proofs.RisingKeys.{IsRising-same}
use Rattle.gr_terms.specs.BagViews.{pairs_of}
use Rattle.gr_terms.specs.Bags.{IsListed}
use Rattle.gr_terms.specs.Canonical.{Node}
use Rattle.gr_terms.specs.Networks.{Term, name, entry, equate, link, Agrees, AreLinked, AreLinkedSlots, equated, shared, same, back, next, linked, same_slot, back_slot, next_slot}
use Rattle.gr_terms.proofs.ViewLemmas.{IsRising-pairs_of}
use Rattle.gr_terms.specs.declared.Sym.{Sym}
use Rattle.gr_terms.specs.declared.Term.{Term as CodeTerm}
use Rattle.td_tree.specs.Trees.{AreTreeNodes, BagPairs, HasListedBags, IsListedNode, node_of, preorder}
use Rattle.td_tree.specs.TreeNetworks.{Part, own_part, top_part, bottom_part, TreeSlot, at_node, at_interface, tree_network}
use Rattle.td_tree.specs.TreeViews.{Pairs, lists_of, decorated_of}
use Rattle.td_tree.proofs.TreeNetworkLemmas.{list_of, TreeEntry, in_node, in_interface, tree_entry, IsPairAt, entry_pair}
use Rattle.td_tree.specs.declared.Tree.{Tree}
use Rattle.sm_match.specs.declared.bindings.Bound.{Bound}
use Rattle.sm_match.specs.Bindings.{TreeNetwork, value_by, Solves}

-- ---- each attribute once

-- the list has one value of an attribute
abbrev HasOnce : Pairs → Type 0
HasOnce ps = (a : ℕ) (x y : Term ℕ) → IsAmong ps (a, x) → IsAmong ps (a, y) → x ≡ y

has_once : (bag : List (Sym × CodeTerm)) → IsListed bag → HasOnce (pairs_of bag)
has_once bag listed a x y i j = ap (λ (p : ℕ × Term ℕ). p.1) (IsRising-same (λ (p : ℕ × Term ℕ). p.0) (pairs_of bag) (a, x) (a, y) (IsRising-pairs_of bag listed) i j refl)

record HaveOnce (n : Node Pairs) : Type 0 where
  own : HasOnce n.own
  top : HasOnce n.top
  bottom : HasOnce n.bottom

node_once : (parent : Option ℕ) (b : Node BagPairs) → IsListedNode (node_of parent b) → HaveOnce (lists_of b)
node_once parent b listed = record { own = has_once b.own listed.own; top = has_once b.top listed.top; bottom = has_once b.bottom listed.bot }

nodes_once : (n : ℕ) (parent : Option ℕ) (f : Forest (Node BagPairs)) → Each IsListedNode (preorder n parent f) → Each HaveOnce (labels (map_forest lists_of f))
nodes_once n parent empty listed = tt
nodes_once n parent (tree b kids more) listed = (
  node_once parent b listed.0,
  Each-append HaveOnce (labels (map_forest lists_of kids)) (labels (map_forest lists_of more))
      (nodes_once (suc n) (Some n) kids (Each-left IsListedNode (preorder (suc n) (Some n) kids) (preorder (suc n + size kids) parent more) listed.1))
      (nodes_once (suc n + size kids) parent more (Each-right IsListedNode (preorder (suc n) (Some n) kids) (preorder (suc n + size kids) parent more) listed.1)),
)

part_once : (part : Part) (n : Node Pairs) → HaveOnce n → HasOnce (list_of part n)
part_once own_part n h = h.own
part_once top_part n h = h.top
part_once bottom_part n h = h.bottom

module _ (t : Tree) (nodes : AreTreeNodes t.nodes) (bags : HasListedBags t) where
  slot_once : (s : TreeSlot) (a : ℕ) (x y : Term ℕ) → IsPairAt (decorated_of nodes.forest t) s (a, x) → IsPairAt (decorated_of nodes.forest t) s (a, y) → x ≡ y
  slot_once (at_node n part) a x y (lists, at, i) (others, at', j) =
      let one : others ≡ lists = same_lists at at' in
      part_once part lists
      (Each-at HaveOnce (labels (map_forest lists_of nodes.forest)) lists (nodes_once 0 None nodes.forest (subst (λ ns. Each IsListedNode ns) nodes.laid bags.nodes)) (IsAmong-slice_get (labels (map_forest lists_of nodes.forest)) n lists at))
      a x y i (subst (λ ls. IsAmong (list_of part ls) (a, y)) one j)
    where
      same_lists : {lists others : Node Pairs} → slice_get (labels (map_forest lists_of nodes.forest)) n ≡ Some lists → slice_get (labels (map_forest lists_of nodes.forest)) n ≡ Some others → others ≡ lists
      same_lists {lists} {others} p q = same_Some others lists (sym q ∙ p)
  slot_once at_interface a x y i j = has_once t.iface bags.iface a x y i j

  -- ---- with equations

  module _ (N : TreeNetwork) (bs : List Bound) (s : Solves bs N) where
    abbrev whole : TreeNetwork
    whole = tree_network (decorated_of nodes.forest t) ++ N

    no_link : (p q : TreeSlot) → IsAmong whole (link p q) → ⊥
    no_link p q i = elim (IsAmong-append (tree_network (decorated_of nodes.forest t)) N (link p q) i) [
      | inl j ↦ in_tree (tree_entry (decorated_of nodes.forest t) (link p q) j)
      | inr j ↦ let r = s.equations (link p q) j in let h : link p q ≡ equate r.0 r.1 = r.2 in cc
    ]
      where
        in_tree : TreeEntry (decorated_of nodes.forest t) (link p q) → ⊥
        in_tree (in_node n lists at e) = let h : link p q ≡ entry (at_node n e.part) e.pair.0 e.pair.1 = e.is in cc
        in_tree (in_interface r j h) = cc

    one_slot : (p q : TreeSlot) → AreLinkedSlots whole p q → p ≡ q
    one_slot p q (linked _ _ i) = absurd (no_link p q i)
    one_slot p _ (same_slot _) = refl
    one_slot p q (back_slot _ _ h) = sym (one_slot q p h)
    one_slot p q (next_slot _ r _ h k) = one_slot p r h ∙ one_slot r q k

    equation_in : (x y : Term ℕ) → IsAmong whole (equate x y) → IsAmong N (equate x y)
    equation_in x y i = elim (IsAmong-append (tree_network (decorated_of nodes.forest t)) N (equate x y) i) [
      | inl j ↦ absurd (in_tree (tree_entry (decorated_of nodes.forest t) (equate x y) j))
      | inr j ↦ j
    ]
      where
        in_tree : TreeEntry (decorated_of nodes.forest t) (equate x y) → ⊥
        in_tree (in_node n lists at e) = let h : equate x y ≡ entry (at_node n e.part) e.pair.0 e.pair.1 = e.is in cc
        in_tree (in_interface r j h) = cc

    entry_in : (p : TreeSlot) (a : ℕ) (x : Term ℕ) → IsAmong whole (entry p a x) → IsPairAt (decorated_of nodes.forest t) p (a, x)
    entry_in p a x i = elim (IsAmong-append (tree_network (decorated_of nodes.forest t)) N (entry p a x) i) [
      | inl j ↦ entry_pair (decorated_of nodes.forest t) p a x j
      | inr j ↦ let r = s.equations (entry p a x) j in let h : entry p a x ≡ equate r.0 r.1 = r.2 in absurd cc
    ]

    same_value : (x y : Term ℕ) → AreLinked whole x y → value_by bs x ≡ value_by bs y
    same_value x y (equated _ _ i) = s.holds x y (equation_in x y i)
    same_value x y (shared p q a _ _ h i j) =
        ap (value_by bs) (slot_once p a x y (entry_in p a x i) (subst (λ r. IsPairAt (decorated_of nodes.forest t) r (a, y)) (sym (one_slot p q h)) (entry_in q a y j)))
    same_value x _ (same _) = refl
    same_value x y (back _ _ h) = sym (same_value y x h)
    same_value x y (next _ z _ h k) = same_value x z h ∙ same_value z y k

    -- the tree's network agrees with the equations
    pub agrees_with : Agrees whole
    agrees_with a b h = let e : ◌≡◌ {A = Term ℕ} (name a) (name b) = same_value (name a) (name b) h in cc
