-- The pairs of a tree's slots, by the bags of its nodes.
use Rattle.std.specs.Prelude.{◌≡◌, ℕ, Option, Some, None, slice_get, refl}
use Rattle.std.proofs.Common.{ap, subst, sym, ◌∙◌}
use Rattle.std.proofs.lemmas.Option.{none-some, same_Some, slice_get-map}
use Rattle.std.specs.Option.{option_map}
use Rattle.gr_base.specs.Lists.{IsAmong}
use Rattle.gr_base.specs.Forests.{labels}
use Rattle.gr_base.proofs.ListLemmas.{IsAmong-map, IsAmong-map_from}
use Rattle.gr_terms.specs.BagViews.{pairs_of}
use Rattle.gr_terms.specs.Canonical.{Node, Decorated}
use Rattle.gr_terms.specs.Networks as net
use Rattle.gr_terms.specs.Views.{term_of}
use Rattle.gr_terms.specs.declared.Sym.{Sym}
use Rattle.gr_terms.specs.declared.Term.{Term}
use Rattle.gr_feats.specs.Loading.{counted_from}
use Rattle.td_tree.specs.Trees.{AreTreeNodes, BagPairs}
use Rattle.td_tree.specs.TreeNetworks.{Part, own_part, top_part, bottom_part, TreeSlot, at_node, at_interface}
use Rattle.td_tree.specs.TreeViews.{Pairs, decorated_of}
use Rattle.td_tree.specs.declared.Tree.{Tree}
use Rattle.td_tree.specs.declared.TreeNode.{TreeNode}
use Rattle.td_tree.proofs.TreeNetworkLemmas.{IsPairAt, list_of}
use Rattle.tg_grammar.specs.Marks.{lists_at, node_lists}
use Rattle.tg_grammar.proofs.SightLemmas.{labels-nodes}
use Rattle.lx_anchor.specs.Sharing.{counted_pairs}

-- a pair that is read from a bag stands there
pub pair-in : (bag : BagPairs) (a : ℕ) (z : net.Term ℕ) → IsAmong (pairs_of bag) (a, z) → (y : Term) × IsAmong bag (record { 0 = a }, y) × (z ≡ term_of y)
pair-in bag a z i =
    let r = IsAmong-map_from (λ (p : Sym × Term). (p.0.0, term_of p.1)) bag (a, z) i in
    let attr : a ≡ r.0.0.0 = ap (λ (q : ℕ × net.Term ℕ). q.0) r.2 in
    let there : IsAmong bag (record { 0 = a }, r.0.1) = subst (λ k. IsAmong bag (record { 0 = k }, r.0.1)) (sym attr) r.1 in
    (r.0.1, there, ap (λ (q : ℕ × net.Term ℕ). q.1) r.2)

pub pair-out : (bag : BagPairs) (a : ℕ) (y : Term) → IsAmong bag (record { 0 = a }, y) → IsAmong (pairs_of bag) (a, term_of y)
pair-out bag a y i = IsAmong-map (λ (p : Sym × Term). (p.0.0, term_of p.1)) bag (record { 0 = a }, y) i

pub counted-in : (first : ℕ) (bag : BagPairs) (attr : Sym) (y : Term) → IsAmong bag (attr, y) → IsAmong (counted_pairs first bag) (attr, counted_from first y)
counted-in first bag attr y i = IsAmong-map (λ (p : Sym × Term). (p.0, counted_from first p.1)) bag (attr, y) i

pub counted-out : (first : ℕ) (bag : BagPairs) (attr : Sym) (v : Term) → IsAmong (counted_pairs first bag) (attr, v) → (y : Term) × IsAmong bag (attr, y) × (v ≡ counted_from first y)
counted-out first bag attr v i =
    let r = IsAmong-map_from (λ (p : Sym × Term). (p.0, counted_from first p.1)) bag (attr, v) i in
    let same : attr ≡ r.0.0 = ap (λ (q : Sym × Term). q.0) r.2 in
    (r.0.1, subst (λ k. IsAmong bag (k, r.0.1)) (sym same) r.1, ap (λ (q : Sym × Term). q.1) r.2)

-- the bag of a node
abbrev pub bag_of : Part → TreeNode → BagPairs
bag_of own_part x = x.own
bag_of top_part x = x.top
bag_of bottom_part x = x.bot

list-bag : (part : Part) (x : TreeNode) → list_of part (lists_at x) ≡ pairs_of (bag_of part x)
list-bag own_part x = refl
list-bag top_part x = refl
list-bag bottom_part x = refl

-- the bag stands at the slot
abbrev pub IsBagAt : Tree → TreeSlot → BagPairs → Type 0
IsBagAt t (at_node n part) bag = (x : TreeNode) × (slice_get t.nodes n ≡ Some x) × (bag ≡ bag_of part x)
IsBagAt t at_interface bag = bag ≡ t.iface

pub one-bag : (t : Tree) (s : TreeSlot) (bag other : BagPairs) → IsBagAt t s bag → IsBagAt t s other → bag ≡ other
one-bag t (at_node n part) bag other h k = h.2 ∙ ap (bag_of part) (same_Some h.0 k.0 (sym h.1 ∙ k.1)) ∙ sym k.2
one-bag t at_interface bag other h k = h ∙ sym k

module _ (t : Tree) (nodes : AreTreeNodes t.nodes) where
  abbrev D : Decorated Pairs (net.Term ℕ)
  D = decorated_of nodes.forest t

  nodes-are : labels D.nodes ≡ node_lists t.nodes
  nodes-are = labels-nodes t.nodes nodes

  lists-node : (n : ℕ) (lists : Node Pairs) → slice_get (labels D.nodes) n ≡ Some lists → (x : TreeNode) × (slice_get t.nodes n ≡ Some x) × (lists ≡ lists_at x)
  lists-node n lists at = by (slice_get t.nodes n) refl (sym (slice_get-map lists_at t.nodes n) ∙ sym (ap (λ ls. slice_get ls n) nodes-are) ∙ at)
    where
      by : (o : Option TreeNode) → slice_get t.nodes n ≡ o → option_map lists_at (slice_get t.nodes n) ≡ Some lists → (x : TreeNode) × (slice_get t.nodes n ≡ Some x) × (lists ≡ lists_at x)
      by None e h = absurd (none-some lists (sym (ap (option_map lists_at) e) ∙ h))
      by (Some x) e h = (x, e, sym (same_Some (lists_at x) lists (sym (ap (option_map lists_at) e) ∙ h)))

  -- the pairs of a slot are those of its bag
  pub pair-bag : (s : TreeSlot) (a : ℕ) (z : net.Term ℕ) → IsPairAt D s (a, z) → (bag : BagPairs) × IsBagAt t s bag × IsAmong (pairs_of bag) (a, z)
  pair-bag (at_node n part) a z h =
      let r = lists-node n h.0 h.1 in
      (bag_of part r.0, (r.0, r.1, refl), subst (λ ps. IsAmong ps (a, z)) (ap (list_of part) r.2 ∙ list-bag part r.0) h.2)
  pair-bag at_interface a z h = (t.iface, refl, h)

  pub bag-pair : (s : TreeSlot) (bag : BagPairs) (a : ℕ) (z : net.Term ℕ) → IsBagAt t s bag → IsAmong (pairs_of bag) (a, z) → IsPairAt D s (a, z)
  bag-pair (at_node n part) bag a z h i = (
    lists_at h.0,
    ap (λ ls. slice_get ls n) nodes-are ∙ slice_get-map lists_at t.nodes n ∙ ap (option_map lists_at) h.1,
    subst (λ ps. IsAmong ps (a, z)) (ap pairs_of h.2 ∙ sym (list-bag part h.0)) i,
  )
  bag-pair at_interface bag a z h i = subst (λ b. IsAmong (pairs_of b) (a, z)) h i
