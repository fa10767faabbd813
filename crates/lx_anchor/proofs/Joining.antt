-- The equations in a store, and the network of a tree and an entry: they link alike, and they agree together.
use Rattle.std.specs.Prelude.{◌≡◌, ℕ, List, [], ◌∷◌, ◌↔◌, refl}
use Rattle.std.proofs.Common.{inl, inr, ap, subst, sym, ◌∙◌}
use Rattle.gr_base.specs.Lists.{IsAmong, Each}
use Rattle.gr_base.proofs.ListLemmas.{Each-at, IsAmong-map, IsAmong-map_from, IsAmong-slice_get}
use Rattle.gr_terms.specs.BagViews.{pairs_of}
use Rattle.gr_terms.specs.Bags.{IsListed}
use Rattle.gr_terms.specs.Constants.{ANCHOR}
use Rattle.gr_terms.specs.Interpretations.{Interprets}
use Rattle.gr_terms.specs.Networks as net
use Rattle.gr_terms.specs.Networks.{Assertion, name, variable, equate, Agrees, AreLinked, equated, shared, same, back, next, back_slot, next_slot, Follows, put_assertion}
use Rattle.gr_terms.specs.Views.{assertion_of, network_of, term_of}
use Rattle.gr_terms.specs.declared.Assertion as code
use Rattle.gr_terms.specs.declared.Assertion.TheVariants.{Equate}
use Rattle.gr_terms.specs.declared.Sym.{Sym}
use Rattle.gr_terms.specs.declared.Term.{Term}
use Rattle.gr_terms.proofs.BagLemmas.{IsListed-value}
use Rattle.gr_terms.proofs.NetworkLemmas.{AreLinked-put, Agrees-from}
use Rattle.gr_terms.proofs.ViewLemmas.{term_from}
use Rattle.gr_store.specs.Contents.{IsMade}
use Rattle.gr_feats.specs.CanonicalBags.{StandsFor}
use Rattle.gr_feats.specs.Loading.{counted_from}
use Rattle.td_tree.specs.Trees.{AreTreeNodes, BagPairs}
use Rattle.td_tree.specs.TreeNetworks.{Part, own_part, top_part, bottom_part, TreeSlot, at_node, at_interface}
use Rattle.td_tree.specs.declared.Tree.{Tree}
use Rattle.td_tree.specs.declared.TreeNode.{TreeNode}
use Rattle.td_model.proofs.LeastTerms.{least_stands, root_linked, term_root, terms_joined}
use Rattle.tg_grammar.specs.Marks.{marked, node_lists}
use Rattle.lx_lexicon.specs.declared.entry.Entry.{Entry}
use Rattle.lx_anchor.specs.Counts.{IsBagBelow, IsNodeBelow, IsTreeBelow}
use Rattle.lx_anchor.specs.Networks.{Variable, Slot, entry_interface, tree_term, entry_term, anchored_network}
use Rattle.lx_anchor.specs.Sharing.{AreEquations, HasClash, IsEquation, IsShared, counted_pairs}
use Rattle.lx_anchor.proofs.AnchoredNetwork.{JointAt, AddedAt, base, entry-is_joint, joint-value, no-equation, slots-joined, stands}
use Rattle.lx_anchor.proofs.Numbers.{from_store, from_store-entry, from_store-tree, in_store, in_store-entry, in_store-tree, owner}
use Rattle.lx_anchor.proofs.PairLemmas.{IsBagAt, bag-pair, bag_of, counted-in, counted-out, one-bag, pair-bag, pair-in, pair-out}

module _ (t : Tree) (e : Entry) (first anchor : ℕ) (nodes : AreTreeNodes t.nodes) (one : marked ANCHOR (node_lists t.nodes) ≡ anchor ∷ []) (below : IsTreeBelow first t) where
  abbrev N : List (Assertion Variable Slot)
  N = anchored_network nodes.forest t e

  abbrev Joint : TreeSlot → ℕ → net.Term Variable → Type 0
  Joint = JointAt nodes.forest t e anchor one

  abbrev Added : TreeSlot → ℕ → net.Term ℕ → Type 0
  Added = AddedAt nodes.forest t e anchor one

  -- ---- the equations follow from the network

  part-below : (part : Part) (x : TreeNode) → IsNodeBelow first x → IsBagBelow first (bag_of part x)
  part-below own_part x h = h.own
  part-below top_part x h = h.top
  part-below bottom_part x h = h.bot

  -- the bags of the tree are below the first variable of the entry
  bag-below : (s : TreeSlot) (bag : BagPairs) → IsBagAt t s bag → IsBagBelow first bag
  bag-below (at_node n part) bag h =
      subst (λ b. IsBagBelow first b) (sym h.2) (part-below part h.0 (Each-at (IsNodeBelow first) t.nodes h.0 below.nodes (IsAmong-slice_get t.nodes n h.0 h.1)))
  bag-below at_interface bag h = subst (λ b. IsBagBelow first b) (sym h) below.iface

  -- two values of an attribute at one slot are linked
  values-linked : (s : TreeSlot) (a : ℕ) (x y : net.Term Variable) → Joint s a x → Joint s a y → AreLinked N x y
  values-linked s a x y h k =
      let p = joint-value nodes.forest t e anchor one s a x h in
      let q = joint-value nodes.forest t e anchor one s a y k in
      shared p.0 q.0 a x y (next_slot _ _ _ (back_slot _ _ p.1) q.1) p.2 q.2

  -- so are the two sides of an equation
  shared-linked : (s : TreeSlot) (bag extra : BagPairs) (c : code.Assertion) → IsBagAt t s bag → ((a : ℕ) (z : net.Term ℕ) → IsAmong (pairs_of extra) (a, z) → Added s a z) → (h : IsShared bag (counted_pairs first extra) c)
      → AreLinked N (from_store first (term_of h.x)) (from_store first (term_of h.y))
  shared-linked s bag extra c at added h =
      let r = counted-out first extra h.attr h.y h.in_added in
      let left : Joint s h.attr.0 (tree_term (term_of h.x)) = inl (term_of h.x, bag-pair t nodes s bag h.attr.0 (term_of h.x) at (pair-out bag h.attr.0 h.x h.in_bag), refl) in
      let right : Joint s h.attr.0 (entry_term (term_of r.0)) = inr (term_of r.0, added h.attr.0 (term_of r.0) (pair-out extra h.attr.0 r.0 r.1), refl) in
      let made : IsMade first h.x = Each-at (λ (p : Sym × Term). IsMade first p.1) bag (h.attr, h.x) (bag-below s bag at) h.in_bag in
      let x-is : from_store first (term_of h.x) ≡ tree_term (term_of h.x) = from_store-tree first h.x made in
      let y-is : from_store first (term_of h.y) ≡ entry_term (term_of r.0) = ap (λ y. from_store first (term_of y)) r.2 ∙ from_store-entry first r.0 in
      subst (λ z. AreLinked N z (from_store first (term_of h.y))) (sym x-is)
      (subst (λ z. AreLinked N (tree_term (term_of h.x)) z) (sym y-is) (values-linked s h.attr.0 (tree_term (term_of h.x)) (entry_term (term_of r.0)) left right))

  abbrev Home : Assertion ℕ ℕ → Assertion Variable Slot
  Home a = put_assertion (λ n. variable (owner first n)) (λ k. entry_interface) a

  shared-follows : (s : TreeSlot) (bag extra : BagPairs) (c : code.Assertion) → IsBagAt t s bag → ((a : ℕ) (z : net.Term ℕ) → IsAmong (pairs_of extra) (a, z) → Added s a z) → IsShared bag (counted_pairs first extra) c
      → Follows N (Home (assertion_of c))
  shared-follows s bag extra c at added h = subst (λ d. Follows N (Home (assertion_of d))) (sym h.is) (shared-linked s bag extra c at added h)

  equation-follows : (c : code.Assertion) → IsEquation t e first anchor c → Follows N (Home (assertion_of c))
  equation-follows c (inl h) = shared-follows at_interface t.iface e.iface c refl (λ a z i. inl (refl, i)) h
  equation-follows c (inr (x, at, h)) = shared-follows (at_node anchor bottom_part) x.bot e.anchor c (x, at, refl) (λ a z i. inr (refl, i)) h

  module _ (E : List code.Assertion) (only : Each (IsEquation t e first anchor) E) where
    interprets : Interprets (λ n. variable (owner first n)) (λ (k : ℕ). entry_interface) (network_of E) N
    interprets a i =
        let r = IsAmong-map_from assertion_of E a i in
        subst (λ b. Follows N (Home b)) (sym r.2) (equation-follows r.0 (Each-at (IsEquation t e first anchor) E r.0 only r.1))

    pub equations-agree : Agrees N → Agrees (network_of E)
    equations-agree agrees = Agrees-from (λ n. variable (owner first n)) (λ (k : ℕ). entry_interface) (network_of E) N interprets agrees

    pub linked-home : (x y : net.Term ℕ) → AreLinked (network_of E) x y → AreLinked N (from_store first x) (from_store first y)
    linked-home x y h = AreLinked-put (λ n. variable (owner first n)) (λ (k : ℕ). entry_interface) (network_of E) N interprets x y h

  pub clash-refuses : HasClash t e first anchor → Agrees N → ⊥
  clash-refuses h agrees = h.clash (equations-agree h.equations h.only agrees)

  -- ---- what comes from the tree or the entry comes back

  abbrev pub Fits : net.Term Variable → Type 0
  Fits x = from_store first (in_store first x) ≡ x

  pub tree-fits : (z : Term) → IsMade first z → Fits (tree_term (term_of z))
  tree-fits z made = ap (from_store first) (in_store-tree first (term_of z)) ∙ from_store-tree first z made

  pub entry-fits : (y : Term) → Fits (entry_term (term_of y))
  entry-fits y = ap (from_store first) (in_store-entry first y) ∙ from_store-entry first y

  added-code : (s : TreeSlot) (a : ℕ) (z : net.Term ℕ) → Added s a z → (y : Term) × (z ≡ term_of y)
  added-code s a z (inl (at, i)) = let r = pair-in e.iface a z i in (r.0, r.2)
  added-code s a z (inr (at, i)) = let r = pair-in e.anchor a z i in (r.0, r.2)

  pub joint-fits : (s : TreeSlot) (a : ℕ) (x : net.Term Variable) → Joint s a x → Fits x
  joint-fits s a x (inl (z, pair, is)) =
      let b = pair-bag t nodes s a z pair in
      let r = pair-in b.0 a z b.2 in
      let made : IsMade first r.0 = Each-at (λ (p : Sym × Term). IsMade first p.1) b.0 (record { 0 = a }, r.0) (bag-below s b.0 b.1) r.1 in
      subst Fits (sym (is ∙ ap tree_term r.2)) (tree-fits r.0 made)
  joint-fits s a x (inr (z, added, is)) =
      let r = added-code s a z added in
      subst Fits (sym (is ∙ ap entry_term r.1)) (entry-fits r.0)

  -- ---- what is linked in the network is linked in the store

  module _ (E : List code.Assertion) (equations : AreEquations t e first anchor E) (agrees : Agrees (network_of E))
      (listed : (s : TreeSlot) (bag : BagPairs) → IsBagAt t s bag → IsListed bag) (iface_listed : IsListed e.iface) (anchor_listed : IsListed e.anchor) where
    abbrev NE : List (Assertion ℕ ℕ)
    NE = network_of E

    abbrev pub written : net.Term Variable → net.Term ℕ
    written x = term_root NE (in_store first x)

    -- an equation of a pair of the tree and one that is added
    equation-there : (s : TreeSlot) (bag : BagPairs) (a : ℕ) (x : Term) (w : net.Term ℕ) → IsBagAt t s bag → IsAmong bag (record { 0 = a }, x) → Added s a w
        → (y : Term) × (w ≡ term_of y) × AreLinked NE (term_of x) (term_of (counted_from first y))
    equation-there s bag a x w at i (inl (is, j)) =
        let r = pair-in e.iface a w j in
        let bag-is : bag ≡ t.iface = subst (λ q. IsBagAt t q bag) is at in
        let there : IsAmong E (Equate x (counted_from first r.0)) =
        equations.interface (record { 0 = a }) x (counted_from first r.0) (subst (λ b. IsAmong b (record { 0 = a }, x)) bag-is i) (counted-in first e.iface (record { 0 = a }) r.0 r.1)
        in (r.0, r.2, equated _ _ (IsAmong-map assertion_of E (Equate x (counted_from first r.0)) there))
    equation-there s bag a x w at i (inr (is, j)) =
        let r = pair-in e.anchor a w j in
        let node = subst (λ q. IsBagAt t q bag) is at in
        let there : IsAmong E (Equate x (counted_from first r.0)) =
        equations.bottom node.0 node.1 (record { 0 = a }) x (counted_from first r.0) (subst (λ b. IsAmong b (record { 0 = a }, x)) node.2 i) (counted-in first e.anchor (record { 0 = a }) r.0 r.1)
        in (r.0, r.2, equated _ _ (IsAmong-map assertion_of E (Equate x (counted_from first r.0)) there))

    -- the entry adds one value of an attribute to a slot
    one-added : (s : TreeSlot) (a : ℕ) (z w : net.Term ℕ) → Added s a z → Added s a w → z ≡ w
    one-added s a z w (inl (at, i)) (inl (there, j)) =
        let r = pair-in e.iface a z i in
        let q = pair-in e.iface a w j in
        r.2 ∙ ap term_of (IsListed-value e.iface (record { 0 = a }) r.0 q.0 iface_listed r.1 q.1) ∙ sym q.2
    one-added s a z w (inl (at, i)) (inr (there, j)) = let clash : at_interface ≡ at_node anchor bottom_part = sym at ∙ there in absurd cc
    one-added s a z w (inr (at, i)) (inl (there, j)) = let clash : at_interface ≡ at_node anchor bottom_part = sym there ∙ at in absurd cc
    one-added s a z w (inr (at, i)) (inr (there, j)) =
        let r = pair-in e.anchor a z i in
        let q = pair-in e.anchor a w j in
        r.2 ∙ ap term_of (IsListed-value e.anchor (record { 0 = a }) r.0 q.0 anchor_listed r.1 q.1) ∙ sym q.2

    mixed-written : (s : TreeSlot) (a : ℕ) (z w : net.Term ℕ) → (bag : BagPairs) → IsBagAt t s bag → IsAmong (pairs_of bag) (a, z) → Added s a w → written (tree_term z) ≡ written (entry_term w)
    mixed-written s a z w bag at i added =
        let r = pair-in bag a z i in
        let q = equation-there s bag a r.0 w at r.1 added in
        let left : in_store first (tree_term z) ≡ term_of r.0 = in_store-tree first z ∙ r.2 in
        let right : in_store first (entry_term w) ≡ term_of (counted_from first q.0) = ap (λ y. in_store first (entry_term y)) q.1 ∙ in_store-entry first q.0 in
        ap (term_root NE) left ∙ terms_joined NE (term_of r.0) (term_of (counted_from first q.0)) q.2 ∙ ap (term_root NE) (sym right)

    -- the values of an attribute at a slot are written alike
    joint-written : (s : TreeSlot) (a : ℕ) (x y : net.Term Variable) → Joint s a x → Joint s a y → written x ≡ written y
    joint-written s a x y (inl (z, pair, is)) (inl (w, other, also)) =
        let b = pair-bag t nodes s a z pair in
        let d = pair-bag t nodes s a w other in
        let r = pair-in b.0 a z b.2 in
        let q = pair-in b.0 a w (subst (λ k. IsAmong (pairs_of k) (a, w)) (one-bag t s d.0 b.0 d.1 b.1) d.2) in
        let values : z ≡ w = r.2 ∙ ap term_of (IsListed-value b.0 (record { 0 = a }) r.0 q.0 (listed s b.0 b.1) r.1 q.1) ∙ sym q.2 in
        ap written (is ∙ ap tree_term values ∙ sym also)
    joint-written s a x y (inl (z, pair, is)) (inr (w, added, also)) =
        let b = pair-bag t nodes s a z pair in
        ap written is ∙ mixed-written s a z w b.0 b.1 b.2 added ∙ ap written (sym also)
    joint-written s a x y (inr (w, added, also)) (inl (z, pair, is)) =
        let b = pair-bag t nodes s a z pair in
        ap written also ∙ sym (mixed-written s a z w b.0 b.1 b.2 added) ∙ ap written (sym is)
    joint-written s a x y (inr (z, added, is)) (inr (w, other, also)) = ap written (is ∙ ap entry_term (one-added s a z w added other) ∙ sym also)

    pub linked-written : (x y : net.Term Variable) → AreLinked N x y → written x ≡ written y
    linked-written _ _ (equated x y i) = absurd (no-equation nodes.forest t e anchor one x y (stands nodes.forest t e anchor one (equate x y) i))
    linked-written _ _ (shared s u a x y h i j) =
        joint-written (base nodes.forest t e anchor one s) a x y (entry-is_joint nodes.forest t e anchor one s a x i)
        (subst (λ r. Joint r a y) (sym (slots-joined nodes.forest t e anchor one s u h)) (entry-is_joint nodes.forest t e anchor one u a y j))
    linked-written _ _ (same x) = refl
    linked-written _ _ (back x y h) = sym (linked-written x y h)
    linked-written _ _ (next x y z h k) = linked-written x y h ∙ linked-written y z k

    pub name-written : (a : ℕ) → written (name a) ≡ name a
    name-written a = by (term_root NE (name a)) refl
      where
        by : (r : net.Term ℕ) → term_root NE (name a) ≡ r → term_root NE (name a) ≡ name a
        by (name b) h = h ∙ ap name (sym (agrees a b (subst (λ z. AreLinked NE (name a) z) h (root_linked NE (name a)))))
        by (variable v) h = let no = subst (λ z. StandsFor NE (name a) (term_from z)) h (least_stands NE (name a)) in absurd (no.0 a (same (name a)))

    -- so the network agrees
    pub network-agrees : Agrees N
    network-agrees a b h =
        let same-name : name a ≡ name b = sym (name-written a) ∙ linked-written (name a) (name b) h ∙ name-written b in
        cc

    -- ---- and what is written alike is linked

    pub written-linked : (x y : net.Term Variable) → Fits x → Fits y → written x ≡ written y → AreLinked N x y
    written-linked x y fx fy h =
        let in-store : AreLinked NE (in_store first x) (in_store first y) =
        next _ _ _ (root_linked NE (in_store first x)) (subst (λ z. AreLinked NE z (in_store first y)) (sym h) (back _ _ (root_linked NE (in_store first y))))
        in
        subst (λ z. AreLinked N z y) fx (subst (λ z. AreLinked N (from_store first (in_store first x)) z) fy (linked-home E equations.only (in_store first x) (in_store first y) in-store))

    pub written-home : (x : net.Term Variable) → Fits x → AreLinked N x (from_store first (written x))
    written-home x fx = subst (λ z. AreLinked N z (from_store first (written x))) fx (linked-home E equations.only (in_store first x) (written x) (root_linked NE (in_store first x)))

    pub written-name : (x : net.Term Variable) (a : ℕ) → Fits x → (written x ≡ name a) ↔ AreLinked N x (name a)
    written-name x a fx = (
      λ h. written-linked x (name a) fx refl (h ∙ sym (name-written a)),
      λ h. linked-written x (name a) h ∙ name-written a,
    )
