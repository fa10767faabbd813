-- The network of a tree and an entry: its entries, its links, and which values its slots have.
use Rattle.std.specs.Prelude.{◌≡◌, ℕ, List, [], ◌∷◌, ◌++◌, ◌⊎◌, refl}
use Rattle.std.proofs.Common.{inl, inr, ap, subst, sym, ◌∙◌}
use Rattle.gr_base.specs.Lists.{IsAmong, gathered}
use Rattle.gr_base.specs.Forests.{Forest}
use Rattle.gr_base.proofs.ListLemmas.{IsAmong-append, IsAmong-append_left, IsAmong-append_right, IsAmong-map, IsAmong-map_from}
use Rattle.gr_terms.specs.BagViews.{pairs_of}
use Rattle.gr_terms.specs.Canonical.{Node, Decorated}
use Rattle.gr_terms.specs.Constants.{ANCHOR}
use Rattle.gr_terms.specs.Networks.{Term, Assertion, entry, equate, link, variable, AreLinkedSlots, HasValue, linked, same_slot, back_slot, next_slot, put_assertion, put_network}
use Rattle.td_tree.specs.Trees.{BagPairs}
use Rattle.td_tree.specs.TreeNetworks.{TreeSlot, at_node, at_interface, bottom_part, entries_at, tree_network}
use Rattle.td_tree.specs.TreeViews.{Pairs, decorated_of}
use Rattle.td_tree.specs.declared.Tree.{Tree}
use Rattle.td_tree.proofs.TreeNetworkLemmas.{IsPairAt, TreeEntry, in_node, in_interface, entry_pair, pair_entry, same_slots, tree_entry}
use Rattle.tg_grammar.specs.Marks.{marked, node_lists}
use Rattle.lx_lexicon.specs.declared.entry.Entry.{Entry}
use Rattle.lx_anchor.specs.Carrying.{slot_in_tree}
use Rattle.lx_anchor.specs.Networks.{Variable, of_tree, Slot, in_tree, entry_interface, entry_anchor, tree_term, entry_term, entry_pairs, anchor_link, anchored_network}

-- ---- entries of a list of pairs

entries-from : {V S : Type 0} (s : S) (ps : List (ℕ × Term V)) (a : Assertion V S) → IsAmong (entries_at s ps) a → (p : ℕ × Term V) × IsAmong ps p × (a ≡ entry s p.0 p.1)
entries-from s [] a i = absurd i
entries-from s (p ∷ ps) a (inl e) = (p, inl refl, e)
entries-from s (p ∷ ps) a (inr i) = let r = entries-from s ps a i in (r.0, inr r.1, r.2)

entries-to : {V S : Type 0} (s : S) (ps : List (ℕ × Term V)) (p : ℕ × Term V) → IsAmong ps p → IsAmong (entries_at s ps) (entry s p.0 p.1)
entries-to s [] p i = absurd i
entries-to {V} s (q ∷ ps) p (inl e) = inl (ap (λ (r : ℕ × Term V). entry s r.0 r.1) e)
entries-to s (q ∷ ps) p (inr i) = inr (entries-to s ps p i)

module _ (f : Forest (Node BagPairs)) (t : Tree) (e : Entry) (anchor : ℕ) (one : marked ANCHOR (node_lists t.nodes) ≡ anchor ∷ []) where
  abbrev D : Decorated Pairs (Term ℕ)
  D = decorated_of f t

  abbrev N : List (Assertion Variable Slot)
  N = anchored_network f t e

  abbrev of_the_tree : List (Assertion Variable Slot)
  of_the_tree = put_network (λ v. variable (of_tree v)) in_tree (tree_network D)

  abbrev of_the_interface : List (Assertion Variable Slot)
  of_the_interface = entries_at entry_interface (entry_pairs e.iface)

  abbrev of_the_anchor : List (Assertion Variable Slot)
  of_the_anchor = entries_at entry_anchor (entry_pairs e.anchor)

  abbrev the_links : List (Assertion Variable Slot)
  the_links = link (in_tree at_interface) entry_interface ∷ gathered anchor_link (marked ANCHOR (node_lists t.nodes))

  -- where an assertion of the network stands
  pub data Stands (a : Assertion Variable Slot) : Type 0 where
    in_the_tree : (b : Assertion ℕ TreeSlot) → IsAmong (tree_network D) b → a ≡ put_assertion (λ v. variable (of_tree v)) in_tree b → Stands a
    in_the_interface : (p : ℕ × Term ℕ) → IsAmong (pairs_of e.iface) p → a ≡ entry entry_interface p.0 (entry_term p.1) → Stands a
    in_the_anchor : (p : ℕ × Term ℕ) → IsAmong (pairs_of e.anchor) p → a ≡ entry entry_anchor p.0 (entry_term p.1) → Stands a
    links_interfaces : a ≡ link (in_tree at_interface) entry_interface → Stands a
    links_anchor : a ≡ link (in_tree (at_node anchor bottom_part)) entry_anchor → Stands a

  entry_pairs-from : (bag : BagPairs) (s : Slot) (a : Assertion Variable Slot) → IsAmong (entries_at s (entry_pairs bag)) a → (p : ℕ × Term ℕ) × IsAmong (pairs_of bag) p × (a ≡ entry s p.0 (entry_term p.1))
  entry_pairs-from bag s a i =
      let r = entries-from s (entry_pairs bag) a i in
      let q = IsAmong-map_from (λ (p : ℕ × Term ℕ). (p.0, entry_term p.1)) (pairs_of bag) r.0 r.1 in
      (q.0, q.1, r.2 ∙ ap (λ (p : ℕ × Term Variable). entry s p.0 p.1) q.2)

  link-stands : (a : Assertion Variable Slot) → IsAmong (link (in_tree (at_node anchor bottom_part)) entry_anchor ∷ []) a → Stands a
  link-stands a (inl h) = links_anchor h
  link-stands a (inr i) = absurd i

  anchor_links : gathered anchor_link (marked ANCHOR (node_lists t.nodes)) ≡ link (in_tree (at_node anchor bottom_part)) entry_anchor ∷ []
  anchor_links = ap (gathered anchor_link) one

  links-stand : (a : Assertion Variable Slot) → IsAmong the_links a → Stands a
  links-stand a (inl h) = links_interfaces h
  links-stand a (inr i) = link-stands a (subst (λ ls. IsAmong ls a) anchor_links i)

  pub stands : (a : Assertion Variable Slot) → IsAmong N a → Stands a
  stands a i = elim (IsAmong-append (of_the_tree ++ of_the_interface ++ of_the_anchor) the_links a i) [
    | inl j ↦ elim (IsAmong-append (of_the_tree ++ of_the_interface) of_the_anchor a j) [
      | inl k ↦ elim (IsAmong-append of_the_tree of_the_interface a k) [
        | inl l ↦ let r = IsAmong-map_from (put_assertion (λ v. variable (of_tree v)) in_tree) (tree_network D) a l in in_the_tree r.0 r.1 r.2
        | inr l ↦ let r = entry_pairs-from e.iface entry_interface a l in in_the_interface r.0 r.1 r.2
      ]
      | inr k ↦ let r = entry_pairs-from e.anchor entry_anchor a k in in_the_anchor r.0 r.1 r.2
    ]
    | inr j ↦ links-stand a j
  ]

  -- and each of these is there
  pub tree-there : (b : Assertion ℕ TreeSlot) → IsAmong (tree_network D) b → IsAmong N (put_assertion (λ v. variable (of_tree v)) in_tree b)
  tree-there b i =
      let a = put_assertion (λ v. variable (of_tree v)) in_tree b in
      IsAmong-append_left (of_the_tree ++ of_the_interface ++ of_the_anchor) the_links a
      (IsAmong-append_left (of_the_tree ++ of_the_interface) of_the_anchor a
      (IsAmong-append_left of_the_tree of_the_interface a (IsAmong-map (put_assertion (λ v. variable (of_tree v)) in_tree) (tree_network D) b i)))

  entry_pairs-to : (bag : BagPairs) (s : Slot) (p : ℕ × Term ℕ) → IsAmong (pairs_of bag) p → IsAmong (entries_at s (entry_pairs bag)) (entry s p.0 (entry_term p.1))
  entry_pairs-to bag s p i = entries-to s (entry_pairs bag) (p.0, entry_term p.1) (IsAmong-map (λ (q : ℕ × Term ℕ). (q.0, entry_term q.1)) (pairs_of bag) p i)

  pub interface-there : (p : ℕ × Term ℕ) → IsAmong (pairs_of e.iface) p → IsAmong N (entry entry_interface p.0 (entry_term p.1))
  interface-there p i =
      let a = entry entry_interface p.0 (entry_term p.1) in
      IsAmong-append_left (of_the_tree ++ of_the_interface ++ of_the_anchor) the_links a
      (IsAmong-append_left (of_the_tree ++ of_the_interface) of_the_anchor a (IsAmong-append_right of_the_tree of_the_interface a (entry_pairs-to e.iface entry_interface p i)))

  pub anchor-there : (p : ℕ × Term ℕ) → IsAmong (pairs_of e.anchor) p → IsAmong N (entry entry_anchor p.0 (entry_term p.1))
  anchor-there p i =
      let a = entry entry_anchor p.0 (entry_term p.1) in
      IsAmong-append_left (of_the_tree ++ of_the_interface ++ of_the_anchor) the_links a
      (IsAmong-append_right (of_the_tree ++ of_the_interface) of_the_anchor a (entry_pairs-to e.anchor entry_anchor p i))

  pub interfaces-linked : AreLinkedSlots N entry_interface (in_tree at_interface)
  interfaces-linked = back_slot _ _ (linked _ _ (IsAmong-append_right (of_the_tree ++ of_the_interface ++ of_the_anchor) the_links _ (inl refl)))

  pub anchor-linked : AreLinkedSlots N entry_anchor (in_tree (at_node anchor bottom_part))
  anchor-linked =
      back_slot _ _ (linked _ _ (IsAmong-append_right (of_the_tree ++ of_the_interface ++ of_the_anchor) the_links _
      (inr (subst (λ ls. IsAmong ls (link (in_tree (at_node anchor bottom_part)) entry_anchor)) (sym anchor_links) (inl refl)))))

  -- ---- slots

  -- the tree's slot that a slot is linked with
  abbrev pub base : Slot → TreeSlot
  base s = slot_in_tree anchor s

  pub base-linked : (s : Slot) → AreLinkedSlots N s (in_tree (base s))
  base-linked (in_tree s) = same_slot (in_tree s)
  base-linked entry_interface = interfaces-linked
  base-linked entry_anchor = anchor-linked

  link-base : (s u : Slot) → Stands (link s u) → base s ≡ base u
  link-base s u (in_the_tree (entry r a x) i h) = absurd cc
  link-base s u (in_the_tree (equate x y) i h) = absurd cc
  link-base s u (in_the_tree (link r q) i h) =
      let left : s ≡ in_tree r = cc in
      let right : u ≡ in_tree q = cc in
      ap base left ∙ same_slots D r q (linked r q i) ∙ ap base (sym right)
  link-base s u (in_the_interface p i h) = absurd cc
  link-base s u (in_the_anchor p i h) = absurd cc
  link-base s u (links_interfaces h) =
      let left : s ≡ in_tree at_interface = cc in
      let right : u ≡ entry_interface = cc in
      ap base left ∙ ap base (sym right)
  link-base s u (links_anchor h) =
      let left : s ≡ in_tree (at_node anchor bottom_part) = cc in
      let right : u ≡ entry_anchor = cc in
      ap base left ∙ ap base (sym right)

  pub slots-joined : (s u : Slot) → AreLinkedSlots N s u → base s ≡ base u
  slots-joined _ _ (linked s u i) = link-base s u (stands (link s u) i)
  slots-joined _ _ (same_slot s) = refl
  slots-joined _ _ (back_slot s u h) = sym (slots-joined s u h)
  slots-joined _ _ (next_slot s u r h k) = slots-joined s u h ∙ slots-joined u r k

  -- ---- values

  -- the entry adds the pair to a slot of the tree
  abbrev pub AddedAt : TreeSlot → ℕ → Term ℕ → Type 0
  AddedAt s a z = ((s ≡ at_interface) × IsAmong (pairs_of e.iface) (a, z)) ⊎ ((s ≡ at_node anchor bottom_part) × IsAmong (pairs_of e.anchor) (a, z))

  -- the pair stands at the slot of the tree, or is added
  abbrev pub JointAt : TreeSlot → ℕ → Term Variable → Type 0
  JointAt s a x = ((z : Term ℕ) × IsPairAt D s (a, z) × (x ≡ tree_term z)) ⊎ ((z : Term ℕ) × AddedAt s a z × (x ≡ entry_term z))

  entry-joint : (s : Slot) (a : ℕ) (x : Term Variable) → Stands (entry s a x) → JointAt (base s) a x
  entry-joint s a x (in_the_tree (entry r b z) i h) =
      let slot : s ≡ in_tree r = cc in
      let attr : a ≡ b = cc in
      let value : x ≡ tree_term z = cc in
      inl (z, subst (λ q. IsPairAt D q (a, z)) (ap base (sym slot)) (subst (λ c. IsPairAt D r (c, z)) (sym attr) (entry_pair D r b z i)), value)
  entry-joint s a x (in_the_tree (equate y z) i h) = absurd cc
  entry-joint s a x (in_the_tree (link r q) i h) = absurd cc
  entry-joint s a x (in_the_interface p i h) =
      let slot : s ≡ entry_interface = cc in
      let attr : a ≡ p.0 = cc in
      let value : x ≡ entry_term p.1 = cc in
      inr (p.1, inl (ap base slot, subst (λ c. IsAmong (pairs_of e.iface) (c, p.1)) (sym attr) i), value)
  entry-joint s a x (in_the_anchor p i h) =
      let slot : s ≡ entry_anchor = cc in
      let attr : a ≡ p.0 = cc in
      let value : x ≡ entry_term p.1 = cc in
      inr (p.1, inr (ap base slot, subst (λ c. IsAmong (pairs_of e.anchor) (c, p.1)) (sym attr) i), value)
  entry-joint s a x (links_interfaces h) = absurd cc
  entry-joint s a x (links_anchor h) = absurd cc

  pub entry-is_joint : (s : Slot) (a : ℕ) (x : Term Variable) → IsAmong N (entry s a x) → JointAt (base s) a x
  entry-is_joint s a x i = entry-joint s a x (stands (entry s a x) i)

  no-tree_equation : (x y : Term ℕ) → TreeEntry D (equate x y) → ⊥
  no-tree_equation x y (in_node n lists at e) = let h : equate x y ≡ entry (at_node n e.part) e.pair.0 e.pair.1 = e.is in cc
  no-tree_equation x y (in_interface p i h) = cc

  pub no-equation : (x y : Term Variable) → Stands (equate x y) → ⊥
  no-equation x y (in_the_tree (entry r a z) i h) = cc
  no-equation x y (in_the_tree (equate u v) i h) = no-tree_equation u v (tree_entry D (equate u v) i)
  no-equation x y (in_the_tree (link r q) i h) = cc
  no-equation x y (in_the_interface p i h) = cc
  no-equation x y (in_the_anchor p i h) = cc
  no-equation x y (links_interfaces h) = cc
  no-equation x y (links_anchor h) = cc

  -- the values of a slot are just the joint pairs of its tree slot
  pub value-joint : (s : Slot) (a : ℕ) (x : Term Variable) → HasValue N s a x → JointAt (base s) a x
  value-joint s a x h = subst (λ q. JointAt q a x) (sym (slots-joined s h.0 h.1)) (entry-is_joint h.0 a x h.2)

  pub joint-value : (s : TreeSlot) (a : ℕ) (x : Term Variable) → JointAt s a x → HasValue N (in_tree s) a x
  joint-value s a x (inl h) = subst (λ y. HasValue N (in_tree s) a y) (sym h.2) (in_tree s, same_slot (in_tree s), tree-there (entry s a h.0) (pair_entry D s a h.0 h.1))
  joint-value s a x (inr (z, inl (at, i), h)) =
      subst (λ y. HasValue N (in_tree s) a y) (sym h)
      (entry_interface, back_slot _ _ (subst (λ r. AreLinkedSlots N entry_interface (in_tree r)) (sym at) interfaces-linked), interface-there (a, z) i)
  joint-value s a x (inr (z, inr (at, i), h)) =
      subst (λ y. HasValue N (in_tree s) a y) (sym h)
      (entry_anchor, back_slot _ _ (subst (λ r. AreLinkedSlots N entry_anchor (in_tree r)) (sym at) anchor-linked), anchor-there (a, z) i)
