-- The network of a tree's lists: which entries it has, which values its slots have, and that it links nothing where each list has
-- one value of an attribute.
use Rattle.std.specs.Prelude.{◌≡◌, ℕ, zero, suc, ◌+◌, List, [], ◌∷◌, ◌++◌, slice_get, Some, refl}
use Rattle.std.proofs.Common.{inl, inr, ap, ap₂, sym, ◌∙◌, subst, arith, length}
use Rattle.std.proofs.lemmas.Option.{none-some, same_Some}
use Rattle.gr_base.specs.Lists.{IsAmong, gathered}
use Rattle.gr_base.specs.Forests.{Forest, empty, tree, labels, numbered, size}
use Rattle.gr_base.proofs.ForestLemmas.{length-labels}
use Rattle.gr_base.proofs.ListLemmas.{IsAmong-append, IsAmong-append_left, IsAmong-append_right, IsAmong-gathered, IsAmong-gathered_from}
use Rattle.gr_terms.specs.Canonical.{Node, Decorated}
use Rattle.gr_terms.specs.Networks.{Term, Assertion, entry, equate, link, AreLinked, AreLinkedSlots, HasValue, equated, shared, same, back, next, linked, same_slot, back_slot, next_slot}
pub use Rattle.td_tree.specs.FlatTrees.{count_from}
use Rattle.td_tree.specs.TreeNetworks.{Part, own_part, top_part, bottom_part, TreeSlot, at_node, at_interface, entries_at, node_network, tree_network}

-- ---- lists gathered, and lists with numbers beside their elements

count_from-append : {A : Type 0} (n k : ℕ) (xs ys : List A) → k ≡ n + length xs → count_from n (xs ++ ys) ≡ count_from n xs ++ count_from k ys
count_from-append n k [] ys e = ap (λ m. count_from m ys) (omega arith)
count_from-append n k (x ∷ xs) ys e = ap (λ zs. (n, x) ∷ zs) (count_from-append (suc n) k xs ys (omega arith))

-- the labels of a forest with numbers are its labels with numbers
pub labels-numbered : {A : Type 0} (n : ℕ) (f : Forest A) → labels (numbered n f) ≡ count_from n (labels f)
labels-numbered n empty = refl
labels-numbered n (tree a kids more) =
    let count : length (labels kids) ≡ size kids = length-labels kids in
    ap (λ zs. (n, a) ∷ zs)
    (ap₂ (λ xs ys. xs ++ ys) (labels-numbered (suc n) kids) (labels-numbered (suc n + size kids) more)
    ∙ sym (count_from-append (suc n) (suc n + size kids) (labels kids) (labels more) (omega arith)))

count_from-IsAmong : {A : Type 0} (n k : ℕ) (xs : List A) (x : A) → IsAmong (count_from n xs) (k, x) → (i : ℕ) × (k ≡ n + i) × (slice_get xs i ≡ Some x)
count_from-IsAmong n k [] x i = absurd i
count_from-IsAmong {A} n k (y ∷ ys) x (inl e) = let same_number : k ≡ n = ap (λ (p : ℕ × A). p.0) e in (zero, omega arith, ap (λ (p : ℕ × A). Some p.1) (sym e))
count_from-IsAmong n k (y ∷ ys) x (inr i) = let r = count_from-IsAmong (suc n) k ys x i in let h : k ≡ suc n + r.0 = r.1 in (suc r.0, omega arith, r.2)

pub IsAmong-count_from : {A : Type 0} (n i : ℕ) (xs : List A) (x : A) → slice_get xs i ≡ Some x → IsAmong (count_from n xs) (n + i, x)
IsAmong-count_from n i [] x at = absurd (none-some x at)
IsAmong-count_from n zero (y ∷ ys) x at = inl (let e : n + zero ≡ n = omega arith in let f : x ≡ y = sym (same_Some y x at) in λ j. (e j, f j))
IsAmong-count_from n (suc i) (y ∷ ys) x at = let e : n + suc i ≡ suc n + i = omega arith in inr (subst (λ m. IsAmong (count_from (suc n) ys) (m, x)) (sym e) (IsAmong-count_from (suc n) i ys x at))

-- ---- the entries of a tree

abbrev pub list_of : {X : Type 0} → Part → Node X → X
list_of own_part n = n.own
list_of top_part n = n.top
list_of bottom_part n = n.bottom

module _ {V : Type 0} where
  entries_at-IsAmong : {S : Type 0} (s : S) (ps : List (ℕ × Term V)) (e : Assertion V S) → IsAmong (entries_at s ps) e → (p : ℕ × Term V) × IsAmong ps p × (e ≡ entry s p.0 p.1)
  entries_at-IsAmong s [] e i = absurd i
  entries_at-IsAmong s (p ∷ ps) e (inl h) = (p, inl refl, h)
  entries_at-IsAmong s (p ∷ ps) e (inr i) = let r = entries_at-IsAmong s ps e i in (r.0, inr r.1, r.2)

  IsAmong-entries_at : {S : Type 0} (s : S) (ps : List (ℕ × Term V)) (p : ℕ × Term V) → IsAmong ps p → IsAmong (entries_at s ps) (entry s p.0 p.1)
  IsAmong-entries_at s [] p i = absurd i
  IsAmong-entries_at s (q ∷ ps) p (inl e) = inl (ap (λ (r : ℕ × Term V). entry s r.0 r.1) e)
  IsAmong-entries_at s (q ∷ ps) p (inr i) = inr (IsAmong-entries_at s ps p i)

  -- an entry of a node
  pub record NodeEntry (n : ℕ) (lists : Node (List (ℕ × Term V))) (e : Assertion V TreeSlot) : Type 0 where
    pub part : Part
    pub pair : ℕ × Term V
    pub there : IsAmong (list_of part lists) pair
    pub is : e ≡ entry (at_node n part) pair.0 pair.1

  node_network-IsAmong : (n : ℕ) (lists : Node (List (ℕ × Term V))) (e : Assertion V TreeSlot) → IsAmong (node_network (n, lists)) e → NodeEntry n lists e
  node_network-IsAmong n lists e i =
      elim (IsAmong-append (entries_at (at_node n own_part) lists.own ++ entries_at (at_node n top_part) lists.top) (entries_at (at_node n bottom_part) lists.bottom) e i) [
        | inl j ↦ elim (IsAmong-append (entries_at (at_node n own_part) lists.own) (entries_at (at_node n top_part) lists.top) e j) [
          | inl k ↦ let r = entries_at-IsAmong (at_node n own_part) lists.own e k in record { part = own_part; pair = r.0; there = r.1; is = r.2 }
          | inr k ↦ let r = entries_at-IsAmong (at_node n top_part) lists.top e k in record { part = top_part; pair = r.0; there = r.1; is = r.2 }
        ]
        | inr j ↦ let r = entries_at-IsAmong (at_node n bottom_part) lists.bottom e j in record { part = bottom_part; pair = r.0; there = r.1; is = r.2 }
      ]

  IsAmong-node_network : (n : ℕ) (lists : Node (List (ℕ × Term V))) (part : Part) (p : ℕ × Term V) → IsAmong (list_of part lists) p → IsAmong (node_network (n, lists)) (entry (at_node n part) p.0 p.1)
  IsAmong-node_network n lists own_part p i =
      IsAmong-append_left (entries_at (at_node n own_part) lists.own ++ entries_at (at_node n top_part) lists.top) (entries_at (at_node n bottom_part) lists.bottom) _
      (IsAmong-append_left (entries_at (at_node n own_part) lists.own) (entries_at (at_node n top_part) lists.top) _ (IsAmong-entries_at (at_node n own_part) lists.own p i))
  IsAmong-node_network n lists top_part p i =
      IsAmong-append_left (entries_at (at_node n own_part) lists.own ++ entries_at (at_node n top_part) lists.top) (entries_at (at_node n bottom_part) lists.bottom) _
      (IsAmong-append_right (entries_at (at_node n own_part) lists.own) (entries_at (at_node n top_part) lists.top) _ (IsAmong-entries_at (at_node n top_part) lists.top p i))
  IsAmong-node_network n lists bottom_part p i =
      IsAmong-append_right (entries_at (at_node n own_part) lists.own ++ entries_at (at_node n top_part) lists.top) (entries_at (at_node n bottom_part) lists.bottom) _ (IsAmong-entries_at (at_node n bottom_part) lists.bottom p i)

  module _ {Y : Type 0} (t : Decorated (List (ℕ × Term V)) Y) where
    -- an assertion of the tree's network is an entry of a node, or one of the interface
    pub data TreeEntry (e : Assertion V TreeSlot) : Type 0 where
      in_node : (n : ℕ) (lists : Node (List (ℕ × Term V))) → slice_get (labels t.nodes) n ≡ Some lists → NodeEntry n lists e → TreeEntry e
      in_interface : (p : ℕ × Term V) → IsAmong t.interface p → e ≡ entry at_interface p.0 p.1 → TreeEntry e

    pub tree_entry : (e : Assertion V TreeSlot) → IsAmong (tree_network t) e → TreeEntry e
    tree_entry e i = elim (IsAmong-append (gathered node_network (labels (numbered 0 t.nodes))) (entries_at at_interface t.interface) e i) [
      | inl j ↦
          let r = IsAmong-gathered_from node_network (labels (numbered 0 t.nodes)) e j in
          let at = count_from-IsAmong 0 r.0.0 (labels t.nodes) r.0.1 (subst (λ ls. IsAmong ls r.0) (labels-numbered 0 t.nodes) r.1) in
          in_node r.0.0 r.0.1 (ap (slice_get (labels t.nodes)) (omega (arith, at.1)) ∙ at.2) (node_network-IsAmong r.0.0 r.0.1 e r.2)
      | inr j ↦ let r = entries_at-IsAmong at_interface t.interface e j in in_interface r.0 r.1 r.2
    ]

    -- a node's pair is an entry at its slot, and the interface's at its own
    pub node_entry : (n : ℕ) (lists : Node (List (ℕ × Term V))) (part : Part) (p : ℕ × Term V) → slice_get (labels t.nodes) n ≡ Some lists → IsAmong (list_of part lists) p →
        IsAmong (tree_network t) (entry (at_node n part) p.0 p.1)
    node_entry n lists part p at i =
        IsAmong-append_left (gathered node_network (labels (numbered 0 t.nodes))) (entries_at at_interface t.interface) _
        (IsAmong-gathered node_network (labels (numbered 0 t.nodes)) (n, lists) _
        (subst (λ ls. IsAmong ls (n, lists)) (sym (labels-numbered 0 t.nodes)) (subst (λ m. IsAmong (count_from 0 (labels t.nodes)) (m, lists)) (omega arith) (IsAmong-count_from 0 n (labels t.nodes) lists at)))
        (IsAmong-node_network n lists part p i))

    pub interface_entry : (p : ℕ × Term V) → IsAmong t.interface p → IsAmong (tree_network t) (entry at_interface p.0 p.1)
    interface_entry p i = IsAmong-append_right (gathered node_network (labels (numbered 0 t.nodes))) (entries_at at_interface t.interface) _ (IsAmong-entries_at at_interface t.interface p i)

    -- the network has entries alone, so it links no two slots
    no_link : (s u : TreeSlot) → IsAmong (tree_network t) (link s u) → ⊥
    no_link s u i = by (tree_entry (link s u) i)
      where
        by : TreeEntry (link s u) → ⊥
        by (in_node n lists at e) = let h : link s u ≡ entry (at_node n e.part) e.pair.0 e.pair.1 = e.is in absurd cc
        by (in_interface p j h) = absurd cc

    no_equation : (x y : Term V) → IsAmong (tree_network t) (equate x y) → ⊥
    no_equation x y i = by (tree_entry (equate x y) i)
      where
        by : TreeEntry (equate x y) → ⊥
        by (in_node n lists at e) = let h : equate x y ≡ entry (at_node n e.part) e.pair.0 e.pair.1 = e.is in absurd cc
        by (in_interface p j h) = absurd cc

    pub same_slots : (s u : TreeSlot) → AreLinkedSlots (tree_network t) s u → s ≡ u
    same_slots s u (linked _ _ i) = absurd (no_link s u i)
    same_slots s _ (same_slot _) = refl
    same_slots s u (back_slot _ _ h) = sym (same_slots u s h)
    same_slots s u (next_slot _ v _ h k) = same_slots s v h ∙ same_slots v u k

    -- the pairs of a slot
    abbrev pub IsPairAt : TreeSlot → ℕ × Term V → Type 0
    IsPairAt (at_node n part) p = (lists : Node (List (ℕ × Term V))) × (slice_get (labels t.nodes) n ≡ Some lists) × IsAmong (list_of part lists) p
    IsPairAt at_interface p = IsAmong t.interface p

    pub entry_pair : (s : TreeSlot) (a : ℕ) (x : Term V) → IsAmong (tree_network t) (entry s a x) → IsPairAt s (a, x)
    entry_pair s a x i = by (tree_entry (entry s a x) i)
      where
        by : TreeEntry (entry s a x) → IsPairAt s (a, x)
        by (in_node n lists at e) =
            let h : entry s a x ≡ entry (at_node n e.part) e.pair.0 e.pair.1 = e.is in
            let slot : s ≡ at_node n e.part = cc in
            let attribute : a ≡ e.pair.0 = cc in
            let value : x ≡ e.pair.1 = cc in
            subst (λ z. IsPairAt z (a, x)) (sym slot) (lists, at, subst (λ p. IsAmong (list_of e.part lists) p) (λ k. (sym attribute k, sym value k)) e.there)
        by (in_interface p j h) =
            let slot : s ≡ at_interface = cc in
            let attribute : a ≡ p.0 = cc in
            let value : x ≡ p.1 = cc in
            subst (λ z. IsPairAt z (a, x)) (sym slot) (subst (λ q. IsAmong t.interface q) (λ k. (sym attribute k, sym value k)) j)

    pub pair_entry : (s : TreeSlot) (a : ℕ) (x : Term V) → IsPairAt s (a, x) → IsAmong (tree_network t) (entry s a x)
    pair_entry (at_node n part) a x h = node_entry n h.0 part (a, x) h.1 h.2
    pair_entry at_interface a x h = interface_entry (a, x) h

    -- the values of a slot are those of its pairs
    pub value_pair : (s : TreeSlot) (a : ℕ) (x : Term V) → HasValue (tree_network t) s a x → IsPairAt s (a, x)
    value_pair s a x h = subst (λ z. IsPairAt z (a, x)) (sym (same_slots s h.0 h.1)) (entry_pair h.0 a x h.2)

    pub pair_value : (s : TreeSlot) (a : ℕ) (x : Term V) → IsPairAt s (a, x) → HasValue (tree_network t) s a x
    pair_value s a x h = (s, same_slot s, pair_entry s a x h)

    -- where each list has one value of an attribute, the network links no two terms
    module _ (once : (s : TreeSlot) (a : ℕ) (x y : Term V) → IsPairAt s (a, x) → IsPairAt s (a, y) → x ≡ y) where
      pub same_terms : (x y : Term V) → AreLinked (tree_network t) x y → x ≡ y
      same_terms x y (equated _ _ i) = absurd (no_equation x y i)
      same_terms x y (shared s u a _ _ h i j) = once s a x y (entry_pair s a x i) (subst (λ z. IsPairAt z (a, y)) (sym (same_slots s u h)) (entry_pair u a y j))
      same_terms x _ (same _) = refl
      same_terms x y (back _ _ h) = sym (same_terms y x h)
      same_terms x y (next _ z _ h k) = same_terms x z h ∙ same_terms z y k
