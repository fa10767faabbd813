-- A lexical tree's network agrees with more assertions just where that of its tree and its entry does.
use Rattle.std.specs.Prelude.{◌≡◌, ℕ, zero, suc, ◌+◌, List, [], ◌∷◌, ◌++◌, ◌⊎◌, map, Some, slice_get, ◌↔◌, refl}
use Rattle.std.specs.List.{AllZip}
use Rattle.std.proofs.Common.{inl, inr, ap, subst, sym, ◌∙◌, arith}
use Rattle.std.proofs.lemmas.Option.{none-some, same_Some}
use Rattle.gr_base.specs.Lists.{IsAmong, Each, gathered}
use Rattle.gr_base.specs.Forests.{labels, map_forest, numbered}
use Rattle.gr_base.proofs.ListLemmas.{Each-at, IsAmong-append, IsAmong-append_left, IsAmong-append_right, IsAmong-map, IsAmong-map_from, IsAmong-slice_get, IsAmong-gathered, slice_get-mapped}
use Rattle.gr_base.proofs.ForestLemmas.{labels-map}
use Rattle.gr_base.proofs.Zips.{labels-alike}
use Rattle.gr_terms.specs.BagViews.{pairs_of}
use Rattle.gr_terms.specs.Canonical.{Node, Decorated, IsMet, node_slots, tree_slots}
use Rattle.gr_terms.specs.Constants.{ANCHOR}
use Rattle.gr_terms.specs.Interpretations.{Interprets}
use Rattle.gr_terms.specs.Networks as net
use Rattle.gr_terms.specs.Networks.{Assertion, name, variable, entry, equate, link, Agrees, AreLinked, AreLinkedSlots, HasValue, Follows, equated, same, back, next, linked, same_slot, back_slot, next_slot, put_assertion, put_term}
use Rattle.gr_terms.proofs.NetworkLemmas.{Agrees-from, AreLinked-part, AreLinked-put, AreLinkedSlots-part, AreLinkedSlots-put, Follows-among, Follows-part, Follows-put, Interprets-put, put_assertion-put}
use Rattle.td_tree.specs.Trees.{AreTreeNodes, BagPairs}
use Rattle.td_tree.specs.TreeNetworks.{Part, own_part, top_part, bottom_part, TreeSlot, at_node, at_interface, slots_at, tree_network}
use Rattle.td_tree.specs.TreeViews.{Pairs, decorated_of, lists_of}
use Rattle.td_tree.specs.declared.Tree.{Tree}
use Rattle.td_tree.proofs.TreeNetworkLemmas.{IsPairAt, TreeEntry, count_from, in_node, in_interface, entry_pair, labels-numbered, list_of, pair_entry, same_slots, tree_entry}
use Rattle.tg_grammar.specs.Marks.{is_marked, marked, node_lists}
use Rattle.tg_grammar.proofs.SightLemmas.{labels-nodes}
use Rattle.lx_lexicon.specs.declared.entry.Entry.{Entry}
use Rattle.lx_anchor.specs.Carrying.{IsKnown, IsKnownBeside, IsOfKnown, IsOfKnownBeside, beside, carried, carried_beside, slot_beside, slot_in_tree, term_beside}
use Rattle.lx_anchor.specs.Networks.{Variable, Slot, in_tree, slots_in, anchored_network, anchored_tree}
use Rattle.lx_anchor.specs.TreesOver.{IsTreeOver, ListsNode, ListsSlot}
use Rattle.lx_anchor.proofs.AnchoredNetwork.{JointAt, base-linked, entry-is_joint, joint-value, no-equation, slots-joined, stands}
use Rattle.lx_anchor.proofs.Marking.{number-there}

-- ---- lists and forests

map-place : {A B : Type 0} (h : A → B) (xs : List A) (i : ℕ) (y : B) → slice_get (map h xs) i ≡ Some y → (x : A) × (slice_get xs i ≡ Some x) × (y ≡ h x)
map-place h [] i y at = absurd (none-some y at)
map-place h (x ∷ xs) zero y at = (x, refl, sym (same_Some (h x) y at))
map-place h (x ∷ xs) (suc i) y at = map-place h xs i y at

zip-place : {A B : Type 0} (R : A → B → Type 0) (xs : List A) (ys : List B) (i : ℕ) (x : A) → AllZip R xs ys → slice_get xs i ≡ Some x → (y : B) × (slice_get ys i ≡ Some y) × R x y
zip-place R [] ys i x h at = absurd (none-some x at)
zip-place R (z ∷ xs) [] i x h at = absurd h
zip-place R (z ∷ xs) (y ∷ ys) zero x h at = (y, refl, subst (λ w. R w y) (same_Some z x at) h.0)
zip-place R (z ∷ xs) (y ∷ ys) (suc i) x h at = zip-place R xs ys i x h.1 at

place-zip : {A B : Type 0} (R : A → B → Type 0) (xs : List A) (ys : List B) (i : ℕ) (y : B) → AllZip R xs ys → slice_get ys i ≡ Some y → (x : A) × (slice_get xs i ≡ Some x) × R x y
place-zip R xs [] i y h at = absurd (none-some y at)
place-zip R [] (z ∷ ys) i y h at = absurd h
place-zip R (x ∷ xs) (z ∷ ys) zero y h at = (x, refl, subst (λ w. R x w) (same_Some z y at) h.0)
place-zip R (x ∷ xs) (z ∷ ys) (suc i) y h at = place-zip R xs ys i y h.1 at

-- the slots of the nodes, by their numbers
abbrev numbered-slots : {X : Type 0} → ℕ → List X → List (Node Slot)
numbered-slots n xs = map slots_in (map (λ p. slots_at p.0) (count_from n xs))

slots-are : {X : Type 0} (n : ℕ) (xs : List X) (i : ℕ) (l : Node Slot) → slice_get (numbered-slots n xs) i ≡ Some l → l ≡ slots_in (slots_at (n + i))
slots-are n [] i l at = absurd (none-some l at)
slots-are n (x ∷ xs) zero l at = sym (same_Some (slots_in (slots_at n)) l at) ∙ (let e : n ≡ n + zero = omega arith in ap (λ k. slots_in (slots_at k)) e)
slots-are n (x ∷ xs) (suc i) l at = slots-are (suc n) xs i l at ∙ (let e : suc n + i ≡ n + suc i = omega arith in ap (λ k. slots_in (slots_at k)) e)

slots-there : {X : Type 0} (n : ℕ) (xs : List X) (i : ℕ) (x : X) → slice_get xs i ≡ Some x → (l : Node Slot) × (slice_get (numbered-slots n xs) i ≡ Some l)
slots-there n [] i x at = absurd (none-some x at)
slots-there n (y ∷ xs) zero x at = (slots_in (slots_at n), refl)
slots-there n (y ∷ xs) (suc i) x at = slots-there (suc n) xs i x at

module _ (t : Tree) (e : Entry) (new : Tree) (nodes : AreTreeNodes t.nodes) (anchor : ℕ) (one : marked ANCHOR (node_lists t.nodes) ≡ anchor ∷ []) (over : IsTreeOver (anchored_network nodes.forest t e) (anchored_tree nodes.forest t e) new) where
  abbrev N : List (Assertion Variable Slot)
  N = anchored_network nodes.forest t e

  abbrev U : Decorated Slot (net.Term Variable)
  U = anchored_tree nodes.forest t e

  abbrev D : Decorated Pairs (net.Term ℕ)
  D = decorated_of nodes.forest t

  abbrev D' : Decorated Pairs (net.Term ℕ)
  D' = decorated_of over.nodes.forest new

  abbrev M : List (Assertion ℕ TreeSlot)
  M = tree_network D'

  abbrev W : net.Term Variable → net.Term ℕ
  W = over.written

  -- ---- the lists of a slot

  slots-list : labels U.nodes ≡ numbered-slots 0 (labels D.nodes)
  slots-list =
      labels-map slots_in (map_forest (λ p. slots_at p.0) (numbered 0 D.nodes))
      ∙ ap (map slots_in) (labels-map (λ p. slots_at p.0) (numbered 0 D.nodes) ∙ ap (map (λ p. slots_at p.0)) (labels-numbered 0 D.nodes))

  zipped : AllZip (ListsNode N W) (labels U.nodes) (labels over.nodes.forest)
  zipped = labels-alike (ListsNode N W) U.nodes over.nodes.forest over.bags

  abbrev bag_in : Part → Node BagPairs → BagPairs
  bag_in own_part b = b.own
  bag_in top_part b = b.top
  bag_in bottom_part b = b.bottom

  list-is : (part : Part) (b : Node BagPairs) → list_of part (lists_of b) ≡ pairs_of (bag_in part b)
  list-is own_part b = refl
  list-is top_part b = refl
  list-is bottom_part b = refl

  part-lists : (part : Part) (n : ℕ) (b : Node BagPairs) → ListsNode N W (slots_in (slots_at n)) b → ListsSlot N W (in_tree (at_node n part)) (bag_in part b)
  part-lists own_part n b h = h.own
  part-lists top_part n b h = h.top
  part-lists bottom_part n b h = h.bottom

  part-slot : (part : Part) (n : ℕ) → IsAmong (node_slots (slots_in (slots_at n))) (in_tree (at_node n part))
  part-slot own_part n = inl refl
  part-slot top_part n = inr (inl refl)
  part-slot bottom_part n = inr (inr (inl refl))

  -- a slot of the tree, with its bag in the lexical tree
  record HasLists (s : TreeSlot) : Type 0 where
    pub bag : BagPairs
    pub lists : ListsSlot N W (in_tree s) bag
    pub among : IsAmong (tree_slots U) (in_tree s)
    pub pair : (a : ℕ) (v : net.Term ℕ) → IsAmong (pairs_of bag) (a, v) → IsPairAt D' s (a, v)

  node-lists : (n : ℕ) (part : Part) (l : Node Slot) (b : Node BagPairs) → slice_get (labels U.nodes) n ≡ Some l → slice_get (labels over.nodes.forest) n ≡ Some b → ListsNode N W l b → HasLists (at_node n part)
  node-lists n part l b at there h =
      let l-is : l ≡ slots_in (slots_at n) = slots-are 0 (labels D.nodes) n l (ap (λ ls. slice_get ls n) (sym slots-list) ∙ at) ∙ (let e : 0 + n ≡ n = omega arith in ap (λ k. slots_in (slots_at k)) e) in
      record {
        bag = bag_in part b;
        lists = part-lists part n b (subst (λ k. ListsNode N W k b) l-is h);
        among = IsAmong-append_left (gathered node_slots (labels U.nodes)) (U.interface ∷ []) (in_tree (at_node n part))
            (IsAmong-gathered node_slots (labels U.nodes) l (in_tree (at_node n part)) (IsAmong-slice_get (labels U.nodes) n l at) (subst (λ k. IsAmong (node_slots k) (in_tree (at_node n part))) (sym l-is) (part-slot part n)));
        pair = λ a v i. (
          lists_of b,
          ap (λ ls. slice_get ls n) (labels-map lists_of over.nodes.forest) ∙ slice_get-mapped lists_of (labels over.nodes.forest) n b there,
          subst (λ ps. IsAmong ps (a, v)) (sym (list-is part b)) i,
        );
      }

  interface-lists : HasLists at_interface
  interface-lists = record {
    bag = new.iface;
    lists = over.interface;
    among = IsAmong-append_right (gathered node_slots (labels U.nodes)) (U.interface ∷ []) (in_tree at_interface) (inl refl);
    pair = λ a v i. i;
  }

  -- a node of the old tree has one in the lexical tree, and the other way round
  old-lists : (n : ℕ) (part : Part) (lists : Node Pairs) → slice_get (labels D.nodes) n ≡ Some lists → HasLists (at_node n part)
  old-lists n part lists at =
      let l = slots-there 0 (labels D.nodes) n lists at in
      let l-at : slice_get (labels U.nodes) n ≡ Some l.0 = ap (λ ls. slice_get ls n) slots-list ∙ l.1 in
      let b = zip-place (ListsNode N W) (labels U.nodes) (labels over.nodes.forest) n l.0 zipped l-at in
      node-lists n part l.0 b.0 l-at b.1 b.2

  -- the pairs of a slot of the lexical tree are those of a bag
  record IsRead (s : TreeSlot) (a : ℕ) (v : net.Term ℕ) : Type 0 where
    pub has : HasLists s
    pub there : IsAmong (pairs_of has.bag) (a, v)

  new-pair : (s : TreeSlot) (a : ℕ) (v : net.Term ℕ) → IsPairAt D' s (a, v) → IsRead s a v
  unfolding node-lists interface-lists
  new-pair (at_node n part) a v (lists, at, i) =
      let b = map-place lists_of (labels over.nodes.forest) n lists (ap (λ ls. slice_get ls n) (sym (labels-map lists_of over.nodes.forest)) ∙ at) in
      let l = place-zip (ListsNode N W) (labels U.nodes) (labels over.nodes.forest) n b.0 zipped b.1 in
      record {
        has = node-lists n part l.0 b.0 l.1 b.1 l.2;
        there = subst (λ ps. IsAmong ps (a, v)) (ap (list_of part) b.2 ∙ list-is part b.0) i;
      }
  new-pair at_interface a v i = record { has = interface-lists; there = i }

  joint-lists : (s : TreeSlot) (a : ℕ) (x : net.Term Variable) → JointAt nodes.forest t e anchor one s a x → HasLists s
  joint-lists (at_node n part) a x (inl (z, pair, is)) = old-lists n part pair.0 pair.1
  joint-lists at_interface a x (inl (z, pair, is)) = interface-lists
  joint-lists s a x (inr (z, inl (at, i), is)) = subst HasLists (sym at) interface-lists
  joint-lists s a x (inr (z, inr (at, i), is)) =
      let r = number-there 0 (is_marked ANCHOR) (node_lists t.nodes) anchor (subst (λ ks. IsAmong ks anchor) (sym one) (inl refl)) in
      let number : r.0 ≡ anchor = omega (arith, r.1) in
      let there : slice_get (labels D.nodes) anchor ≡ Some r.2.0 = ap (λ ls. slice_get ls anchor) (labels-nodes t.nodes nodes) ∙ ap (slice_get (node_lists t.nodes)) (sym number) ∙ r.2.1 in
      subst HasLists (sym at) (old-lists anchor bottom_part r.2.0 there)

  -- ---- there and back

  abbrev W' : Variable → net.Term ℕ
  W' v = W (variable v)

  abbrev home : ℕ → net.Term Variable
  home v = variable (over.exact.origin v)

  name-is : (a : ℕ) → IsMet N U (name a) → W (name a) ≡ name a
  name-is a met = (over.exact.names (name a) a met).1 (same (name a))

  put-is : (x : net.Term Variable) → IsMet N U x → put_term W' x ≡ W x
  put-is (name a) met = sym (name-is a met)
  put-is (variable v) met = refl

  known-home : (x : net.Term Variable) → IsKnown N U x → AreLinked N x (put_term home (put_term W' x))
  known-home x (inl met) = subst (λ y. AreLinked N x (put_term home y)) (sym (put-is x met)) (over.exact.home x met)
  known-home x (inr (a, is)) = subst (λ y. AreLinked N y (put_term home (put_term W' y))) (sym is) (same (name a))

  -- what the tree and the entry say is said over the lexical tree
  entry-there : (s : Slot) (a : ℕ) (x : net.Term Variable) → IsAmong N (entry s a x) → Follows M (entry (slot_in_tree anchor s) a (put_term W' x))
  entry-there s a x i =
      let joint = entry-is_joint nodes.forest t e anchor one s a x i in
      let has = joint-value nodes.forest t e anchor one (slot_in_tree anchor s) a x joint in
      let lists = joint-lists (slot_in_tree anchor s) a x joint in
      let pair = lists.pair a (W x) ((lists.lists.pairs a (W x)).1 (x, has, refl)) in
      let met : IsMet N U x = inl (in_tree (slot_in_tree anchor s), a, lists.among, has) in
      (W x, (slot_in_tree anchor s, same_slot (slot_in_tree anchor s), pair_entry D' (slot_in_tree anchor s) a (W x) pair), subst (λ y. AreLinked M y (W x)) (sym (put-is x met)) (same (W x)))

  there-in : (b : Assertion Variable Slot) → IsAmong N b → Follows M (put_assertion W' (slot_in_tree anchor) b)
  there-in (entry s a x) i = entry-there s a x i
  there-in (equate x y) i = absurd (no-equation nodes.forest t e anchor one x y (stands nodes.forest t e anchor one (equate x y) i))
  there-in (link s r) i = subst (λ q. AreLinkedSlots M (slot_in_tree anchor s) q) (slots-joined nodes.forest t e anchor one s r (linked s r i)) (same_slot (slot_in_tree anchor s))

  -- and the other way round
  entry-home : (s : TreeSlot) (a : ℕ) (v : net.Term ℕ) → IsAmong M (entry s a v) → Follows N (entry (in_tree s) a (put_term home v))
  entry-home s a v i =
      let read = new-pair s a v (entry_pair D' s a v i) in
      let from = (read.has.lists.pairs a v).0 read.there in
      let met : IsMet N U from.0 = inl (in_tree s, a, read.has.among, from.1) in
      let linked-home : AreLinked N from.0 (put_term home v) = subst (λ y. AreLinked N from.0 (put_term home y)) (sym from.2) (over.exact.home from.0 met) in
      (from.0, from.1, back _ _ linked-home)

  no-tree_equation : (x y : net.Term ℕ) → TreeEntry D' (equate x y) → ⊥
  no-tree_equation x y (in_node n lists at h) = let is : equate x y ≡ entry (at_node n h.part) h.pair.0 h.pair.1 = h.is in cc
  no-tree_equation x y (in_interface p i h) = cc

  home-in : (b : Assertion ℕ TreeSlot) → IsAmong M b → Follows N (put_assertion home in_tree b)
  home-in (entry s a v) i = entry-home s a v i
  home-in (equate x y) i = absurd (no-tree_equation x y (tree_entry D' (equate x y) i))
  home-in (link s r) i = subst (λ q. AreLinkedSlots N (in_tree s) (in_tree q)) (same_slots D' s r (linked s r i)) (same_slot (in_tree s))

  module _ (L : List (Assertion Variable Slot)) (known : Each (IsOfKnown N U) L) where
    abbrev L' : List (Assertion ℕ TreeSlot)
    L' = carried anchor W L

    there : Interprets W' (slot_in_tree anchor) (N ++ L) (M ++ L')
    there b i = elim (IsAmong-append N L b i) [
      | inl j ↦ Follows-part M (M ++ L') (λ c k. IsAmong-append_left M L' c k) (put_assertion W' (slot_in_tree anchor) b) (there-in b j)
      | inr j ↦ Follows-among (M ++ L') (put_assertion W' (slot_in_tree anchor) b) (IsAmong-append_right M L' (put_assertion W' (slot_in_tree anchor) b) (IsAmong-map (put_assertion W' (slot_in_tree anchor)) L b j))
    ]

    -- and the other way round
    in-all : (x y : net.Term Variable) → AreLinked N x y → AreLinked (N ++ L) x y
    in-all = AreLinked-part N (N ++ L) (λ c k. IsAmong-append_left N L c k)

    slots-in-all : (s r : Slot) → AreLinkedSlots N s r → AreLinkedSlots (N ++ L) s r
    slots-in-all = AreLinkedSlots-part N (N ++ L) (λ c k. IsAmong-append_left N L c k)

    back-slot : (s : Slot) → AreLinkedSlots (N ++ L) s (in_tree (slot_in_tree anchor s))
    back-slot s = slots-in-all s (in_tree (slot_in_tree anchor s)) (base-linked nodes.forest t e anchor one s)

    more-home : (b : Assertion Variable Slot) → IsAmong L b → IsOfKnown N U b → Follows (N ++ L) (put_assertion home in_tree (put_assertion W' (slot_in_tree anchor) b))
    more-home (entry s a x) i h = (x, (s, back_slot _ _ (back-slot s), IsAmong-append_right N L (entry s a x) i), in-all _ _ (back _ _ (known-home x h)))
    more-home (equate x y) i h =
        next _ _ _ (in-all _ _ (back _ _ (known-home x h.0))) (next _ _ _ (equated x y (IsAmong-append_right N L (equate x y) i)) (in-all _ _ (known-home y h.1)))
    more-home (link s r) i h =
        next_slot _ _ _ (back_slot _ _ (back-slot s)) (next_slot _ _ _ (linked s r (IsAmong-append_right N L (link s r) i)) (back-slot r))

    homeward : Interprets home in_tree (M ++ L') (N ++ L)
    homeward b i = elim (IsAmong-append M L' b i) [
      | inl j ↦ Follows-part N (N ++ L) (λ c k. IsAmong-append_left N L c k) (put_assertion home in_tree b) (home-in b j)
      | inr j ↦
          let r = IsAmong-map_from (put_assertion W' (slot_in_tree anchor)) L b j in
          subst (λ c. Follows (N ++ L) (put_assertion home in_tree c)) (sym r.2) (more-home r.0 r.1 (Each-at (IsOfKnown N U) L r.0 known r.1))
    ]

    pub agreement-carried : Agrees (N ++ L) ↔ Agrees (M ++ L')
    agreement-carried = (Agrees-from home in_tree (M ++ L') (N ++ L) homeward, Agrees-from W' (slot_in_tree anchor) (N ++ L) (M ++ L') there)

  -- ---- the same beside strangers

  module _ (W R : Type 0) (L : List (Assertion (Variable ⊎ W) (Slot ⊎ R))) (known : Each (IsOfKnownBeside N U) L) where
    abbrev N-beside : List (Assertion (Variable ⊎ W) (Slot ⊎ R))
    N-beside = beside W R N

    abbrev M-beside : List (Assertion (ℕ ⊎ W) (TreeSlot ⊎ R))
    M-beside = beside W R M

    abbrev L-beside : List (Assertion (ℕ ⊎ W) (TreeSlot ⊎ R))
    L-beside = carried_beside anchor over.written L

    abbrev forth : Variable ⊎ W → net.Term (ℕ ⊎ W)
    forth = term_beside W'

    abbrev forth_slot : Slot ⊎ R → TreeSlot ⊎ R
    forth_slot = slot_beside anchor

    abbrev return : ℕ ⊎ W → net.Term (Variable ⊎ W)
    return = term_beside home

    abbrev return_slot : TreeSlot ⊎ R → Slot ⊎ R
    return_slot (inl s) = inl (in_tree s)
    return_slot (inr r) = inr r

    -- what follows from a network follows from it beside strangers
    lifted : (b : Assertion Variable Slot) → Follows N b → Follows N-beside (put_assertion (λ v. variable (inl v)) inl b)
    lifted b h = Follows-put (λ v. variable (inl v)) inl N N-beside (Interprets-put (λ v. variable (inl v)) inl N) b h

    lifted-new : (b : Assertion ℕ TreeSlot) → Follows M b → Follows M-beside (put_assertion (λ v. variable (inl v)) inl b)
    lifted-new b h = Follows-put (λ v. variable (inl v)) inl M M-beside (Interprets-put (λ v. variable (inl v)) inl M) b h

    there-beside : Interprets forth forth_slot (N-beside ++ L) (M-beside ++ L-beside)
    there-beside b i = elim (IsAmong-append N-beside L b i) [
      | inl j ↦
          let r = IsAmong-map_from (put_assertion (λ v. variable (inl v)) inl) N b j in
          let same-way : put_assertion (λ v. variable (inl v)) inl (put_assertion W' (slot_in_tree anchor) r.0) ≡ put_assertion forth forth_slot b =
          put_assertion-put W' (slot_in_tree anchor) (λ v. variable (inl v)) inl r.0 ∙ sym (put_assertion-put (λ v. variable (inl v)) inl forth forth_slot r.0) ∙ ap (put_assertion forth forth_slot) (sym r.2)
          in
          Follows-part M-beside (M-beside ++ L-beside) (λ c k. IsAmong-append_left M-beside L-beside c k) (put_assertion forth forth_slot b)
          (subst (λ c. Follows M-beside c) same-way (lifted-new (put_assertion W' (slot_in_tree anchor) r.0) (there-in r.0 r.1)))
      | inr j ↦ Follows-among (M-beside ++ L-beside) (put_assertion forth forth_slot b) (IsAmong-append_right M-beside L-beside (put_assertion forth forth_slot b) (IsAmong-map (put_assertion forth forth_slot) L b j))
    ]

    -- and the other way round
    beside-home : (x : net.Term ℕ) → put_term return (put_term (λ v. variable (inl v)) x) ≡ put_term (λ v. variable (inl v)) (put_term home x)
    beside-home (name a) = refl
    beside-home (variable v) = refl

    known-return : (x : net.Term (Variable ⊎ W)) → IsKnownBeside N U x → AreLinked N-beside x (put_term return (put_term forth x))
    known-return (name a) h = same (name a)
    known-return (variable (inl v)) h =
        subst (λ y. AreLinked N-beside (variable (inl v)) y) (sym (beside-home (W' v)))
        (AreLinked-put (λ w. variable (inl w)) inl N N-beside (Interprets-put (λ w. variable (inl w)) inl N) (variable v) (put_term home (W' v)) (known-home (variable v) (inl h)))
    known-return (variable (inr w)) h = same (variable (inr w))

    slot-return : (s : Slot ⊎ R) → AreLinkedSlots N-beside s (return_slot (forth_slot s))
    slot-return (inl s) =
        AreLinkedSlots-put (λ w. variable (inl w)) inl N N-beside (Interprets-put (λ w. variable (inl w)) inl N) s (in_tree (slot_in_tree anchor s)) (base-linked nodes.forest t e anchor one s)
    slot-return (inr r) = same_slot (inr r)

    all-beside : (x y : net.Term (Variable ⊎ W)) → AreLinked N-beside x y → AreLinked (N-beside ++ L) x y
    all-beside = AreLinked-part N-beside (N-beside ++ L) (λ c k. IsAmong-append_left N-beside L c k)

    slots-all_beside : (s r : Slot ⊎ R) → AreLinkedSlots N-beside s r → AreLinkedSlots (N-beside ++ L) s r
    slots-all_beside = AreLinkedSlots-part N-beside (N-beside ++ L) (λ c k. IsAmong-append_left N-beside L c k)

    more-return : (b : Assertion (Variable ⊎ W) (Slot ⊎ R)) → IsAmong L b → IsOfKnownBeside N U b → Follows (N-beside ++ L) (put_assertion return return_slot (put_assertion forth forth_slot b))
    more-return (entry s a x) i h =
        (x, (s, back_slot _ _ (slots-all_beside s (return_slot (forth_slot s)) (slot-return s)), IsAmong-append_right N-beside L (entry s a x) i), all-beside _ _ (back _ _ (known-return x h)))
    more-return (equate x y) i h =
        next _ _ _ (all-beside _ _ (back _ _ (known-return x h.0))) (next _ _ _ (equated x y (IsAmong-append_right N-beside L (equate x y) i)) (all-beside _ _ (known-return y h.1)))
    more-return (link s r) i h =
        next_slot _ _ _ (back_slot _ _ (slots-all_beside s (return_slot (forth_slot s)) (slot-return s)))
        (next_slot _ _ _ (linked s r (IsAmong-append_right N-beside L (link s r) i)) (slots-all_beside r (return_slot (forth_slot r)) (slot-return r)))

    homeward-beside : Interprets return return_slot (M-beside ++ L-beside) (N-beside ++ L)
    homeward-beside b i = elim (IsAmong-append M-beside L-beside b i) [
      | inl j ↦
          let r = IsAmong-map_from (put_assertion (λ v. variable (inl v)) inl) M b j in
          let same-way : put_assertion (λ v. variable (inl v)) inl (put_assertion home in_tree r.0) ≡ put_assertion return return_slot b =
          put_assertion-put home in_tree (λ v. variable (inl v)) inl r.0 ∙ sym (put_assertion-put (λ v. variable (inl v)) inl return return_slot r.0) ∙ ap (put_assertion return return_slot) (sym r.2)
          in
          Follows-part N-beside (N-beside ++ L) (λ c k. IsAmong-append_left N-beside L c k) (put_assertion return return_slot b)
          (subst (λ c. Follows N-beside c) same-way (lifted (put_assertion home in_tree r.0) (home-in r.0 r.1)))
      | inr j ↦
          let r = IsAmong-map_from (put_assertion forth forth_slot) L b j in
          subst (λ c. Follows (N-beside ++ L) (put_assertion return return_slot c)) (sym r.2) (more-return r.0 r.1 (Each-at (IsOfKnownBeside N U) L r.0 known r.1))
    ]

    pub agreement-carried_beside : Agrees (N-beside ++ L) ↔ Agrees (M-beside ++ L-beside)
    agreement-carried_beside = (Agrees-from return return_slot (M-beside ++ L-beside) (N-beside ++ L) homeward-beside, Agrees-from forth forth_slot (N-beside ++ L) (M-beside ++ L-beside) there-beside)
