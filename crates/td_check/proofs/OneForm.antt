-- A tree that has a canonical form of a tree over a network is that tree.
use Rattle.std.specs.Prelude.{◌≡◌, ℕ, zero, suc, ◌+◌, List, [], ◌∷◌, map, length, slice_get, ⊤, Some, refl}
use Rattle.std.specs.List.{AllZip}
use Rattle.std.proofs.Common.{inl, inr, ap, ap₂, sym, ◌∙◌, subst, arith}
use Rattle.std.proofs.lemmas.Option.{none-some, same_Some, slice_get_within}
use Rattle.std.proofs.lemmas.List.{length-map}
use Rattle.gr_base.proofs.Zips.{labels-alike}
use Rattle.gr_base.specs.Lists.{IsAmong, Each, InByteOrder, IsBefore, gathered}
use Rattle.gr_base.specs.Forests.{Forest, empty, tree, labels, map_forest, numbered, size, AreAlike}
use Rattle.gr_base.proofs.Counting.{IsBefore-irreflexive}
use Rattle.gr_base.proofs.ListLemmas.{Each-at, IsAmong-map, IsAmong-slice_get, IsAmong-append_left, IsAmong-append_right, IsAmong-gathered, slice_get-mapped}
use Rattle.gr_base.proofs.ForestLemmas.{labels-map}
use Rattle.gr_terms.specs.Canonical.{Node, node_slots, Decorated, Literal, literal_terms, map_literal, Label, Pairs, IsMet, ListsSlot, ListsNode, IsCanonicalForm, tree_slots}
use Rattle.gr_terms.specs.Networks.{Term, name, Assertion, AreLinked, same}
use Rattle.td_tree.specs.TreeNetworks.{Part, own_part, top_part, bottom_part, TreeSlot, at_node, at_interface, slots_at, tree_network, slotted}
use Rattle.td_tree.proofs.TreeNetworkLemmas.{list_of, IsPairAt, value_pair, pair_value, same_terms, labels-numbered, count_from}
use Rattle.td_check.specs.ModelTrees.{Beside, HaveAttributes, AreLists, of_node, of_interface, AreInLiterals, of_literal, StandsFor, in_list, in_literal, IsTreeOf, HasEachOnce}
use Rattle.td_check.proofs.Telling.{OneOfThree, at_first, at_second, at_third, three_at}

-- ---- lists and forests side by side

zip_at : {A B : Type 0} (R : A → B → Type 0) (xs : List A) (ys : List B) (k : ℕ) (x : A) (y : B) → AllZip R xs ys → slice_get xs k ≡ Some x → slice_get ys k ≡ Some y → R x y
zip_at R [] [] k x y h e g = absurd (none-some x e)
zip_at R [] (w ∷ ys) k x y h e g = absurd h
zip_at R (z ∷ xs) [] k x y h e g = absurd h
zip_at R (z ∷ xs) (w ∷ ys) zero x y h e g = subst (λ a. R a y) (same_Some z x e) (subst (λ b. R z b) (same_Some w y g) h.0)
zip_at R (z ∷ xs) (w ∷ ys) (suc k) x y h e g = zip_at R xs ys k x y h.1 e g

-- two forests that are alike a third one
record Through {A B C : Type 0} (R : A → C → Type 0) (S : B → C → Type 0) (a : A) (b : B) : Type 0 where
  pub at : C
  pub one : R a at
  pub other : S b at

alike_through : {A B C D : Type 0} (R : A → C → Type 0) (S : D → C → Type 0) (g : B → D) (f : Forest A) (k : Forest B) (h : Forest C) → AreAlike R f h → AreAlike S (map_forest g k) h
    → AreAlike (Through R (λ b c. S (g b) c)) f k
alike_through R S g empty empty h a b = tt
alike_through R S g empty (tree x kids more) empty a b = absurd b
alike_through R S g empty (tree x kids more) (tree z inner last) a b = absurd a
alike_through R S g (tree x kids more) empty empty a b = absurd a
alike_through R S g (tree x kids more) empty (tree z inner last) a b = absurd b
alike_through R S g (tree x kids more) (tree y others rest) empty a b = absurd a
alike_through R S g (tree x kids more) (tree y others rest) (tree z inner last) a b =
    (record { at = z; one = a.0; other = b.0 }, alike_through R S g kids others inner a.1 b.1, alike_through R S g more rest last a.2 b.2)

alike_shape : {A B : Type 0} (R : A → ℕ × B → Type 0) (n : ℕ) (f : Forest A) (u : Forest B) → AreAlike R f (numbered n u) → AreAlike (λ (x : A) (y : B). ⊤) f u
alike_shape R n empty empty h = tt
alike_shape R n empty (tree b kids more) h = absurd h
alike_shape R n (tree a kids more) empty h = absurd h
alike_shape R n (tree a kids more) (tree b others rest) h = (tt, alike_shape R (suc n) kids others h.1, alike_shape R (suc n + size others) more rest h.2)

counted_at : {A : Type 0} (n k m : ℕ) (xs : List A) (x : A) → m ≡ n + k → slice_get xs k ≡ Some x → slice_get (count_from n xs) k ≡ Some (m, x)
counted_at n k m [] x e at = absurd (none-some x at)
counted_at n zero m (y ∷ ys) x e at = let p : n ≡ m = omega arith in let q : y ≡ x = same_Some y x at in ap₂ (λ i z. Some (i, z)) p q
counted_at n (suc k) m (y ∷ ys) x e at = counted_at (suc n) k m ys x (omega arith) at

-- in byte order each attribute stands once
label_once : (text : ℕ → List ℕ) (ps : Pairs) (a : ℕ) (v w : Label) → InByteOrder (map (λ p. text p.0) ps) → IsAmong ps (a, v) → IsAmong ps (a, w) → v ≡ w
label_once text [] a v w order i j = absurd i
label_once text (p ∷ ps) a v w order (inl e) (inl g) = ap (λ (q : ℕ × Label). q.1) (e ∙ sym g)
label_once text (p ∷ ps) a v w order (inl e) (inr j) =
    absurd (IsBefore-irreflexive (text a) (subst (λ (q : ℕ × Label). IsBefore (text q.0) (text a)) (sym e)
    (Each-at (λ t. IsBefore (text p.0) t) (map (λ p. text p.0) ps) (text a) order.0 (IsAmong-map (λ (p : ℕ × Label). text p.0) ps (a, w) j))))
label_once text (p ∷ ps) a v w order (inr i) (inl g) =
    absurd (IsBefore-irreflexive (text a) (subst (λ (q : ℕ × Label). IsBefore (text q.0) (text a)) (sym g)
    (Each-at (λ t. IsBefore (text p.0) t) (map (λ p. text p.0) ps) (text a) order.0 (IsAmong-map (λ (p : ℕ × Label). text p.0) ps (a, v) i))))
label_once text (p ∷ ps) a v w order (inr i) (inr j) = label_once text ps a v w order.1 i j

-- ---- what stands for a term shows that the term is met

module _ (N : List (Assertion ℕ ℕ)) (t : Decorated ℕ (Term ℕ)) (u : Decorated (List (ℕ × Term ℕ)) (Term ℕ)) where
  slots_met : (s : ℕ) (pairs : List (ℕ × Term ℕ)) → AreLists t u s pairs → IsAmong (tree_slots t) s
  slots_met s pairs (of_interface e g) = IsAmong-append_right (gathered node_slots (labels t.nodes)) (t.interface ∷ []) s (inl e)
  slots_met s pairs (of_node n m b d) =
      IsAmong-append_left (gathered node_slots (labels t.nodes)) (t.interface ∷ []) s
      (IsAmong-gathered node_slots (labels t.nodes) n s (IsAmong-slice_get (labels t.nodes) b.0 n b.1) (IsAmong-slice_get (node_slots n) d.0 s d.1))

  pub stands_met : (w x : Term ℕ) → StandsFor N t u w x → IsMet N t x
  stands_met w x (in_list s pairs a lists among has) = inl (s, a, slots_met s pairs lists, has)
  stands_met w x (in_literal (of_literal l k b d)) =
      inr (IsAmong-gathered literal_terms t.literals l x (IsAmong-slice_get t.literals b.0 l b.1) (IsAmong-slice_get (literal_terms l) d.0 x d.1))

-- ---- the two trees

module _ (text : ℕ → List ℕ) (N : List (Assertion ℕ ℕ)) (t : Decorated ℕ (Term ℕ)) (u : Decorated (List (ℕ × Term ℕ)) (Term ℕ)) (c : Decorated Pairs Label)
    (once : (s : TreeSlot) (a : ℕ) (x y : Term ℕ) → IsPairAt u s (a, x) → IsPairAt u s (a, y) → x ≡ y)
    (one : IsCanonicalForm text N t c) (two : IsCanonicalForm text (tree_network u) (slotted u) c) where
  abbrev M : List (Assertion ℕ TreeSlot)
  M = tree_network u

  abbrev IsBoth : Node ℕ → ℕ × Node (List (ℕ × Term ℕ)) → Type 0
  IsBoth = Through (ListsNode text N one.label) (λ q p. ListsNode text M two.label (slots_at q.0) p)

  both_alike : AreAlike IsBoth t.nodes (numbered 0 u.nodes)
  both_alike = alike_through (ListsNode text N one.label) (ListsNode text M two.label) (λ (q : ℕ × Node (List (ℕ × Term ℕ))). slots_at q.0) t.nodes (numbered 0 u.nodes) c.nodes one.nodes two.nodes

  -- a slot of t and the list of u at one place, with what both are in the form
  record Sided (s : ℕ) (pairs : List (ℕ × Term ℕ)) : Type 0 where
    pub slot : TreeSlot
    pub form : Pairs
    pub left : ListsSlot text N one.label s form
    pub right : ListsSlot text M two.label slot form
    pub there : (p : ℕ × Term ℕ) → IsAmong pairs p → IsPairAt u slot p
    pub back : (p : ℕ × Term ℕ) → IsPairAt u slot p → IsAmong pairs p

  node_sided : (k : ℕ) (n : Node ℕ) (m : Node (List (ℕ × Term ℕ))) → slice_get (labels t.nodes) k ≡ Some n → slice_get (labels u.nodes) k ≡ Some m → IsBoth n (k, m)
  node_sided k n m e g =
      zip_at IsBoth (labels t.nodes) (labels (numbered 0 u.nodes)) k n (k, m) (labels-alike IsBoth t.nodes (numbered 0 u.nodes) both_alike) e
      (ap (λ z. slice_get z k) (labels-numbered 0 u.nodes) ∙ counted_at 0 k k (labels u.nodes) m (omega arith) g)

  sided : (s : ℕ) (pairs : List (ℕ × Term ℕ)) → AreLists t u s pairs → Sided s pairs
  sided s pairs (of_interface e g) = record {
    slot = at_interface;
    form = c.interface;
    left = subst (λ z. ListsSlot text N one.label z c.interface) (sym e) one.interface;
    right = two.interface;
    there = λ p i. subst (λ z. IsAmong z p) g i;
    back = λ p i. subst (λ z. IsAmong z p) (sym g) i;
  }
  sided s pairs (of_node n m b d) = by b.0 n m b.1 b.2 (node_sided b.0 n m b.1 b.2) (three_at n.own n.top n.bottom m.own m.top m.bottom d.0 s pairs d.1 d.2)
    where
      same_pairs : (list : List (ℕ × Term ℕ)) (p : ℕ × Term ℕ) → pairs ≡ list → IsAmong pairs p → IsAmong list p
      same_pairs list p e i = subst (λ z. IsAmong z p) e i

      one_list : (k : ℕ) (m m' : Node (List (ℕ × Term ℕ))) → slice_get (labels u.nodes) k ≡ Some m → slice_get (labels u.nodes) k ≡ Some m' → m' ≡ m
      one_list k m m' g h = same_Some m' m (sym h ∙ g)

      by : (k : ℕ) (n : Node ℕ) (m : Node (List (ℕ × Term ℕ))) → slice_get (labels t.nodes) k ≡ Some n → slice_get (labels u.nodes) k ≡ Some m → IsBoth n (k, m)
          → OneOfThree n.own n.top n.bottom m.own m.top m.bottom s pairs → Sided s pairs
      by k n m e g both (at_first x y) = record {
        slot = at_node k own_part;
        form = both.at.own;
        left = subst (λ z. ListsSlot text N one.label z both.at.own) (sym x) both.one.own;
        right = both.other.own;
        there = λ p i. (m, g, same_pairs m.own p y i);
        back = λ p h. subst (λ z. IsAmong z p) (sym y) (subst (λ (z : Node (List (ℕ × Term ℕ))). IsAmong z.own p) (one_list k m h.0 g h.1) h.2);
      }
      by k n m e g both (at_second x y) = record {
        slot = at_node k top_part;
        form = both.at.top;
        left = subst (λ z. ListsSlot text N one.label z both.at.top) (sym x) both.one.top;
        right = both.other.top;
        there = λ p i. (m, g, same_pairs m.top p y i);
        back = λ p h. subst (λ z. IsAmong z p) (sym y) (subst (λ (z : Node (List (ℕ × Term ℕ))). IsAmong z.top p) (one_list k m h.0 g h.1) h.2);
      }
      by k n m e g both (at_third x y) = record {
        slot = at_node k bottom_part;
        form = both.at.bottom;
        left = subst (λ z. ListsSlot text N one.label z both.at.bottom) (sym x) both.one.bottom;
        right = both.other.bottom;
        there = λ p i. (m, g, same_pairs m.bottom p y i);
        back = λ p h. subst (λ z. IsAmong z p) (sym y) (subst (λ (z : Node (List (ℕ × Term ℕ))). IsAmong z.bottom p) (one_list k m h.0 g h.1) h.2);
      }

  -- what stands for what has one label, and both are met
  record Matched (w x : Term ℕ) : Type 0 where
    pub labels_are : one.label x ≡ two.label w
    pub met : IsMet N t x
    pub found : IsMet M (slotted u) w

  slotted_labels : labels (slotted u).nodes ≡ map (λ (q : ℕ × Node (List (ℕ × Term ℕ))). slots_at q.0) (count_from 0 (labels u.nodes))
  slotted_labels = labels-map (λ (q : ℕ × Node (List (ℕ × Term ℕ))). slots_at q.0) (numbered 0 u.nodes) ∙ ap (λ z. map (λ (q : ℕ × Node (List (ℕ × Term ℕ))). slots_at q.0) z) (labels-numbered 0 u.nodes)

  part_among : (k : ℕ) (part : Part) → IsAmong (node_slots (slots_at k)) (at_node k part)
  part_among k own_part = inl refl
  part_among k top_part = inr (inl refl)
  part_among k bottom_part = inr (inr (inl refl))

  pair_met : (s : TreeSlot) (p : ℕ × Term ℕ) → IsPairAt u s p → IsAmong (tree_slots (slotted u)) s
  pair_met at_interface p h = IsAmong-append_right (gathered node_slots (labels (slotted u).nodes)) (at_interface ∷ []) at_interface (inl refl)
  pair_met (at_node k part) p h =
      IsAmong-append_left (gathered node_slots (labels (slotted u).nodes)) (at_interface ∷ []) (at_node k part)
      (IsAmong-gathered node_slots (labels (slotted u).nodes) (slots_at k) (at_node k part)
      (IsAmong-slice_get (labels (slotted u).nodes) k (slots_at k)
      (ap (λ z. slice_get z k) slotted_labels ∙ slice_get-mapped (λ (q : ℕ × Node (List (ℕ × Term ℕ))). slots_at q.0) (count_from 0 (labels u.nodes)) k (k, h.0) (counted_at 0 k k (labels u.nodes) h.0 (omega arith) h.1)))
      (part_among k part))

  same_literals : map (map_literal one.label) t.literals ≡ map (map_literal two.label) u.literals
  same_literals = sym one.literals ∙ two.literals

  matched : (w x : Term ℕ) → StandsFor N t u w x → Matched w x
  matched w x (in_list s pairs a lists among has) =
      let r = sided s pairs lists in
      let at = r.there (a, w) among in
      let value = pair_value u r.slot a w at in
      let mine = (r.left.pairs a (one.label x)).1 (x, has, refl) in
      let its = (r.right.pairs a (two.label w)).1 (w, value, refl) in
      record {
        labels_are = label_once text r.form a (one.label x) (two.label w) r.left.order mine its;
        met = stands_met N t u w x (in_list s pairs a lists among has);
        found = inl (r.slot, a, pair_met r.slot (a, w) at, value);
      }
  matched w x (in_literal (of_literal l k b d)) =
      let i = b.0 in
      let same : map_literal one.label l ≡ map_literal two.label k =
      same_Some (map_literal one.label l) (map_literal two.label k)
      (sym (slice_get-mapped (map_literal one.label) t.literals i l b.1) ∙ ap (λ z. slice_get z i) same_literals ∙ slice_get-mapped (map_literal two.label) u.literals i k b.2) in
      record {
        labels_are = same_Some (one.label x) (two.label w)
            (sym (slice_get-mapped one.label (literal_terms l) d.0 x d.1) ∙ ap (λ (z : Literal Label). slice_get (literal_terms z) d.0) same ∙ slice_get-mapped two.label (literal_terms k) d.0 w d.2);
        met = stands_met N t u w x (in_literal (of_literal l k b d));
        found = inr (IsAmong-gathered literal_terms u.literals k w (IsAmong-slice_get u.literals i k b.2) (IsAmong-slice_get (literal_terms k) d.0 w d.2));
      }

  attributes_have : (s : ℕ) (pairs : List (ℕ × Term ℕ)) → AreLists t u s pairs → HaveAttributes N s pairs
  attributes_have s pairs lists =
      let r = sided s pairs lists in
      record {
        there = λ a w i.
            let value = pair_value u r.slot a w (r.there (a, w) i) in
            let h = (r.left.pairs a (two.label w)).0 ((r.right.pairs a (two.label w)).1 (w, value, refl)) in
            (h.0, h.1);
        all = λ a x has.
            let h = (r.right.pairs a (one.label x)).0 ((r.left.pairs a (one.label x)).1 (x, has, refl)) in
            (h.0, r.back (a, h.0) (value_pair u r.slot a h.0 h.1));
      }

  arguments_are : map (λ (l : Literal (Term ℕ)). length l.args) t.literals ≡ map (λ (l : Literal (Term ℕ)). length l.args) u.literals
  arguments_are =
      sym (counted one.label t.literals) ∙ ap (λ z. map (λ (l : Literal Label). length l.args) z) same_literals ∙ counted two.label u.literals
    where
      counted : (f : Term ℕ → Label) (ls : List (Literal (Term ℕ))) → map (λ (l : Literal Label). length l.args) (map (map_literal f) ls) ≡ map (λ (l : Literal (Term ℕ)). length l.args) ls
      counted f [] = refl
      counted f (l ∷ ls) = ap₂ (λ a b. a ∷ b) (length-map l.args f) (counted f ls)

  pub one_form : IsTreeOf N t u
  one_form = record {
    shape = alike_shape IsBoth 0 t.nodes u.nodes both_alike;
    lists = attributes_have;
    literals = arguments_are;
    values = λ w v x y first other.
        let a = matched w x first in
        let b = matched v y other in (
          (λ e. one.exact.classes x y a.met b.met (a.labels_are ∙ ap two.label e ∙ sym b.labels_are)),
          (λ l. same_terms u once w v (two.exact.classes w v a.found b.found (sym a.labels_are ∙ one.exact.linked x y l ∙ b.labels_are))),
        );
    names = λ w x n stands.
        let a = matched w x stands in (
          (λ e. (one.exact.names x n a.met).0 (a.labels_are ∙ (two.exact.names w n a.found).1 (subst (λ z. AreLinked M w z) e (same w)))),
          (λ l. same_terms u once w (name n) ((two.exact.names w n a.found).0 (sym a.labels_are ∙ (one.exact.names x n a.met).1 l))),
        );
  }

-- each list has one value of an attribute
pub once_of : (u : Decorated (List (ℕ × Term ℕ)) (Term ℕ)) → HasEachOnce u → (s : TreeSlot) (a : ℕ) (x y : Term ℕ) → IsPairAt u s (a, x) → IsPairAt u s (a, y) → x ≡ y
once_of u once at_interface a x y h k = once u.interface a x y (IsAmong-append_right (gathered node_slots (labels u.nodes)) (u.interface ∷ []) u.interface (inl refl)) h k
once_of u once (at_node n part) a x y h k =
    let same : k.0 ≡ h.0 = same_Some k.0 h.0 (sym k.1 ∙ h.1) in
    once (list_of part h.0) a x y
    (IsAmong-append_left (gathered node_slots (labels u.nodes)) (u.interface ∷ []) (list_of part h.0)
    (IsAmong-gathered node_slots (labels u.nodes) h.0 (list_of part h.0) (IsAmong-slice_get (labels u.nodes) n h.0 h.1) (one_of_three part h.0)))
    h.2 (subst (λ (z : Node (List (ℕ × Term ℕ))). IsAmong (list_of part z) (a, y)) same k.2)
  where
    one_of_three : (part : Part) (m : Node (List (ℕ × Term ℕ))) → IsAmong (node_slots m) (list_of part m)
    one_of_three own_part m = inl refl
    one_of_three top_part m = inr (inl refl)
    one_of_three bottom_part m = inr (inr (inl refl))
