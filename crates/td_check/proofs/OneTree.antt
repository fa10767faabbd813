-- The tree of a network has each canonical form of a tree with lists that is this tree.
use Rattle.std.specs.Prelude.{◌≡◌, ℕ, suc, List, [], ◌∷◌, length, slice_get, ◌⊎◌, Some, refl}
use Rattle.std.specs.List.{AllZip}
use Rattle.std.proofs.Common.{inl, inr, ap, sym, ◌∙◌, subst, arith}
use Rattle.std.proofs.lemmas.List.{length-map}
use Rattle.std.proofs.lemmas.Option.{same_Some}
use Rattle.gr_base.proofs.Zips.{labels-alike, AllZip-weaker}
use Rattle.gr_base.specs.Decisions.{IsDecided}
use Rattle.gr_base.specs.Forests.{labels, numbered, AreAlike}
use Rattle.gr_base.specs.Lists.{IsAmong, gathered}
use Rattle.gr_base.proofs.Deciding.{decided_both, decided_by, decided_either, decided_number, decided_some}
use Rattle.gr_base.proofs.ForestLemmas.{AreAlike-weaker}
use Rattle.gr_base.proofs.ListLemmas.{IsAmong-append, slice_get-mapped}
use Rattle.gr_terms.specs.Canonical.{Node, node_slots, Decorated, Literal, literal_terms, Label, Pairs, IsMet, IsCanonicalForm, tree_slots}
use Rattle.gr_terms.specs.Networks.{Term, name, Assertion, entry, equate, link, AreLinked, AreLinkedSlots, same, back, next}
use Rattle.gr_terms.proofs.Agreeing.{decided_linked, decided_slots}
use Rattle.td_tree.specs.Forms.{HaveSameValues, AreSameNodes, AreSameLiterals, AreSameTrees}
use Rattle.td_tree.specs.TreeNetworks.{Part, own_part, top_part, bottom_part, TreeSlot, at_node, at_interface, slots_at, tree_network, slotted}
use Rattle.td_tree.proofs.SameForms.{alike_map, alike_numbered, carried_form, gathered_answer, zip_answer, zip_at_places}
use Rattle.td_tree.proofs.TreeNetworkLemmas.{list_of, IsPairAt, value_pair, pair_value, same_terms}
use Rattle.td_check.specs.ModelTrees.{AreLists, of_node, of_interface, AreInLiterals, of_literal, StandsFor, in_list, in_literal, IsTreeOf}
use Rattle.td_check.proofs.OneForm.{stands_met}

module _ (N : List (Assertion ℕ ℕ)) (t : Decorated ℕ (Term ℕ)) (u : Decorated (List (ℕ × Term ℕ)) (Term ℕ)) (is : IsTreeOf N t u)
    (once : (s : TreeSlot) (a : ℕ) (x y : Term ℕ) → IsPairAt u s (a, x) → IsPairAt u s (a, y) → x ≡ y) where
  abbrev M : List (Assertion ℕ TreeSlot)
  M = tree_network u

  -- ---- places of the two trees

  -- the slots and the lists of the nodes with one number
  abbrev IsPlaced : Node ℕ → ℕ × Node (List (ℕ × Term ℕ)) → Type 0
  IsPlaced n q = (slice_get (labels t.nodes) q.0 ≡ Some n) × (slice_get (labels u.nodes) q.0 ≡ Some q.1)

  nodes_placed : AreAlike IsPlaced t.nodes (numbered 0 u.nodes)
  nodes_placed = alike_numbered IsPlaced 0 t.nodes u.nodes is.shape
      (λ k m n p e f g. let h : k ≡ m = omega arith in (subst (λ i. slice_get (labels t.nodes) i ≡ Some n) h f, subst (λ i. slice_get (labels u.nodes) i ≡ Some p) h g))

  lists_at : (k : ℕ) (n : Node ℕ) (m : Node (List (ℕ × Term ℕ))) (part : Part) → IsPlaced n (k, m) → AreLists t u (list_of part n) (list_of part m)
  lists_at k n m own_part at = of_node n m (k, at.0, at.1) (0, refl, refl)
  lists_at k n m top_part at = of_node n m (k, at.0, at.1) (1, refl, refl)
  lists_at k n m bottom_part at = of_node n m (k, at.0, at.1) (2, refl, refl)

  node_lists : (n : Node ℕ) (q : ℕ × Node (List (ℕ × Term ℕ))) (s : ℕ) → IsPlaced n q → IsAmong (node_slots n) s → (pairs : List (ℕ × Term ℕ)) × IsAmong (node_slots q.1) pairs × AreLists t u s pairs
  node_lists n q s at (inl e) = (q.1.own, inl refl, subst (λ z. AreLists t u z q.1.own) (sym e) (lists_at q.0 n q.1 own_part at))
  node_lists n q s at (inr (inl e)) = (q.1.top, inr (inl refl), subst (λ z. AreLists t u z q.1.top) (sym e) (lists_at q.0 n q.1 top_part at))
  node_lists n q s at (inr (inr (inl e))) = (q.1.bottom, inr (inr (inl refl)), subst (λ z. AreLists t u z q.1.bottom) (sym e) (lists_at q.0 n q.1 bottom_part at))
  node_lists n q s at (inr (inr (inr i))) = absurd i

  slot_lists : (s : ℕ) → IsAmong (tree_slots t) s → (pairs : List (ℕ × Term ℕ)) × AreLists t u s pairs
  slot_lists s i = elim (IsAmong-append (gathered node_slots (labels t.nodes)) (t.interface ∷ []) s i) [
    | inl j ↦
        let r = gathered_answer IsPlaced (AreLists t u) node_slots (λ (q : ℕ × Node (List (ℕ × Term ℕ))). node_slots q.1) node_lists (labels t.nodes) (labels (numbered 0 u.nodes)) s
        (labels-alike IsPlaced t.nodes (numbered 0 u.nodes) nodes_placed) j in
        (r.0, r.2)
    | inr j ↦ elim j [ inl e ↦ (u.interface, of_interface e refl) | inr k ↦ absurd k ]
  ]

  abbrev AreBeside : Literal (Term ℕ) → Literal (Term ℕ) → Type 0
  AreBeside l k = AllZip (AreInLiterals t u) (literal_terms l) (literal_terms k)

  literals_placed : AllZip AreBeside t.literals u.literals
  literals_placed = zip_at_places AreBeside t.literals u.literals (sym (length-map t.literals count) ∙ ap length is.literals ∙ length-map u.literals count)
      (λ i l k e g.
      let arguments : length l.args ≡ length k.args =
      same_Some (length l.args) (length k.args) (sym (slice_get-mapped count t.literals i l e) ∙ ap (λ z. slice_get z i) is.literals ∙ slice_get-mapped count u.literals i k g) in
      zip_at_places (AreInLiterals t u) (literal_terms l) (literal_terms k) (ap (λ n. suc (suc n)) arguments) (λ j x w p q. of_literal l k (i, e, g) (j, p, q)))
    where
      count : Literal (Term ℕ) → ℕ
      count l = length l.args

  -- ---- what stands for a term

  met_stands : (x : Term ℕ) → IsMet N t x → (w : Term ℕ) × StandsFor N t u w x
  met_stands x (inl (s, a, i, has)) =
      let l = slot_lists s i in
      let w = (is.lists s l.0 l.1).all a x has in
      (w.0, in_list s l.0 a l.1 w.1 has)
  met_stands x (inr i) =
      let r = gathered_answer AreBeside (AreInLiterals t u) literal_terms literal_terms
      (λ l k y h j. zip_answer (AreInLiterals t u) (literal_terms l) (literal_terms k) y h j) t.literals u.literals x literals_placed i in
      (r.0, in_literal r.2)

  -- a term that is met is linked with it
  abbrev IsReached : Term ℕ → Type 0
  IsReached x = (y : Term ℕ) × IsMet N t y × AreLinked N x y

  abbrev IsReachedBy : Term ℕ → Assertion ℕ ℕ → Type 0
  IsReachedBy x (entry r a y) = ((s : ℕ) × IsAmong (tree_slots t) s × AreLinkedSlots N s r) × AreLinked N x y
  IsReachedBy x (equate y z) = ⊥
  IsReachedBy x (link r s) = ⊥

  reached_by : (x : Term ℕ) (e : Assertion ℕ ℕ) → IsDecided (IsReachedBy x e)
  reached_by x (entry r a y) =
      decided_both ((s : ℕ) × IsAmong (tree_slots t) s × AreLinkedSlots N s r) (AreLinked N x y)
      (decided_some (λ s. AreLinkedSlots N s r) (tree_slots t) (λ s i. decided_slots decided_number N s r)) (decided_linked decided_number decided_number N x y)
  reached_by x (equate y z) = inr (λ h. h)
  reached_by x (link r s) = inr (λ h. h)

  abbrev InList : Term ℕ → Type 0
  InList x = (e : Assertion ℕ ℕ) × IsAmong N e × IsReachedBy x e

  abbrev InLiteral : Term ℕ → Type 0
  InLiteral x = (y : Term ℕ) × IsAmong (gathered literal_terms t.literals) y × AreLinked N x y

  entry_reaches : (x : Term ℕ) (e : Assertion ℕ ℕ) → IsAmong N e → IsReachedBy x e → IsReached x
  entry_reaches x (entry r a y) i h = (y, inl (h.0.0, a, h.0.1, (r, h.0.2, i)), h.1)
  entry_reaches x (equate y z) i h = absurd h
  entry_reaches x (link r s) i h = absurd h

  reaching : (x y : Term ℕ) → IsMet N t y → AreLinked N x y → InList x ⊎ InLiteral x
  reaching x y (inl (s, a, i, has)) l = inl (entry has.0 a y, has.2, ((s, i, has.1), l))
  reaching x y (inr i) l = inr (y, i, l)

  decided_reached : (x : Term ℕ) → IsDecided (IsReached x)
  decided_reached x =
      decided_by (InList x ⊎ InLiteral x) (IsReached x) (λ c. elim c [ inl h ↦ entry_reaches x h.0 h.1 h.2 | inr h ↦ (h.0, inr h.1, h.2) ]) (λ h. reaching x h.0 h.1 h.2)
      (decided_either (InList x) (InLiteral x) (decided_some (IsReachedBy x) N (λ e i. reached_by x e))
      (decided_some (λ y. AreLinked N x y) (gathered literal_terms t.literals) (λ y i. decided_linked decided_number decided_number N x y)))

  -- what stands for a term that x is linked with, if there is any
  abbrev chosen : (x : Term ℕ) → IsDecided (IsReached x) → Term ℕ
  chosen x (inl h) = (met_stands h.0 h.1).0
  chosen x (inr n) = name 0

  abbrev there : Term ℕ → Term ℕ
  there x = chosen x (decided_reached x)

  one_chosen : (x y : Term ℕ) → AreLinked N x y → (p : IsDecided (IsReached x)) (q : IsDecided (IsReached y)) → chosen x p ≡ chosen y q
  one_chosen x y l (inl h) (inl k) =
      let a = met_stands h.0 h.1 in
      let b = met_stands k.0 k.1 in
      (is.values a.0 b.0 h.0 k.0 a.1 b.1).1 (next _ _ _ (back _ _ h.2) (next _ _ _ l k.2))
  one_chosen x y l (inl h) (inr n) = absurd (n (h.0, h.1, next _ _ _ (back _ _ l) h.2))
  one_chosen x y l (inr n) (inl k) = absurd (n (k.0, k.1, next _ _ _ l k.2))
  one_chosen x y l (inr n) (inr m) = refl

  chosen_is : (w x : Term ℕ) → StandsFor N t u w x → (p : IsDecided (IsReached x)) → chosen x p ≡ w
  chosen_is w x h (inl k) = let a = met_stands k.0 k.1 in (is.values a.0 w k.0 x a.1 h).1 (back _ _ k.2)
  chosen_is w x h (inr n) = absurd (n (x, stands_met N t u w x h, same x))

  there_stands : (x : Term ℕ) → IsMet N t x → StandsFor N t u (there x) x
  there_stands x i = let w = met_stands x i in subst (λ z. StandsFor N t u z x) (sym (chosen_is w.0 x w.1 (decided_reached x))) w.1

  there_linked : (w x : Term ℕ) → StandsFor N t u w x → AreLinked M (there x) w
  there_linked w x h = subst (λ z. AreLinked M (there x) z) (chosen_is w x h (decided_reached x)) (same (there x))

  equal : (x y : Term ℕ) → AreLinked M x y → x ≡ y
  equal = same_terms u once

  -- ---- the trees answer each other

  slot_same : (s : ℕ) (pairs : List (ℕ × Term ℕ)) (slot : TreeSlot) → AreLists t u s pairs → ((p : ℕ × Term ℕ) → IsAmong pairs p → IsPairAt u slot p) → ((p : ℕ × Term ℕ) → IsPairAt u slot p → IsAmong pairs p)
      → HaveSameValues N M there s slot
  slot_same s pairs slot lists into out = record {
    forth = λ a x has.
        let w = (is.lists s pairs lists).all a x has in
        (w.0, pair_value u slot a w.0 (into (a, w.0) w.1), there_linked w.0 x (in_list s pairs a lists w.1 has));
    back = λ a y has.
        let i = out (a, y) (value_pair u slot a y has) in
        let x = (is.lists s pairs lists).there a y i in
        (x.0, x.1, there_linked y x.0 (in_list s pairs a lists i x.1));
  }

  part_same : (k : ℕ) (n : Node ℕ) (m : Node (List (ℕ × Term ℕ))) (part : Part) → IsPlaced n (k, m) → HaveSameValues N M there (list_of part n) (at_node k part)
  part_same k n m part at =
      slot_same (list_of part n) (list_of part m) (at_node k part) (lists_at k n m part at) (λ p i. (m, at.1, i))
      (λ p h. subst (λ z. IsAmong (list_of part z) p) (same_Some h.0 m (sym h.1 ∙ at.1)) h.2)

  node_same : (n : Node ℕ) (q : ℕ × Node (List (ℕ × Term ℕ))) → IsPlaced n q → AreSameNodes N M there n (slots_at q.0)
  node_same n q at = record { own = part_same q.0 n q.1 own_part at; top = part_same q.0 n q.1 top_part at; bottom = part_same q.0 n q.1 bottom_part at }

  literal_same : (l k : Literal (Term ℕ)) → AreBeside l k → AreSameLiterals N M there l k
  literal_same l k h = record {
    handle = there_linked k.handle l.handle (in_literal h.0);
    pred = there_linked k.pred l.pred (in_literal h.1.0);
    args = AllZip-weaker (AreInLiterals t u) (λ x y. AreLinked M (there x) y) (λ x w i. there_linked w x (in_literal i)) l.args k.args h.1.1;
  }

  answers : AreSameTrees N M there t (slotted u)
  answers = record {
    is_linked = λ x y h. subst (λ z. AreLinked M (there x) z) (one_chosen x y h (decided_reached x) (decided_reached y)) (same (there x));
    classes = λ x y i j l. (is.values (there x) (there y) x y (there_stands x i) (there_stands y j)).0 (equal (there x) (there y) l);
    names = λ x a i.
        let r = is.names (there x) x a (there_stands x i) in
        (λ l. r.0 (equal (there x) (name a) l), λ l. subst (λ z. AreLinked M (there x) z) (r.1 l) (same (there x)));
    nodes = alike_map (AreSameNodes N M there) (λ (q : ℕ × Node (List (ℕ × Term ℕ))). slots_at q.0) t.nodes (numbered 0 u.nodes)
        (AreAlike-weaker IsPlaced (λ n q. AreSameNodes N M there n (slots_at q.0)) node_same t.nodes (numbered 0 u.nodes) nodes_placed);
    interface = slot_same t.interface u.interface at_interface (of_interface refl refl) (λ p i. i) (λ p i. i);
    literals = AllZip-weaker AreBeside (AreSameLiterals N M there) literal_same t.literals u.literals literals_placed;
  }

  pub one_tree : (text : ℕ → List ℕ) (c : Decorated Pairs Label) → IsCanonicalForm text M (slotted u) c → IsCanonicalForm text N t c
  one_tree text c form = carried_form text N M there t (slotted u) c answers form
