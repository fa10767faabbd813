-- The form that the writing makes is the canonical form.
use Rattle.std.specs.Prelude.{◌≡◌, ℕ, zero, suc, ◌+◌, Bool, true, false, ◌==◌, List, [], ◌∷◌, ◌++◌, map, length, slice_get, ◌⊎◌, Some, if◌then◌else◌, refl}
use Rattle.std.proofs.Common.{inl, inr, ap, ap₂, sym, ◌∙◌, subst, arith}
use Rattle.std.proofs.lemmas.Bool.{false≢true}
use Rattle.std.proofs.lemmas.Bool.Decides.{Decides-eqb}
use Rattle.std.proofs.lemmas.List.{map-append}
use Rattle.std.proofs.lemmas.Option.{same_Some}
use Rattle.gr_base.specs.Lists.{IsAmong, Each, InByteOrder, IsRising, gathered}
use Rattle.gr_base.specs.Forests.{Forest, empty, tree, AreAlike, labels, map_forest, numbered, size}
use Rattle.gr_base.proofs.ForestLemmas.{length-labels, labels-map}
use Rattle.gr_base.proofs.ListLemmas.{Each-at, Each-left, Each-right, IsAmong-append_left, IsAmong-append_right, IsAmong-map, IsAmong-map_from, IsAmong-slice_get, slice_get-append_left, IsAmong-gathered, slice_get-append_right}
use Rattle.gr_base.proofs.RisingKeys.{IsRising-same}
use Rattle.gr_base.proofs.Gathering.{gathered-read}
use Rattle.gr_terms.specs.Canonical.{Decorated, Label, Node, named, node_values, walked, values, literal_terms, map_literal, IsExact, IsMet, IsNumberedFrom, IsCanonicalForm, ListsNode, ListsSlot}
use Rattle.gr_terms.specs.Constants.{CAT}
use Rattle.gr_terms.specs.Networks.{Term, name, variable, AreLinked, same}
use Rattle.td_tree.specs.TreeNetworks.{TreeSlot, Part, own_part, top_part, bottom_part, at_node, at_interface, slots_at, slotted, tree_network}
use Rattle.td_tree.specs.TreeViews.{Pairs}
use Rattle.td_tree.proofs.TreeNetworkLemmas.{IsPairAt, list_of, pair_value, same_terms, value_pair}
use Rattle.td_canon.specs.Writing.{category_in, forest_terms, form_node, form_of, in_order, label_in, labelled, meet_all, node_terms, properties_in, tree_terms, values_in}
use Rattle.td_canon.proofs.MeetingLemmas.{BeginsWith-same, IsMetIn, IsMetIn-meet_all, IsNumberedFrom-met, labels_apart, named-numbered, same_named}
use Rattle.td_canon.proofs.NodeLemmas.{IsAmong-properties, category-labelled, properties-labelled}
use Rattle.td_canon.proofs.OrderLemmas.{in_order-within, within-in_order}

-- ---- the walk of the form meets the labels of the terms that the walk of the tree meets

values-labelled : (label : Term ℕ → Label) (ps : Pairs) → values (labelled label ps) ≡ map label (values_in ps)
values-labelled label [] = refl
values-labelled label (p ∷ ps) = ap (λ ls. label p.1 ∷ ls) (values-labelled label ps)

module _ (text : ℕ → List ℕ) (label : Term ℕ → Label) where
  node_values-form : (n : Node Pairs) → node_values (form_node text label n) ≡ map label (node_terms text n)
  node_values-form n =
      ap₂ (λ xs ys. ((xs ++ ys) ++ values (labelled label top)) ++ values (labelled label bottom)) (category-labelled label own) (ap values (properties-labelled label own) ∙ values-labelled label (properties_in own))
      ∙ ap₂ (λ xs ys. ((map label (category_in own) ++ map label (values_in (properties_in own))) ++ xs) ++ ys) (values-labelled label top) (values-labelled label bottom)
      ∙ ap (λ xs. (xs ++ map label (values_in top)) ++ map label (values_in bottom)) (sym (map-append label (category_in own) (values_in (properties_in own))))
      ∙ ap (λ xs. xs ++ map label (values_in bottom)) (sym (map-append label (category_in own ++ values_in (properties_in own)) (values_in top)))
      ∙ sym (map-append label ((category_in own ++ values_in (properties_in own)) ++ values_in top) (values_in bottom))
    where
      own : Pairs
      own = in_order text n.own

      top : Pairs
      top = in_order text n.top

      bottom : Pairs
      bottom = in_order text n.bottom

  pub walked-form : (d : Decorated Pairs (Term ℕ)) → walked (form_of text label d) ≡ map label (tree_terms text d)
  walked-form d =
      ap₂ (λ xs ys. (xs ++ ys) ++ gathered literal_terms (map (map_literal label) d.literals))
      (ap (gathered node_values) (labels-map (form_node text label) d.nodes) ∙ gathered-read (form_node text label) node_values (node_terms text) label node_values-form (labels d.nodes))
      (values-labelled label (in_order text d.interface))
      ∙ ap (λ xs. (map label (forest_terms text d.nodes) ++ map label (values_in (in_order text d.interface))) ++ xs) (gathered-read (map_literal label) literal_terms literal_terms label (λ l. refl) d.literals)
      ∙ ap (λ xs. xs ++ map label (gathered literal_terms d.literals)) (sym (map-append label (forest_terms text d.nodes) (values_in (in_order text d.interface))))
      ∙ sym (map-append label (forest_terms text d.nodes ++ values_in (in_order text d.interface)) (gathered literal_terms d.literals))

-- ---- lists that can be put in order

pub record IsOrderedPairs (text : ℕ → List ℕ) (ps : Pairs) : Type 0 where
  pub rising : IsRising (map (λ (p : ℕ × Term ℕ). p.0) ps)
  pub order : InByteOrder (map (λ (p : ℕ × Term ℕ). text p.0) (in_order text ps))

pub record AreOrderedLists (text : ℕ → List ℕ) (n : Node Pairs) : Type 0 where
  pub own : IsOrderedPairs text n.own
  pub top : IsOrderedPairs text n.top
  pub bottom : IsOrderedPairs text n.bottom

pub record IsOrderedTree (text : ℕ → List ℕ) (d : Decorated Pairs (Term ℕ)) : Type 0 where
  pub nodes : Each (AreOrderedLists text) (labels d.nodes)
  pub interface : IsOrderedPairs text d.interface

pub one_value : (text : ℕ → List ℕ) (ps : Pairs) (a : ℕ) (x y : Term ℕ) → IsOrderedPairs text ps → IsAmong ps (a, x) → IsAmong ps (a, y) → x ≡ y
one_value text ps a x y ordered i j = ap (λ (p : ℕ × Term ℕ). p.1) (IsRising-same (λ (p : ℕ × Term ℕ). p.0) ps (a, x) (a, y) ordered.rising i j refl)

part_ordered : (text : ℕ → List ℕ) (n : Node Pairs) (part : Part) → AreOrderedLists text n → IsOrderedPairs text (list_of part n)
part_ordered text n own_part ordered = ordered.own
part_ordered text n top_part ordered = ordered.top
part_ordered text n bottom_part ordered = ordered.bottom

-- ---- each value is met

category_there : (ps : Pairs) (x : Term ℕ) → IsAmong ps (CAT, x) → (y : Term ℕ) × (category_in ps ≡ y ∷ []) × IsAmong ps (CAT, y)
category_there [] x i = absurd i
category_there (p ∷ ps) x i = by (p.0 == CAT) refl i (category_there ps x)
  where
    by : (b : Bool) → (p.0 == CAT) ≡ b → IsAmong (p ∷ ps) (CAT, x) → (IsAmong ps (CAT, x) → (y : Term ℕ) × (category_in ps ≡ y ∷ []) × IsAmong ps (CAT, y)) →
        (y : Term ℕ) × ((if b then (p.1 ∷ []) else category_in ps) ≡ y ∷ []) × IsAmong (p ∷ ps) (CAT, y)
    by true e j later = (p.1, refl, inl (let same_number : CAT ≡ p.0 = sym ((Decides-eqb p.0 CAT).0 e) in λ k. (same_number k, p.1)))
    by false e (inl h) later = absurd (false≢true (sym e ∙ (Decides-eqb p.0 CAT).1 (sym (ap (λ (z : ℕ × Term ℕ). z.0) h))))
    by false e (inr j) later = let r = later j in (r.0, r.1, inr r.2)

same_or_other : (a : ℕ) → (a ≡ CAT) ⊎ (a ≡ CAT → ⊥)
same_or_other a = by (a == CAT) refl
  where
    by : (b : Bool) → (a == CAT) ≡ b → (a ≡ CAT) ⊎ (a ≡ CAT → ⊥)
    by true e = inl ((Decides-eqb a CAT).0 e)
    by false e = inr (λ h. false≢true (sym e ∙ (Decides-eqb a CAT).1 h))

module _ (text : ℕ → List ℕ) where
  pub value-met : (ps : Pairs) (a : ℕ) (x : Term ℕ) → IsAmong ps (a, x) → IsAmong (values_in (in_order text ps)) x
  value-met ps a x i = IsAmong-map (λ (p : ℕ × Term ℕ). p.1) (in_order text ps) (a, x) (within-in_order text ps (a, x) i)

  own-met : (ps : Pairs) (a : ℕ) (x : Term ℕ) → IsOrderedPairs text ps → IsAmong ps (a, x) → IsAmong (category_in (in_order text ps) ++ values_in (properties_in (in_order text ps))) x
  own-met ps a x ordered i = by (same_or_other a)
    where
      qs : Pairs
      qs = in_order text ps

      by : (a ≡ CAT) ⊎ (a ≡ CAT → ⊥) → IsAmong (category_in (in_order text ps) ++ values_in (properties_in (in_order text ps))) x
      by (inl e) =
          let is_category : IsAmong ps (CAT, x) = subst (λ b. IsAmong ps (b, x)) e i in
          let r = category_there (in_order text ps) x (within-in_order text ps (CAT, x) is_category) in
          let same_value : x ≡ r.0 = one_value text ps CAT x r.0 ordered is_category (in_order-within text ps (CAT, r.0) r.2) in
          IsAmong-append_left (category_in (in_order text ps)) (values_in (properties_in (in_order text ps))) x (subst (λ ts. IsAmong ts x) (sym r.1) (inl same_value))
      by (inr other) =
          IsAmong-append_right (category_in (in_order text ps)) (values_in (properties_in (in_order text ps))) x
          (IsAmong-map (λ (p : ℕ × Term ℕ). p.1) (properties_in (in_order text ps)) (a, x) (IsAmong-properties (in_order text ps) (a, x) (within-in_order text ps (a, x) i) other))

  pub node-met : (n : Node Pairs) (part : Part) (a : ℕ) (x : Term ℕ) → AreOrderedLists text n → IsAmong (list_of part n) (a, x) → IsAmong (node_terms text n) x
  node-met n own_part a x ordered i =
      let own = category_in (in_order text n.own) ++ values_in (properties_in (in_order text n.own)) in
      IsAmong-append_left (own ++ values_in (in_order text n.top)) (values_in (in_order text n.bottom)) x (IsAmong-append_left own (values_in (in_order text n.top)) x (own-met n.own a x ordered.own i))
  node-met n top_part a x ordered i =
      let own = category_in (in_order text n.own) ++ values_in (properties_in (in_order text n.own)) in
      IsAmong-append_left (own ++ values_in (in_order text n.top)) (values_in (in_order text n.bottom)) x (IsAmong-append_right own (values_in (in_order text n.top)) x (value-met n.top a x i))
  node-met n bottom_part a x ordered i =
      let own = category_in (in_order text n.own) ++ values_in (properties_in (in_order text n.own)) in
      IsAmong-append_right (own ++ values_in (in_order text n.top)) (values_in (in_order text n.bottom)) x (value-met n.bottom a x i)

  module _ (d : Decorated Pairs (Term ℕ)) (ordered : IsOrderedTree text d) where
    pair-met : (s : TreeSlot) (a : ℕ) (x : Term ℕ) → IsPairAt d s (a, x) → IsAmong (tree_terms text d) x
    pair-met (at_node n part) a x (lists, at, i) =
        let among : IsAmong (labels d.nodes) lists = IsAmong-slice_get (labels d.nodes) n lists at in
        IsAmong-append_left (forest_terms text d.nodes ++ values_in (in_order text d.interface)) (gathered literal_terms d.literals) x
        (IsAmong-append_left (forest_terms text d.nodes) (values_in (in_order text d.interface)) x
        (IsAmong-gathered (node_terms text) (labels d.nodes) lists x among (node-met lists part a x (Each-at (AreOrderedLists text) (labels d.nodes) lists ordered.nodes among) i)))
    pair-met at_interface a x i =
        IsAmong-append_left (forest_terms text d.nodes ++ values_in (in_order text d.interface)) (gathered literal_terms d.literals) x
        (IsAmong-append_right (forest_terms text d.nodes) (values_in (in_order text d.interface)) x (value-met d.interface a x i))

    pub term-met : (x : Term ℕ) → IsMet (tree_network d) (slotted d) x → IsAmong (tree_terms text d) x
    term-met x (inl (s, a, i, h)) = pair-met s a x (value_pair d s a x h)
    term-met x (inr i) = IsAmong-append_right (forest_terms text d.nodes ++ values_in (in_order text d.interface)) (gathered literal_terms d.literals) x i

    pub one_value_at : (s : TreeSlot) (a : ℕ) (x y : Term ℕ) → IsPairAt d s (a, x) → IsPairAt d s (a, y) → x ≡ y
    one_value_at (at_node n part) a x y (lists, at, i) (others, at', j) =
        let same_lists : lists ≡ others = same_Some lists others (sym at ∙ at') in
        one_value text (list_of part lists) a x y
        (part_ordered text lists part (Each-at (AreOrderedLists text) (labels d.nodes) lists ordered.nodes (IsAmong-slice_get (labels d.nodes) n lists at)))
        i (subst (λ z. IsAmong (list_of part z) (a, y)) (sym same_lists) j)
    one_value_at at_interface a x y i j = one_value text d.interface a x y ordered.interface i j

    -- ---- the labels are exact

    abbrev pub all_met : List ℕ
    all_met = meet_all [] (tree_terms text d)

    met_in : (x : Term ℕ) → IsMet (tree_network d) (slotted d) x → IsMetIn all_met x
    met_in x met = IsMetIn-meet_all [] (tree_terms text d) x (term-met x met)

    linked_same : (x y : Term ℕ) → AreLinked (tree_network d) x y → x ≡ y
    linked_same = same_terms d one_value_at

    exact_name : (x : Term ℕ) (a : ℕ) → label_in all_met x ≡ named a → AreLinked (tree_network d) x (name a)
    exact_name (name b) a e = subst (λ c. AreLinked (tree_network d) (name b) (name c)) (same_named b a e) (same (name b))
    exact_name (variable v) a e = named-numbered a _ (sym e)

    exact : IsExact (tree_network d) (IsMet (tree_network d) (slotted d)) (label_in all_met)
    exact = record {
      linked = λ x y h. ap (label_in all_met) (linked_same x y h);
      classes = λ x y i j e. subst (λ z. AreLinked (tree_network d) x z) (labels_apart all_met x y (met_in x i) (met_in y j) e) (same x);
      names = λ x a i. (exact_name x a, λ h. ap (label_in all_met) (linked_same x (name a) h));
    }

    -- ---- each slot has its list

    pub attributes-labelled : (label : Term ℕ → Label) (qs : Pairs) → map (λ p. text p.0) (labelled label qs) ≡ map (λ (p : ℕ × Term ℕ). text p.0) qs
    attributes-labelled label [] = refl
    attributes-labelled label (q ∷ qs) = ap (λ ks. text q.0 ∷ ks) (attributes-labelled label qs)

    lists_slot : (label : Term ℕ → Label) (s : TreeSlot) (ps : Pairs) → ((a : ℕ) (x : Term ℕ) → IsPairAt d s (a, x) → IsAmong ps (a, x)) → ((a : ℕ) (x : Term ℕ) → IsAmong ps (a, x) → IsPairAt d s (a, x)) →
        IsOrderedPairs text ps → ListsSlot text (tree_network d) label s (labelled label (in_order text ps))
    lists_slot label s ps there back good = record {
      order = subst (λ ks. InByteOrder ks) (sym (attributes-labelled label (in_order text ps))) good.order;
      pairs = λ a v. (
        λ i.
            let r = IsAmong-map_from (λ (p : ℕ × Term ℕ). (p.0, label p.1)) (in_order text ps) (a, v) i in
            let attribute : a ≡ r.0.0 = ap (λ (z : ℕ × Label). z.0) r.2 in
            let value : v ≡ label r.0.1 = ap (λ (z : ℕ × Label). z.1) r.2 in
            let among : IsAmong ps (a, r.0.1) = subst (λ b. IsAmong ps (b, r.0.1)) (sym attribute) (in_order-within text ps r.0 r.1) in
            (r.0.1, pair_value d s a r.0.1 (back a r.0.1 among), value),
        λ (x, h, e).
            subst (λ z. IsAmong (labelled label (in_order text ps)) (a, z)) (sym e)
            (IsAmong-map (λ (p : ℕ × Term ℕ). (p.0, label p.1)) (in_order text ps) (a, x) (within-in_order text ps (a, x) (there a x (value_pair d s a x h)))),
      );
    }

    lists_node : (label : Term ℕ → Label) (n : ℕ) (lists : Node Pairs) → slice_get (labels d.nodes) n ≡ Some lists → AreOrderedLists text lists →
        ListsNode text (tree_network d) label (slots_at n) (form_node text label lists)
    lists_node label n lists at good = record {
      own = lists_slot label (at_node n own_part) lists.own (λ a x h. here own_part a x h) (λ a x i. (lists, at, i)) good.own;
      top = lists_slot label (at_node n top_part) lists.top (λ a x h. here top_part a x h) (λ a x i. (lists, at, i)) good.top;
      bottom = lists_slot label (at_node n bottom_part) lists.bottom (λ a x h. here bottom_part a x h) (λ a x i. (lists, at, i)) good.bottom;
    }
      where
        here : (part : Part) (a : ℕ) (x : Term ℕ) → IsPairAt d (at_node n part) (a, x) → IsAmong (list_of part lists) (a, x)
        here part a x (others, at', i) = subst (λ z. IsAmong (list_of part z) (a, x)) (same_Some others lists (sym at' ∙ at)) i

    lists_forest : (label : Term ℕ → Label) (k : ℕ) (f : Forest (Node Pairs)) → ((i : ℕ) (lists : Node Pairs) → slice_get (labels f) i ≡ Some lists → slice_get (labels d.nodes) (k + i) ≡ Some lists) →
        Each (AreOrderedLists text) (labels f) → AreAlike (ListsNode text (tree_network d) label) (map_forest (λ p. slots_at p.0) (numbered k f)) (map_forest (form_node text label) f)
    lists_forest label k empty at good = tt
    lists_forest label k (tree lists kids more) at good =
        let count : length (labels kids) ≡ size kids = length-labels kids in (
          lists_node label k lists (subst (λ m. slice_get (labels d.nodes) m ≡ Some lists) (omega arith) (at zero lists refl)) good.0,
          lists_forest label (suc k) kids
              (λ i others h. subst (λ m. slice_get (labels d.nodes) m ≡ Some others) (omega arith) (at (suc i) others (slice_get-append_left (labels kids) (labels more) i others h)))
              (Each-left (AreOrderedLists text) (labels kids) (labels more) good.1),
          lists_forest label (suc k + size kids) more
              (λ i others h. subst (λ m. slice_get (labels d.nodes) m ≡ Some others) (omega arith) (at (suc (length (labels kids) + i)) others (slice_get-append_right (labels kids) (labels more) i ∙ h)))
              (Each-right (AreOrderedLists text) (labels kids) (labels more) good.1),
        )

    -- ---- so the form is canonical

    pub canonical_form : IsCanonicalForm text (tree_network d) (slotted d) (form_of text (label_in all_met) d)
    canonical_form = record {
      label = label_in all_met;
      exact = exact;
      nodes = lists_forest (label_in all_met) 0 d.nodes (λ i lists h. subst (λ m. slice_get (labels d.nodes) m ≡ Some lists) (omega arith) h) ordered.nodes;
      interface = lists_slot (label_in all_met) at_interface d.interface (λ a x h. h) (λ a x h. h) ordered.interface;
      literals = refl;
      order = subst (λ ls. IsNumberedFrom 0 ls) (sym (walked-form text (label_in all_met) d)) (IsNumberedFrom-met [] (tree_terms text d) all_met (BeginsWith-same all_met));
    }
