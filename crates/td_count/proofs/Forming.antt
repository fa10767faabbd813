-- A tree whose network agrees has a canonical form.
use Rattle.std.specs.Prelude.{◌≡◌, ℕ, ◌<◌, List, [], ◌∷◌, ◌++◌, map, Bool, true, false, ◌==◌, if◌then◌else◌, ◌⊎◌, refl}
use Rattle.std.proofs.Common.{inl, inr, ap, ap₂, sym, ◌∙◌, subst}
use Rattle.std.proofs.lemmas.Bool.{false≢true}
use Rattle.std.proofs.lemmas.Bool.Decides.{Decides-eqb}
use Rattle.std.proofs.lemmas.List.{map-append}
use Rattle.gr_base.specs.Lists.{IsAmong, InByteOrder, gathered}
use Rattle.gr_base.specs.Forests.{Forest, empty, tree, labels, map_forest, AreAlike}
use Rattle.gr_base.proofs.ListLemmas.{IsAmong-map, IsAmong-map_from, IsAmong-append, IsAmong-append_left, IsAmong-append_right, IsAmong-gathered, IsAmong-gathered_from}
use Rattle.gr_terms.specs.Constants.{CAT}
use Rattle.gr_terms.specs.Networks.{Term, name, Assertion, entry, equate, link, AreLinkedSlots, back_slot, next_slot, AreLinked, shared, same, next, HasValue, Agrees}
use Rattle.gr_terms.specs.Canonical.{literal_terms, map_literal, Node, node_slots, Decorated, tree_slots, Label, Pairs, category, properties, values, node_values, walked, IsNumberedFrom, IsMet, IsExact, ListsSlot, ListsNode, IsCanonicalForm}
use Rattle.td_canon.specs.CanonicalTexts.{IsCanonicalText, TellsAttributesApart}
use Rattle.td_canon.specs.TreeText.{decorated_text}
use Rattle.gr_base.specs.Decisions.{IsDecided, AreToldApart}
use Rattle.gr_base.proofs.Deciding.{decided_number}
use Rattle.gr_base.proofs.ForestLemmas.{labels-map}
use Rattle.gr_base.proofs.Gathering.{gathered-read}
use Rattle.gr_terms.proofs.Agreeing.{decided_slots, when, when_from, when_to}
use Rattle.td_count.proofs.Sorting.{IsSorted, sorted}
use Rattle.td_count.proofs.Labelling.{HasName, number, number-linked, label, label-linked, linked-label, label-name, Classes, classes}

-- ---- lists and forests

alike-map : {A B : Type 0} (R : A → B → Type 0) (f : A → B) (g : Forest A) → ((a : A) → IsAmong (labels g) a → R a (f a)) → AreAlike R g (map_forest f g)
alike-map R f empty h = tt
alike-map R f (tree a kids more) h = (
  h a (inl refl),
  alike-map R f kids (λ b i. h b (inr (IsAmong-append_left (labels kids) (labels more) b i))),
  alike-map R f more (λ b i. h b (inr (IsAmong-append_right (labels kids) (labels more) b i))),
)

-- ---- lists of attributes with terms, and what a walk meets
abbrev Listed : Type 0 → Type 0
Listed V = List (ℕ × Term V)

module _ {V : Type 0} where
  abbrev category_in : Listed V → List (Term V)
  category_in [] = []
  category_in (p ∷ ps) = if p.0 == CAT then (p.1 ∷ []) else category_in ps

  abbrev properties_in : Listed V → Listed V
  properties_in [] = []
  properties_in (p ∷ ps) = if p.0 == CAT then properties_in ps else (p ∷ properties_in ps)

  abbrev values_in : Listed V → List (Term V)
  values_in ps = map (λ p. p.1) ps

  abbrev terms_at : Node (Listed V) → List (Term V)
  terms_at n = category_in n.own ++ values_in (properties_in n.own) ++ values_in n.top ++ values_in n.bottom

  -- a pair of the list is met by its attribute: as the category or among the properties
  category_there : (ps : Listed V) (x : Term V) → IsAmong ps (CAT, x) → (y : Term V) × IsAmong ps (CAT, y) × IsAmong (category_in ps) y
  category_there [] x i = absurd i
  category_there (p ∷ ps) x i = by (p.0 == CAT) refl i (category_there ps x)
    where
      by : (b : Bool) → (p.0 == CAT) ≡ b → IsAmong (p ∷ ps) (CAT, x) → (IsAmong ps (CAT, x) → (y : Term V) × IsAmong ps (CAT, y) × IsAmong (category_in ps) y) →
          (y : Term V) × IsAmong (p ∷ ps) (CAT, y) × IsAmong (if b then (p.1 ∷ []) else category_in ps) y
      by true e j later = (p.1, inl (let same_number : CAT ≡ p.0 = sym ((Decides-eqb p.0 CAT).0 e) in λ k. (same_number k, p.1)), inl refl)
      by false e (inl h) later = absurd (false≢true (sym e ∙ (Decides-eqb p.0 CAT).1 (sym (ap (λ (z : ℕ × Term V). z.0) h))))
      by false e (inr j) later = let r = later j in (r.0, inr r.1, r.2)

  properties_there : (ps : Listed V) (a : ℕ) (x : Term V) → (a ≡ CAT → ⊥) → IsAmong ps (a, x) → IsAmong (properties_in ps) (a, x)
  properties_there [] a x other i = absurd i
  properties_there (p ∷ ps) a x other i = by (p.0 == CAT) refl i (properties_there ps a x other)
    where
      by : (b : Bool) → (p.0 == CAT) ≡ b → IsAmong (p ∷ ps) (a, x) → (IsAmong ps (a, x) → IsAmong (properties_in ps) (a, x)) → IsAmong (if b then properties_in ps else (p ∷ properties_in ps)) (a, x)
      by true e (inl h) later = absurd (other (ap (λ (z : ℕ × Term V). z.0) h ∙ (Decides-eqb p.0 CAT).0 e))
      by true e (inr j) later = later j
      by false e (inl h) later = inl h
      by false e (inr j) later = inr (later j)

  value_there : (ps : Listed V) (a : ℕ) (x : Term V) → IsAmong ps (a, x) → IsAmong (values_in ps) x
  value_there ps a x i = IsAmong-map (λ (p : ℕ × Term V). p.1) ps (a, x) i

  -- some pair of the attribute has a value that is met at the own slot
  own_there : (ps : Listed V) (a : ℕ) (x : Term V) → IsAmong ps (a, x) → IsDecided (a ≡ CAT) → (y : Term V) × IsAmong ps (a, y) × IsAmong (category_in ps ++ values_in (properties_in ps)) y
  own_there ps a x i (inl e) =
      let r = category_there ps x (subst (λ b. IsAmong ps (b, x)) e i) in
      (r.0, subst (λ b. IsAmong ps (b, r.0)) (sym e) r.1, IsAmong-append_left (category_in ps) (values_in (properties_in ps)) r.0 r.2)
  own_there ps a x i (inr n) = (x, i, IsAmong-append_right (category_in ps) (values_in (properties_in ps)) x (value_there (properties_in ps) a x (properties_there ps a x n i)))

  -- with a label for each term
  module _ (f : Term V → Label) where
    abbrev labelled : Listed V → Pairs
    labelled ps = map (λ p. (p.0, f p.1)) ps

    category-labelled : (ps : Listed V) → category (labelled ps) ≡ map f (category_in ps)
    category-labelled [] = refl
    category-labelled (p ∷ ps) = by (p.0 == CAT) (category-labelled ps)
      where
        by : (b : Bool) → category (labelled ps) ≡ map f (category_in ps) → (if b then (f p.1 ∷ []) else category (labelled ps)) ≡ map f (if b then (p.1 ∷ []) else category_in ps)
        by true e = refl
        by false e = e

    properties-labelled : (ps : Listed V) → properties (labelled ps) ≡ labelled (properties_in ps)
    properties-labelled [] = refl
    properties-labelled (p ∷ ps) = by (p.0 == CAT) (properties-labelled ps)
      where
        by : (b : Bool) → properties (labelled ps) ≡ labelled (properties_in ps) → (if b then properties (labelled ps) else ((p.0, f p.1) ∷ properties (labelled ps))) ≡ labelled (if b then properties_in ps else (p ∷ properties_in ps))
        by true e = e
        by false e = ap (λ (l : Pairs). (p.0, f p.1) ∷ l) e

    values-labelled : (ps : Listed V) → values (labelled ps) ≡ map f (values_in ps)
    values-labelled [] = refl
    values-labelled (p ∷ ps) = ap (λ (l : List Label). f p.1 ∷ l) (values-labelled ps)

    abbrev labelled_node : Node (Listed V) → Node Pairs
    labelled_node n = record { own = labelled n.own; top = labelled n.top; bottom = labelled n.bottom }

    map-four : (a b c d : List (Term V)) → map f a ++ map f b ++ map f c ++ map f d ≡ map f (a ++ b ++ c ++ d)
    map-four a b c d =
        ap (λ l. l ++ map f c ++ map f d) (sym (map-append f a b)) ∙ (ap (λ l. l ++ map f d) (sym (map-append f (a ++ b) c)) ∙ sym (map-append f (a ++ b ++ c) d))

    node-labelled : (n : Node (Listed V)) → node_values (labelled_node n) ≡ map f (terms_at n)
    node-labelled n =
        ap (λ l. l ++ values (properties (labelled n.own)) ++ values (labelled n.top) ++ values (labelled n.bottom)) (category-labelled n.own)
        ∙ (ap (λ l. map f (category_in n.own) ++ l ++ values (labelled n.top) ++ values (labelled n.bottom)) (ap values (properties-labelled n.own) ∙ values-labelled (properties_in n.own))
        ∙ (ap₂ (λ l m. map f (category_in n.own) ++ map f (values_in (properties_in n.own)) ++ l ++ m) (values-labelled n.top) (values-labelled n.bottom)
        ∙ map-four (category_in n.own) (values_in (properties_in n.own)) (values_in n.top) (values_in n.bottom)))

-- ---- the pairs at a slot
module _ {V S : Type 0} (variables : AreToldApart V) (slots : AreToldApart S) (text : ℕ → List ℕ) (N : List (Assertion V S)) where
  abbrev key : ℕ × Term V → List ℕ
  key p = text p.0

  abbrev pair_of : S → Assertion V S → List (ℕ × Term V)
  pair_of s (entry p a x) = when (AreLinkedSlots N s p) (decided_slots slots N s p) (a, x)
  pair_of s (equate x y) = []
  pair_of s (link p q) = []

  value_of : (s : S) (e : Assertion V S) (a : ℕ) (x : Term V) → IsAmong N e → IsAmong (pair_of s e) (a, x) → HasValue N s a x
  value_of s (entry p b y) a x i j =
      let w = when_from (AreLinkedSlots N s p) (decided_slots slots N s p) (b, y) (a, x) j in
      let same_attribute : a ≡ b = ap (λ (z : ℕ × Term V). z.0) w.1 in
      let same_value : x ≡ y = ap (λ (z : ℕ × Term V). z.1) w.1 in
      (p, w.0, subst (λ c. IsAmong N (entry p c x)) (sym same_attribute) (subst (λ z. IsAmong N (entry p b z)) (sym same_value) i))
  value_of s (equate y z) a x i j = absurd j
  value_of s (link p q) a x i j = absurd j

  abbrev all_at : S → List (ℕ × Term V)
  all_at s = gathered (pair_of s) N

  all_from : (s : S) (a : ℕ) (x : Term V) → IsAmong (all_at s) (a, x) → HasValue N s a x
  all_from s a x i = let r = IsAmong-gathered_from (pair_of s) N (a, x) i in value_of s r.0 a x r.1 r.2

  all_to : (s : S) (a : ℕ) (x : Term V) → HasValue N s a x → IsAmong (all_at s) (a, x)
  all_to s a x (p, l, i) = IsAmong-gathered (pair_of s) N (entry p a x) (a, x) i (when_to (AreLinkedSlots N s p) (decided_slots slots N s p) (a, x) l)

  abbrev listed : S → List (ℕ × Term V)
  listed s = (sorted key (all_at s)).0

  is_sorted : (s : S) → IsSorted key (all_at s) (listed s)
  is_sorted s = (sorted key (all_at s)).1

  listed_from : (s : S) (a : ℕ) (x : Term V) → IsAmong (listed s) (a, x) → HasValue N s a x
  listed_from s a x i = all_from s a x ((is_sorted s).only (a, x) i)

  -- ---- the tree
  module _ (t : Decorated S (Term V)) (agrees : Agrees N) (apart : TellsAttributesApart text N t) where
    one_value : (p : S) (b : ℕ) (y z : Term V) → HasValue N p b y → HasValue N p b z → AreLinked N y z
    one_value p b y z (q, l, j) (r, m, k) = shared q r b y z (next_slot q p r (back_slot p q l) m) j k

    -- each attribute of a slot of the tree is listed
    listed_to : (s : S) → IsAmong (tree_slots t) s → (a : ℕ) (x : Term V) → HasValue N s a x → (y : Term V) × IsAmong (listed s) (a, y) × AreLinked N x y
    listed_to s i a x h =
        let r = (is_sorted s).all (a, x) (all_to s a x h) in
        let other : HasValue N s r.0.0 r.0.1 = listed_from s r.0.0 r.0.1 r.1 in
        let same_attribute : r.0.0 ≡ a = apart r.0.0 a s s r.0.1 x i i other h r.2 in
        let own : HasValue N s a r.0.1 = subst (λ b. HasValue N s b r.0.1) same_attribute other in
        (r.0.1, subst (λ b. IsAmong (listed s) (b, r.0.1)) same_attribute r.1, one_value s a x r.0.1 h own)

    abbrev node_listed : Node S → Node (List (ℕ × Term V))
    node_listed n = record { own = listed n.own; top = listed n.top; bottom = listed n.bottom }

    abbrev own_terms : Node S → List (Term V)
    own_terms n = category_in (listed n.own) ++ values_in (properties_in (listed n.own))

    abbrev node_terms : Node S → List (Term V)
    node_terms n = terms_at (node_listed n)

    -- the terms that a walk meets
    abbrev walk : List (Term V)
    walk = gathered node_terms (labels t.nodes) ++ values_in (listed t.interface) ++ gathered literal_terms t.literals

    in_nodes : (x : Term V) → IsAmong (gathered node_terms (labels t.nodes)) x → IsAmong walk x
    in_nodes x i =
        IsAmong-append_left (gathered node_terms (labels t.nodes) ++ values_in (listed t.interface)) (gathered literal_terms t.literals) x
        (IsAmong-append_left (gathered node_terms (labels t.nodes)) (values_in (listed t.interface)) x i)

    in_interface : (x : Term V) → IsAmong (values_in (listed t.interface)) x → IsAmong walk x
    in_interface x i =
        IsAmong-append_left (gathered node_terms (labels t.nodes) ++ values_in (listed t.interface)) (gathered literal_terms t.literals) x
        (IsAmong-append_right (gathered node_terms (labels t.nodes)) (values_in (listed t.interface)) x i)

    in_literals : (x : Term V) → IsAmong (gathered literal_terms t.literals) x → IsAmong walk x
    in_literals x i = IsAmong-append_right (gathered node_terms (labels t.nodes) ++ values_in (listed t.interface)) (gathered literal_terms t.literals) x i

    abbrev Walked : Term V → Type 0
    Walked x = (w : Term V) × IsAmong walk w × AreLinked N x w

    -- a value at a slot of a node
    slot_walked : (n : Node S) (s : S) (a : ℕ) (x : Term V) → IsAmong (labels t.nodes) n → IsAmong (tree_slots t) s → IsAmong (node_slots n) s → HasValue N s a x → Walked x
    slot_walked n s a x i j k h = elim k [
      | inl e ↦ at_own (subst (λ z. IsAmong (tree_slots t) z) e j) (subst (λ z. HasValue N z a x) e h)
      | inr l ↦ elim l [
        | inl e ↦ at_top (subst (λ z. IsAmong (tree_slots t) z) e j) (subst (λ z. HasValue N z a x) e h)
        | inr m ↦ elim m [
          | inl e ↦ at_bottom (subst (λ z. IsAmong (tree_slots t) z) e j) (subst (λ z. HasValue N z a x) e h)
          | inr o ↦ absurd o
        ]
      ]
    ]
      where
        at_own : IsAmong (tree_slots t) n.own → HasValue N n.own a x → Walked x
        at_own j h =
            let r = listed_to n.own j a x h in
            let w = own_there (listed n.own) a r.0 r.1 (decided_number a CAT) in
            let there = IsAmong-append_left (own_terms n ++ values_in (listed n.top)) (values_in (listed n.bottom)) w.0 (IsAmong-append_left (own_terms n) (values_in (listed n.top)) w.0 w.2) in
            (w.0, in_nodes w.0 (IsAmong-gathered node_terms (labels t.nodes) n w.0 i there), next x r.0 w.0 r.2 (one_value n.own a r.0 w.0 (listed_from n.own a r.0 r.1) (listed_from n.own a w.0 w.1)))

        at_top : IsAmong (tree_slots t) n.top → HasValue N n.top a x → Walked x
        at_top j h =
            let r = listed_to n.top j a x h in
            let there = IsAmong-append_left (own_terms n ++ values_in (listed n.top)) (values_in (listed n.bottom)) r.0 (IsAmong-append_right (own_terms n) (values_in (listed n.top)) r.0 (value_there (listed n.top) a r.0 r.1)) in
            (r.0, in_nodes r.0 (IsAmong-gathered node_terms (labels t.nodes) n r.0 i there), r.2)

        at_bottom : IsAmong (tree_slots t) n.bottom → HasValue N n.bottom a x → Walked x
        at_bottom j h =
            let r = listed_to n.bottom j a x h in
            let there = IsAmong-append_right (own_terms n ++ values_in (listed n.top)) (values_in (listed n.bottom)) r.0 (value_there (listed n.bottom) a r.0 r.1) in
            (r.0, in_nodes r.0 (IsAmong-gathered node_terms (labels t.nodes) n r.0 i there), r.2)

    met_walked : (x : Term V) → IsMet N t x → Walked x
    met_walked x (inl (s, a, i, h)) = elim (IsAmong-append (gathered node_slots (labels t.nodes)) (t.interface ∷ []) s i) [
      | inl j ↦ let r = IsAmong-gathered_from node_slots (labels t.nodes) s j in slot_walked r.0 s a x r.1 i r.2 h
      | inr (inl e) ↦
          let r = listed_to t.interface (subst (λ z. IsAmong (tree_slots t) z) e i) a x (subst (λ z. HasValue N z a x) e h) in
          (r.0, in_interface r.0 (value_there (listed t.interface) a r.0 r.1), r.2)
      | inr (inr k) ↦ absurd k
    ]
    met_walked x (inr i) = (x, in_literals x i, same x)

    abbrev met_classes : Classes variables slots N agrees [] walk
    met_classes = classes variables slots N agrees [] walk

    abbrev the_label : Term V → Label
    the_label = label variables slots N agrees met_classes.more

    abbrev IsCovered : Term V → Type 0
    IsCovered x = HasName variables slots N agrees x ⊎ (0 < number variables slots N agrees x met_classes.more)

    covered_by : (x w : Term V) → AreLinked N x w → IsCovered w → IsCovered x
    covered_by x w l (inl h) = inl (h.0, next x w (name h.0) l h.1)
    covered_by x w l (inr p) = inr (subst (λ n. 0 < n) (sym (number-linked variables slots N agrees x w met_classes.more l)) p)

    met_covered : (x : Term V) → IsMet N t x → IsCovered x
    met_covered x m = let w = met_walked x m in covered_by x w.0 w.2 (met_classes.covered w.0 w.1)

    label_exact : IsExact N (IsMet N t) the_label
    label_exact = record {
      linked = label-linked variables slots N agrees met_classes.more;
      classes = λ x y p q e. linked-label variables slots N agrees met_classes.more x y (met_covered x p) e;
      names = λ x a m. label-name variables slots N agrees met_classes.more x a;
    }

    keys-labelled : (ps : List (ℕ × Term V)) → map (λ p. text p.0) (labelled the_label ps) ≡ map key ps
    keys-labelled [] = refl
    keys-labelled (p ∷ ps) = ap (λ l. text p.0 ∷ l) (keys-labelled ps)

    abbrev with_label : ℕ × Term V → ℕ × Label
    with_label p = (p.0, the_label p.1)

    slot_listed : (s : S) → IsAmong (tree_slots t) s → ListsSlot text N the_label s (labelled the_label (listed s))
    slot_listed s i = record {
      order = subst InByteOrder (sym (keys-labelled (listed s))) (is_sorted s).order;
      pairs = λ a v. (
        (λ j.
            let r = IsAmong-map_from with_label (listed s) (a, v) j in
            let same_attribute : a ≡ r.0.0 = ap (λ (z : ℕ × Label). z.0) r.2 in
            (r.0.1, subst (λ b. HasValue N s b r.0.1) (sym same_attribute) (listed_from s r.0.0 r.0.1 r.1), ap (λ (z : ℕ × Label). z.1) r.2)),
        (λ h.
            let r = listed_to s i a h.0 h.1 in
            let same_value : v ≡ the_label r.0 = h.2 ∙ label-linked variables slots N agrees met_classes.more h.0 r.0 r.2 in
            subst (λ l. IsAmong (labelled the_label (listed s)) (a, l)) (sym same_value) (IsAmong-map with_label (listed s) (a, r.0) r.1)),
      );
    }

    node_slot : (n : Node S) (s : S) → IsAmong (labels t.nodes) n → IsAmong (node_slots n) s → IsAmong (tree_slots t) s
    node_slot n s i j = IsAmong-append_left (gathered node_slots (labels t.nodes)) (t.interface ∷ []) s (IsAmong-gathered node_slots (labels t.nodes) n s i j)

    abbrev form_node : Node S → Node Pairs
    form_node n = labelled_node the_label (node_listed n)

    node_lists : (n : Node S) → IsAmong (labels t.nodes) n → ListsNode text N the_label n (form_node n)
    node_lists n i = record {
      own = slot_listed n.own (node_slot n n.own i (inl refl));
      top = slot_listed n.top (node_slot n n.top i (inr (inl refl)));
      bottom = slot_listed n.bottom (node_slot n n.bottom i (inr (inr (inl refl))));
    }

    abbrev form : Decorated Pairs Label
    form = record {
      nodes = map_forest form_node t.nodes;
      interface = labelled the_label (listed t.interface);
      literals = map (map_literal the_label) t.literals;
    }

    map-three : (a b c : List (Term V)) → map the_label a ++ map the_label b ++ map the_label c ≡ map the_label (a ++ b ++ c)
    map-three a b c = ap (λ l. l ++ map the_label c) (sym (map-append the_label a b)) ∙ sym (map-append the_label (a ++ b) c)

    walked-form : walked form ≡ map the_label walk
    walked-form =
        ap₂ (λ l m. l ++ values (labelled the_label (listed t.interface)) ++ m)
        (ap (gathered node_values) (labels-map form_node t.nodes) ∙ gathered-read form_node node_values node_terms the_label (λ n. node-labelled the_label (node_listed n)) (labels t.nodes))
        (gathered-read (map_literal the_label) literal_terms literal_terms the_label (λ l. refl) t.literals)
        ∙ (ap (λ l. map the_label (gathered node_terms (labels t.nodes)) ++ l ++ map the_label (gathered literal_terms t.literals)) (values-labelled the_label (listed t.interface))
        ∙ map-three (gathered node_terms (labels t.nodes)) (values_in (listed t.interface)) (gathered literal_terms t.literals))

    canonical : IsCanonicalForm text N t form
    canonical = record {
      label = the_label;
      exact = label_exact;
      nodes = alike-map (ListsNode text N the_label) form_node t.nodes node_lists;
      interface = slot_listed t.interface (IsAmong-append_right (gathered node_slots (labels t.nodes)) (t.interface ∷ []) t.interface (inl refl));
      literals = refl;
      order = subst (IsNumberedFrom 0) (sym walked-form) met_classes.order;
    }

    pub text_there : (bytes : List ℕ) × IsCanonicalText text N t bytes
    text_there = (decorated_text text form, record { form = form; canonical = canonical; spells = refl })
