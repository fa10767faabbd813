-- The canonical form of a model of what can be written can be written.
use Rattle.std.specs.Prelude.{◌≡◌, ◌≢◌, ℕ, ◌<◌, List, [], ◌∷◌, map, length, codes, Bool, true, false, Option, Some, None, slice_get, ⊤, ◌⊎◌, refl}
use Rattle.std.proofs.Common.{inl, inr, ap, sym, ◌∙◌, subst}
use Rattle.gr_base.specs.Lists.{IsAmong, Each, gathered}
use Rattle.gr_base.specs.Forests.{Forest, labels, AreAlike}
use Rattle.gr_base.proofs.ListLemmas.{Each-at, Each-members, IsAmong-append, IsAmong-append_left, IsAmong-append_right, IsAmong-gathered, IsAmong-gathered_from, Each-map, IsAmong-map_from, IsAmong-slice_get, slice_get-not_none}
use Rattle.gr_base.proofs.ForestLemmas.{labels-map}
use Rattle.gr_base.proofs.Zips.{labels-alike, AllZip-second}
use Rattle.gr_terms.specs.Canonical.{Decorated, Label, Literal, Node, Pairs, named, numbered, node_slots, tree_slots, literal_terms, map_literal, IsMet, IsExact, IsCanonicalForm, ListsSlot, ListsNode}
use Rattle.gr_terms.specs.Constants.{MARK}
use Rattle.gr_terms.specs.Networks.{Term, name, variable, Assertion, entry, equate, link, AreLinked, AreLinkedSlots, HasValue, equated, shared, same, back, next, linked, same_slot, back_slot, next_slot}
use Rattle.td_canon.specs.CanonicalTexts.{text_in}
use Rattle.td_colour.specs.Models.{IsMinimalModel, merged_network, model_tree, node_links, set_links, slots_at}
use Rattle.td_desc.specs.Descriptions.{Description, DescribedNode}
use Rattle.td_forest.specs.Nodes.{IsNodeSet}
use Rattle.td_forest.proofs.Sets.{set_in}
use Rattle.mg_facts.specs.declared.variable.Variable.{Variable}
use Rattle.mg_facts.specs.Said.{Slot, Said, block, related, one_node, identified, is_name, coloured, paired, says}
use Rattle.mg_facts.specs.Meanings.{one_assertions, assertions, literal_of, IsDescribed, IsNode}
use Rattle.tg_reader.specs.Writable.{IsName, IsWord}
use Rattle.mg_lists.proofs.Sayings.{CanSpell, CanPair, CanOwn, CanStandIn, CanStand, CanSay, IsMarkNumber, IsMarkTerm, is_own}

-- ---- forms that can be written

abbrev pub IsMarkLabel : Label → Type 0
IsMarkLabel (named a) = IsMarkNumber a
IsMarkLabel (numbered k) = ⊥

module _ (texts : List (List ℕ)) where
  abbrev pub IsFineLabel : Label → Type 0
  IsFineLabel (named a) = IsName (text_in texts a)
  IsFineLabel (numbered k) = ⊤

  pub record IsFineFeature (p : ℕ × Label) : Type 0 where
    pub attribute : IsWord (text_in texts p.0)
    pub value : IsFineLabel p.1

  pub record IsFineProperty (p : ℕ × Label) : Type 0 where
    pub pair : IsFineFeature p
    pub uncoloured : text_in texts p.0 ≢ codes "color"
    pub mark : p.0 ≡ MARK → IsMarkLabel p.1

  pub record IsFineNode (n : Node Pairs) : Type 0 where
    pub own : Each IsFineProperty n.own
    pub top : Each IsFineFeature n.top
    pub bottom : Each IsFineFeature n.bottom

  pub record IsFineForm (c : Decorated Pairs Label) : Type 0 where
    pub nodes : Each IsFineNode (labels c.nodes)
    pub interface : Each IsFineFeature c.interface
    pub literals : Each (λ l. Each IsFineLabel (literal_terms l)) c.literals

-- ---- lists in step

-- ---- networks of what can be written

module _ (texts : List (List ℕ)) where
  -- what an assertion says can be written: an entry at its slot, the terms of an equation, and own lists are linked with own lists
  abbrev CanAssert : Assertion Variable Slot → Type 0
  CanAssert (entry s a t) = CanStand texts s a t
  CanAssert (equate t u) = CanSpell texts t × CanSpell texts u
  CanAssert (link s u) = is_own s ≡ is_own u

  ones_assert : (x y : Variable) (e : Assertion Variable Slot) → IsAmong (one_assertions x y) e → CanAssert e
  ones_assert x y e (inl q) = subst CanAssert (sym q) (tt, tt)
  ones_assert x y e (inr (inl q)) = subst CanAssert (sym q) refl
  ones_assert x y e (inr (inr (inl q))) = subst CanAssert (sym q) refl
  ones_assert x y e (inr (inr (inr (inl q)))) = subst CanAssert (sym q) refl
  ones_assert x y e (inr (inr (inr (inr i)))) = absurd i

  said_asserts : (s : Said) → CanSay texts s → (e : Assertion Variable Slot) → IsAmong (assertions s) e → CanAssert e
  said_asserts (block x) h e i = absurd i
  said_asserts (related x how y) h e i = absurd i
  said_asserts (one_node x y) h e i = ones_assert x y e i
  said_asserts (identified x y) h e i = ones_assert x y e i
  said_asserts (is_name x a) h e (inl q) = subst CanAssert (sym q) (tt, h)
  said_asserts (is_name x a) h e (inr i) = absurd i
  said_asserts (coloured x c) h e i = absurd i
  said_asserts (paired s a t) h e (inl q) = subst CanAssert (sym q) h
  said_asserts (paired s a t) h e (inr i) = absurd i
  said_asserts (says l) h e i = absurd i

  -- the slots of a described node
  record HasSlots (n : DescribedNode Slot) : Type 0 where
    pub own : is_own n.slots.own ≡ true
    pub top : is_own n.slots.top ≡ false
    pub bottom : is_own n.slots.bottom ≡ false

  module _ (all : List Said) (fine : Each (CanSay texts) all) (d : Description Variable Slot) (is : IsDescribed all d) (F : Forest (List ℕ)) where
    abbrev N : List (Assertion Variable Slot)
    N = merged_network d F

    node_has : (n : DescribedNode Slot) → IsAmong d.nodes n → HasSlots n
    node_has n i =
        let r = AllZip-second (IsNode all) is.variables d.nodes n is.nodes i in
        record { own = ap (λ (s : Node Slot). is_own s.own) r.2.1; top = ap (λ (s : Node Slot). is_own s.top) r.2.1; bottom = ap (λ (s : Node Slot). is_own s.bottom) r.2.1 }

    links_assert : (o p : Option (DescribedNode Slot)) → ((n : DescribedNode Slot) → o ≡ Some n → HasSlots n) → ((n : DescribedNode Slot) → p ≡ Some n → HasSlots n) → (e : Assertion Variable Slot) → IsAmong (node_links o p) e → CanAssert e
    links_assert None p f g e i = absurd i
    links_assert (Some n) None f g e i = absurd i
    links_assert (Some n) (Some k) f g e (inl q) = subst CanAssert (sym q) ((f n refl).own ∙ sym (g k refl).own)
    links_assert (Some n) (Some k) f g e (inr (inl q)) = subst CanAssert (sym q) ((f n refl).top ∙ sym (g k refl).top)
    links_assert (Some n) (Some k) f g e (inr (inr (inl q))) = subst CanAssert (sym q) ((f n refl).bottom ∙ sym (g k refl).bottom)
    links_assert (Some n) (Some k) f g e (inr (inr (inr i))) = absurd i

    set_asserts : (set : List ℕ) (e : Assertion Variable Slot) → IsAmong (set_links d.nodes set) e → CanAssert e
    set_asserts [] e i = absurd i
    set_asserts (x ∷ xs) e i =
        let r = IsAmong-gathered_from (λ y. node_links (slice_get d.nodes x) (slice_get d.nodes y)) xs e i in
        links_assert (slice_get d.nodes x) (slice_get d.nodes r.0)
        (λ n q. node_has n (IsAmong-slice_get d.nodes x n q)) (λ n q. node_has n (IsAmong-slice_get d.nodes r.0 n q)) e r.2

    network_asserts : (e : Assertion Variable Slot) → IsAmong N e → CanAssert e
    network_asserts e i = elim (IsAmong-append d.network (gathered (set_links d.nodes) (labels F)) e i) [
      | inl j ↦
          let r = IsAmong-gathered_from assertions all e (subst (λ z. IsAmong z e) is.network j) in
          said_asserts r.0 (Each-at (CanSay texts) all r.0 fine r.1) e r.2
      | inr j ↦ let r = IsAmong-gathered_from (set_links d.nodes) (labels F) e j in set_asserts r.0 e r.2
    ]

    -- own lists are linked with own lists alone
    same_part : (s u : Slot) → AreLinkedSlots N s u → is_own s ≡ is_own u
    same_part _ _ (linked s u i) = network_asserts (link s u) i
    same_part _ _ (same_slot s) = refl
    same_part _ _ (back_slot s u h) = sym (same_part s u h)
    same_part _ _ (next_slot s t u h k) = same_part s t h ∙ same_part t u k

    value_stands : (s : Slot) (a : ℕ) (t : Term Variable) → HasValue N s a t → CanStand texts s a t
    value_stands s a t (u, l, i) = subst (λ b. CanStandIn texts b a t) (sym (same_part s u l)) (network_asserts (entry u a t) i)

    pair_of : (b : Bool) (a : ℕ) (t : Term Variable) → CanStandIn texts b a t → CanPair texts a t
    pair_of true a t h = h.pair
    pair_of false a t h = h

    -- terms that are linked are the same, or both can be spelled
    both_spelled : (x y : Term Variable) → AreLinked N x y → (x ≡ y) ⊎ (CanSpell texts x × CanSpell texts y)
    both_spelled _ _ (equated x y i) = inr (network_asserts (equate x y) i)
    both_spelled _ _ (shared s t a x y l i j) = inr ((pair_of (is_own s) a x (network_asserts (entry s a x) i)).value, (pair_of (is_own t) a y (network_asserts (entry t a y) j)).value)
    both_spelled _ _ (same x) = inl refl
    both_spelled _ _ (back x y h) = elim (both_spelled x y h) [ inl e ↦ inl (sym e) | inr p ↦ inr (p.1, p.0) ]
    both_spelled _ _ (next x y z h k) = join (both_spelled x y h) (both_spelled y z k)
      where
        join : (x ≡ y) ⊎ (CanSpell texts x × CanSpell texts y) → (y ≡ z) ⊎ (CanSpell texts y × CanSpell texts z) → (x ≡ z) ⊎ (CanSpell texts x × CanSpell texts z)
        join (inl e) (inl f) = inl (e ∙ f)
        join (inl e) (inr p) = inr (subst (CanSpell texts) (sym e) p.0, p.1)
        join (inr p) (inl f) = inr (p.0, subst (CanSpell texts) f p.1)
        join (inr p) (inr q) = inr (p.0, q.1)

    -- ---- labels

    module _ (label : Term Variable → Label) (exact : IsExact N (IsMet N (model_tree d F)) label) where
      fine_label : (x : Term Variable) → IsMet N (model_tree d F) x → CanSpell texts x → IsFineLabel texts (label x)
      fine_label x met can = by (label x) refl
        where
          named_fine : (a : ℕ) → (x ≡ name a) ⊎ (CanSpell texts x × CanSpell texts {V = Variable} (name a)) → IsName (text_in texts a)
          named_fine a (inl e) = subst (CanSpell texts) e can
          named_fine a (inr p) = p.1

          by : (l : Label) → label x ≡ l → IsFineLabel texts l
          by (named a) e = named_fine a (both_spelled x (name a) ((exact.names x a met).0 e))
          by (numbered k) e = tt

      mark_label : (x : Term Variable) → IsMet N (model_tree d F) x → IsMarkTerm x → IsMarkLabel (label x)
      mark_label (name a) met h = subst IsMarkLabel (sym ((exact.names (name a) a met).1 (same (name a)))) h
      mark_label (variable x) met h = absurd h

      -- ---- the lists of slots

      met_at : (s : Slot) (a : ℕ) (x : Term Variable) → IsAmong (tree_slots (model_tree d F)) s → HasValue N s a x → IsMet N (model_tree d F) x
      met_at s a x i h = inl (s, a, i, h)

      fine_pair : (s : Slot) → IsAmong (tree_slots (model_tree d F)) s → (a : ℕ) (x : Term Variable) → HasValue N s a x → IsFineFeature texts (a, label x)
      fine_pair s i a x h =
          let p = pair_of (is_own s) a x (value_stands s a x h) in
          record { attribute = p.attribute; value = fine_label x (met_at s a x i h) p.value }

      features_fine : (s : Slot) (ps : Pairs) → IsAmong (tree_slots (model_tree d F)) s → ListsSlot (text_in texts) N label s ps → Each (IsFineFeature texts) ps
      features_fine s ps i l = Each-members (IsFineFeature texts) ps (λ p j.
          let r = (l.pairs p.0 p.1).0 j in
          subst (λ v. IsFineFeature texts (p.0, v)) (sym r.2) (fine_pair s i p.0 r.0 r.1))

      properties_fine : (s : Slot) (ps : Pairs) → is_own s ≡ true → IsAmong (tree_slots (model_tree d F)) s → ListsSlot (text_in texts) N label s ps → Each (IsFineProperty texts) ps
      properties_fine s ps own i l = Each-members (IsFineProperty texts) ps (λ p j.
          let r = (l.pairs p.0 p.1).0 j in
          let can : CanOwn texts p.0 r.0 = subst (λ b. CanStandIn texts b p.0 r.0) own (value_stands s p.0 r.0 r.1) in
          let both : IsFineProperty texts (p.0, label r.0) = record {
            pair = fine_pair s i p.0 r.0 r.1;
            uncoloured = can.uncoloured;
            mark = λ e. mark_label r.0 (met_at s p.0 r.0 i r.1) (can.mark e);
          } in
          subst (λ v. IsFineProperty texts (p.0, v)) (sym r.2) both)

      -- ---- the nodes of a minimal model

      module _ (minimal : IsMinimalModel d F) where
        -- a set of the model is that of a described node
        set_has : (set : List ℕ) → IsAmong (labels F) set → is_own (slots_at d.nodes d.interface set).own ≡ true
        set_has [] i = absurd ((Each-at IsNodeSet (labels F) [] minimal.model.nodes.forest.sets i).0 refl)
        set_has (x ∷ xs) i = there (slice_get d.nodes x) refl
          where
            within : x < length d.nodes
            within = (minimal.model.nodes.nodes x).0 (set_in F (x ∷ xs) x i (inl refl))

            there : (o : Option (DescribedNode Slot)) → slice_get d.nodes x ≡ o → let n : Node Slot = elim o [ None ↦ record { own = d.interface; top = d.interface; bottom = d.interface } | Some n ↦ n.slots ] in is_own n.own ≡ true
            there None e = absurd (slice_get-not_none d.nodes x within e)
            there (Some n) e = (node_has n (IsAmong-slice_get d.nodes x n e)).own

        slot_there : (n : Node Slot) → IsAmong (labels (model_tree d F).nodes) n → (s : Slot) → IsAmong (node_slots n) s → IsAmong (tree_slots (model_tree d F)) s
        slot_there n i s j = IsAmong-append_left (gathered node_slots (labels (model_tree d F).nodes)) (d.interface ∷ []) s (IsAmong-gathered node_slots (labels (model_tree d F).nodes) n s i j)

        node_fine : (n : Node Slot) (p : Node Pairs) → IsAmong (labels (model_tree d F).nodes) n → is_own n.own ≡ true → ListsNode (text_in texts) N label n p → IsFineNode texts p
        node_fine n p i own l = record {
          own = properties_fine n.own p.own own (slot_there n i n.own (inl refl)) l.own;
          top = features_fine n.top p.top (slot_there n i n.top (inr (inl refl))) l.top;
          bottom = features_fine n.bottom p.bottom (slot_there n i n.bottom (inr (inr (inl refl)))) l.bottom;
        }

        nodes_fine : (g : Forest (Node Pairs)) → AreAlike (ListsNode (text_in texts) N label) (model_tree d F).nodes g → Each (IsFineNode texts) (labels g)
        nodes_fine g alike = Each-members (IsFineNode texts) (labels g) (λ p j.
            let r = AllZip-second (ListsNode (text_in texts) N label) (labels (model_tree d F).nodes) (labels g) p (labels-alike (ListsNode (text_in texts) N label) (model_tree d F).nodes g alike) j in
            let set = IsAmong-map_from (slots_at d.nodes d.interface) (labels F) r.0 (subst (λ z. IsAmong z r.0) (labels-map (slots_at d.nodes d.interface) F) r.1) in
            node_fine r.0 p r.1 (subst (λ (z : Node Slot). is_own z.own ≡ true) (sym set.2) (set_has set.0 set.1)) r.2)

      -- ---- the literals

      literal_said : (l : Literal (Term Variable)) → IsAmong d.literals l → Each (CanSpell texts) (literal_terms l)
      literal_said l i =
          let r = IsAmong-gathered_from literal_of all l (subst (λ z. IsAmong z l) is.literals i) in
          by r.0 (Each-at (CanSay texts) all r.0 fine r.1) r.2
        where
          by : (s : Said) → CanSay texts s → IsAmong (literal_of s) l → Each (CanSpell texts) (literal_terms l)
          by (block x) h j = absurd j
          by (related x how y) h j = absurd j
          by (one_node x y) h j = absurd j
          by (identified x y) h j = absurd j
          by (is_name x a) h j = absurd j
          by (coloured x c) h j = absurd j
          by (paired s a t) h j = absurd j
          by (says k) h (inl e) = subst (λ z. Each (CanSpell texts) (literal_terms z)) (sym e) h
          by (says k) h (inr j) = absurd j

      term_fine : (l : Literal (Term Variable)) → IsAmong d.literals l → (x : Term Variable) → IsAmong (literal_terms l) x → IsFineLabel texts (label x)
      term_fine l i x j = fine_label x (inr (IsAmong-gathered literal_terms d.literals l x i j)) (Each-at (CanSpell texts) (literal_terms l) x (literal_said l i) j)

      literals_fine : Each (λ l. Each (IsFineLabel texts) (literal_terms l)) (map (map_literal label) d.literals)
      literals_fine = Each-members (λ l. Each (IsFineLabel texts) (literal_terms l)) (map (map_literal label) d.literals) (λ k i.
          let r = IsAmong-map_from (map_literal label) d.literals k i in
          subst (λ z. Each (IsFineLabel texts) (literal_terms z)) (sym r.2)
          (Each-map label (IsFineLabel texts) (literal_terms r.0) (Each-members (λ x. IsFineLabel texts (label x)) (literal_terms r.0) (λ x j. term_fine r.0 r.1 x j))))

    -- the form of a minimal model can be written
    pub model_form_fine : IsMinimalModel d F → (c : Decorated Pairs Label) → IsCanonicalForm (text_in texts) N (model_tree d F) c → IsFineForm texts c
    model_form_fine minimal c form = record {
      nodes = nodes_fine form.label form.exact minimal c.nodes form.nodes;
      interface = features_fine form.label form.exact d.interface c.interface
          (IsAmong-append_right (gathered node_slots (labels (model_tree d F).nodes)) (d.interface ∷ []) d.interface (inl refl)) form.interface;
      literals = subst (λ z. Each (λ l. Each (IsFineLabel texts) (literal_terms l)) z) (sym form.literals) (literals_fine form.label form.exact);
    }
