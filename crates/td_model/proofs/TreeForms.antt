-- A tree with the canonical bags of the slots of another one has the same canonical forms.
use Rattle.std.specs.Prelude.{◌≡◌, ℕ, zero, suc, ◌+◌, List, [], ◌∷◌, map, length, ◌↔◌, slice_get, Some, refl}
use Rattle.std.specs.List.{AllZip}
use Rattle.std.proofs.Common.{inl, inr, ap, sym, ◌∙◌, subst, arith}
use Rattle.std.proofs.lemmas.Option.{same_Some}
use Rattle.gr_base.specs.Lists.{IsAmong, IsRising, Each, gathered}
use Rattle.gr_base.specs.Forests.{Forest, empty, tree, labels, map_forest, numbered, size, AreAlike}
use Rattle.gr_base.proofs.ForestLemmas.{length-labels, AreAlike-weaker}
use Rattle.gr_base.proofs.ListLemmas.{Each-at, Each-append, IsAmong-append, IsAmong-map_from, IsAmong-slice_get, slice_get-append_left, slice_get-append_right}
use Rattle.gr_base.proofs.RisingKeys.{IsRising-same}
use Rattle.gr_base.proofs.Zips.{labels-alike}
use Rattle.gr_terms.specs.BagViews.{pairs_of}
use Rattle.gr_terms.specs.Canonical.{Decorated, Label, Literal, Node, Pairs as LabelPairs, node_slots, tree_slots, literal_terms, IsMet, IsCanonicalForm}
use Rattle.gr_terms.specs.LiteralViews.{literal_of, literals_of}
use Rattle.gr_terms.specs.Networks.{Term, Assertion, name, Agrees, AreLinked, HasValue, same, back, next}
use Rattle.gr_terms.specs.Views.{term_of}
use Rattle.gr_terms.specs.declared.Literal as code_literal
use Rattle.gr_terms.specs.declared.Sym.{Sym}
use Rattle.gr_terms.specs.declared.Term as code
use Rattle.gr_terms.specs.declared.Term.TheVariants.{Const, Var}
use Rattle.gr_terms.proofs.ViewLemmas.{IsAmong-pairs_of, IsRising-pairs_of}
use Rattle.gr_feats.specs.CanonicalBags.{IsCanonicalBag, StandsFor}
use Rattle.gr_feats.proofs.CanonicalLemmas.{stands_one}
use Rattle.td_tree.specs.Trees.{BagPairs}
use Rattle.td_tree.specs.TreeNetworks.{Part, own_part, top_part, bottom_part, TreeSlot, at_node, at_interface, slots_at, slotted, tree_network}
use Rattle.td_tree.specs.TreeViews.{Pairs, decorated_of, lists_of}
use Rattle.td_tree.specs.declared.Tree.{Tree}
use Rattle.td_tree.proofs.TreeNetworkLemmas.{IsPairAt, list_of, pair_value, same_terms, value_pair}
use Rattle.td_tree.proofs.SameForms.{carried_form, gathered_answer, zip_answer}
use Rattle.td_model.specs.CanonicalTrees.{HasBags, StandsForLiteral, IsCanonicalTree}
use Rattle.td_tree.specs.Forms.{HaveSameValues, AreSameNodes, AreSameLiterals, AreSameTrees}
use Rattle.td_model.proofs.LeastTerms.{least_term, least_stands}

-- ---- lists and forests the other way round

AreAlike-flip : {A B : Type 0} (R : A → B → Type 0) (f : Forest A) (g : Forest B) → AreAlike R f g → AreAlike (λ b a. R a b) g f
AreAlike-flip R empty empty h = tt
AreAlike-flip R empty (tree b others rest) h = absurd h
AreAlike-flip R (tree a kids more) empty h = absurd h
AreAlike-flip R (tree a kids more) (tree b others rest) h = (h.0, AreAlike-flip R kids others h.1, AreAlike-flip R more rest h.2)

-- a zipped list with f of each element of the second, and the other way round
zip_right : {A B C : Type 0} (R : A → B → Type 0) (Q : A → C → Type 0) (f : B → C) → ((a : A) (b : B) → R a b → Q a (f b)) → (xs : List A) (ys : List B) → AllZip R xs ys → AllZip Q xs (map f ys)
zip_right R Q f one [] [] h = tt
zip_right R Q f one [] (y ∷ ys) h = absurd h
zip_right R Q f one (x ∷ xs) [] h = absurd h
zip_right R Q f one (x ∷ xs) (y ∷ ys) h = (one x y h.0, zip_right R Q f one xs ys h.1)

zip_flip : {A B C : Type 0} (R : A → B → Type 0) (Q : C → A → Type 0) (f : B → C) → ((a : A) (b : B) → R a b → Q (f b) a) → (xs : List A) (ys : List B) → AllZip R xs ys → AllZip Q (map f ys) xs
zip_flip R Q f one [] [] h = tt
zip_flip R Q f one [] (y ∷ ys) h = absurd h
zip_flip R Q f one (x ∷ xs) [] h = absurd h
zip_flip R Q f one (x ∷ xs) (y ∷ ys) h = (one x y h.0, zip_flip R Q f one xs ys h.1)

-- ---- what stands for a term

pub stands_linked : (N : List (Assertion ℕ ℕ)) (z : Term ℕ) (v : code.Term) → StandsFor N z v → AreLinked N z (term_of v)
stands_linked N z (Const p) h = h
stands_linked N z (Var v) h = h.1.0

-- the lists of a node have each attribute once
record AreRisingLists (n : Node Pairs) : Type 0 where
  pub own : IsRising (map (λ (p : ℕ × Term ℕ). p.0) n.own)
  pub top : IsRising (map (λ (p : ℕ × Term ℕ). p.0) n.top)
  pub bottom : IsRising (map (λ (p : ℕ × Term ℕ). p.0) n.bottom)

part_rising : (n : Node Pairs) (part : Part) → AreRisingLists n → IsRising (map (λ (p : ℕ × Term ℕ). p.0) (list_of part n))
part_rising n own_part h = h.own
part_rising n top_part h = h.top
part_rising n bottom_part h = h.bottom

module _ (N : List (Assertion ℕ ℕ)) (u : Decorated ℕ (Term ℕ)) (t : Tree) (agrees : Agrees N) (is : IsCanonicalTree N u t) where
  abbrev d : Decorated Pairs (Term ℕ)
  d = decorated_of is.nodes.forest t

  abbrev M : List (Assertion ℕ TreeSlot)
  M = tree_network d

  -- ---- the tree's network links nothing

  rising_lists : (g : Forest (Node ℕ)) (f : Forest (Node BagPairs)) → AreAlike (HasBags N) g f → Each AreRisingLists (labels (map_forest lists_of f))
  rising_lists empty empty h = tt
  rising_lists empty (tree b others rest) h = absurd h
  rising_lists (tree n kids more) empty h = absurd h
  rising_lists (tree n kids more) (tree b others rest) h = (
    record { own = IsRising-pairs_of b.own h.0.own.listed; top = IsRising-pairs_of b.top h.0.top.listed; bottom = IsRising-pairs_of b.bottom h.0.bottom.listed },
    Each-append AreRisingLists (labels (map_forest lists_of others)) (labels (map_forest lists_of rest)) (rising_lists kids others h.1) (rising_lists more rest h.2),
  )

  one_of : (ps : Pairs) (a : ℕ) (x y : Term ℕ) → IsRising (map (λ (p : ℕ × Term ℕ). p.0) ps) → IsAmong ps (a, x) → IsAmong ps (a, y) → x ≡ y
  one_of ps a x y rising i j = ap (λ (p : ℕ × Term ℕ). p.1) (IsRising-same (λ (p : ℕ × Term ℕ). p.0) ps (a, x) (a, y) rising i j refl)

  once : (s : TreeSlot) (a : ℕ) (x y : Term ℕ) → IsPairAt d s (a, x) → IsPairAt d s (a, y) → x ≡ y
  once (at_node n part) a x y (lists, at, i) (others, at', j) =
      let same_lists : lists ≡ others = same_Some lists others (sym at ∙ at') in
      let rising : AreRisingLists lists = Each-at AreRisingLists (labels d.nodes) lists (rising_lists u.nodes is.nodes.forest is.bags) (IsAmong-slice_get (labels d.nodes) n lists at) in
      one_of (list_of part lists) a x y (part_rising lists part rising) i (subst (λ z. IsAmong (list_of part z) (a, y)) (sym same_lists) j)
  once at_interface a x y i j = one_of (pairs_of t.iface) a x y (IsRising-pairs_of t.iface is.interface.listed) i j

  equal : (x y : Term ℕ) → AreLinked M x y → x ≡ y
  equal = same_terms d once

  -- ---- places of the tree answer the slots

  -- x is what stands for z
  abbrev Represents : Term ℕ → Term ℕ → Type 0
  Represents x z = (v : code.Term) × StandsFor N z v × (x ≡ term_of v)

  record SlotHas (r : ℕ) (s : TreeSlot) : Type 0 where
    pub of_pair : (a : ℕ) (x : Term ℕ) → HasValue M s a x → (z : Term ℕ) × HasValue N r a z × Represents x z
    pub to_pair : (a : ℕ) (z : Term ℕ) (v : code.Term) → HasValue N r a z → StandsFor N z v → HasValue M s a (term_of v)

  record NodeHas (n : Node ℕ) (p : Node TreeSlot) : Type 0 where
    pub own : SlotHas n.own p.own
    pub top : SlotHas n.top p.top
    pub bottom : SlotHas n.bottom p.bottom

  slot_has : (r : ℕ) (s : TreeSlot) (bag : BagPairs) → IsCanonicalBag N r bag → ((p : ℕ × Term ℕ) → IsPairAt d s p → IsAmong (pairs_of bag) p) → ((p : ℕ × Term ℕ) → IsAmong (pairs_of bag) p → IsPairAt d s p) → SlotHas r s
  slot_has r s bag canonical there home = record {
    of_pair = λ a x has.
        let m = IsAmong-map_from (λ (p : Sym × code.Term). (p.0.0, term_of p.1)) bag (a, x) (there (a, x) (value_pair d s a x has)) in
        let z = (canonical.pairs m.0.0 m.0.1).0 m.1 in
        let attribute : a ≡ m.0.0.0 = ap (λ (p : ℕ × Term ℕ). p.0) m.2 in
        (z.0, subst (λ b. HasValue N r b z.0) (sym attribute) z.1, (m.0.1, z.2, ap (λ (p : ℕ × Term ℕ). p.1) m.2));
    to_pair = λ a z v has stands.
        let attr : Sym = record { 0 = a } in
        pair_value d s a (term_of v) (home (a, term_of v) ((IsAmong-pairs_of bag attr v).1 ((canonical.pairs attr v).1 (z, has, stands))));
  }

  here : (k : ℕ) (part : Part) (lists : Node Pairs) → slice_get (labels d.nodes) k ≡ Some lists → (p : ℕ × Term ℕ) → IsPairAt d (at_node k part) p → IsAmong (list_of part lists) p
  here k part lists at p (others, at', i) = subst (λ z. IsAmong (list_of part z) p) (same_Some others lists (sym at' ∙ at)) i

  node_has : (k : ℕ) (n : Node ℕ) (b : Node BagPairs) → slice_get (labels d.nodes) k ≡ Some (lists_of b) → HasBags N n b → NodeHas n (slots_at k)
  node_has k n b at h = record {
    own = slot_has n.own (at_node k own_part) b.own h.own (here k own_part (lists_of b) at) (λ p i. (lists_of b, at, i));
    top = slot_has n.top (at_node k top_part) b.top h.top (here k top_part (lists_of b) at) (λ p i. (lists_of b, at, i));
    bottom = slot_has n.bottom (at_node k bottom_part) b.bottom h.bottom (here k bottom_part (lists_of b) at) (λ p i. (lists_of b, at, i));
  }

  forest_has : (k : ℕ) (g : Forest (Node ℕ)) (f : Forest (Node BagPairs)) → ((i : ℕ) (lists : Node Pairs) → slice_get (labels (map_forest lists_of f)) i ≡ Some lists → slice_get (labels d.nodes) (k + i) ≡ Some lists)
      → AreAlike (HasBags N) g f → AreAlike NodeHas g (map_forest (λ p. slots_at p.0) (numbered k (map_forest lists_of f)))
  forest_has k empty empty at h = tt
  forest_has k empty (tree b others rest) at h = absurd h
  forest_has k (tree n kids more) empty at h = absurd h
  forest_has k (tree n kids more) (tree b others rest) at h =
      let under = labels (map_forest lists_of others) in
      let behind = labels (map_forest lists_of rest) in
      let count : length under ≡ size (map_forest lists_of others) = length-labels (map_forest lists_of others) in (
        node_has k n b (subst (λ m. slice_get (labels d.nodes) m ≡ Some (lists_of b)) (omega arith) (at zero (lists_of b) refl)) h.0,
        forest_has (suc k) kids others
            (λ i lists e. subst (λ m. slice_get (labels d.nodes) m ≡ Some lists) (omega arith) (at (suc i) lists (slice_get-append_left under behind i lists e)))
            h.1,
        forest_has (suc k + size (map_forest lists_of others)) more rest
            (λ i lists e. subst (λ m. slice_get (labels d.nodes) m ≡ Some lists) (omega arith) (at (suc (length under + i)) lists (slice_get-append_right under behind i ∙ e)))
            h.2,
      )

  nodes_have : AreAlike NodeHas u.nodes (slotted d).nodes
  nodes_have = forest_has 0 u.nodes is.nodes.forest (λ i lists e. subst (λ m. slice_get (labels d.nodes) m ≡ Some lists) (omega arith) e) is.bags

  interface_has : SlotHas u.interface at_interface
  interface_has = slot_has u.interface at_interface t.iface is.interface (λ p i. i) (λ p i. i)

  -- ---- what is met in the tree stands for something

  node_slot : (p : Node TreeSlot) (n : Node ℕ) (s : TreeSlot) → NodeHas n p → IsAmong (node_slots p) s → (r : ℕ) × IsAmong (node_slots n) r × SlotHas r s
  node_slot p n s h (inl e) = (n.own, inl refl, subst (λ z. SlotHas n.own z) (sym e) h.own)
  node_slot p n s h (inr (inl e)) = (n.top, inr (inl refl), subst (λ z. SlotHas n.top z) (sym e) h.top)
  node_slot p n s h (inr (inr (inl e))) = (n.bottom, inr (inr (inl refl)), subst (λ z. SlotHas n.bottom z) (sym e) h.bottom)
  node_slot p n s h (inr (inr (inr i))) = absurd i

  some_slot : (s : TreeSlot) → IsAmong (tree_slots (slotted d)) s → (r : ℕ) × SlotHas r s
  some_slot s i = elim (IsAmong-append (gathered node_slots (labels (slotted d).nodes)) (at_interface ∷ []) s i) [
    | inl j ↦
        let flipped = AreAlike-flip NodeHas u.nodes (slotted d).nodes nodes_have in
        let r = gathered_answer (λ p n. NodeHas n p) (λ z r. SlotHas r z) node_slots node_slots node_slot (labels (slotted d).nodes) (labels u.nodes) s
        (labels-alike (λ p n. NodeHas n p) (slotted d).nodes u.nodes flipped) j in
        (r.0, r.2)
    | inr j ↦ elim j [ inl e ↦ (u.interface, subst (λ z. SlotHas u.interface z) (sym e) interface_has) | inr k ↦ absurd k ]
  ]

  terms_represent : (l : Literal (Term ℕ)) (k : code_literal.Literal) → StandsForLiteral N l k → AllZip Represents (literal_terms (literal_of k)) (literal_terms l)
  terms_represent l k h = (
    (k.handle, h.handle, refl),
    ((k.pred, h.pred, refl), zip_flip (StandsFor N) Represents term_of (λ z v stands. (v, stands, refl)) l.args k.args h.args),
  )

  literals_represent : AllZip (λ k l. AllZip Represents (literal_terms k) (literal_terms l)) (literals_of t.sem) u.literals
  literals_represent = zip_flip (StandsForLiteral N) (λ k l. AllZip Represents (literal_terms k) (literal_terms l)) literal_of terms_represent u.literals t.sem is.literals

  met_represents : (x : Term ℕ) → IsMet M (slotted d) x → (z : Term ℕ) × Represents x z
  met_represents x (inl (s, a, i, h)) = let r = some_slot s i in let z = r.1.of_pair a x h in (z.0, z.2)
  met_represents x (inr i) =
      let r = gathered_answer (λ k l. AllZip Represents (literal_terms k) (literal_terms l)) Represents literal_terms literal_terms
      (λ k l y h j. zip_answer Represents (literal_terms k) (literal_terms l) y h j) (literals_of t.sem) u.literals x literals_represent i in
      (r.0, r.2)

  represents_linked : (x z : Term ℕ) → Represents x z → AreLinked N x z
  represents_linked x z h = back _ _ (subst (λ y. AreLinked N z y) (sym h.2) (stands_linked N z h.0 h.1))

  -- what stands for linked terms is one
  represents_one : (x y z w : Term ℕ) → Represents x z → Represents y w → AreLinked N z w → x ≡ y
  represents_one x y z w h k l = h.2 ∙ ap term_of (stands_one N z w h.0 k.0 agrees l h.1 k.1) ∙ sym k.2

  name_itself : (a : ℕ) → Represents (name a) (name a)
  name_itself a = (Const (record { 0 = a }), same (name a), refl)

  -- ---- the forms of the other tree are forms of this one

  forth_values : (r : ℕ) (s : TreeSlot) → SlotHas r s → HaveSameValues M N (λ x. x) s r
  forth_values r s h = record {
    forth = λ a x has. let z = h.of_pair a x has in (z.0, z.1, represents_linked x z.0 z.2);
    back = λ a y has.
        let v = least_term N y in
        (term_of v, h.to_pair a y v has (least_stands N y), represents_linked (term_of v) y (v, least_stands N y, refl));
  }

  forth_nodes : (p : Node TreeSlot) (n : Node ℕ) → NodeHas n p → AreSameNodes M N (λ x. x) p n
  forth_nodes p n h = record { own = forth_values n.own p.own h.own; top = forth_values n.top p.top h.top; bottom = forth_values n.bottom p.bottom h.bottom }

  forth_literals : (l : Literal (Term ℕ)) (k : code_literal.Literal) → StandsForLiteral N l k → AreSameLiterals M N (λ x. x) (literal_of k) l
  forth_literals l k h = record {
    handle = back _ _ (stands_linked N l.handle k.handle h.handle);
    pred = back _ _ (stands_linked N l.pred k.pred h.pred);
    args = zip_flip (StandsFor N) (λ x y. AreLinked N x y) term_of (λ z v stands. back _ _ (stands_linked N z v stands)) l.args k.args h.args;
  }

  forth : AreSameTrees M N (λ x. x) (slotted d) u
  forth = record {
    is_linked = λ x y h. subst (λ z. AreLinked N x z) (equal x y h) (same x);
    classes = λ x y i j l.
        let p = met_represents x i in
        let q = met_represents y j in
        let between : AreLinked N p.0 q.0 = next _ _ _ (back _ _ (represents_linked x p.0 p.1)) (next _ _ _ l (represents_linked y q.0 q.1)) in
        subst (λ z. AreLinked M x z) (represents_one x y p.0 q.0 p.1 q.1 between) (same x);
    names = λ x a i. (
      λ l.
          let p = met_represents x i in
          let between : AreLinked N p.0 (name a) = next _ _ _ (back _ _ (represents_linked x p.0 p.1)) l in
          subst (λ z. AreLinked M x z) (represents_one x (name a) p.0 (name a) p.1 (name_itself a) between) (same x),
      λ l. subst (λ z. AreLinked N x z) (equal x (name a) l) (same x),
    );
    nodes = AreAlike-weaker (λ p n. NodeHas n p) (AreSameNodes M N (λ x. x)) forth_nodes (slotted d).nodes u.nodes (AreAlike-flip NodeHas u.nodes (slotted d).nodes nodes_have);
    interface = forth_values u.interface at_interface interface_has;
    literals = zip_flip (StandsForLiteral N) (AreSameLiterals M N (λ x. x)) literal_of forth_literals u.literals t.sem is.literals;
  }

  -- ---- and the other way round

  abbrev there : Term ℕ → Term ℕ
  there x = term_of (least_term N x)

  least_represents : (x : Term ℕ) → Represents (there x) x
  least_represents x = (least_term N x, least_stands N x, refl)

  there_is : (x y z : Term ℕ) → Represents y z → AreLinked N x z → AreLinked M (there x) y
  there_is x y z h l = subst (λ w. AreLinked M (there x) w) (represents_one (there x) y x z (least_represents x) h l) (same (there x))

  back_values : (r : ℕ) (s : TreeSlot) → SlotHas r s → HaveSameValues N M there r s
  back_values r s h = record {
    forth = λ a x has. (there x, h.to_pair a x (least_term N x) has (least_stands N x), same (there x));
    back = λ a y has. let z = h.of_pair a y has in (z.0, z.1, there_is z.0 y z.0 z.2 (same z.0));
  }

  back_nodes : (n : Node ℕ) (p : Node TreeSlot) → NodeHas n p → AreSameNodes N M there n p
  back_nodes n p h = record { own = back_values n.own p.own h.own; top = back_values n.top p.top h.top; bottom = back_values n.bottom p.bottom h.bottom }

  back_literals : (l : Literal (Term ℕ)) (k : code_literal.Literal) → StandsForLiteral N l k → AreSameLiterals N M there l (literal_of k)
  back_literals l k h = record {
    handle = there_is l.handle (term_of k.handle) l.handle (k.handle, h.handle, refl) (same l.handle);
    pred = there_is l.pred (term_of k.pred) l.pred (k.pred, h.pred, refl) (same l.pred);
    args = zip_right (StandsFor N) (λ x y. AreLinked M (there x) y) term_of (λ z v stands. there_is z (term_of v) z (v, stands, refl) (same z)) l.args k.args h.args;
  }

  backwards : AreSameTrees N M there u (slotted d)
  backwards = record {
    is_linked = λ x y h. there_is x (there y) y (least_represents y) h;
    classes = λ x y i j l.
        let e : there x ≡ there y = equal (there x) (there y) l in
        next _ _ _ (stands_linked N x (least_term N x) (least_stands N x)) (subst (λ z. AreLinked N z y) (sym e) (represents_linked (there y) y (least_represents y)));
    names = λ x a i. (
      λ l. subst (λ z. AreLinked N x z) (equal (there x) (name a) l) (stands_linked N x (least_term N x) (least_stands N x)),
      λ l. there_is x (name a) (name a) (name_itself a) l,
    );
    nodes = AreAlike-weaker NodeHas (AreSameNodes N M there) back_nodes u.nodes (slotted d).nodes nodes_have;
    interface = back_values u.interface at_interface interface_has;
    literals = zip_right (StandsForLiteral N) (AreSameLiterals N M there) literal_of back_literals u.literals t.sem is.literals;
  }

  pub same_forms : (text : ℕ → List ℕ) (c : Decorated LabelPairs Label) → IsCanonicalForm text M (slotted d) c ↔ IsCanonicalForm text N u c
  same_forms text c = (
    λ form. carried_form text N M there u (slotted d) c backwards form,
    λ form. carried_form text M N (λ x. x) (slotted d) u c forth form,
  )
