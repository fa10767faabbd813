-- Trees whose slots and values answer each other in two networks have the same canonical forms.
use Rattle.std.specs.Prelude.{◌≡◌, ℕ, List, [], ◌∷◌, map, refl}
use Rattle.std.specs.List.{AllZip}
use Rattle.std.proofs.Common.{inl, inr, ap₂, sym, ◌∙◌, subst}
use Rattle.gr_base.specs.Lists.{IsAmong, gathered}
use Rattle.gr_base.specs.Forests.{Forest, empty, tree, labels, AreAlike}
use Rattle.gr_base.proofs.ListLemmas.{IsAmong-append, IsAmong-append_left, IsAmong-append_right, IsAmong-gathered, IsAmong-gathered_from}
use Rattle.gr_base.proofs.ForestLemmas.{AreAlike-through}
use Rattle.gr_base.proofs.Zips.{AllZip-second}
use Rattle.gr_terms.specs.Networks.{Term, name, Assertion, put_term, same, back, next}
use Rattle.gr_terms.specs.Canonical.{Node, Literal, Decorated, Pairs, Label, literal_terms, map_literal, node_slots, tree_slots, IsMet, IsExact, ListsSlot, ListsNode, IsCanonicalForm}
use Rattle.gr_terms.proofs.NetworkLemmas.{AreLinked-put}
use Rattle.td_desc.specs.Likeness.{AreInterpreted, AreSlotsOf, AreTermsOf, AreLiteralsOf}
use Rattle.td_colour.proofs.Interpreting.{turned, slots_turned, terms_there, value_there, value_home}

-- ---- lists and forests place by place

pub AllZip-turned : {A B : Type 0} (P : A → B → Type 0) (Q : B → A → Type 0) → ((x : A) (y : B) → P x y → Q y x) → (xs : List A) (ys : List B) → AllZip P xs ys → AllZip Q ys xs
AllZip-turned P Q one [] [] h = tt
AllZip-turned P Q one [] (y ∷ ys) h = absurd h
AllZip-turned P Q one (x ∷ xs) [] h = absurd h
AllZip-turned P Q one (x ∷ xs) (y ∷ ys) h = (one x y h.0, AllZip-turned P Q one xs ys h.1)

pub AllZip-map_same : {A B C : Type 0} (P : A → B → Type 0) (f : A → C) (g : B → C) → ((x : A) (y : B) → P x y → f x ≡ g y) → (xs : List A) (ys : List B) → AllZip P xs ys → map f xs ≡ map g ys
AllZip-map_same P f g one [] [] h = refl
AllZip-map_same P f g one [] (y ∷ ys) h = absurd h
AllZip-map_same P f g one (x ∷ xs) [] h = absurd h
AllZip-map_same P f g one (x ∷ xs) (y ∷ ys) h = ap₂ (λ z zs. z ∷ zs) (one x y h.0) (AllZip-map_same P f g one xs ys h.1)

AreAlike-turned : {A B : Type 0} (P : A → B → Type 0) (Q : B → A → Type 0) → ((x : A) (y : B) → P x y → Q y x) → (f : Forest A) (g : Forest B) → AreAlike P f g → AreAlike Q g f
AreAlike-turned P Q one empty empty h = tt
AreAlike-turned P Q one empty (tree b kids more) h = absurd h
AreAlike-turned P Q one (tree a kids more) empty h = absurd h
AreAlike-turned P Q one (tree a kids more) (tree b others rest) h = (one a b h.0, AreAlike-turned P Q one kids others h.1, AreAlike-turned P Q one more rest h.2)

AreAlike-second : {A B : Type 0} (P : A → B → Type 0) (f : Forest A) (g : Forest B) (b : B) → AreAlike P f g → IsAmong (labels g) b → (a : A) × IsAmong (labels f) a × P a b
AreAlike-second P empty empty b h i = absurd i
AreAlike-second P empty (tree c others rest) b h i = absurd h
AreAlike-second P (tree a kids more) empty b h i = absurd h
AreAlike-second P (tree a kids more) (tree c others rest) b h (inl e) = (a, inl refl, subst (λ w. P a w) (sym e) h.0)
AreAlike-second P (tree a kids more) (tree c others rest) b h (inr i) = elim (IsAmong-append (labels others) (labels rest) b i) [
  | inl j ↦ let r = AreAlike-second P kids others b h.1 j in (r.0, inr (IsAmong-append_left (labels kids) (labels more) r.0 r.1), r.2)
  | inr j ↦ let r = AreAlike-second P more rest b h.2 j in (r.0, inr (IsAmong-append_right (labels kids) (labels more) r.0 r.1), r.2)
]

-- ---- trees whose slots and values answer each other

pub record AreThreeOf {V W S R : Type 0} (N : List (Assertion V S)) (M : List (Assertion W R)) (e : AreInterpreted N M) (n : Node S) (p : Node R) : Type 0 where
  pub own : AreSlotsOf N M e n.own p.own
  pub top : AreSlotsOf N M e n.top p.top
  pub bottom : AreSlotsOf N M e n.bottom p.bottom

pub record AreTreesOf {V W S R : Type 0} (N : List (Assertion V S)) (M : List (Assertion W R)) (e : AreInterpreted N M) (t : Decorated S (Term V)) (u : Decorated R (Term W)) : Type 0 where
  pub nodes : AreAlike (AreThreeOf N M e) t.nodes u.nodes
  pub interface : AreSlotsOf N M e t.interface u.interface
  pub literals : AllZip (AreLiteralsOf N M e) t.literals u.literals

module _ {V W S R : Type 0} (N : List (Assertion V S)) (M : List (Assertion W R)) (e : AreInterpreted N M) (t : Decorated S (Term V)) (u : Decorated R (Term W)) (alike : AreTreesOf N M e t u) where
  three_turned : (n : Node S) (p : Node R) → AreThreeOf N M e n p → AreThreeOf M N (turned N M e) p n
  three_turned n p h = record {
    own = slots_turned N M e n.own p.own h.own;
    top = slots_turned N M e n.top p.top h.top;
    bottom = slots_turned N M e n.bottom p.bottom h.bottom;
  }

  slot_of_three : (n : Node S) (p : Node R) (r : R) → AreThreeOf N M e n p → IsAmong (node_slots p) r → (s : S) × IsAmong (node_slots n) s × AreSlotsOf N M e s r
  slot_of_three n p r h (inl q) = (n.own, inl refl, subst (λ z. AreSlotsOf N M e n.own z) (sym q) h.own)
  slot_of_three n p r h (inr (inl q)) = (n.top, inr (inl refl), subst (λ z. AreSlotsOf N M e n.top z) (sym q) h.top)
  slot_of_three n p r h (inr (inr (inl q))) = (n.bottom, inr (inr (inl refl)), subst (λ z. AreSlotsOf N M e n.bottom z) (sym q) h.bottom)
  slot_of_three n p r h (inr (inr (inr i))) = absurd i

  -- each slot of the second tree answers one of the first
  slot_home : (r : R) → IsAmong (tree_slots u) r → (s : S) × IsAmong (tree_slots t) s × AreSlotsOf N M e s r
  slot_home r i = elim (IsAmong-append (gathered node_slots (labels u.nodes)) (u.interface ∷ []) r i) [
    | inl j ↦
        let p = IsAmong-gathered_from node_slots (labels u.nodes) r j in
        let n = AreAlike-second (AreThreeOf N M e) t.nodes u.nodes p.0 alike.nodes p.1 in
        let s = slot_of_three n.0 p.0 r n.2 p.2 in
        (s.0, IsAmong-append_left (gathered node_slots (labels t.nodes)) (t.interface ∷ []) s.0 (IsAmong-gathered node_slots (labels t.nodes) n.0 s.0 n.1 s.1), s.2)
    | inr (inl q) ↦
        (t.interface, IsAmong-append_right (gathered node_slots (labels t.nodes)) (t.interface ∷ []) t.interface (inl refl), subst (λ z. AreSlotsOf N M e t.interface z) (sym q) alike.interface)
    | inr (inr j) ↦ absurd j
  ]

  -- each term that is met in the second tree answers one that is met in the first
  met_home : (y : Term W) → IsMet M u y → (x : Term V) × IsMet N t x × AreTermsOf N M e x y
  met_home y (inl m) =
      let s = slot_home m.0 m.2 in
      let x = value_home N M e s.0 m.0 m.1 y s.2 m.3 in
      (x.0, inl (s.0, m.1, s.1, x.1), x.2)
  met_home y (inr i) =
      let k = IsAmong-gathered_from literal_terms u.literals y i in
      let l = AllZip-second (AreLiteralsOf N M e) t.literals u.literals k.0 alike.literals k.1 in
      let x = AllZip-second (AreTermsOf N M e) (literal_terms l.0) (literal_terms k.0) y l.2 k.2 in
      (x.0, inr (IsAmong-gathered literal_terms t.literals l.0 x.0 l.1 x.1), x.2)

  -- a term of the second network has the label of its answer in the first
  module _ (text : ℕ → List ℕ) (c : Decorated Pairs Label) (form : IsCanonicalForm text N t c) where
    abbrev label : Term W → Label
    label y = form.label (put_term e.back_again y)

    label_same : (x : Term V) (y : Term W) → AreTermsOf N M e x y → form.label x ≡ label y
    label_same x y h = sym (form.exact.linked (put_term e.back_again y) x h.home)

    exact : IsExact M (IsMet M u) label
    exact = record {
      linked = λ x y l. form.exact.linked (put_term e.back_again x) (put_term e.back_again y) (AreLinked-put e.back_again e.back_slot_again M N e.home x y l);
      classes = λ x y i j q.
          let v = met_home x i in
          let w = met_home y j in
          terms_there N M e v.0 w.0 x y v.2 w.2 (form.exact.classes v.0 w.0 v.1 w.1 (label_same v.0 x v.2 ∙ (q ∙ sym (label_same w.0 y w.2))));
      names = λ y a i.
          let x = met_home y i in
          let named_so = form.exact.names x.0 a x.1 in
          let itself : AreTermsOf N M e (name a) (name a) = record { there = same (name a); home = same (name a) } in (
            (λ q. terms_there N M e x.0 (name a) y (name a) x.2 itself (named_so.0 (label_same x.0 y x.2 ∙ q))),
            (λ l. sym (label_same x.0 y x.2) ∙ named_so.1 (next _ _ _ (back _ _ x.2.home) (AreLinked-put e.back_again e.back_slot_again M N e.home y (name a) l))),
          );
    }

    lists_slot : (s : S) (r : R) (ps : Pairs) → AreSlotsOf N M e s r → ListsSlot text N form.label s ps → ListsSlot text M label r ps
    lists_slot s r ps h l = record {
      order = l.order;
      pairs = λ a v. (
        (λ i.
            let x = (l.pairs a v).0 i in
            let y = value_there N M e s r a x.0 h x.1 in
            (y.0, y.1, x.2 ∙ label_same x.0 y.0 y.2)),
        (λ y.
            let x = value_home N M e s r a y.0 h y.1 in
            (l.pairs a v).1 (x.0, x.1, y.2 ∙ sym (label_same x.0 y.0 x.2))),
      );
    }

    lists_node : (p : Node R) (n : Node S) (q : Node Pairs) → AreThreeOf M N (turned N M e) p n → ListsNode text N form.label n q → ListsNode text M label p q
    lists_node p n q h l = record {
      own = lists_slot n.own p.own q.own (slots_turned M N (turned N M e) p.own n.own h.own) l.own;
      top = lists_slot n.top p.top q.top (slots_turned M N (turned N M e) p.top n.top h.top) l.top;
      bottom = lists_slot n.bottom p.bottom q.bottom (slots_turned M N (turned N M e) p.bottom n.bottom h.bottom) l.bottom;
    }

    literal_same : (l : Literal (Term V)) (k : Literal (Term W)) → AreLiteralsOf N M e l k → map_literal form.label l ≡ map_literal label k
    literal_same l k h =
        let handle : form.label l.handle ≡ label k.handle = label_same l.handle k.handle h.0 in
        let pred : form.label l.pred ≡ label k.pred = label_same l.pred k.pred h.1.0 in
        let args : map form.label l.args ≡ map label k.args = AllZip-map_same (AreTermsOf N M e) form.label label label_same l.args k.args h.1.1 in
        λ i. record { handle = handle i; pred = pred i; args = args i }

    pub form_there : IsCanonicalForm text M u c
    form_there = record {
      label = label;
      exact = exact;
      nodes = AreAlike-through (AreThreeOf M N (turned N M e)) (ListsNode text N form.label) (ListsNode text M label) lists_node u.nodes t.nodes c.nodes
          (AreAlike-turned (AreThreeOf N M e) (AreThreeOf M N (turned N M e)) three_turned t.nodes u.nodes alike.nodes) form.nodes;
      interface = lists_slot t.interface u.interface c.interface alike.interface form.interface;
      literals = form.literals ∙ AllZip-map_same (AreLiteralsOf N M e) (map_literal form.label) (map_literal label) literal_same t.literals u.literals alike.literals;
      order = form.order;
    }
