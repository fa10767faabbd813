-- A canonical form goes from a tree over one network to a tree over another one, where the trees answer each other.
use Rattle.std.specs.Prelude.{◌≡◌, ℕ, zero, suc, ◌+◌, List, [], ◌∷◌, ◌++◌, map, length, slice_get, Some, ⊤, refl}
use Rattle.std.specs.List.{AllZip}
use Rattle.std.proofs.Common.{inl, inr, ap, ap₂, sym, ◌∙◌, subst, arith}
use Rattle.gr_base.proofs.Zips.{labels-alike}
use Rattle.gr_base.specs.Lists.{IsAmong, gathered}
use Rattle.gr_base.specs.Forests.{Forest, empty, tree, labels, map_forest, numbered, size, AreAlike}
use Rattle.gr_base.proofs.ForestLemmas.{AreAlike-through, length-labels, size-alike}
use Rattle.gr_base.proofs.ListLemmas.{IsAmong-append, IsAmong-append_left, IsAmong-append_right, slice_get-append_left, slice_get-append_right}
use Rattle.gr_terms.specs.Canonical.{Decorated, Label, Literal, Node, Pairs, node_slots, tree_slots, literal_terms, map_literal, IsExact, IsMet, IsCanonicalForm, ListsNode, ListsSlot}
use Rattle.gr_terms.specs.Networks.{Term, Assertion, AreLinked, back, next}
use Rattle.td_tree.specs.Forms.{HaveSameValues, AreSameNodes, AreSameLiterals, AreSameTrees}

-- ---- lists whose elements answer each other

-- what is gathered of one list answers something gathered of the other
pub gathered_answer : {A B C D : Type 0} (R : A → B → Type 0) (Q : C → D → Type 0) (f : A → List C) (g : B → List D)
    → ((a : A) (b : B) (x : C) → R a b → IsAmong (f a) x → (y : D) × IsAmong (g b) y × Q x y)
    → (xs : List A) (ys : List B) (x : C) → AllZip R xs ys → IsAmong (gathered f xs) x → (y : D) × IsAmong (gathered g ys) y × Q x y
gathered_answer R Q f g one [] ys x h i = absurd i
gathered_answer R Q f g one (a ∷ xs) [] x h i = absurd h
gathered_answer R Q f g one (a ∷ xs) (b ∷ ys) x h i = elim (IsAmong-append (f a) (gathered f xs) x i) [
  | inl j ↦ let r = one a b x h.0 j in (r.0, IsAmong-append_left (g b) (gathered g ys) r.0 r.1, r.2)
  | inr j ↦ let r = gathered_answer R Q f g one xs ys x h.1 j in (r.0, IsAmong-append_right (g b) (gathered g ys) r.0 r.1, r.2)
]

pub zip_answer : {C D : Type 0} (Q : C → D → Type 0) (xs : List C) (ys : List D) (x : C) → AllZip Q xs ys → IsAmong xs x → (y : D) × IsAmong ys y × Q x y
zip_answer Q [] ys x h i = absurd i
zip_answer Q (a ∷ xs) [] x h i = absurd h
zip_answer Q (a ∷ xs) (b ∷ ys) x h (inl e) = (b, inl refl, subst (λ z. Q z b) (sym e) h.0)
zip_answer Q (a ∷ xs) (b ∷ ys) x h (inr i) = let r = zip_answer Q xs ys x h.1 i in (r.0, inr r.1, r.2)

same_maps : {C D E : Type 0} (f : C → E) (g : D → E) (Q : C → D → Type 0) → ((x : C) (y : D) → Q x y → f x ≡ g y) → (xs : List C) (ys : List D) → AllZip Q xs ys → map f xs ≡ map g ys
same_maps f g Q one [] [] h = refl
same_maps f g Q one [] (y ∷ ys) h = absurd h
same_maps f g Q one (x ∷ xs) [] h = absurd h
same_maps f g Q one (x ∷ xs) (y ∷ ys) h = ap₂ (λ z zs. z ∷ zs) (one x y h.0) (same_maps f g Q one xs ys h.1)

-- lists of one length answer each other where the elements at each place do
pub zip_at_places : {A B : Type 0} (R : A → B → Type 0) (xs : List A) (ys : List B) → length xs ≡ length ys
    → ((i : ℕ) (x : A) (y : B) → slice_get xs i ≡ Some x → slice_get ys i ≡ Some y → R x y) → AllZip R xs ys
zip_at_places R [] [] e at = tt
zip_at_places R [] (y ∷ ys) e at = absurd (omega (arith, e))
zip_at_places R (x ∷ xs) [] e at = absurd (omega (arith, e))
zip_at_places R (x ∷ xs) (y ∷ ys) e at = (at zero x y refl refl, zip_at_places R xs ys (omega (arith, e)) (λ i z w f g. at (suc i) z w f g))

-- ---- forests whose nodes answer each other

pub alike_map : {A B C : Type 0} (R : A → C → Type 0) (h : B → C) (f : Forest A) (g : Forest B) → AreAlike (λ a b. R a (h b)) f g → AreAlike R f (map_forest h g)
alike_map R h empty empty e = tt
alike_map R h empty (tree b others rest) e = absurd e
alike_map R h (tree a kids more) empty e = absurd e
alike_map R h (tree a kids more) (tree b others rest) e = (e.0, alike_map R h kids others e.1, alike_map R h more rest e.2)

-- a forest and one of the same shape with numbers, where each label answers the one with its number
pub alike_numbered : {A B : Type 0} (R : A → ℕ × B → Type 0) (n : ℕ) (f : Forest A) (g : Forest B) → AreAlike (λ a b. ⊤) f g
    → ((i k : ℕ) (a : A) (b : B) → k ≡ n + i → slice_get (labels f) i ≡ Some a → slice_get (labels g) i ≡ Some b → R a (k, b)) → AreAlike R f (numbered n g)
alike_numbered R n empty empty h at = tt
alike_numbered R n empty (tree b others rest) h at = absurd h
alike_numbered R n (tree a kids more) empty h at = absurd h
alike_numbered {A} {B} R n (tree a kids more) (tree b others rest) h at =
    let under : length (labels kids) ≡ size others = length-labels kids ∙ size-alike (λ (a : A) (b : B). ⊤) kids others h.1 in
    let beside : length (labels others) ≡ size others = length-labels others in
    let same_length : length (labels others) ≡ length (labels kids) = beside ∙ sym under in (
      at zero n a b (omega arith) refl refl,
      alike_numbered R (suc n) kids others h.1
          (λ i k x y e f g. at (suc i) k x y (omega arith) (slice_get-append_left (labels kids) (labels more) i x f) (slice_get-append_left (labels others) (labels rest) i y g)),
      alike_numbered R (suc n + size others) more rest h.2
          (λ i k x y e f g.
          at (suc (length (labels kids) + i)) k x y (omega arith) (slice_get-append_right (labels kids) (labels more) i ∙ f)
          (ap (λ m. slice_get (labels others ++ labels rest) (m + i)) (sym same_length) ∙ slice_get-append_right (labels others) (labels rest) i ∙ g)),
    )

module _ {V S W R : Type 0} (text : ℕ → List ℕ) (N : List (Assertion V S)) (M : List (Assertion W R)) (there : Term V → Term W)
    (t : Decorated S (Term V)) (u : Decorated R (Term W)) (c : Decorated Pairs Label) (answers : AreSameTrees N M there t u) (form : IsCanonicalForm text M u c) where
  abbrev label : Term V → Label
  label x = form.label (there x)

  -- ---- what is met answers what is met

  node_answer : (n : Node S) (p : Node R) (s : S) → AreSameNodes N M there n p → IsAmong (node_slots n) s → (r : R) × IsAmong (node_slots p) r × HaveSameValues N M there s r
  node_answer n p s h (inl e) = (p.own, inl refl, subst (λ z. HaveSameValues N M there z p.own) (sym e) h.own)
  node_answer n p s h (inr (inl e)) = (p.top, inr (inl refl), subst (λ z. HaveSameValues N M there z p.top) (sym e) h.top)
  node_answer n p s h (inr (inr (inl e))) = (p.bottom, inr (inr (inl refl)), subst (λ z. HaveSameValues N M there z p.bottom) (sym e) h.bottom)
  node_answer n p s h (inr (inr (inr i))) = absurd i

  slot_answer : (s : S) → IsAmong (tree_slots t) s → (r : R) × IsAmong (tree_slots u) r × HaveSameValues N M there s r
  slot_answer s i = elim (IsAmong-append (gathered node_slots (labels t.nodes)) (t.interface ∷ []) s i) [
    | inl j ↦
        let r = gathered_answer (AreSameNodes N M there) (HaveSameValues N M there) node_slots node_slots node_answer (labels t.nodes) (labels u.nodes) s
        (labels-alike (AreSameNodes N M there) t.nodes u.nodes answers.nodes) j in
        (r.0, IsAmong-append_left (gathered node_slots (labels u.nodes)) (u.interface ∷ []) r.0 r.1, r.2)
    | inr j ↦ elim j [
      | inl e ↦ (
        u.interface,
        IsAmong-append_right (gathered node_slots (labels u.nodes)) (u.interface ∷ []) u.interface (inl refl),
        subst (λ z. HaveSameValues N M there z u.interface) (sym e) answers.interface,
      )
      | inr k ↦ absurd k
    ]
  ]

  abbrev Answers : Term V → Term W → Type 0
  Answers x y = AreLinked M (there x) y

  literal_answer : (l : Literal (Term V)) (k : Literal (Term W)) (x : Term V) → AreSameLiterals N M there l k → IsAmong (literal_terms l) x → (y : Term W) × IsAmong (literal_terms k) y × Answers x y
  literal_answer l k x h i = zip_answer Answers (literal_terms l) (literal_terms k) x (h.handle, (h.pred, h.args)) i

  met : (x : Term V) → IsMet N t x → (y : Term W) × IsMet M u y × Answers x y
  met x (inl (s, a, i, h)) =
      let r = slot_answer s i in
      let y = r.2.forth a x h in
      (y.0, inl (r.0, a, r.1, y.1), y.2)
  met x (inr i) = let r = gathered_answer (AreSameLiterals N M there) Answers literal_terms literal_terms literal_answer t.literals u.literals x answers.literals i in (r.0, inr r.1, r.2)

  -- ---- the labels are exact

  label_of : (x : Term V) (y : Term W) → Answers x y → label x ≡ form.label y
  label_of x y h = form.exact.linked (there x) y h

  exact : IsExact N (IsMet N t) label
  exact = record {
    linked = λ x y h. form.exact.linked (there x) (there y) (answers.is_linked x y h);
    classes = λ x y i j e.
        let p = met x i in
        let q = met y j in
        let l : AreLinked M p.0 q.0 = form.exact.classes p.0 q.0 p.1 q.1 (sym (label_of x p.0 p.2) ∙ e ∙ label_of y q.0 q.2) in
        answers.classes x y i j (next _ _ _ p.2 (next _ _ _ l (back _ _ q.2)));
    names = λ x a i.
        let p = met x i in (
          λ e. (answers.names x a i).0 (next _ _ _ p.2 ((form.exact.names p.0 a p.1).0 (sym (label_of x p.0 p.2) ∙ e))),
          λ l. label_of x p.0 p.2 ∙ (form.exact.names p.0 a p.1).1 (next _ _ _ (back _ _ p.2) ((answers.names x a i).1 l)),
        );
  }

  -- ---- the lists of slots and the literals

  slot_lists : (s : S) (r : R) (ps : Pairs) → HaveSameValues N M there s r → ListsSlot text M form.label r ps → ListsSlot text N label s ps
  slot_lists s r ps h l = record {
    order = l.order;
    pairs = λ a v. (
      λ i.
          let y = (l.pairs a v).0 i in
          let x = h.back a y.0 y.1 in
          (x.0, x.1, y.2 ∙ sym (label_of x.0 y.0 x.2)),
      λ (x, has, e). let y = h.forth a x has in (l.pairs a v).1 (y.0, y.1, e ∙ label_of x y.0 y.2),
    );
  }

  node_lists : (n : Node S) (p : Node R) (ps : Node Pairs) → AreSameNodes N M there n p → ListsNode text M form.label p ps → ListsNode text N label n ps
  node_lists n p ps h l = record {
    own = slot_lists n.own p.own ps.own h.own l.own;
    top = slot_lists n.top p.top ps.top h.top l.top;
    bottom = slot_lists n.bottom p.bottom ps.bottom h.bottom l.bottom;
  }

  one_literal : (l : Literal (Term V)) (k : Literal (Term W)) → AreSameLiterals N M there l k → map_literal label l ≡ map_literal form.label k
  one_literal l k h =
      let handle : label l.handle ≡ form.label k.handle = label_of l.handle k.handle h.handle in
      let pred : label l.pred ≡ form.label k.pred = label_of l.pred k.pred h.pred in
      let args : map label l.args ≡ map form.label k.args = same_maps label form.label Answers label_of l.args k.args h.args in
      λ i. record { handle = handle i; pred = pred i; args = args i }

  pub carried_form : IsCanonicalForm text N t c
  carried_form = record {
    label = label;
    exact = exact;
    nodes = AreAlike-through (AreSameNodes N M there) (ListsNode text M form.label) (ListsNode text N label) node_lists t.nodes u.nodes c.nodes answers.nodes form.nodes;
    interface = slot_lists t.interface u.interface c.interface answers.interface form.interface;
    literals = form.literals ∙ sym (same_maps (map_literal label) (map_literal form.label) (AreSameLiterals N M there) one_literal t.literals u.literals answers.literals);
    order = form.order;
  }
