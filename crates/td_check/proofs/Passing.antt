-- What passes at places of a tree, place by place.
use Rattle.std.specs.Prelude.{◌≡◌, ℕ, ◌+◌, ◌-◌, ◌<◌, ◌≤◌, List, [], ◌∷◌, ◌++◌, length, slice_get, slice_index, ◌==◌, ◌⊎◌, ◌↔◌, ⊤, Bool, true, false, ◌&&◌, IsTrue, Option, Some, None, MatchOption, is_some, refl}
use Rattle.std.proofs.Common.{inl, inr, ap, sym, ◌∙◌, subst, arith}
use Rattle.std.proofs.lemmas.Bool.{cases_lt}
use Rattle.std.proofs.lemmas.Bool.Decides.{nat_tests}
use Rattle.std.proofs.lemmas.Option.{same_Some, slice_get_within}
use Rattle.gr_base.specs.Lists.{IsAmong, Each}
use Rattle.gr_base.proofs.ListLemmas.{Each-at, IsAmong-slice_get, slice_get-IsAmong}
use Rattle.gr_terms.specs.Networks as net
use Rattle.gr_terms.specs.Networks.{name, variable, Assertion, AreLinked, next, back, same, shared, next_slot, back_slot, HasValue, Agrees}
use Rattle.gr_terms.specs.Views.{term_of}
use Rattle.gr_terms.specs.Bags.{LacksAttribute}
use Rattle.gr_terms.specs.declared.Sym.{Sym}
use Rattle.gr_terms.specs.declared.SlotId.{SlotId}
use Rattle.gr_terms.specs.declared.Term.{Term}
use Rattle.gr_terms.specs.declared.Literal.{Literal}
use Rattle.gr_terms.specs.declared.Assertion as code_assertion
use Rattle.gr_terms.specs.declared.Assertion.TheVariants.{Entry, Equate, Link}
use Rattle.td_desc.specs.declared.DescribedNode.{DescribedNode}
use Rattle.td_desc.specs.declared.Description.{Description}
use Rattle.td_tree.specs.Trees.{BagPairs}
use Rattle.td_tree.specs.declared.TreeNode.{TreeNode}
use Rattle.td_tree.specs.declared.Tree.{Tree}
use Rattle.td_check.specs.Places.{AtEach, AtFirst, AtBoth, PassesPair, PassesBag, PassesNode, PassesNodes, PassesTerm, PassesLiteral, Passes, FitsBeside, FitsNames, FitsAll, ListsAttribute, ListsAll, HasAttributesOf}

-- ---- loops over places

pub first_none : {A : Type 0} (xs : List A) (P : ℕ → A → Type 0) → AtFirst 0 xs P
first_none xs P k x l e = absurd (omega arith)

pub first_more : {A : Type 0} (xs : List A) (P : ℕ → A → Type 0) (k : ℕ) (x : A) → AtFirst k xs P → slice_get xs k ≡ Some x → P k x → AtFirst (k + 1) xs P
first_more xs P k x before at here j y l e = elim (cases_lt j k) [
  | inl h ↦ before j y h e
  | inr h ↦
      let q : k ≡ j = omega arith in
      let s : x ≡ y = same_Some x y (sym at ∙ subst (λ i. slice_get xs i ≡ Some y) (sym q) e) in
      subst (λ i. P i y) q (subst (λ z. P k z) s here)
]

pub first_all : {A : Type 0} (xs : List A) (P : ℕ → A → Type 0) (k : ℕ) → length xs ≤ k → AtFirst k xs P → AtEach xs P
first_all xs P k high first j y e = let l : j < length xs = slice_get_within xs j y e in first j y (omega arith) e

-- with something else at each place
pub keyed_more : {A B : Type 0} (xs : List A) (g : ℕ → Option B) (R : A → B → Type 0) (k : ℕ) (x : A) (y : B) → AtFirst k xs (λ j z. (w : B) → g j ≡ Some w → R z w)
    → slice_get xs k ≡ Some x → g k ≡ Some y → R x y → AtFirst (k + 1) xs (λ j z. (w : B) → g j ≡ Some w → R z w)
keyed_more {B = B} xs g R k x y before at key here = first_more xs (λ j z. (w : B) → g j ≡ Some w → R z w) k x before at (λ w e. subst (λ v. R x v) (same_Some y w (sym key ∙ e)) here)

-- ---- answers

pub differ : ◌≡◌ {A = Bool} false true → ⊥
differ e = cc

pub yes_to : (A : Type 0) → A → IsTrue true ↔ A
yes_to A a = ((λ t. a), (λ h. refl))

pub no_to : (A : Type 0) → (A → ⊥) → IsTrue false ↔ A
no_to A none = ((λ t. absurd (differ t)), (λ a. absurd (none a)))

pub is_not : (b : Bool) (A : Type 0) → IsTrue b ↔ A → b ≡ false → A → ⊥
is_not b A h e a = differ (sym e ∙ h.1 a)

pub two_true : (b c : Bool) (A B : Type 0) → IsTrue b ↔ A → IsTrue c ↔ B → IsTrue (b && c) ↔ (A × B)
two_true true c A B p q = ((λ e. (p.0 refl, q.0 e)), (λ h. q.1 h.1))
two_true false c A B p q = ((λ e. absurd (differ e)), (λ h. absurd (differ (p.1 h.0))))

pub three_true : (a b c : Bool) (A B C : Type 0) → IsTrue a ↔ A → IsTrue b ↔ B → IsTrue c ↔ C → IsTrue (a && b && c) ↔ (A × B × C)
three_true a b c A B C p q r =
    let s = two_true (a && b) c (A × B) C (two_true a b A B p q) r in
    ((λ e. let h = s.0 e in (h.0.0, h.0.1, h.1)), (λ h. s.1 ((h.0, h.1), h.2)))

pub through : (P A B : Type 0) → P ↔ A → (A → B) → (B → A) → P ↔ B
through P A B p f g = ((λ e. f (p.0 e)), (λ b. p.1 (g b)))

-- ---- values

-- what holds for a value holds for what is linked with it
abbrev pub Respects : List (Assertion ℕ ℕ) → (net.Term ℕ → net.Term ℕ → Type 0) → Type 0
Respects N P = (w x y : net.Term ℕ) → AreLinked N x y → P w x → P w y

pub values_linked : (N : List (Assertion ℕ ℕ)) (s a : ℕ) (x y : net.Term ℕ) → HasValue N s a x → HasValue N s a y → AreLinked N x y
values_linked N s a x y h k = shared h.0 k.0 a x y (next_slot _ _ _ (back_slot _ _ h.1) k.1) h.2 k.2

pub beside_respects : (N : List (Assertion ℕ ℕ)) (w x : net.Term ℕ) → Respects N (FitsBeside N w x)
beside_respects N w x v y z l h = ((λ e. next _ _ _ (h.0 e) l), (λ k. h.1 (next _ _ _ k (back _ _ l))))

pub pair_found : (N : List (Assertion ℕ ℕ)) (P : net.Term ℕ → net.Term ℕ → Type 0) (s : ℕ) (p : Sym × Term) (found : net.Term ℕ) (b : Bool) → Respects N P
    → HasValue N s p.0.0 found → IsTrue b ↔ P (term_of p.1) found → IsTrue b ↔ PassesPair N P s p
pair_found N P s p found b respects has h = (
  (λ t. (found, has, h.0 t)),
  (λ k. h.1 (respects (term_of p.1) k.0 found (values_linked N s p.0.0 k.0 found k.1 has) k.2)),
)

pub pair_missing : (N : List (Assertion ℕ ℕ)) (P : net.Term ℕ → net.Term ℕ → Type 0) (s : ℕ) (p : Sym × Term) → ((x : net.Term ℕ) → HasValue N s p.0.0 x → ⊥) → IsTrue false ↔ PassesPair N P s p
pair_missing N P s p none = no_to (PassesPair N P s p) (λ k. none k.0 k.1)

-- ---- lists of a tree

module _ (N : List (Assertion ℕ ℕ)) (P R : net.Term ℕ → net.Term ℕ → Type 0) (f : (v y : net.Term ℕ) → P v y → R v y) where
  bag_map : (s : ℕ) (pairs : BagPairs) → PassesBag N P s pairs → PassesBag N R s pairs
  bag_map s pairs h k p e = let r = h k p e in (r.0, r.1, f (term_of p.1) r.0 r.2)

  node_map : (first : ℕ) (n : TreeNode) (m : DescribedNode) → PassesNode N P first n m → PassesNode N R first n m
  node_map first n m h = record {
    own = bag_map (first + m.own.0) n.own h.own;
    top = bag_map (first + m.top.0) n.top h.top;
    bot = bag_map (first + m.bot.0) n.bot h.bot;
  }

  literal_map : (first : ℕ) (k l : Literal) → PassesLiteral P first k l → PassesLiteral R first k l
  literal_map first k l h = record {
    number = h.number;
    handle = f _ _ h.handle;
    pred = f _ _ h.pred;
    args = λ i x e y g. f _ _ (h.args i x e y g);
  }

  pub passes_map : (d : Description) (t : Tree) (heads : List ℕ) (vars slots : ℕ) → Passes N P d t heads vars slots → Passes N R d t heads vars slots
  passes_map d t heads vars slots h = record {
    nodes = λ k n e m g. node_map slots n m (h.nodes k n e m g);
    interface = bag_map (slots + d.iface.0) t.iface h.interface;
    number = h.number;
    literals = λ i k e l g. literal_map vars k l (h.literals i k e l g);
  }

pub fitting_respects : (N : List (Assertion ℕ ℕ)) (d : Description) (t : Tree) (heads : List ℕ) (vars slots : ℕ) → Respects N (FitsAll N d t heads vars slots)
fitting_respects N d t heads vars slots w x y l h = record {
  names = λ a. ((λ e. next _ _ _ (back _ _ l) ((h.names a).0 e)), (λ k. (h.names a).1 (next _ _ _ l k)));
  beside = passes_map N (FitsBeside N w x) (FitsBeside N w y) (λ v z g. ((λ e. next _ _ _ (back _ _ l) (g.0 e)), (λ k. g.1 (next _ _ _ l k)))) d t heads vars slots h.beside;
}

-- ---- names

pub same_numbers : (a b : ℕ) → ((a == b) ≡ true → a ≡ b) × (a ≡ b → (a == b) ≡ true)
same_numbers a b = ((λ e. grind (arith, nat_tests)), (λ e. grind (arith, nat_tests)))

pub is_name : (N : List (Assertion ℕ ℕ)) (p q : ℕ) (x : net.Term ℕ) (b : Bool) → Agrees N → AreLinked N x (name q) → (b ≡ true → p ≡ q) → (p ≡ q → b ≡ true) → IsTrue b ↔ FitsNames N (name p) x
is_name N p q x b agrees l f g = (
  (λ t a. (
    (λ e. subst (λ (z : net.Term ℕ). AreLinked N x z) e (subst (λ z. AreLinked N x (name z)) (sym (f t)) l)),
    (λ k. ap name (f t ∙ agrees q a (next _ _ _ (back _ _ l) k))),
  )),
  (λ h. g (same_name ((h q).1 l))),
)
  where
    same_name : ◌≡◌ {A = net.Term ℕ} (name p) (name q) → p ≡ q
    same_name e = cc

pub no_name : (N : List (Assertion ℕ ℕ)) (p : ℕ) (x : net.Term ℕ) → ((q : ℕ) → AreLinked N x (name q) → ⊥) → IsTrue false ↔ FitsNames N (name p) x
no_name N p x none = no_to (FitsNames N (name p) x) (λ h. none p ((h p).0 refl))

pub variable_none : (N : List (Assertion ℕ ℕ)) (v : ℕ) (x : net.Term ℕ) → ((q : ℕ) → AreLinked N x (name q) → ⊥) → IsTrue true ↔ FitsNames N (variable v) x
variable_none N v x none = yes_to (FitsNames N (variable v) x) (λ a. ((λ e. absurd (no e)), (λ k. absurd (none a k))))
  where
    no : {a : ℕ} → ◌≡◌ {A = net.Term ℕ} (variable v) (name a) → ⊥
    no e = cc

pub variable_some : (N : List (Assertion ℕ ℕ)) (v q : ℕ) (x : net.Term ℕ) → AreLinked N x (name q) → IsTrue false ↔ FitsNames N (variable v) x
variable_some N v q x l = no_to (FitsNames N (variable v) x) (λ h. no ((h q).1 l))
  where
    no : ◌≡◌ {A = net.Term ℕ} (variable v) (name q) → ⊥
    no e = cc

-- ---- attributes

-- the first k assertions leave out nothing
pub lists_all : (N : List (Assertion ℕ ℕ)) (first s : ℕ) (pairs : BagPairs) (d : Description) → HasAttributesOf d N first → AtEach d.network (λ k e. ListsAttribute N (first + s) pairs e) → ListsAll N (first + s) pairs
lists_all N first s pairs d attributes each a x has =
    let r = attributes s a x has in
    let p = slice_get-IsAmong d.network (Entry r.0 a r.1) r.2 in
    each p.0 (Entry r.0 a r.1) p.1 x has

pub all_lists : (N : List (Assertion ℕ ℕ)) (s : ℕ) (pairs : BagPairs) (e : code_assertion.Assertion) → ListsAll N s pairs → ListsAttribute N s pairs e
all_lists N s pairs (Entry t a y) all = λ x has. all a x has
all_lists N s pairs (Equate x y) all = tt
all_lists N s pairs (Link t r) all = tt

pub lists_is : (N : List (Assertion ℕ ℕ)) (s : ℕ) (pairs : BagPairs) (e : code_assertion.Assertion) (t : SlotId) (a : Sym) (y : Term) (b : Bool) (found : net.Term ℕ) (got : Option Term)
    → e ≡ Entry t a y → HasValue N s a.0 found → MatchOption got (LacksAttribute pairs a) (λ v. IsAmong pairs (a, v)) → b ≡ is_some got → IsTrue b ↔ ListsAttribute N s pairs e
lists_is N s pairs e t a y b found (Some v) is has got eq = (
  (λ h. subst (λ z. ListsAttribute N s pairs z) (sym is) (λ x k. (v, got))),
  (λ h. eq),
)
lists_is N s pairs e t a y b found None is has got eq = (
  (λ h. absurd (differ (sym eq ∙ h))),
  (λ h. let all : ListsAttribute N s pairs (Entry t a y) = subst (λ z. ListsAttribute N s pairs z) is h in let w = all found has in absurd (got w.0 w.1)),
)

pub lists_none : (N : List (Assertion ℕ ℕ)) (s : ℕ) (pairs : BagPairs) (e : code_assertion.Assertion) (t : SlotId) (a : Sym) (y : Term) → e ≡ Entry t a y → ((x : net.Term ℕ) → HasValue N s a.0 x → ⊥)
    → IsTrue true ↔ ListsAttribute N s pairs e
lists_none N s pairs e t a y is none = yes_to (ListsAttribute N s pairs e) (subst (λ z. ListsAttribute N s pairs z) (sym is) (λ x k. absurd (none x k)))
