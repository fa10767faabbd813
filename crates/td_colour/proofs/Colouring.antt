-- The colour rule at a tree node, decided node by node.
use Rattle.std.specs.Prelude.{◌≡◌, ℕ, ◌+◌, ◌<◌, List, [], ◌∷◌, map, ◌⊎◌, ◌↔◌, Option, Some, None, Bool, true, false, IsTrue, slice_get, refl}
use Rattle.std.proofs.Common.{inl, inr, ap, sym, ◌∙◌, subst, arith}
use Rattle.std.proofs.lemmas.Bool.{cases_eq}
use Rattle.std.proofs.lemmas.Option.{same_Some, slice_get-map}
use Rattle.std.specs.Option.{option_map}
use Rattle.gr_base.specs.Lists.{IsAmong, IsRising}
use Rattle.gr_base.specs.Forests.{Forest, labels}
use Rattle.gr_base.proofs.ListLemmas.{Each-at}
use Rattle.td_forest.specs.declared.Relation.TheVariants.{Same}
use Rattle.td_forest.specs.Nodes.{IsIn, IsForest, IsNodeSet, Relates}
use Rattle.td_forest.proofs.Positions.{at_in, by_position, by_recursion}
use Rattle.td_forest.proofs.Forming.{forest_is, in_stands}
use Rattle.td_desc.specs.declared.Colour.{Colour}
use Rattle.td_desc.specs.declared.Colour.TheVariants.{Black, White, Red}
use Rattle.td_desc.specs.declared.DescribedNode as code_node
use Rattle.td_desc.specs.Descriptions.{DescribedNode, node_of}
use Rattle.td_colour.specs.Colours.{IsOf, IsLawful, IsAllowed, IsBeside, Together, both}
use Rattle.td_forest.proofs.Sets.{has_set, set_in, same_of, of_same, single_set}

-- a node has one colour
pub one_colour : {S : Type 0} (nodes : List (DescribedNode S)) (x : ℕ) (a b : Colour) → IsOf nodes a x → IsOf nodes b x → a ≡ b
one_colour {S} nodes x a b p q = let e : p.0 ≡ q.0 = same_Some p.0 q.0 (sym p.1 ∙ q.1) in sym p.2 ∙ ap (λ (n : DescribedNode S). n.colour) e ∙ q.2

-- the colours in the code are those of the description
pub colour_of : (nodes : List code_node.DescribedNode) (x : ℕ) (n : code_node.DescribedNode) → slice_get nodes x ≡ Some n → IsOf (map node_of nodes) n.colour x
colour_of nodes x n e = (node_of n, slice_get-map node_of nodes x ∙ ap (option_map node_of) e, refl)

module _ {S : Type 0} (nodes : List (DescribedNode S)) (set : List ℕ) where
  single_member : (r y z : ℕ) → set ≡ r ∷ [] → IsAmong set y → IsAmong set z → y ≡ z
  single_member r y z e i j = is_r y i ∙ sym (is_r z j)
    where
      is_r : (y : ℕ) → IsAmong set y → y ≡ r
      is_r y i = elim (subst (λ zs. IsAmong zs y) e i) [ inl p ↦ p | inr k ↦ absurd k ]

  -- in a lawful set a red has no other beside it
  pub red_alone : (y z : ℕ) → IsLawful nodes set → IsAmong set y → IsAmong set z → (y ≡ z → ⊥) → IsOf nodes Red y → ⊥
  red_alone y z (inl l) i j ne red = elim (cases_eq y l.0) [
    | inl e ↦ let bad : Red ≡ Black = one_colour nodes y Red Black red (subst (λ w. IsOf nodes Black w) (sym e) l.2) in cc
    | inr n ↦ let bad : Red ≡ White = one_colour nodes y Red White red (l.3 y i n) in cc
  ]
  red_alone y z (inr l) i j ne red = ne (single_member l.0 y z l.1 i j)

  -- and there are no two blacks
  pub one_black : (y z : ℕ) → IsLawful nodes set → IsAmong set y → IsAmong set z → (y ≡ z → ⊥) → IsOf nodes Black y → IsOf nodes Black z → ⊥
  one_black y z (inl l) i j ne a b = elim (cases_eq y l.0) [
    | inl e ↦ let bad : Black ≡ White = one_colour nodes z Black White b (l.3 z j (λ q. ne (e ∙ sym q))) in cc
    | inr n ↦ let bad : Black ≡ White = one_colour nodes y Black White a (l.3 y i n) in cc
  ]
  one_black y z (inr l) i j ne a b = ne (single_member l.0 y z l.1 i j)

  -- nor only whites
  pub not_white : IsLawful nodes set → ((y : ℕ) → IsAmong set y → IsOf nodes White y) → ⊥
  not_white (inl l) whites = let bad : Black ≡ White = one_colour nodes l.0 Black White l.2 (whites l.0 l.1) in cc
  not_white (inr l) whites =
      let i : IsAmong set l.0 = subst (λ zs. IsAmong zs l.0) (sym l.1) (inl refl) in
      let bad : Red ≡ White = one_colour nodes l.0 Red White l.2 (whites l.0 i) in cc

-- what follows where a node more is looked at: its colour and that of those before give one together, or the set is not lawful
abbrev pub Outcome : {S : Type 0} → List (DescribedNode S) → (ℕ → Type 0) → (List ℕ → Type 0) → Option Colour → Type 0
Outcome nodes Q Has (Some c) = Together nodes Q c
Outcome nodes Q Has None = (set : List ℕ) → Has set → IsLawful nodes set → ⊥

module _ {S : Type 0} (nodes : List (DescribedNode S)) (P Q : ℕ → Type 0) (first k : ℕ) (Has : List ℕ → Type 0)
    (from : (y : ℕ) → Q y → P y ⊎ (y ≡ k)) (grow : (y : ℕ) → P y → Q y) (new : Q k) (old : P k → ⊥) (some : P first)
    (within : (set : List ℕ) → Has set → (y : ℕ) → Q y → IsAmong set y) where
  differs : (y : ℕ) → P y → k ≡ y → ⊥
  differs y p e = old (subst P (sym e) p)

  pub together_both : (c a : Colour) → Together nodes P c → IsOf nodes a k → Outcome nodes Q Has (both c a)
  together_both Black White t is =
      (t.0, grow t.0 t.1, t.2, λ y q ne. elim (from y q) [ inl p ↦ t.3 y p ne | inr e ↦ subst (λ z. IsOf nodes White z) (sym e) is ])
  together_both White Black t is = (k, new, is, λ y q ne. elim (from y q) [ inl p ↦ t y p | inr e ↦ absurd (ne e) ])
  together_both White White t is = λ y q. elim (from y q) [ inl p ↦ t y p | inr e ↦ subst (λ z. IsOf nodes White z) (sym e) is ]
  together_both Black Black t is = λ set has lawful. one_black nodes set k t.0 lawful (within set has k new) (within set has t.0 (grow t.0 t.1)) (differs t.0 t.1) is t.2
  together_both Black Red t is = λ set has lawful. red_alone nodes set k t.0 lawful (within set has k new) (within set has t.0 (grow t.0 t.1)) (differs t.0 t.1) is
  together_both White Red t is = λ set has lawful. red_alone nodes set k first lawful (within set has k new) (within set has first (grow first some)) (differs first some) is
  together_both Red Black t is = λ set has lawful. red_alone nodes set t.0 k lawful (within set has t.0 (grow t.0 t.1)) (within set has k new) (λ e. differs t.0 t.1 (sym e)) t.2
  together_both Red White t is = λ set has lawful. red_alone nodes set t.0 k lawful (within set has t.0 (grow t.0 t.1)) (within set has k new) (λ e. differs t.0 t.1 (sym e)) t.2
  together_both Red Red t is = λ set has lawful. red_alone nodes set t.0 k lawful (within set has t.0 (grow t.0 t.1)) (within set has k new) (λ e. differs t.0 t.1 (sym e)) t.2

pub together_same : {S : Type 0} (nodes : List (DescribedNode S)) (P Q : ℕ → Type 0) (c : Colour) → ((y : ℕ) → P y → Q y) → ((y : ℕ) → Q y → P y) → Together nodes P c → Together nodes Q c
together_same nodes P Q Black f g t = (t.0, f t.0 t.1, t.2, λ y q ne. t.3 y (g y q) ne)
together_same nodes P Q White f g t = λ y q. t y (g y q)
together_same nodes P Q Red f g t = (t.0, f t.0 t.1, t.2, λ y q. t.3 y (g y q))

pub together_one : {S : Type 0} (nodes : List (DescribedNode S)) (P : ℕ → Type 0) (x : ℕ) (c : Colour) → P x → ((y : ℕ) → P y → y ≡ x) → IsOf nodes c x → Together nodes P c
together_one nodes P x Black p one is = (x, p, is, λ y q ne. absurd (ne (one y q)))
together_one nodes P x White p one is = λ y q. subst (λ z. IsOf nodes White z) (sym (one y q)) is
together_one nodes P x Red p one is = (x, p, is, one)

-- the nodes of a tree node that were looked at: the first one, and those below k
abbrev pub Seen : Forest (List ℕ) → ℕ → ℕ → ℕ → Type 0
Seen F x k y = Relates F x y Same × ((y < k) ⊎ (y ≡ x))

abbrev pub HasNode : Forest (List ℕ) → ℕ → List ℕ → Type 0
HasNode F x set = IsAmong (labels F) set × IsAmong set x

module _ (F : Forest (List ℕ)) (f : IsForest F) (x : ℕ) (here : IsIn F x) where
  self : Relates F x x Same
  self = let r = in_stands F x here in (r.0, r.0, r.1, r.1, refl)

  members : (set : List ℕ) → HasNode F x set → (y : ℕ) → Relates F x y Same → IsAmong set y
  members set h y s = of_same F set x y (forest_is F f).once h.0 h.1 (by_recursion F x y Same s)

  module _ {S : Type 0} (nodes : List (DescribedNode S)) where
    pub seen_none : (c : Colour) → IsOf nodes c x → Together nodes (Seen F x 0) c
    seen_none c is = together_one nodes (Seen F x 0) x c (self, inr refl) (λ y p. elim p.1 [ inl l ↦ absurd (omega arith) | inr e ↦ e ]) is

    -- a node that is not at the tree node, or the first one again
    pub seen_skip : (k : ℕ) (c : Colour) → (IsBeside F x k → ⊥) → Together nodes (Seen F x k) c → Together nodes (Seen F x (k + 1)) c
    seen_skip k c other t = together_same nodes (Seen F x k) (Seen F x (k + 1)) c
        (λ y p. (p.0, elim p.1 [ inl l ↦ inl (omega arith) | inr e ↦ inr e ]))
        (λ y p. (
          p.0,
          elim p.1 [
            | inl l ↦ elim (cases_eq y k) [
              | inl e ↦ elim (cases_eq y x) [ inl q ↦ inr q | inr n ↦ absurd (other ((λ q. n (e ∙ q)), subst (λ z. Relates F x z Same) e p.0)) ]
              | inr ne ↦ inl (omega arith)
            ]
            | inr e ↦ inr e
          ],
        ))
        t

    pub seen_both : (k : ℕ) (c a : Colour) → IsBeside F x k → IsOf nodes a k → Together nodes (Seen F x k) c → Outcome nodes (Seen F x (k + 1)) (HasNode F x) (both c a)
    seen_both k c a beside is t =
        together_both nodes (Seen F x k) (Seen F x (k + 1)) x k (HasNode F x)
        (λ y q. elim q.1 [ inl l ↦ elim (cases_eq y k) [ inl e ↦ inr e | inr n ↦ inl (q.0, inl (omega arith)) ] | inr e ↦ inl (q.0, inr e) ])
        (λ y p. (p.0, elim p.1 [ inl l ↦ inl (omega arith) | inr e ↦ inr e ]))
        (beside.1, inl (omega arith))
        (λ p. elim p.1 [ inl l ↦ omega arith | inr e ↦ beside.0 e ])
        (self, inr refl)
        (λ set h y q. members set h y q.0)
        c a t is

    pub seen_refused : (k : ℕ) → Outcome nodes (Seen F x k) (HasNode F x) None → IsAllowed nodes F x → ⊥
    seen_refused k none h = none h.0 (h.1, h.2) h.3

    -- all were looked at
    every : (k : ℕ) → ((y : ℕ) → IsIn F y → y < k) → (set : List ℕ) → HasNode F x set → (y : ℕ) → IsAmong set y → Seen F x k y
    every k low set h y i = (by_position F x y Same (same_of F set x y h.0 h.1 i), inl (low y (set_in F set y h.0 i)))

    pub seen_allowed : (k : ℕ) (c : Colour) → ((y : ℕ) → IsIn F y → y < k) → Together nodes (Seen F x k) c → (c ≡ White → ⊥) → IsAllowed nodes F x
    seen_allowed k White low t ne = absurd (ne refl)
    seen_allowed k Black low t ne =
        let s = has_set F x here in
        (s.set, s.there, s.is, inl (t.0, members s.set (s.there, s.is) t.0 t.1.0, t.2, λ y i n. t.3 y (every k low s.set (s.there, s.is) y i) n))
    seen_allowed k Red low t ne =
        let s = has_set F x here in
        let rise : IsRising s.set = (Each-at IsNodeSet (labels F) s.set f.sets s.there).1 in
        (s.set, s.there, s.is, inr (t.0, single_set s.set t.0 rise (members s.set (s.there, s.is) t.0 t.1.0) (λ y i. t.3 y (every k low s.set (s.there, s.is) y i)), t.2))

    pub seen_white : (k : ℕ) (c : Colour) → ((y : ℕ) → IsIn F y → y < k) → Together nodes (Seen F x k) c → c ≡ White → IsAllowed nodes F x → ⊥
    seen_white k c low t e h =
        let w : Together nodes (Seen F x k) White = subst (λ d. Together nodes (Seen F x k) d) e t in
        not_white nodes h.0 h.3 (λ y i. w y (every k low h.0 (h.1, h.2) y i))

-- what the code finds of two nodes
pub not_beside : (F : Forest (List ℕ)) (x y : ℕ) → (IsIn F y → ⊥) → IsBeside F x y → ⊥
not_beside F x y out b = out (at_in F y b.1.1 b.1.3)

pub never : (b : Bool) (A : Type 0) → b ≡ false → (A → ⊥) → IsTrue b ↔ A
never b A e none = ((λ t. let f : false ≡ true = sym e ∙ t in cc), (λ a. absurd (none a)))

pub one_more : {S : Type 0} (nodes : List (DescribedNode S)) (Q : ℕ → Type 0) (Has : List ℕ → Type 0) (o r : Option Colour) (t : Colour) → Outcome nodes Q Has o → r ≡ o → r ≡ Some t → Together nodes Q t
one_more nodes Q Has o r t out e f = subst (λ z. Outcome nodes Q Has z) (sym e ∙ f) out

pub one_stop : {S : Type 0} (nodes : List (DescribedNode S)) (Q : ℕ → Type 0) (Has : List ℕ → Type 0) (o r : Option Colour) → Outcome nodes Q Has o → r ≡ o → r ≡ None → (set : List ℕ) → Has set → IsLawful nodes set → ⊥
one_stop nodes Q Has o r out e f = subst (λ z. Outcome nodes Q Has z) (sym e ∙ f) out

pub decided : (b : Bool) (c : Colour) (A : Type 0) → (b ≡ true → c ≡ White → ⊥) → ((c ≡ White → ⊥) → b ≡ true) → ((c ≡ White → ⊥) → A) → (c ≡ White → A → ⊥) → IsTrue b ↔ A
decided b White A test back yes_ no_ = ((λ t. absurd (test t refl)), (λ a. absurd (no_ refl a)))
decided b Black A test back yes_ no_ = let ne : Black ≡ White → ⊥ = λ e. cc in ((λ t. yes_ ne), (λ a. back ne))
decided b Red A test back yes_ no_ = let ne : Red ≡ White → ⊥ = λ e. cc in ((λ t. yes_ ne), (λ a. back ne))
