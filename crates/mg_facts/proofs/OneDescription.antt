-- Facts that don't clash have at most one description over their variables.
use Rattle.std.specs.Prelude.{◌≡◌, ℕ, List, [], ◌∷◌, ◌++◌, Some, refl}
use Rattle.std.specs.List.{AllZip}
use Rattle.std.proofs.Common.{inl, inr, ap, ap₂, sym, ◌∙◌, subst}
use Rattle.gr_base.specs.Lists.{IsAmong, IsWithin, NoneTwice, IsSublist, gathered}
use Rattle.gr_base.proofs.ListLemmas.{IsAmong-append, Each-at, IsAmong-slice_get, one_place, NoneTwice-append}
use Rattle.gr_base.proofs.Zips.{AllZip-one}
use Rattle.gr_terms.specs.Networks.{Term, Assertion}
use Rattle.gr_terms.specs.Canonical.{Literal, Node}
use Rattle.td_desc.specs.declared.Colour.{Colour}
use Rattle.td_desc.specs.declared.Colour.TheVariants.{Black, White, Red}
use Rattle.td_desc.specs.declared.Dominance.{Dominance}
use Rattle.td_desc.specs.declared.Related.{Related}
use Rattle.td_desc.specs.Descriptions.{Description, DescribedNode}
use Rattle.mg_facts.specs.declared.variable.Variable.{Variable}
use Rattle.mg_facts.specs.Said.{Slot, Said}
use Rattle.mg_facts.specs.Meanings.{AreIdentified, itself, backwards, onwards, standing, Clashes, by_colours, IsColour, AreFirsts, IsPartOfColour, AreNodes, IsPlaceOf, IsRelation, IsNode, IsDescribed, relation_of}
use Rattle.mg_facts.proofs.ClashLemmas.{sublist_within}

-- ---- lists

-- a sublist of a list without repetition has none
IsSublist-once : {A : Type 0} (xs ys : List A) → IsSublist xs ys → NoneTwice ys → NoneTwice xs
IsSublist-once xs [] s once = subst NoneTwice (sym s) tt
IsSublist-once xs (y ∷ ys) (inl s) once = IsSublist-once xs ys s once.1
IsSublist-once xs (y ∷ ys) (inr s) once = subst NoneTwice (sym s.1) ((λ i. once.0 (sublist_within s.0 ys s.2 y i)), IsSublist-once s.0 ys s.2 once.1)

-- two lists with the same first element, that doesn't stand again in the first
rest_within : {A : Type 0} (z : A) (xs ys rest others : List A) → xs ≡ z ∷ rest → ys ≡ z ∷ others → (IsAmong rest z → ⊥) → IsWithin xs ys → IsWithin rest others
rest_within z xs ys rest others e d new within x i = elim (subst (λ l. IsAmong l x) d (within x (subst (λ l. IsAmong l x) (sym e) (inr i)))) [
  | inl p ↦ absurd (new (subst (λ w. IsAmong rest w) p i))
  | inr j ↦ j
]

-- sublists of a list without repetition that have the same members are equal
IsSublist-same : {A : Type 0} (xs ys zs : List A) → NoneTwice zs → IsSublist xs zs → IsSublist ys zs → IsWithin xs ys → IsWithin ys xs → xs ≡ ys
IsSublist-same xs ys [] once s t f g = s ∙ sym t
IsSublist-same xs ys (z ∷ zs) once (inl s) (inl t) f g = IsSublist-same xs ys zs once.1 s t f g
IsSublist-same xs ys (z ∷ zs) once (inl s) (inr t) f g = absurd (once.0 (sublist_within xs zs s z (g z (subst (λ l. IsAmong l z) (sym t.1) (inl refl)))))
IsSublist-same xs ys (z ∷ zs) once (inr s) (inl t) f g = absurd (once.0 (sublist_within ys zs t z (f z (subst (λ l. IsAmong l z) (sym s.1) (inl refl)))))
IsSublist-same xs ys (z ∷ zs) once (inr s) (inr t) f g =
    let forth = rest_within z xs ys s.0 t.0 s.1 t.1 (λ i. once.0 (sublist_within s.0 zs s.2 z i)) f in
    let back = rest_within z ys xs t.0 s.0 t.1 s.1 (λ i. once.0 (sublist_within t.0 zs t.2 z i)) g in
    s.1 ∙ (ap (λ l. z ∷ l) (IsSublist-same s.0 t.0 zs once.1 s.2 t.2 forth back) ∙ sym t.1)

-- ---- records with equal fields

abbrev related_of : ℕ → Dominance → ℕ → Related
related_of from how to = record { from = from; how = how; to = to }

same_related : (r q : Related) → r.from ≡ q.from → r.how ≡ q.how → r.to ≡ q.to → r ≡ q
same_related r q from how to = ap (λ x. related_of x r.how r.to) from ∙ ap₂ (λ h y. related_of q.from h y) how to

abbrev node_of : Colour → Node Slot → DescribedNode Slot
node_of colour slots = record { colour = colour; slots = slots }

same_node : (n m : DescribedNode Slot) → n.colour ≡ m.colour → n.slots ≡ m.slots → n ≡ m
same_node n m colour slots = ap₂ node_of colour slots

abbrev built : List (DescribedNode Slot) → List Related → List (Assertion Variable Slot) → Slot → List (Literal (Term Variable)) → Description Variable Slot
built nodes relations network interface literals = record { nodes = nodes; relations = relations; network = network; interface = interface; literals = literals }

same_description : (a b : Description Variable Slot) → a.nodes ≡ b.nodes → a.relations ≡ b.relations → a.network ≡ b.network → a.interface ≡ b.interface → a.literals ≡ b.literals → a ≡ b
same_description a b nodes relations network interface literals =
    ap₂ (λ n r. built n r a.network a.interface a.literals) nodes relations
    ∙ (ap₂ (λ t i. built b.nodes b.relations t i a.literals) network interface ∙ ap (λ l. built b.nodes b.relations b.network b.interface l) literals)

-- ---- colours

-- colours that aren't different are equal
equal_colours : (c d : Colour) → ((c ≡ d → ⊥) → ⊥) → c ≡ d
equal_colours Black Black h = refl
equal_colours Black White h = absurd (h (λ e. cc))
equal_colours Black Red h = absurd (h (λ e. cc))
equal_colours White Black h = absurd (h (λ e. cc))
equal_colours White White h = refl
equal_colours White Red h = absurd (h (λ e. cc))
equal_colours Red Black h = absurd (h (λ e. cc))
equal_colours Red White h = absurd (h (λ e. cc))
equal_colours Red Red h = refl

module _ (all : List Said) where
  -- ---- the first variables

  one_firsts : (seen xs a b : List Variable) → AreFirsts all seen xs a → AreFirsts all seen xs b → a ≡ b
  one_firsts seen [] a b h k = h ∙ sym k
  one_firsts seen (x ∷ xs) a b (inl h) (inl k) = one_firsts seen xs a b h.1 k.1
  one_firsts seen (x ∷ xs) a b (inl h) (inr k) = absurd (k.0 h.0.0 h.0.1 h.0.2)
  one_firsts seen (x ∷ xs) a b (inr h) (inl k) = absurd (h.0 k.0.0 k.0.1 k.0.2)
  one_firsts seen (x ∷ xs) a b (inr h) (inr k) = h.1.1 ∙ (ap (λ l. x ∷ l) (one_firsts (x ∷ seen) xs h.1.0 k.1.0 h.1.2 k.1.2) ∙ sym k.1.1)

  -- none of them is one with a variable that stands before
  new_firsts : (seen xs firsts : List Variable) → AreFirsts all seen xs firsts → (x y : Variable) → IsAmong firsts x → IsAmong seen y → AreIdentified all x y → ⊥
  new_firsts seen [] firsts h x y i j k = subst (λ l. IsAmong l x) h i
  new_firsts seen (z ∷ xs) firsts (inl h) x y i j k = new_firsts seen xs firsts h.1 x y i j k
  new_firsts seen (z ∷ xs) firsts (inr h) x y i j k = elim (subst (λ l. IsAmong l x) h.1.1 i) [
    | inl e ↦ h.0 y j (subst (λ w. AreIdentified all w y) e k)
    | inr r ↦ new_firsts (z ∷ seen) xs h.1.0 h.1.2 x y r (inr j) k
  ]

  -- those that are one are equal
  apart_firsts : (seen xs firsts : List Variable) → AreFirsts all seen xs firsts → (x y : Variable) → IsAmong firsts x → IsAmong firsts y → AreIdentified all x y → x ≡ y
  apart_firsts seen [] firsts h x y i j k = absurd (subst (λ l. IsAmong l x) h i)
  apart_firsts seen (z ∷ xs) firsts (inl h) x y i j k = apart_firsts seen xs firsts h.1 x y i j k
  apart_firsts seen (z ∷ xs) firsts (inr h) x y i j k = elim (subst (λ l. IsAmong l x) h.1.1 i) [
    | inl e ↦ elim (subst (λ l. IsAmong l y) h.1.1 j) [
      | inl d ↦ e ∙ sym d
      | inr r ↦ absurd (new_firsts (z ∷ seen) xs h.1.0 h.1.2 y x r (inl e) (backwards _ _ k))
    ]
    | inr r ↦ elim (subst (λ l. IsAmong l y) h.1.1 j) [
      | inl d ↦ absurd (new_firsts (z ∷ seen) xs h.1.0 h.1.2 x y r (inl d) k)
      | inr s ↦ apart_firsts (z ∷ seen) xs h.1.0 h.1.2 x y r s k
    ]
  ]

  firsts_once : (seen xs firsts : List Variable) → AreFirsts all seen xs firsts → NoneTwice firsts
  firsts_once seen [] firsts h = subst NoneTwice (sym h) tt
  firsts_once seen (x ∷ xs) firsts (inl h) = firsts_once seen xs firsts h.1
  firsts_once seen (x ∷ xs) firsts (inr h) = subst NoneTwice (sym h.1.1) (
    (λ i. new_firsts (x ∷ seen) xs h.1.0 h.1.2 x x i (inl refl) (itself x)),
    firsts_once (x ∷ seen) xs h.1.0 h.1.2,
  )

  -- ---- the nodes of a colour

  module _ (c : Colour) (xs part : List Variable) (h : IsPartOfColour all c xs part) where
    part_colour : (x : Variable) → IsAmong part x → IsColour all x c
    part_colour x i = Each-at (λ z. IsColour all z c) part x h.only i

    part_within : IsWithin part xs
    part_within = sublist_within part xs h.order

    into_part : (other : List Variable) → IsPartOfColour all c xs other → IsWithin part other
    into_part other k x i = k.whole x (part_within x i) (part_colour x i)

  one_part : (c : Colour) (xs a b : List Variable) → NoneTwice xs → IsPartOfColour all c xs a → IsPartOfColour all c xs b → a ≡ b
  one_part c xs a b once h k = IsSublist-same a b xs once h.order k.order (into_part c xs a h b k) (into_part c xs b k a h)

  one_nodes : (xs ys : List Variable) → AreNodes all xs → AreNodes all ys → xs ≡ ys
  one_nodes xs ys h k =
      let same = one_firsts [] (standing all) k.firsts h.firsts k.are_firsts h.are_firsts in
      let once = firsts_once [] (standing all) h.firsts h.are_firsts in
      let blacks = one_part Black h.firsts h.blacks k.blacks once h.are_black (subst (λ l. IsPartOfColour all Black l k.blacks) same k.are_black) in
      let whites = one_part White h.firsts h.whites k.whites once h.are_white (subst (λ l. IsPartOfColour all White l k.whites) same k.are_white) in
      let reds = one_part Red h.firsts h.reds k.reds once h.are_red (subst (λ l. IsPartOfColour all Red l k.reds) same k.are_red) in
      h.parts ∙ (ap₂ (λ a b. a ++ b) (ap₂ (λ a b. a ++ b) blacks whites) reds ∙ sym k.parts)

  module _ (fits : Clashes all → ⊥) where
    one_colour : (x : Variable) (c d : Colour) → IsColour all x c → IsColour all x d → c ≡ d
    one_colour x c d (inl h) (inl k) = equal_colours c d (λ ne. fits (by_colours x c d h k ne))
    one_colour x c d (inl h) (inr k) = absurd (k.1 c h)
    one_colour x c d (inr h) (inl k) = absurd (h.1 d k)
    one_colour x c d (inr h) (inr k) = h.0 ∙ sym k.0

    one_node_of : (x : Variable) (n m : DescribedNode Slot) → IsNode all x n → IsNode all x m → n ≡ m
    one_node_of x n m h k = same_node n m (one_colour x n.colour m.colour h.0 k.0) (h.1 ∙ sym k.1)

    module _ (nodes : List Variable) (h : AreNodes all nodes) where
      firsts_apart : NoneTwice h.firsts
      firsts_apart = firsts_once [] (standing all) h.firsts h.are_firsts

      parts_apart : (c d : Colour) (a b : List Variable) → IsPartOfColour all c h.firsts a → IsPartOfColour all d h.firsts b → (c ≡ d → ⊥) → (x : Variable) → IsAmong a x → IsAmong b x → ⊥
      parts_apart c d a b p q ne x i j = ne (one_colour x c d (part_colour c h.firsts a p x i) (part_colour d h.firsts b q x j))

      part_once : (c : Colour) (part : List Variable) → IsPartOfColour all c h.firsts part → NoneTwice part
      part_once c part p = IsSublist-once part h.firsts p.order firsts_apart

      nodes_once : NoneTwice nodes
      nodes_once = subst NoneTwice (sym h.parts) (
          NoneTwice-append (h.blacks ++ h.whites) h.reds
          (NoneTwice-append h.blacks h.whites (part_once Black h.blacks h.are_black) (part_once White h.whites h.are_white)
          (parts_apart Black White h.blacks h.whites h.are_black h.are_white (λ e. cc)))
          (part_once Red h.reds h.are_red)
          (λ x i j. elim (IsAmong-append h.blacks h.whites x i) [
            | inl k ↦ parts_apart Black Red h.blacks h.reds h.are_black h.are_red (λ e. cc) x k j
            | inr k ↦ parts_apart White Red h.whites h.reds h.are_white h.are_red (λ e. cc) x k j
          ])
          )

      among_firsts : IsWithin nodes h.firsts
      among_firsts x i = elim (IsAmong-append (h.blacks ++ h.whites) h.reds x (subst (λ l. IsAmong l x) h.parts i)) [
        | inl j ↦ elim (IsAmong-append h.blacks h.whites x j) [
          | inl k ↦ part_within Black h.firsts h.blacks h.are_black x k
          | inr k ↦ part_within White h.firsts h.whites h.are_white x k
        ]
        | inr j ↦ part_within Red h.firsts h.reds h.are_red x j
      ]

      one_place_of : (x : Variable) (m n : ℕ) → IsPlaceOf all nodes m x → IsPlaceOf all nodes n x → m ≡ n
      one_place_of x m n p q =
          let same = apart_firsts [] (standing all) h.firsts h.are_firsts p.0 q.0 (among_firsts p.0 (IsAmong-slice_get nodes m p.0 p.1))
          (among_firsts q.0 (IsAmong-slice_get nodes n q.0 q.1)) (onwards _ _ _ (backwards _ _ p.2) q.2) in
          one_place nodes m n p.0 nodes_once p.1 (q.1 ∙ ap Some (sym same))

      one_relation : (said : Variable × Dominance × Variable) (r q : Related) → IsRelation all nodes said r → IsRelation all nodes said q → r ≡ q
      one_relation said r q p k = same_related r q (one_place_of said.0 r.from q.from p.0 k.0) (p.1 ∙ sym k.1) (one_place_of said.2 r.to q.to p.2 k.2)

    pub one_description : (a b : Description Variable Slot) → IsDescribed all a → IsDescribed all b → a ≡ b
    one_description a b h k =
        let same = one_nodes k.variables h.variables k.are_nodes h.are_nodes in
        let nodes = AllZip-one (IsNode all) one_node_of h.variables a.nodes b.nodes h.nodes (subst (λ l. AllZip (IsNode all) l b.nodes) same k.nodes) in
        let relations = AllZip-one (IsRelation all h.variables) (one_relation h.variables h.are_nodes) (gathered relation_of all) a.relations b.relations h.relations
        (subst (λ l. AllZip (IsRelation all l) (gathered relation_of all) b.relations) same k.relations) in
        same_description a b nodes relations (h.network ∙ sym k.network) (h.interface ∙ sym k.interface) (h.literals ∙ sym k.literals)
