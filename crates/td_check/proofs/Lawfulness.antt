-- The colour rule of a set by its first node, where blacks stand before all others.
use Rattle.std.specs.Prelude.{◌≡◌, ℕ, ◌+◌, ◌<◌, ◌≤◌, List, [], ◌∷◌, map, length, slice_get, ◌⊎◌, ◌↔◌, Some, Bool, true, false, ◌&&◌, IsTrue, refl}
use Rattle.std.proofs.Common.{inl, inr, ap, sym, ◌∙◌, subst, arith, get_or}
use Rattle.std.proofs.lemmas.Bool.{cases_lt, cases_eq}
use Rattle.std.proofs.lemmas.Option.{slice_get_within, slice_get-get_or}
use Rattle.gr_base.specs.Lists.{IsAmong}
use Rattle.td_desc.specs.declared.Colour.{Colour}
use Rattle.td_desc.specs.declared.Colour.TheVariants.{Black, White, Red}
use Rattle.td_desc.specs.Descriptions.{DescribedNode}
use Rattle.td_desc.specs.declared.DescribedNode as code_node
use Rattle.td_forest.proofs.Sets.{single_set}
use Rattle.td_colour.specs.Colours.{IsOf, IsLawful, BlacksFirst}
use Rattle.td_colour.proofs.Colouring.{one_colour, colour_of}
use Rattle.td_check.specs.Sets.{SendsTo, sent_to}
use Rattle.td_check.specs.Places.{GoesWith, IsFirstSent, nodes_of}
use Rattle.td_check.proofs.Passing.{two_true}
use Rattle.td_check.proofs.Onto.{sends_among, among_sends, sent_to_rises}

module _ (nodes : List (DescribedNode ℕ)) (map : List ℕ) (to head : ℕ) (first : IsFirstSent map to head) where
  head_in : IsAmong (sent_to map to) head
  head_in = sends_among map head to first.sent

  head_least : (y : ℕ) → SendsTo map y to → head ≤ y
  head_least y s = elim (cases_lt y head) [ inl l ↦ absurd (first.least y l s) | inr g ↦ g ]

  different : (x y : Colour) → IsOf nodes x head → IsOf nodes y head → (x ≡ y → ⊥) → ⊥
  different x y a b ne = ne (one_colour nodes head x y a b)

  -- the first one black and all others white, or the first one red alone
  pub lawful_by : (c : Colour) → IsOf nodes c head → (c ≡ White → ⊥) → ((x : ℕ) → x < length map → GoesWith nodes map to head x) → IsLawful nodes (sent_to map to)
  lawful_by White is ne goes = absurd (ne refl)
  lawful_by Black is ne goes = inl (head, head_in, is, λ y i other. let s = among_sends map y to i in (goes y (slice_get_within map y to s) s other).1)
  lawful_by Red is ne goes = inr (
    head,
    single_set (sent_to map to) head (sent_to_rises map to) head_in (λ y i. elim (cases_eq y head) [
      | inl e ↦ e
      | inr other ↦
          let s = among_sends map y to i in
          let black = (goes y (slice_get_within map y to s) s other).0 in
          absurd (different Red Black is black (λ e. cc))
    ]),
    is,
  )

  module _ (blacks : BlacksFirst nodes) where
    -- where the rule holds, the first one is black or red
    pub lawful_head : IsLawful nodes (sent_to map to) → IsOf nodes White head → ⊥
    lawful_head (inl l) white = elim (cases_eq head l.0) [
      | inl e ↦ different White Black white (subst (λ z. IsOf nodes Black z) (sym e) l.2) (λ e. cc)
      | inr ne ↦ different White Black white (blacks head l.0 (before head l.0 (head_least l.0 (among_sends map l.0 to l.1)) ne) l.2) (λ e. cc)
    ]
      where
        before : (a b : ℕ) → a ≤ b → (a ≡ b → ⊥) → a < b
        before a b low ne = elim (cases_lt a b) [ inl l ↦ l | inr g ↦ absurd (ne (omega arith)) ]
    lawful_head (inr l) white =
        let e : head ≡ l.0 = alone head l.0 (sent_to map to) l.1 head_in in
        different White Red white (subst (λ z. IsOf nodes Red z) (sym e) l.2) (λ e. cc)
      where
        alone : (x r : ℕ) (set : List ℕ) → set ≡ r ∷ [] → IsAmong set x → x ≡ r
        alone x r set e i = elim (subst (λ zs. IsAmong zs x) e i) [ inl p ↦ p | inr k ↦ absurd k ]

    pub lawful_goes : IsLawful nodes (sent_to map to) → (x : ℕ) → GoesWith nodes map to head x
    lawful_goes (inl l) x s other = elim (cases_eq head l.0) [
      | inl e ↦ (subst (λ z. IsOf nodes Black z) (sym e) l.2, l.3 x (sends_among map x to s) (λ q. other (q ∙ sym e)))
      | inr ne ↦
          let white = l.3 head head_in ne in
          absurd (different White Black white (blacks head l.0 (before head l.0 (head_least l.0 (among_sends map l.0 to l.1)) ne) l.2) (λ e. cc))
    ]
      where
        before : (a b : ℕ) → a ≤ b → (a ≡ b → ⊥) → a < b
        before a b low ne = elim (cases_lt a b) [ inl l ↦ l | inr g ↦ absurd (ne (omega arith)) ]
    lawful_goes (inr l) x s other = absurd (other (alone x l.0 (sent_to map to) l.1 (sends_among map x to s) ∙ sym (alone head l.0 (sent_to map to) l.1 head_in)))
      where
        alone : (x r : ℕ) (set : List ℕ) → set ≡ r ∷ [] → IsAmong set x → x ≡ r
        alone x r set e i = elim (subst (λ zs. IsAmong zs x) e i) [ inl p ↦ p | inr k ↦ absurd k ]

-- the first k nodes go with the first one
abbrev pub FirstGo : List (DescribedNode ℕ) → List ℕ → ℕ → ℕ → ℕ → Type 0
FirstGo nodes map to head k = (x : ℕ) → x < k → GoesWith nodes map to head x

pub go_more : (nodes : List (DescribedNode ℕ)) (map : List ℕ) (to head k : ℕ) → FirstGo nodes map to head k → GoesWith nodes map to head k → FirstGo nodes map to head (k + 1)
go_more nodes map to head k before here x l = elim (cases_lt x k) [ inl h ↦ before x h | inr g ↦ let e : k ≡ x = omega arith in subst (λ z. GoesWith nodes map to head z) e here ]

-- so for the first k tree nodes
abbrev pub FirstLawful : List (DescribedNode ℕ) → List ℕ → ℕ → Type 0
FirstLawful nodes map k = (t : ℕ) → t < k → IsLawful nodes (sent_to map t)

pub lawful_more : (nodes : List (DescribedNode ℕ)) (map : List ℕ) (k : ℕ) → FirstLawful nodes map k → IsLawful nodes (sent_to map k) → FirstLawful nodes map (k + 1)
lawful_more nodes map k before here t l = elim (cases_lt t k) [ inl h ↦ before t h | inr g ↦ let e : k ≡ t = omega arith in subst (λ z. IsLawful nodes (sent_to map z)) e here ]

-- the answers of one test
pub goes_other : (nodes : List (DescribedNode ℕ)) (map : List ℕ) (to head x s : ℕ) → slice_get map x ≡ Some s → (s ≡ to → ⊥) → GoesWith nodes map to head x
goes_other nodes map to head x s at ne sends other = absurd (ne (same_number s to (sym at ∙ sends)))
  where
    same_number : (a b : ℕ) → Some a ≡ Some b → a ≡ b
    same_number a b e = cc

pub goes_self : (nodes : List (DescribedNode ℕ)) (map : List ℕ) (to head x : ℕ) → x ≡ head → GoesWith nodes map to head x
goes_self nodes map to head x e sends other = absurd (other e)

-- the colour of a node of the code
pub of_colour : (nodes : List code_node.DescribedNode) (x : ℕ) (n : code_node.DescribedNode) (c : Colour) → slice_get nodes x ≡ Some n → n.colour ≡ c → IsOf (nodes_of nodes) c x
of_colour nodes x n c at e = subst (λ z. IsOf (nodes_of nodes) z x) e (colour_of nodes x n at)

is_colour : (nodes : List code_node.DescribedNode) (x : ℕ) (n : code_node.DescribedNode) (c : Colour) (b : Bool) → slice_get nodes x ≡ Some n → (b ≡ true → n.colour ≡ c) → (n.colour ≡ c → b ≡ true) → IsTrue b ↔ IsOf (nodes_of nodes) c x
is_colour nodes x n c b at f g = (
  (λ t. of_colour nodes x n c at (f t)),
  (λ i. g (one_colour (nodes_of nodes) x n.colour c (colour_of nodes x n at) i)),
)

pub goes_answer : (nodes : List code_node.DescribedNode) (map : List ℕ) (to head x : ℕ) (n m : code_node.DescribedNode) (black white : Bool) → slice_get nodes head ≡ Some n → slice_get nodes x ≡ Some m
    → x < length map → get_or map x 0 ≡ to → (x ≡ head → ⊥) → (black ≡ true → n.colour ≡ Black) → (n.colour ≡ Black → black ≡ true) → (white ≡ true → m.colour ≡ White) → (m.colour ≡ White → white ≡ true)
    → IsTrue (black && white) ↔ GoesWith (nodes_of nodes) map to head x
goes_answer nodes map to head x n m black white at other within sends ne f g h k =
    let both = two_true black white (IsOf (nodes_of nodes) Black head) (IsOf (nodes_of nodes) White x) (is_colour nodes head n Black black at f g) (is_colour nodes x m White white other h k) in
    let sent : SendsTo map x to = slice_get-get_or map x 0 within ∙ ap (λ z. Some z) sends in (
      (λ t s q. both.0 t),
      (λ goes. both.1 (goes sent ne)),
    )
