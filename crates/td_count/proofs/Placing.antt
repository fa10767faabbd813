-- Where relations hold in a forest, and which sets of nodes are lawful, is decided.
use Rattle.std.specs.Prelude.{◌≡◌, ℕ, zero, suc, ◌<◌, List, [], ◌∷◌, ◌++◌, map, ⊤, Some, slice_get, refl}
use Rattle.std.proofs.Common.{inl, inr, sym, subst}
use Rattle.std.proofs.lemmas.Option.{none-some}
use Rattle.gr_base.specs.Lists.{IsAmong}
use Rattle.gr_base.specs.Forests.{Forest, empty, tree, label_at, IsOver, IsLeftOf}
use Rattle.gr_base.proofs.ListLemmas.{IsAmong-map, IsAmong-append_left, IsAmong-append_right, IsAmong-new_one}
use Rattle.td_forest.specs.Nodes.{Stands}
use Rattle.td_desc.specs.declared.Colour.{Colour}
use Rattle.td_desc.specs.declared.Colour.TheVariants.{Black, White, Red}
use Rattle.td_desc.specs.declared.Dominance.{Dominance}
use Rattle.td_desc.specs.declared.Dominance.TheVariants.{Parent, Above, AboveOrSame, Next, Left, LeftOrSame}
use Rattle.td_desc.specs.declared.Related.{Related}
use Rattle.td_desc.specs.Descriptions.{DescribedNode}
use Rattle.td_colour.specs.Colours.{IsOf, HasOneBlack, IsOneRed, IsLawful}
use Rattle.td_colour.specs.Models.{AllHold}
use Rattle.td_colour.specs.Relations.{NoneBetween, HoldsAt, Holds}
use Rattle.gr_base.specs.Decisions.{IsDecided, AreToldApart}
use Rattle.gr_base.proofs.Deciding.{decided_by, decided_both, decided_either, decided_if, decided_not, decided_number, decided_less, decided_list, decided_among, decided_each, decided_members, decided_some, decided_found, decided_option}

decided_position : AreToldApart (List ℕ)
decided_position = decided_list decided_number

-- ---- the positions of a forest
abbrev next_root : List ℕ → List ℕ
next_root [] = []
next_root (i ∷ p) = suc i ∷ p

abbrev positions : {A : Type 0} → Forest A → List (List ℕ)
positions empty = []
positions (tree a kids more) = (zero ∷ []) ∷ map (λ p. zero ∷ p) (positions kids) ++ map next_root (positions more)

all_positions : {A : Type 0} (F : Forest A) (p : List ℕ) (a : A) → label_at F p ≡ Some a → IsAmong (positions F) p
all_positions empty p a e = absurd (none-some a e)
all_positions (tree b kids more) [] a e = absurd (none-some a e)
all_positions (tree b kids more) (zero ∷ []) a e = inl refl
all_positions (tree b kids more) (zero ∷ j ∷ p) a e =
    inr (IsAmong-append_left (map (λ q. zero ∷ q) (positions kids)) (map next_root (positions more)) (zero ∷ j ∷ p)
    (IsAmong-map (λ q. zero ∷ q) (positions kids) (j ∷ p) (all_positions kids (j ∷ p) a e)))
all_positions (tree b kids more) (suc i ∷ p) a e =
    inr (IsAmong-append_right (map (λ q. zero ∷ q) (positions kids)) (map next_root (positions more)) (suc i ∷ p)
    (IsAmong-map next_root (positions more) (i ∷ p) (all_positions more (i ∷ p) a e)))

-- ---- positions
decided_over : (p q : List ℕ) → IsDecided (IsOver p q)
decided_over p [] = inr (λ h. h)
decided_over [] (j ∷ q) = inl tt
decided_over (i ∷ p) (j ∷ q) = decided_both (i ≡ j) (IsOver p q) (decided_number i j) (decided_over p q)

decided_left : (p q : List ℕ) → IsDecided (IsLeftOf p q)
decided_left [] q = inr (λ h. h)
decided_left (i ∷ p) [] = inr (λ h. h)
decided_left (i ∷ p) (j ∷ q) = decided_either (i < j) ((i ≡ j) × IsLeftOf p q) (decided_less i j) (decided_both (i ≡ j) (IsLeftOf p q) (decided_number i j) (decided_left p q))

decided_parent : (p q : List ℕ) → IsDecided ((k : ℕ) × (q ≡ p ++ k ∷ []))
decided_parent p q = decided_found (λ k. q ≡ p ++ k ∷ []) q (λ k e. subst (λ z. IsAmong z k) (sym e) (IsAmong-new_one p k)) (λ k i. decided_position q (p ++ k ∷ []))

module _ (F : Forest (List ℕ)) where
  -- what stands at the position
  decided_there : (r : List ℕ) → IsDecided ((set : List ℕ) × (label_at F r ≡ Some set))
  decided_there r =
      decided_by ((set : List ℕ) × (label_at F r ≡ Some set) × ⊤) ((set : List ℕ) × (label_at F r ≡ Some set)) (λ h. (h.0, h.1)) (λ h. (h.0, h.1, tt))
      (decided_option (λ set. ⊤) (label_at F r) (λ set. inl tt))

  decided_stands : (x : ℕ) (p : List ℕ) → IsDecided (Stands F x p)
  decided_stands x p = decided_option (λ set. IsAmong set x) (label_at F p) (λ set. decided_among decided_number set x)

  abbrev Between : List ℕ → List ℕ → List ℕ → Type 0
  Between p q r = ((set : List ℕ) × (label_at F r ≡ Some set)) × (IsLeftOf p r × IsLeftOf r q)

  decided_between : (p q : List ℕ) → IsDecided (NoneBetween F p q)
  decided_between p q =
      decided_by (((r : List ℕ) × Between p q r) → ⊥) (NoneBetween F p q) none some
      (decided_not ((r : List ℕ) × Between p q r)
      (decided_found (λ r. Between p q r) (positions F) there
      (λ r i. decided_it r)))
    where
      none : (((r : List ℕ) × Between p q r) → ⊥) → NoneBetween F p q
      none n set r e a b = n (r, ((set, e), (a, b)))

      some : NoneBetween F p q → ((r : List ℕ) × Between p q r) → ⊥
      some n h = n h.1.0.0 h.0 h.1.0.1 h.1.1.0 h.1.1.1

      there : (r : List ℕ) → Between p q r → IsAmong (positions F) r
      there r h = all_positions F r h.0.0 h.0.1

      decided_it : (r : List ℕ) → IsDecided (Between p q r)
      decided_it r =
          decided_both ((set : List ℕ) × (label_at F r ≡ Some set)) (IsLeftOf p r × IsLeftOf r q) (decided_there r)
          (decided_both (IsLeftOf p r) (IsLeftOf r q) (decided_left p r) (decided_left r q))

  decided_at : (how : Dominance) (p q : List ℕ) → IsDecided (HoldsAt F how p q)
  decided_at Parent p q = decided_parent p q
  decided_at Above p q = decided_over p q
  decided_at AboveOrSame p q = decided_either (IsOver p q) (p ≡ q) (decided_over p q) (decided_position p q)
  decided_at Next p q = decided_both (IsLeftOf p q) (NoneBetween F p q) (decided_left p q) (decided_between p q)
  decided_at Left p q = decided_left p q
  decided_at LeftOrSame p q = decided_either (IsLeftOf p q) (p ≡ q) (decided_left p q) (decided_position p q)

  -- the second position, and then both
  abbrev From : Dominance → ℕ → List ℕ → Type 0
  From how y p = (q : List ℕ) × (Stands F y q × HoldsAt F how p q)

  decided_from : (how : Dominance) (y : ℕ) (p : List ℕ) → IsDecided (From how y p)
  decided_from how y p =
      decided_found (λ q. Stands F y q × HoldsAt F how p q) (positions F) (λ q h. all_positions F q h.0.0 h.0.1)
      (λ q i. decided_both (Stands F y q) (HoldsAt F how p q) (decided_stands y q) (decided_at how p q))

  pub decided_holds : (how : Dominance) (x y : ℕ) → IsDecided (Holds F how x y)
  decided_holds how x y =
      decided_by ((p : List ℕ) × (Stands F x p × From how y p)) (Holds F how x y) (λ h. (h.0, h.1.1.0, h.1.0, h.1.1.1.0, h.1.1.1.1)) (λ h. (h.0, (h.2, (h.1, (h.3, h.4)))))
      (decided_found (λ p. Stands F x p × From how y p) (positions F) (λ p h. all_positions F p h.0.0 h.0.1)
      (λ p i. decided_both (Stands F x p) (From how y p) (decided_stands x p) (decided_from how y p)))

  pub decided_relations : (m : ℕ) (rs : List Related) → IsDecided (AllHold rs m F)
  decided_relations m rs =
      decided_each (λ (r : Related). r.from < m → r.to < m → Holds F r.how r.from r.to) rs
      (λ r i. decided_if (r.from < m) (r.to < m → Holds F r.how r.from r.to) (decided_less r.from m)
      (decided_if (r.to < m) (Holds F r.how r.from r.to) (decided_less r.to m) (decided_holds r.how r.from r.to)))

-- ---- colours
pub decided_colour : AreToldApart Colour
decided_colour Black Black = inl refl
decided_colour Black White = inr (λ e. cc e)
decided_colour Black Red = inr (λ e. cc e)
decided_colour White Black = inr (λ e. cc e)
decided_colour White White = inl refl
decided_colour White Red = inr (λ e. cc e)
decided_colour Red Black = inr (λ e. cc e)
decided_colour Red White = inr (λ e. cc e)
decided_colour Red Red = inl refl

module _ {S : Type 0} (nodes : List (DescribedNode S)) where
  decided_of : (c : Colour) (x : ℕ) → IsDecided (IsOf nodes c x)
  decided_of c x = decided_option (λ (n : DescribedNode S). n.colour ≡ c) (slice_get nodes x) (λ n. decided_colour n.colour c)

  abbrev OthersWhite : List ℕ → ℕ → Type 0
  OthersWhite set b = (y : ℕ) → IsAmong set y → (y ≡ b → ⊥) → IsOf nodes White y

  decided_white : (set : List ℕ) (b : ℕ) → IsDecided (OthersWhite set b)
  decided_white set b =
      decided_members (λ y. (y ≡ b → ⊥) → IsOf nodes White y) set
      (λ y i. decided_if (y ≡ b → ⊥) (IsOf nodes White y) (decided_not (y ≡ b) (decided_number y b)) (decided_of White y))

  decided_black : (set : List ℕ) → IsDecided (HasOneBlack nodes set)
  decided_black set =
      decided_by ((b : ℕ) × IsAmong set b × (IsOf nodes Black b × OthersWhite set b)) (HasOneBlack nodes set) (λ h. (h.0, h.1, h.2.0, h.2.1)) (λ h. (h.0, h.1, (h.2, h.3)))
      (decided_some (λ b. IsOf nodes Black b × OthersWhite set b) set (λ b i. decided_both (IsOf nodes Black b) (OthersWhite set b) (decided_of Black b) (decided_white set b)))

  decided_red : (set : List ℕ) → IsDecided (IsOneRed nodes set)
  decided_red set =
      decided_by ((r : ℕ) × ((set ≡ r ∷ []) × IsOf nodes Red r)) (IsOneRed nodes set) (λ h. (h.0, h.1.0, h.1.1)) (λ h. (h.0, (h.1, h.2)))
      (decided_found (λ r. (set ≡ r ∷ []) × IsOf nodes Red r) set (λ r h. subst (λ z. IsAmong z r) (sym h.0) (inl refl))
      (λ r i. decided_both (set ≡ r ∷ []) (IsOf nodes Red r) (decided_position set (r ∷ [])) (decided_of Red r)))

  pub decided_lawful : (set : List ℕ) → IsDecided (IsLawful nodes set)
  decided_lawful set = decided_either (HasOneBlack nodes set) (IsOneRed nodes set) (decided_black set) (decided_red set)
