-- Which relations hold after the step of the newest node.
use Rattle.std.specs.Prelude.{◌≡◌, ℕ, zero, suc, ◌+◌, ◌<◌, ◌≤◌, List, [], ◌∷◌, ◌⊎◌, ◌↔◌, Bool, true, false, not, length, refl}
use Rattle.std.proofs.Common.{inl, inr, subst, sym, ap, ◌∙◌, arith, get_or}
use Rattle.std.proofs.lemmas.Bool.{cases_eq}
use Rattle.gr_base.specs.Lists.{Each}
use Rattle.gr_base.specs.Forests.{Forest}
use Rattle.td_forest.specs.declared.Relation.{Relation}
use Rattle.td_forest.specs.declared.Relation.TheVariants as rel
use Rattle.td_forest.specs.Nodes.{IsForestOf, Relates}
use Rattle.td_forest.specs.Without.{without}
use Rattle.td_forest.proofs.Twins.{IsOverIn, IsLeftIn, IsParentIn, IsNextIn}
use Rattle.td_forest.proofs.Positions.{by_position, by_recursion}
use Rattle.td_forest.proofs.Forming.{of_below}
use Rattle.td_forest.proofs.Keeping.{deletion_relations, over_in, left_in}
use Rattle.td_forest.proofs.OneStep.{without_below}
use Rattle.td_desc.specs.declared.Dominance.{Dominance}
use Rattle.td_desc.specs.declared.Dominance.TheVariants.{Parent, Above, AboveOrSame, Next, Left, LeftOrSame}
use Rattle.td_desc.specs.declared.Related.{Related}
use Rattle.td_colour.specs.Relations.{Holds}
use Rattle.td_colour.proofs.Twinning.{HoldsIn, holds_in, in_holds}
use Rattle.td_solver.specs.Ties.{NoneSo, HoldsOf, IsBelow, is_tight_in}

pub iff_true : (P : Type 0) → P → ◌≡◌ {A = Bool} true true ↔ P
iff_true P p = ((λ e. p), (λ q. refl))

pub iff_false : (P : Type 0) → (P → ⊥) → ◌≡◌ {A = Bool} false true ↔ P
iff_false P no_p = ((λ e. cc), (λ q. absurd (no_p q)))

pub iff_chain : (A B C : Type 0) → A ↔ B → B ↔ C → A ↔ C
iff_chain A B C f g = ((λ a. g.0 (f.0 a)), (λ c. f.1 (g.1 c)))

-- no node between two others
pub one_between : (m : ℕ) (F : Forest (List ℕ)) (x y z : ℕ) (how : Relation) → z < m → Relates F x z how → Relates F z y how → ◌≡◌ {A = Bool} false true ↔ NoneSo F m x y how
one_between m F x y z how low a b = iff_false (NoneSo F m x y how) (λ h. h z low a b)

pub between_more : (F : Forest (List ℕ)) (x y k : ℕ) (how : Relation) → NoneSo F k x y how → (Relates F x k how → Relates F k y how → ⊥) → NoneSo F (k + 1) x y how
between_more F x y k how none last z low i j = elim (cases_eq z k) [
  | inl e ↦ last (subst (λ w. Relates F x w how) e i) (subst (λ w. Relates F w y how) e j)
  | inr ne ↦ none z (omega arith) i j
]

pub none_far : (F : Forest (List ℕ)) (x y m k : ℕ) (how : Relation) → m ≤ k → NoneSo F k x y how → ◌≡◌ {A = Bool} true true ↔ NoneSo F m x y how
none_far F x y m k how far none = iff_true (NoneSo F m x y how) (λ z low i j. none z (omega arith) i j)

-- what is direct, by nodes below m alone
module _ (m : ℕ) (F : Forest (List ℕ)) (f : IsForestOf m F) (x y : ℕ) where
  parent_directly : (Relates F x y rel.Over × NoneSo F m x y rel.Over) ↔ Holds F Parent x y
  parent_directly = (
    (λ h. in_holds F f.forest x y Parent (
      by_recursion F x y rel.Over h.0,
      λ z i j. h.1 z ((f.nodes z).0 (over_in F z y j).0) (by_position F x z rel.Over i) (by_position F z y rel.Over j),
    )),
    (λ h. let k = holds_in F f.forest x y Parent h in
        (by_position F x y rel.Over k.0, λ z low i j. k.1 z (by_recursion F x z rel.Over i) (by_recursion F z y rel.Over j))),
  )

  next_directly : (Relates F x y rel.Left × NoneSo F m x y rel.Left) ↔ Holds F Next x y
  next_directly = (
    (λ h. in_holds F f.forest x y Next (
      by_recursion F x y rel.Left h.0,
      λ z i j. h.1 z ((f.nodes z).0 (left_in F z y j).0) (by_position F x z rel.Left i) (by_position F z y rel.Left j),
    )),
    (λ h. let k = holds_in F f.forest x y Next h in
        (by_position F x y rel.Left k.0, λ z low i j. k.1 z (by_recursion F x z rel.Left i) (by_recursion F z y rel.Left j))),
  )

  above_so : Relates F x y rel.Over ↔ Holds F Above x y
  above_so = ((λ h. in_holds F f.forest x y Above (by_recursion F x y rel.Over h)), (λ h. by_position F x y rel.Over (holds_in F f.forest x y Above h)))

  left_so : Relates F x y rel.Left ↔ Holds F Left x y
  left_so = ((λ h. in_holds F f.forest x y Left (by_recursion F x y rel.Left h)), (λ h. by_position F x y rel.Left (holds_in F f.forest x y Left h)))

  above_or_same_so : (Relates F x y rel.Over ⊎ Relates F x y rel.Same) ↔ Holds F AboveOrSame x y
  above_or_same_so = (
    (λ h. in_holds F f.forest x y AboveOrSame (elim h [ inl o ↦ inl (by_recursion F x y rel.Over o) | inr s ↦ inr (by_recursion F x y rel.Same s) ])),
    (λ h. elim (holds_in F f.forest x y AboveOrSame h) [ inl o ↦ inl (by_position F x y rel.Over o) | inr s ↦ inr (by_position F x y rel.Same s) ]),
  )

  left_or_same_so : (Relates F x y rel.Left ⊎ Relates F x y rel.Same) ↔ Holds F LeftOrSame x y
  left_or_same_so = (
    (λ h. in_holds F f.forest x y LeftOrSame (elim h [ inl o ↦ inl (by_recursion F x y rel.Left o) | inr s ↦ inr (by_recursion F x y rel.Same s) ])),
    (λ h. elim (holds_in F f.forest x y LeftOrSame h) [ inl o ↦ inl (by_position F x y rel.Left o) | inr s ↦ inr (by_position F x y rel.Same s) ]),
  )

-- what a test says of a relation, by its kind
abbrev pub SaysSo : ℕ → Forest (List ℕ) → ℕ → ℕ → Dominance → Type 0
SaysSo m F x y Parent = Relates F x y rel.Over × NoneSo F m x y rel.Over
SaysSo m F x y Above = Relates F x y rel.Over
SaysSo m F x y AboveOrSame = Relates F x y rel.Over ⊎ Relates F x y rel.Same
SaysSo m F x y Next = Relates F x y rel.Left × NoneSo F m x y rel.Left
SaysSo m F x y Left = Relates F x y rel.Left
SaysSo m F x y LeftOrSame = Relates F x y rel.Left ⊎ Relates F x y rel.Same

says_holds : (m : ℕ) (F : Forest (List ℕ)) (x y : ℕ) (how : Dominance) → IsForestOf m F → SaysSo m F x y how ↔ Holds F how x y
says_holds m F x y Parent f = parent_directly m F f x y
says_holds m F x y Above f = above_so m F f x y
says_holds m F x y AboveOrSame f = above_or_same_so m F f x y
says_holds m F x y Next f = next_directly m F f x y
says_holds m F x y Left f = left_so m F f x y
says_holds m F x y LeftOrSame f = left_or_same_so m F f x y

-- the test of a relation of one kind decides it
pub so_test : (m : ℕ) (F : Forest (List ℕ)) (r : Related) (how : Dominance) (b : Bool) → r.how ≡ how → IsForestOf m F → b ≡ true ↔ SaysSo m F r.from r.to how → b ≡ true ↔ HoldsOf F r
so_test m F r how b e f t =
    iff_chain (b ≡ true) (SaysSo m F r.from r.to how) (HoldsOf F r) t
    (subst (λ k. SaysSo m F r.from r.to how ↔ Holds F k r.from r.to) (sym e) (says_holds m F r.from r.to how f))

module _ (m : ℕ) (G : Forest (List ℕ)) (g : IsForestOf (suc m) G) (x y : ℕ) (a : x < m) (b : y < m) where
  -- a parent stays one where the newest node does not come between, and so does a neighbour
  still_parent : IsParentIn (without m G) x y → (IsOverIn G x m → IsOverIn G m y → ⊥) → IsParentIn G x y
  still_parent h none =
      let r = deletion_relations m G (of_below (suc m) G g) in (
        (r.over x y a b).0 h.0,
        λ z i j.
            let l : z < suc m = (g.nodes z).0 (over_in G z y j).0 in
            elim (cases_eq z m) [
              | inl e ↦ none (subst (λ w. IsOverIn G x w) e i) (subst (λ w. IsOverIn G w y) e j)
              | inr ne ↦ let low : z < m = omega arith in h.1 z ((r.over x z a low).1 i) ((r.over z y low b).1 j)
            ],
      )

  still_next : IsNextIn (without m G) x y → (IsLeftIn G x m → IsLeftIn G m y → ⊥) → IsNextIn G x y
  still_next h none =
      let r = deletion_relations m G (of_below (suc m) G g) in (
        (r.left x y a b).0 h.0,
        λ z i j.
            let l : z < suc m = (g.nodes z).0 (left_in G z y j).0 in
            elim (cases_eq z m) [
              | inl e ↦ none (subst (λ w. IsLeftIn G x w) e i) (subst (λ w. IsLeftIn G w y) e j)
              | inr ne ↦ let low : z < m = omega arith in h.1 z ((r.left x z a low).1 i) ((r.left z y low b).1 j)
            ],
      )

  before : (how : Dominance) → Holds (without m G) how x y → HoldsIn (without m G) how x y
  before how h = holds_in (without m G) (without_below m G g).forest x y how h

  parent_still : (t : Bool) → Holds (without m G) Parent x y → t ≡ true ↔ (Relates G x m rel.Over × Relates G m y rel.Over) → not t ≡ true ↔ Holds G Parent x y
  parent_still true h f =
      iff_false (Holds G Parent x y) (λ k. let p = holds_in G g.forest x y Parent k in let q = f.0 refl in p.1 m (by_recursion G x m rel.Over q.0) (by_recursion G m y rel.Over q.1))
  parent_still false h f =
      iff_true (Holds G Parent x y) (in_holds G g.forest x y Parent (still_parent (before Parent h)
      (λ i j. let e : ◌≡◌ {A = Bool} false true = f.1 (by_position G x m rel.Over i, by_position G m y rel.Over j) in cc)))

  next_still : (t : Bool) → Holds (without m G) Next x y → t ≡ true ↔ (Relates G x m rel.Left × Relates G m y rel.Left) → not t ≡ true ↔ Holds G Next x y
  next_still true h f =
      iff_false (Holds G Next x y) (λ k. let p = holds_in G g.forest x y Next k in let q = f.0 refl in p.1 m (by_recursion G x m rel.Left q.0) (by_recursion G m y rel.Left q.1))
  next_still false h f =
      iff_true (Holds G Next x y) (in_holds G g.forest x y Next (still_next (before Next h)
      (λ i j. let e : ◌≡◌ {A = Bool} false true = f.1 (by_position G x m rel.Left i, by_position G m y rel.Left j) in cc)))

  -- the relations that no step can break
  kept_in : (how : Dominance) → is_tight_in how ≡ false → HoldsIn (without m G) how x y → HoldsIn G how x y
  kept_in Parent e h = let bad : ◌≡◌ {A = Bool} true false = e in cc
  kept_in Next e h = let bad : ◌≡◌ {A = Bool} true false = e in cc
  kept_in Above e h = ((deletion_relations m G (of_below (suc m) G g)).over x y a b).0 h
  kept_in AboveOrSame e (inl h) = inl (((deletion_relations m G (of_below (suc m) G g)).over x y a b).0 h)
  kept_in AboveOrSame e (inr h) = inr (((deletion_relations m G (of_below (suc m) G g)).same x y a b).0 h)
  kept_in Left e h = ((deletion_relations m G (of_below (suc m) G g)).left x y a b).0 h
  kept_in LeftOrSame e (inl h) = inl (((deletion_relations m G (of_below (suc m) G g)).left x y a b).0 h)
  kept_in LeftOrSame e (inr h) = inr (((deletion_relations m G (of_below (suc m) G g)).same x y a b).0 h)

  pub kept : (how : Dominance) → is_tight_in how ≡ false → Holds (without m G) how x y → Holds G how x y
  kept how e h = in_holds G g.forest x y how (kept_in how e (before how h))

forest_suc : (m : ℕ) (G : Forest (List ℕ)) → IsForestOf (m + 1) G → IsForestOf (suc m) G
forest_suc m G g = let e : m + 1 ≡ suc m = omega arith in subst (λ k. IsForestOf k G) e g

-- tests of a relation between earlier nodes
module _ (m : ℕ) (G : Forest (List ℕ)) (r : Related) (g : IsForestOf (m + 1) G) (low : IsBelow m r) (h : HoldsOf (without m G) r) where
  pub parent_test : (t : Bool) → r.how ≡ Parent → t ≡ true ↔ (Relates G r.from m rel.Over × Relates G m r.to rel.Over) → not t ≡ true ↔ HoldsOf G r
  parent_test t e f =
      subst (λ k. not t ≡ true ↔ Holds G k r.from r.to) (sym e)
      (parent_still m G (forest_suc m G g) r.from r.to low.0 low.1 t (subst (λ k. Holds (without m G) k r.from r.to) e h) f)

  pub next_test : (t : Bool) → r.how ≡ Next → t ≡ true ↔ (Relates G r.from m rel.Left × Relates G m r.to rel.Left) → not t ≡ true ↔ HoldsOf G r
  next_test t e f =
      subst (λ k. not t ≡ true ↔ Holds G k r.from r.to) (sym e)
      (next_still m G (forest_suc m G g) r.from r.to low.0 low.1 t (subst (λ k. Holds (without m G) k r.from r.to) e h) f)

  pub kept_test : (how : Dominance) → r.how ≡ how → is_tight_in how ≡ false → ◌≡◌ {A = Bool} true true ↔ HoldsOf G r
  kept_test how e loose =
      iff_true (HoldsOf G r) (kept m G (forest_suc m G g) r.from r.to low.0 low.1 r.how (ap is_tight_in e ∙ loose) h)

-- each of a list, one place after another
pub each_at : (P : Related → Type 0) (rs : List Related) (k : ℕ) (d : Related) → Each P rs → k < length rs → P (get_or rs k d)
each_at P [] k d h low = absurd (omega arith)
each_at P (r ∷ rs) zero d h low = h.0
each_at P (r ∷ rs) (suc k) d h low = each_at P rs k d h.1 (omega arith)

each_of : (P : Related → Type 0) (rs : List Related) (d : Related) → ((k : ℕ) → k < length rs → P (get_or rs k d)) → Each P rs
each_of P [] d h = tt
each_of P (r ∷ rs) d h = (h 0 (omega arith), each_of P rs d (λ k low. h (suc k) (omega arith)))

pub each_stop : (P : Related → Type 0) (rs : List Related) (k : ℕ) (d : Related) → k < length rs → (P (get_or rs k d) → ⊥) → ◌≡◌ {A = Bool} false true ↔ Each P rs
each_stop P rs k d low bad = iff_false (Each P rs) (λ h. bad (each_at P rs k d h low))

pub each_end : (P : Related → Type 0) (rs : List Related) (k : ℕ) (d : Related) → length rs ≤ k → ((j : ℕ) → j < k → P (get_or rs j d)) → ◌≡◌ {A = Bool} true true ↔ Each P rs
each_end P rs k d far h = iff_true (Each P rs) (each_of P rs d (λ j low. h j (omega arith)))
