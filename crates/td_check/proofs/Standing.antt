-- How nodes stand to each other in the forest of sets, by the numbers of their tree nodes, and relations decided by that.
use Rattle.std.specs.Prelude.{◌≡◌, ℕ, zero, suc, ◌+◌, ◌<◌, ◌≤◌, List, [], ◌∷◌, length, slice_get, ◌⊎◌, ◌↔◌, Bool, true, false, ◌&&◌, ◌||◌, IsTrue, Some, refl}
use Rattle.std.proofs.Common.{inl, inr, ap, ap₂, sym, ◌∙◌, subst, arith, get_or}
use Rattle.std.proofs.lemmas.Bool.{cases_lt}
use Rattle.std.proofs.lemmas.Option.{same_Some, slice_get-get_or, slice_get_within}
use Rattle.gr_base.specs.Lists.{IsAmong, Each}
use Rattle.gr_base.specs.Forests.{Forest, empty, tree, size}
use Rattle.gr_base.proofs.ListLemmas.{Each-at, Each-members, IsAmong-slice_get, slice_get-IsAmong}
use Rattle.gr_terms.specs.Canonical.{Node}
use Rattle.td_desc.specs.declared.Dominance.{Dominance}
use Rattle.td_desc.specs.declared.Dominance.TheVariants as dom
use Rattle.td_desc.specs.declared.Related.{Related}
use Rattle.td_desc.specs.declared.Description.{Description}
use Rattle.td_tree.specs.Trees.{BagPairs}
use Rattle.td_tree.specs.declared.TreeNode.{TreeNode}
use Rattle.td_forest.specs.declared.Relation.{Relation}
use Rattle.td_forest.specs.declared.Relation.TheVariants.{Same, Over, Under, Left, Right}
use Rattle.td_forest.specs.Nodes.{IsIn, IsForest, IsForestOf, Relates}
use Rattle.td_forest.specs.Spans.{IsSpan}
use Rattle.td_forest.proofs.SpanLemmas.{span_same, span_over, span_left}
use Rattle.td_forest.proofs.Positions.{at_in, by_position, by_recursion}
use Rattle.td_forest.proofs.Forming.{relation_once}
use Rattle.td_colour.specs.Relations.{Holds}
use Rattle.td_colour.specs.Models.{AllHold}
use Rattle.td_colour.proofs.Twinning.{HoldsIn, holds_in, in_holds}
use Rattle.td_check.specs.Sets.{SendsTo, sets_from, sets_of, IsOnto}
use Rattle.td_check.specs.Places.{IsTreeAt, AreLaid, EndsAt, StandAt, DecidesStand, DecidesAmid, DecidesBetween, DecidesHolds, DecidesRelations}
use Rattle.td_check.proofs.Ends.{tree_there, length-laid}
use Rattle.td_check.proofs.Onto.{IsSent, in_sets, onto_forest, sends_among}

size-sets : {A : Type 0} (n : ℕ) (map : List ℕ) (f : Forest A) → size (sets_from n map f) ≡ size f
size-sets n map empty = refl
size-sets n map (tree a kids more) = ap₂ (λ i j. suc (i + j)) (size-sets (suc n) map kids) (size-sets (suc n + size kids) map more)

-- where a tree ends is where the span of the nodes that are sent to its root does
span : {A : Type 0} (n : ℕ) (map : List ℕ) (f : Forest A) (x at end : ℕ) → IsTreeAt n f at end → SendsTo map x at → IsSpan n (sets_from n map f) x at end
span n map empty x at end t s = absurd t
span n map (tree a kids more) x at end (inl t) s =
    let c : size (sets_from (suc n) map kids) ≡ size kids = size-sets (suc n) map kids in
    let q : end ≡ suc n + size kids = t.1 in
    inl (sends_among map x n (subst (λ k. SendsTo map x k) t.0 s), t.0, omega (arith, c))
span n map (tree a kids more) x at end (inr (inl t)) s =
    let e : suc n ≡ n + 1 = omega arith in
    inr (inl (subst (λ m. IsSpan m (sets_from (suc n) map kids) x at end) e (span (suc n) map kids x at end t s)))
span n map (tree a kids more) x at end (inr (inr t)) s =
    let c : size (sets_from (suc n) map kids) ≡ size kids = size-sets (suc n) map kids in
    let e : suc n + size kids ≡ n + 1 + size (sets_from (suc n) map kids) = omega (arith, c) in
    inr (inr (subst (λ m. IsSpan m (sets_from (suc n + size kids) map more) x at end) e (span (suc n + size kids) map more x at end t s)))

module _ (nodes : List TreeNode) (a b : ℕ) (a_within : a < length nodes) (b_within : b < length nodes) where
  end_of : (f : Forest (Node BagPairs)) → AreLaid nodes f → (k : ℕ) → k < length nodes → (e : ℕ) × IsTreeAt 0 f k e
  end_of f laid k l = let c : length nodes ≡ size f = length-laid nodes f laid in tree_there 0 f k (omega arith) (omega arith)

  pub stand_same : a ≡ b → StandAt nodes a b Same
  stand_same e f map x y laid s t =
      let p = end_of f laid a a_within in
      by_position (sets_of map f) x y Same (span_same 0 (sets_of map f) x y a p.0 p.0 (span 0 map f x a p.0 p.1 s) (span 0 map f y a p.0 p.1 (subst (λ k. SendsTo map y k) (sym e) t)))

  pub stand_over : (e : ℕ) → EndsAt nodes a e → a < b → b < e → StandAt nodes a b Over
  stand_over e ends l h f map x y laid s t =
      let q = end_of f laid b b_within in
      by_position (sets_of map f) x y Over (span_over 0 (sets_of map f) x y a e b q.0 (span 0 map f x a e (ends f laid) s) (span 0 map f y b q.0 q.1 t) l h)

  pub stand_left : (e : ℕ) → EndsAt nodes a e → e ≤ b → StandAt nodes a b Left
  stand_left e ends h f map x y laid s t =
      let q = end_of f laid b b_within in
      by_position (sets_of map f) x y Left (span_left 0 (sets_of map f) x y a e b q.0 (span 0 map f x a e (ends f laid) s) (span 0 map f y b q.0 q.1 t) h)

  pub stand_under : (e : ℕ) → EndsAt nodes b e → b < a → a < e → StandAt nodes a b Under
  stand_under e ends l h f map x y laid s t =
      let q = end_of f laid a a_within in
      by_position (sets_of map f) x y Under (span_over 0 (sets_of map f) y x b e a q.0 (span 0 map f y b e (ends f laid) t) (span 0 map f x a q.0 q.1 s) l h)

  pub stand_right : (e : ℕ) → EndsAt nodes b e → e ≤ a → StandAt nodes a b Right
  stand_right e ends h f map x y laid s t =
      let q = end_of f laid a a_within in
      by_position (sets_of map f) x y Right (span_left 0 (sets_of map f) y x b e a q.0 (span 0 map f y b e (ends f laid) t) (span 0 map f x a q.0 q.1 s) h)

-- the forest of sets is one
pub is_forest_of : (nodes : List TreeNode) (f : Forest (Node BagPairs)) (map : List ℕ) (m : ℕ) → AreLaid nodes f → IsOnto map m (length nodes) → IsForestOf m (sets_of map f)
is_forest_of nodes f map m laid onto = onto_forest map m f (subst (λ k. IsOnto map m k) (length-laid nodes f laid) onto)

-- the relation that was found decides for each
pub stands_decided : (nodes : List TreeNode) (a b : ℕ) (found how : Relation) (answer : Bool) → StandAt nodes a b found → (answer ≡ true → found ≡ how) → (found ≡ how → answer ≡ true) → DecidesStand nodes a b how answer
stands_decided nodes a b found how answer stand yes_ back f map m x y laid onto s t = (
  (λ e. subst (λ (r : Relation). Relates (sets_of map f) x y r) (yes_ e) (stand f map x y laid s t)),
  (λ r. back (relation_once (sets_of map f) x y found how (is_forest_of nodes f map m laid onto).forest (stand f map x y laid s t) r)),
)

-- both, and one of two
pub both_true : (b c : Bool) (A B : Type 0) → IsTrue b ↔ A → IsTrue c ↔ B → IsTrue (b && c) ↔ (A × B)
both_true true true A B p q = ((λ e. (p.0 refl, q.0 refl)), (λ h. refl))
both_true true false A B p q = ((λ e. let k : ◌≡◌ {A = Bool} false true = e in absurd (differ k)), (λ h. q.1 h.1))
  where
    differ : ◌≡◌ {A = Bool} false true → ⊥
    differ k = cc
both_true false c A B p q = ((λ e. let k : ◌≡◌ {A = Bool} false true = e in absurd (differ k)), (λ h. p.1 h.0))
  where
    differ : ◌≡◌ {A = Bool} false true → ⊥
    differ k = cc

pub one_true : (b c : Bool) (A B : Type 0) → IsTrue b ↔ A → IsTrue c ↔ B → IsTrue (b || c) ↔ (A ⊎ B)
one_true true c A B p q = ((λ e. inl (p.0 refl)), (λ h. refl))
one_true false c A B p q = ((λ e. inr (q.0 e)), (λ h. elim h [ inl a ↦ absurd (differ (p.1 a)) | inr b ↦ q.1 b ]))
  where
    differ : ◌≡◌ {A = Bool} false true → ⊥
    differ k = cc

pub iff_through : (P A B : Type 0) → P ↔ A → (A → B) → (B → A) → P ↔ B
iff_through P A B p f g = ((λ e. f (p.0 e)), (λ b. p.1 (g b)))

-- a node of the forest is sent to some tree node
pub sent_somewhere : (nodes : List TreeNode) (f : Forest (Node BagPairs)) (map : List ℕ) (x y : ℕ) (how : Relation) → AreLaid nodes f → Relates (sets_of map f) x y how → IsSent map 0 (length nodes) y
sent_somewhere nodes f map x y how laid r =
    let s = in_sets 0 map f y (at_in (sets_of map f) y r.1 r.3) in
    let c : length nodes ≡ size f = length-laid nodes f laid in
    let p : s.to < 0 + size f = s.below in
    record { to = s.to; sends = s.sends; above = s.above; below = omega arith }

-- none of the first k tree nodes stands between
abbrev pub NoneAmid : List TreeNode → ℕ → ℕ → Relation → ℕ → Type 0
NoneAmid nodes a b how k = (f : Forest (Node BagPairs)) (map : List ℕ) (m x y z r : ℕ) → AreLaid nodes f → IsOnto map m (length nodes) → SendsTo map x a → SendsTo map y b → SendsTo map z r → r < k
    → Relates (sets_of map f) x z how → Relates (sets_of map f) z y how → ⊥

pub amid_none : (nodes : List TreeNode) (a b : ℕ) (how : Relation) → NoneAmid nodes a b how 0
amid_none nodes a b how f map m x y z r laid onto p q s l one other = omega arith

pub amid_more : (nodes : List TreeNode) (a b : ℕ) (how : Relation) (k : ℕ) → NoneAmid nodes a b how k → DecidesAmid nodes a k b how false → NoneAmid nodes a b how (k + 1)
amid_more nodes a b how k before here f map m x y z r laid onto p q s l one other = elim (cases_lt r k) [
  | inl h ↦ before f map m x y z r laid onto p q s h one other
  | inr h ↦
      let e : r ≡ k = omega arith in
      absurd (differ ((here f map m x y z laid onto p q (subst (λ i. SendsTo map z i) e s)).1 (one, other)))
]
  where
    differ : ◌≡◌ {A = Bool} false true → ⊥
    differ e = cc

pub amid_all : (nodes : List TreeNode) (a b : ℕ) (how : Relation) (k : ℕ) → length nodes ≤ k → NoneAmid nodes a b how k → DecidesBetween nodes a b how true
amid_all nodes a b how k high none f map m x y laid onto p q = (
  (λ e z one other. let s = sent_somewhere nodes f map x z how laid one in let l : s.to < length nodes = s.below in none f map m x y z s.to laid onto p q s.sends (omega arith) one other),
  (λ h. refl),
)

pub amid_one : (nodes : List TreeNode) (a b : ℕ) (how : Relation) (k : ℕ) → k < length nodes → DecidesAmid nodes a k b how true → DecidesBetween nodes a b how false
amid_one nodes a b how k low here f map m x y laid onto p q = (
  (λ e. absurd (differ e)),
  (λ h.
      let i : IsAmong map k = onto.met k low in
      let z = slice_get-IsAmong map k i in
      let both = (here f map m x y z.0 laid onto p q z.1).0 refl in
      absurd (h z.0 both.0 both.1)),
)
  where
    differ : ◌≡◌ {A = Bool} false true → ⊥
    differ e = cc

-- relations by what decides them
module _ (nodes : List TreeNode) (a b : ℕ) where
  as_relates : (how : Dominance) (answer : Bool) → ((f : Forest (Node BagPairs)) (map : List ℕ) (m x y : ℕ) → AreLaid nodes f → IsOnto map m (length nodes) → SendsTo map x a → SendsTo map y b
      → IsTrue answer ↔ HoldsIn (sets_of map f) how x y) → DecidesHolds nodes how a b answer
  as_relates how answer by f map m x y laid onto s t =
      let forest = (is_forest_of nodes f map m laid onto).forest in
      iff_through (IsTrue answer) (HoldsIn (sets_of map f) how x y) (Holds (sets_of map f) how x y) (by f map m x y laid onto s t)
      (in_holds (sets_of map f) forest x y how) (holds_in (sets_of map f) forest x y how)

  pub holds_above : (one : Bool) → DecidesStand nodes a b Over one → DecidesHolds nodes dom.Above a b one
  holds_above one over = as_relates dom.Above one (λ f map m x y laid onto s t.
      iff_through (IsTrue one) (Relates (sets_of map f) x y Over) (HoldsIn (sets_of map f) dom.Above x y) (over f map m x y laid onto s t) (by_recursion (sets_of map f) x y Over) (by_position (sets_of map f) x y Over))

  pub holds_left : (one : Bool) → DecidesStand nodes a b Left one → DecidesHolds nodes dom.Left a b one
  holds_left one left = as_relates dom.Left one (λ f map m x y laid onto s t.
      iff_through (IsTrue one) (Relates (sets_of map f) x y Left) (HoldsIn (sets_of map f) dom.Left x y) (left f map m x y laid onto s t) (by_recursion (sets_of map f) x y Left) (by_position (sets_of map f) x y Left))

  pub holds_above_or_same : (one other : Bool) → DecidesStand nodes a b Over one → DecidesStand nodes a b Same other → DecidesHolds nodes dom.AboveOrSame a b (one || other)
  holds_above_or_same one other over same = as_relates dom.AboveOrSame (one || other) (λ f map m x y laid onto s t.
      iff_through (IsTrue (one || other)) (Relates (sets_of map f) x y Over ⊎ Relates (sets_of map f) x y Same) (HoldsIn (sets_of map f) dom.AboveOrSame x y)
      (one_true one other (Relates (sets_of map f) x y Over) (Relates (sets_of map f) x y Same) (over f map m x y laid onto s t) (same f map m x y laid onto s t))
      (λ h. elim h [ inl k ↦ inl (by_recursion (sets_of map f) x y Over k) | inr k ↦ inr (by_recursion (sets_of map f) x y Same k) ])
      (λ h. elim h [ inl k ↦ inl (by_position (sets_of map f) x y Over k) | inr k ↦ inr (by_position (sets_of map f) x y Same k) ]))

  pub holds_left_or_same : (one other : Bool) → DecidesStand nodes a b Left one → DecidesStand nodes a b Same other → DecidesHolds nodes dom.LeftOrSame a b (one || other)
  holds_left_or_same one other left same = as_relates dom.LeftOrSame (one || other) (λ f map m x y laid onto s t.
      iff_through (IsTrue (one || other)) (Relates (sets_of map f) x y Left ⊎ Relates (sets_of map f) x y Same) (HoldsIn (sets_of map f) dom.LeftOrSame x y)
      (one_true one other (Relates (sets_of map f) x y Left) (Relates (sets_of map f) x y Same) (left f map m x y laid onto s t) (same f map m x y laid onto s t))
      (λ h. elim h [ inl k ↦ inl (by_recursion (sets_of map f) x y Left k) | inr k ↦ inr (by_recursion (sets_of map f) x y Same k) ])
      (λ h. elim h [ inl k ↦ inl (by_position (sets_of map f) x y Left k) | inr k ↦ inr (by_position (sets_of map f) x y Same k) ]))

  pub holds_parent : (one other : Bool) → DecidesStand nodes a b Over one → DecidesBetween nodes a b Over other → DecidesHolds nodes dom.Parent a b (one && other)
  holds_parent one other over none = as_relates dom.Parent (one && other) (λ f map m x y laid onto s t.
      iff_through (IsTrue (one && other)) (Relates (sets_of map f) x y Over × ((z : ℕ) → Relates (sets_of map f) x z Over → Relates (sets_of map f) z y Over → ⊥)) (HoldsIn (sets_of map f) dom.Parent x y)
      (both_true one other (Relates (sets_of map f) x y Over) ((z : ℕ) → Relates (sets_of map f) x z Over → Relates (sets_of map f) z y Over → ⊥) (over f map m x y laid onto s t) (none f map m x y laid onto s t))
      (λ h. (by_recursion (sets_of map f) x y Over h.0, λ z p q. h.1 z (by_position (sets_of map f) x z Over p) (by_position (sets_of map f) z y Over q)))
      (λ h. (by_position (sets_of map f) x y Over h.0, λ z p q. h.1 z (by_recursion (sets_of map f) x z Over p) (by_recursion (sets_of map f) z y Over q))))

  pub holds_next : (one other : Bool) → DecidesStand nodes a b Left one → DecidesBetween nodes a b Left other → DecidesHolds nodes dom.Next a b (one && other)
  holds_next one other left none = as_relates dom.Next (one && other) (λ f map m x y laid onto s t.
      iff_through (IsTrue (one && other)) (Relates (sets_of map f) x y Left × ((z : ℕ) → Relates (sets_of map f) x z Left → Relates (sets_of map f) z y Left → ⊥)) (HoldsIn (sets_of map f) dom.Next x y)
      (both_true one other (Relates (sets_of map f) x y Left) ((z : ℕ) → Relates (sets_of map f) x z Left → Relates (sets_of map f) z y Left → ⊥) (left f map m x y laid onto s t) (none f map m x y laid onto s t))
      (λ h. (by_recursion (sets_of map f) x y Left h.0, λ z p q. h.1 z (by_position (sets_of map f) x z Left p) (by_position (sets_of map f) z y Left q)))
      (λ h. (by_position (sets_of map f) x y Left h.0, λ z p q. h.1 z (by_recursion (sets_of map f) x z Left p) (by_recursion (sets_of map f) z y Left q))))

  -- a third node between two others
  pub amid_both : (r : ℕ) (how : Relation) (one other : Bool) → DecidesStand nodes a r how one → DecidesStand nodes r b how other → DecidesAmid nodes a r b how (one && other)
  amid_both r how one other p q f map m x y z laid onto s t u =
      both_true one other (Relates (sets_of map f) x z how) (Relates (sets_of map f) z y how) (p f map m x z laid onto s u) (q f map m z y laid onto u t)

-- ---- all relations

-- the first k relations hold
abbrev pub FirstHold : Description → List TreeNode → List ℕ → ℕ → Type 0
FirstHold d nodes map k = (f : Forest (Node BagPairs)) → AreLaid nodes f → (i : ℕ) (r : Related) → i < k → slice_get d.relations i ≡ Some r → Holds (sets_of map f) r.how r.from r.to

sends_read : (map : List ℕ) (x : ℕ) → x < length map → SendsTo map x (get_or map x 0)
sends_read map x l = slice_get-get_or map x 0 l

module _ (d : Description) (nodes : List TreeNode) (map : List ℕ) (onto : IsOnto map (length d.nodes) (length nodes)) where
  pub hold_none : FirstHold d nodes map 0
  hold_none f laid i r l e = absurd (omega arith)

  decided : (k : ℕ) (r : Related) (answer : Bool) → r.from < length d.nodes → r.to < length d.nodes → DecidesHolds nodes r.how (get_or map r.from 0) (get_or map r.to 0) answer
      → (f : Forest (Node BagPairs)) → AreLaid nodes f → IsTrue answer ↔ Holds (sets_of map f) r.how r.from r.to
  decided k r answer a b by f laid =
      let n : length map ≡ length d.nodes = onto.number in
      by f map (length d.nodes) r.from r.to laid onto (sends_read map r.from (omega arith)) (sends_read map r.to (omega arith))

  pub hold_more : (k : ℕ) (r : Related) → r.from < length d.nodes → r.to < length d.nodes → slice_get d.relations k ≡ Some r → FirstHold d nodes map k
      → DecidesHolds nodes r.how (get_or map r.from 0) (get_or map r.to 0) true → FirstHold d nodes map (k + 1)
  hold_more k r a b at before by f laid i q l e = elim (cases_lt i k) [
    | inl h ↦ before f laid i q h e
    | inr h ↦
        let p : i ≡ k = omega arith in
        let same : r ≡ q = same_Some r q (sym at ∙ subst (λ j. slice_get d.relations j ≡ Some q) p e) in
        subst (λ (z : Related). Holds (sets_of map f) z.how z.from z.to) same ((decided k r true a b by f laid).0 refl)
  ]

  pub hold_all : (k : ℕ) → length d.relations ≤ k → FirstHold d nodes map k → DecidesRelations d nodes map true
  hold_all k high first f laid = (
    (λ t. Each-members (λ (r : Related). r.from < length d.nodes → r.to < length d.nodes → Holds (sets_of map f) r.how r.from r.to) d.relations (λ r i a b.
        let p = slice_get-IsAmong d.relations r i in
        let l : p.0 < length d.relations = slice_get_within d.relations p.0 r p.1 in
        first f laid p.0 r (omega arith) p.1)),
    (λ h. refl),
  )

  pub hold_not : (k : ℕ) (r : Related) → r.from < length d.nodes → r.to < length d.nodes → slice_get d.relations k ≡ Some r
      → DecidesHolds nodes r.how (get_or map r.from 0) (get_or map r.to 0) false → DecidesRelations d nodes map false
  hold_not k r a b at by f laid = (
    (λ t. let bad : ⊥ = differ t in absurd bad),
    (λ all. (decided k r false a b by f laid).1 (Each-at (λ (r : Related). r.from < length d.nodes → r.to < length d.nodes → Holds (sets_of map f) r.how r.from r.to) d.relations r all (IsAmong-slice_get d.relations k r at) a b)),
  )
    where
      differ : ◌≡◌ {A = Bool} false true → ⊥
      differ e = cc
