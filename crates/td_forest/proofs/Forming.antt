-- What a forest is, by its sets and by recursion; and what is said of forests of the first nodes.
use Rattle.std.specs.Prelude.{◌≡◌, ℕ, List, [], ◌∷◌, ◌++◌, refl}
use Rattle.std.proofs.Common.{inl, inr, ap, sym, ◌∙◌, subst, append_assoc}
use Rattle.std.proofs.lemmas.Bool.{cases_lt, cases_order}
use Rattle.gr_base.specs.Lists.{IsAmong, NoneTwice, Each, joined}
use Rattle.gr_base.specs.Forests.{Forest, empty, tree, labels}
use Rattle.gr_base.proofs.ListLemmas.{IsAmong-append, IsAmong-append_left, IsAmong-append_right, Each-left, Each-right, Each-append, NoneTwice-append}
use Rattle.td_forest.specs.declared.Relation.{Relation}
use Rattle.td_forest.specs.declared.Relation.TheVariants.{Same, Over, Under, Left, Right}
use Rattle.td_forest.specs.Nodes.{Stands, IsIn, IsNodeSet, IsForest, IsForestOf, Relates}
use Rattle.td_forest.proofs.Twins.{AllOnce, AllRise, IsForestBelow}
use Rattle.td_forest.proofs.Places.{Is}
use Rattle.td_forest.proofs.Positions.{in_at, at_in, by_position, by_recursion}
use Rattle.td_forest.proofs.Exclusive.{relates_once}
use Rattle.td_forest.specs.Spans.{IsSpan}
use Rattle.td_forest.proofs.SpanLemmas.{span_of, span_same, span_over, span_left}

joined-append : {A : Type 0} (xs ys : List (List A)) → joined (xs ++ ys) ≡ joined xs ++ joined ys
joined-append [] ys = refl
joined-append (x ∷ xs) ys = ap (λ zs. x ++ zs) (joined-append xs ys) ∙ sym (append_assoc x (joined xs) (joined ys))

record AreApart {A : Type 0} (xs ys : List A) : Type 0 where
  pub left : NoneTwice xs
  pub right : NoneTwice ys
  pub apart : (x : A) → IsAmong xs x → IsAmong ys x → ⊥

NoneTwice-parts : {A : Type 0} (xs ys : List A) → NoneTwice (xs ++ ys) → AreApart xs ys
NoneTwice-parts [] ys h = record { left = tt; right = h; apart = λ x i j. i }
NoneTwice-parts (x ∷ xs) ys h =
    let r = NoneTwice-parts xs ys h.1 in
    record {
      left = ((λ i. h.0 (IsAmong-append_left xs ys x i)), r.left);
      right = r.right;
      apart = λ y i j. elim i [ inl e ↦ h.0 (IsAmong-append_right xs ys x (subst (λ z. IsAmong ys z) e j)) | inr k ↦ r.apart y k j ];
    }

-- the nodes of a forest are those of its sets
abbrev nodes_of : Forest (List ℕ) → List ℕ
nodes_of F = joined (labels F)

nodes_of-tree : (set : List ℕ) (kids more : Forest (List ℕ)) → nodes_of (tree set kids more) ≡ set ++ nodes_of kids ++ nodes_of more
nodes_of-tree set kids more = ap (λ zs. set ++ zs) (joined-append (labels kids) (labels more)) ∙ sym (append_assoc set (nodes_of kids) (nodes_of more))

pub among_in : (F : Forest (List ℕ)) (x : ℕ) → IsAmong (nodes_of F) x → IsIn F x
among_in empty x i = i
among_in (tree set kids more) x i =
    elim (IsAmong-append (set ++ nodes_of kids) (nodes_of more) x (subst (λ zs. IsAmong zs x) (nodes_of-tree set kids more) i)) [
      | inl j ↦ elim (IsAmong-append set (nodes_of kids) x j) [ inl k ↦ inl k | inr k ↦ inr (inl (among_in kids x k)) ]
      | inr j ↦ inr (inr (among_in more x j))
    ]

pub in_among : (F : Forest (List ℕ)) (x : ℕ) → IsIn F x → IsAmong (nodes_of F) x
in_among empty x i = i
in_among (tree set kids more) x i = subst (λ zs. IsAmong zs x) (sym (nodes_of-tree set kids more)) (elim i [
  | inl j ↦ IsAmong-append_left (set ++ nodes_of kids) (nodes_of more) x (IsAmong-append_left set (nodes_of kids) x j)
  | inr (inl j) ↦ IsAmong-append_left (set ++ nodes_of kids) (nodes_of more) x (IsAmong-append_right set (nodes_of kids) x (in_among kids x j))
  | inr (inr j) ↦ IsAmong-append_right (set ++ nodes_of kids) (nodes_of more) x (in_among more x j)
])

once_in : (F : Forest (List ℕ)) → NoneTwice (nodes_of F) → AllOnce F
once_in empty h = tt
once_in (tree set kids more) h =
    let a = NoneTwice-parts (set ++ nodes_of kids) (nodes_of more) (subst (λ zs. NoneTwice zs) (nodes_of-tree set kids more) h) in
    let b = NoneTwice-parts set (nodes_of kids) a.left in (
      b.left,
      (λ y i j. b.apart y i (in_among kids y j)),
      (λ y i j. a.apart y (IsAmong-append_left set (nodes_of kids) y i) (in_among more y j)),
      (λ y i j. a.apart y (IsAmong-append_right set (nodes_of kids) y (in_among kids y i)) (in_among more y j)),
      once_in kids b.right,
      once_in more a.right,
    )

in_once : (F : Forest (List ℕ)) → AllOnce F → NoneTwice (nodes_of F)
in_once empty h = tt
in_once (tree set kids more) h =
    subst (λ zs. NoneTwice zs) (sym (nodes_of-tree set kids more))
    (NoneTwice-append (set ++ nodes_of kids) (nodes_of more)
    (NoneTwice-append set (nodes_of kids) h.0 (in_once kids h.4) (λ y i j. h.1 y i (among_in kids y j)))
    (in_once more h.5)
    (λ y i j. elim (IsAmong-append set (nodes_of kids) y i) [ inl k ↦ h.2 y k (among_in more y j) | inr k ↦ h.3 y (among_in kids y k) (among_in more y j) ]))

rise_sets : (F : Forest (List ℕ)) → AllRise F → Each IsNodeSet (labels F)
rise_sets empty h = tt
rise_sets (tree set kids more) h = ((h.0, h.1), Each-append IsNodeSet (labels kids) (labels more) (rise_sets kids h.2) (rise_sets more h.3))

sets_rise : (F : Forest (List ℕ)) → Each IsNodeSet (labels F) → AllRise F
sets_rise empty h = tt
sets_rise (tree set kids more) h =
    (h.0.0, h.0.1, sets_rise kids (Each-left IsNodeSet (labels kids) (labels more) h.1), sets_rise more (Each-right IsNodeSet (labels kids) (labels more) h.1))

pub forest_is : (F : Forest (List ℕ)) → IsForest F → Is F
forest_is F f = record { once = once_in F f.once; rise = sets_rise F f.sets }

pub is_forest : (F : Forest (List ℕ)) → Is F → IsForest F
is_forest F f = record { once = in_once F f.once; sets = rise_sets F f.rise }

pub of_below : (m : ℕ) (F : Forest (List ℕ)) → IsForestOf m F → IsForestBelow m F
of_below m F f = let is = forest_is F f.forest in record { nodes = f.nodes; once = is.once; sets = is.rise }

pub below_of : (m : ℕ) (F : Forest (List ℕ)) → IsForestBelow m F → IsForestOf m F
below_of m F f = record { forest = is_forest F (record { once = f.once; rise = f.sets }); nodes = f.nodes }

-- a node that is there stands somewhere
pub in_stands : (F : Forest (List ℕ)) (x : ℕ) → IsIn F x → (p : List ℕ) × Stands F x p
in_stands F x i = let r = in_at F x i in (r.head ∷ r.rest, r.is)

-- two nodes that are there stand to each other in some way
pub some_relation : (F : Forest (List ℕ)) (x y : ℕ) → IsIn F x → IsIn F y → (how : Relation) × Relates F x y how
some_relation F x y i j =
    let p = span_of 0 F x i in
    let q = span_of 0 F y j in
    elim (cases_order p.first q.first) [
      | inl e ↦ (Same, by_position F x y Same (span_same 0 F x y p.first p.behind q.behind p.is (subst (λ b. IsSpan 0 F y b q.behind) (sym e) q.is)))
      | inr (inl l) ↦ elim (cases_lt q.first p.behind) [
        | inl h ↦ (Over, by_position F x y Over (span_over 0 F x y p.first p.behind q.first q.behind p.is q.is l h))
        | inr h ↦ (Left, by_position F x y Left (span_left 0 F x y p.first p.behind q.first q.behind p.is q.is h))
      ]
      | inr (inr l) ↦ elim (cases_lt p.first q.behind) [
        | inl h ↦ (Under, by_position F x y Under (span_over 0 F y x q.first q.behind p.first p.behind q.is p.is l h))
        | inr h ↦ (Right, by_position F x y Right (span_left 0 F y x q.first q.behind p.first p.behind q.is p.is h))
      ]
    ]

-- and in one only
pub relation_once : (F : Forest (List ℕ)) (x y : ℕ) (how other : Relation) → IsForest F → Relates F x y how → Relates F x y other → how ≡ other
relation_once F x y how other f a b =
    relates_once F x y how other (forest_is F f).once (at_in F x a.0 a.2) (at_in F y a.1 a.3) (by_recursion F x y how a) (by_recursion F x y other b)
