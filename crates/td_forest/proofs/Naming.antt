-- Each place of a step has a name by the first node of a set, and one such name only.
use Rattle.std.specs.Prelude.{◌≡◌, ℕ, zero, suc, ◌+◌, ◌-◌, ◌≤◌, List, [], ◌∷◌, true, Option, Some, None, refl}
use Rattle.std.proofs.Common.{inl, inr, subst, sym, ap, ap₂, ◌∙◌, arith}
use Rattle.gr_base.specs.Lists.{IsAmong}
use Rattle.gr_base.specs.Forests.{Forest, empty, tree}
use Rattle.td_forest.specs.Nodes.{IsIn}
use Rattle.td_forest.proofs.Twins.{AllOnce}
use Rattle.td_forest.specs.Steps.{width, has, kids_of, trees_of}
use Rattle.td_forest.specs.Spots.{Spot, join, wrap, down, along, IsSpot, spot_into, spot_under, under_spot, insertion, spot_of}
use Rattle.td_forest.specs.Names.{IsHead, IsHeadOr, IsNamedStep}
use Rattle.td_forest.specs.declared.Step.{Step}
use Rattle.td_forest.specs.declared.Step.TheVariants.{Merge, Insert}
use Rattle.td_forest.proofs.SpanLemmas.{IsJoin, is_down, is_along}
use Rattle.td_forest.proofs.Shifting.{joins_join}
use Rattle.td_forest.proofs.Named.{into_joins, has_true, has_false, has_in_true, has_in_false}
use Rattle.td_forest.proofs.Places.{AllFull}

pub head_in : (F : Forest (List ℕ)) (x : ℕ) → IsHead F x → IsIn F x
head_in empty x h = h
head_in (tree [] kids more) x (inl h) = inr (inl (head_in kids x h))
head_in (tree [] kids more) x (inr h) = inr (inr (head_in more x h))
head_in (tree (y ∷ ys) kids more) x (inl h) = inl (inl h)
head_in (tree (y ∷ ys) kids more) x (inr (inl h)) = inr (inl (head_in kids x h))
head_in (tree (y ∷ ys) kids more) x (inr (inr h)) = inr (inr (head_in more x h))

-- the place of a step by names
pub data Name (s : Spot) (F : Forest (List ℕ)) : Type 0 where
  merging : (at : ℕ) → IsHead F at → spot_into at F ≡ s → Name s F
  inserting : (under : Option ℕ) (from n : ℕ) → IsHeadOr F under → from + n ≤ width (trees_of under F) → under_spot under (insertion from n) F ≡ s → Name s F

module _ (set : List ℕ) (kids more : Forest (List ℕ)) (once : AllOnce (tree set kids more)) where
  into_down : (x : ℕ) → IsIn kids x → spot_into x (tree set kids more) ≡ down (spot_into x kids)
  into_down x i = rw (has_false x set (λ j. once.1 x j i), has_in_true x kids i) refl

  into_along : (x : ℕ) → IsIn more x → spot_into x (tree set kids more) ≡ along (spot_into x more)
  into_along x i = rw (has_false x set (λ j. once.2 x j i), has_in_false x kids (λ j. once.3 x j i)) refl

  under_down : (x : ℕ) (s : Spot) → IsIn kids x → spot_under x s (tree set kids more) ≡ down (spot_under x s kids)
  under_down x s i = rw (has_false x set (λ j. once.1 x j i), has_in_true x kids i) refl

  under_along : (x : ℕ) (s : Spot) → IsIn more x → spot_under x s (tree set kids more) ≡ along (spot_under x s more)
  under_along x s i = rw (has_false x set (λ j. once.2 x j i), has_in_false x kids (λ j. once.3 x j i)) refl

  kids_down : (x : ℕ) → IsIn kids x → kids_of x (tree set kids more) ≡ kids_of x kids
  kids_down x i = rw (has_false x set (λ j. once.1 x j i), has_in_true x kids i) refl

  kids_along : (x : ℕ) → IsIn more x → kids_of x (tree set kids more) ≡ kids_of x more
  kids_along x i = rw (has_false x set (λ j. once.2 x j i), has_in_false x kids (λ j. once.3 x j i)) refl

head_down : (set : List ℕ) (kids more : Forest (List ℕ)) (x : ℕ) → IsHead kids x → IsHead (tree set kids more) x
head_down [] kids more x h = inl h
head_down (y ∷ ys) kids more x h = inr (inl h)

head_along : (set : List ℕ) (kids more : Forest (List ℕ)) (x : ℕ) → IsHead more x → IsHead (tree set kids more) x
head_along [] kids more x h = inr h
head_along (y ∷ ys) kids more x h = inr (inr h)

name_down : (s : Spot) (set : List ℕ) (kids more : Forest (List ℕ)) → AllOnce (tree set kids more) → (set ≡ [] → ⊥) → Name s kids → Name (down s) (tree set kids more)
name_down s set kids more once full (merging at h e) = merging at (head_down set kids more at h) (into_down set kids more once at (head_in kids at h) ∙ ap (λ t. down t) e)
name_down s [] kids more once full (inserting None from n h le e) = absurd (full refl)
name_down s (y ∷ ys) kids more once full (inserting None from n h le e) =
    let t : has y (y ∷ ys) ≡ true = has_true y (y ∷ ys) (inl refl) in
    inserting (Some y) from n (inl refl) (rw t le) (rw t (ap (λ t. down t) e))
name_down s set kids more once full (inserting (Some u) from n h le e) =
    let i : IsIn kids u = head_in kids u h in
    inserting (Some u) from n (head_down set kids more u h) (rw (kids_down set kids more once u i) le) (under_down set kids more once u (insertion from n) i ∙ ap (λ t. down t) e)

name_along : (s : Spot) (set : List ℕ) (kids more : Forest (List ℕ)) → AllOnce (tree set kids more) → Name s more → Name (along s) (tree set kids more)
name_along s set kids more once (merging at h e) = merging at (head_along set kids more at h) (into_along set kids more once at (head_in more at h) ∙ ap (λ t. along t) e)
name_along s set kids more once (inserting None from n h le e) = inserting None (suc from) n tt (omega arith) (ap (λ t. along t) e)
name_along s set kids more once (inserting (Some u) from n h le e) =
    let i : IsIn more u = head_in more u h in
    inserting (Some u) from n (head_along set kids more u h) (rw (kids_along set kids more once u i) le) (under_along set kids more once u (insertion from n) i ∙ ap (λ t. along t) e)

-- each place has a name
pub name_of : (s : Spot) (F : Forest (List ℕ)) → AllOnce F → AllFull F → IsSpot s F → Name s F
name_of join empty once full at = absurd at
name_of join (tree [] kids more) once full at = absurd (full.0 refl)
name_of join (tree (y ∷ ys) kids more) once full at = let t : has y (y ∷ ys) ≡ true = has_true y (y ∷ ys) (inl refl) in merging y (inl refl) (rw t refl)
name_of (wrap n) F once full at = inserting None 0 n tt (omega arith) refl
name_of (down s) empty once full at = absurd at
name_of (down s) (tree set kids more) once full at = name_down s set kids more once full.0 (name_of s kids once.4 full.1 at)
name_of (along s) empty once full at = absurd at
name_of (along s) (tree set kids more) once full at = name_along s set kids more once (name_of s more once.5 full.2 at)

-- an insertion among roots is no step further down, and so on: names differ
pub insertion_unique : (i n j k : ℕ) → insertion i n ≡ insertion j k → (i ≡ j) × (n ≡ k)
insertion_unique zero n zero k e = (refl, cc)
insertion_unique zero n (suc j) k e = cc
insertion_unique (suc i) n zero k e = cc
insertion_unique (suc i) n (suc j) k e = let r = insertion_unique i n j k cc in (ap (λ z. suc z) r.0, r.1)

-- the head of the first tree, or a head further on
pub data HeadPart (set : List ℕ) (kids more : Forest (List ℕ)) (x : ℕ) : Type 0 where
  of_root : (rest : List ℕ) → set ≡ x ∷ rest → HeadPart set kids more x
  of_kids : IsHead kids x → HeadPart set kids more x
  of_more : IsHead more x → HeadPart set kids more x

pub head_part : (set : List ℕ) (kids more : Forest (List ℕ)) (x : ℕ) → IsHead (tree set kids more) x → HeadPart set kids more x
head_part [] kids more x (inl h) = of_kids h
head_part [] kids more x (inr h) = of_more h
head_part (y ∷ ys) kids more x (inl h) = of_root ys (ap (λ z. z ∷ ys) (sym h))
head_part (y ∷ ys) kids more x (inr (inl h)) = of_kids h
head_part (y ∷ ys) kids more x (inr (inr h)) = of_more h

root_spot : (set rest : List ℕ) (kids more : Forest (List ℕ)) (x : ℕ) → set ≡ x ∷ rest → spot_into x (tree set kids more) ≡ join
root_spot set rest kids more x e = let t : has x set ≡ true = has_true x set (subst (λ zs. IsAmong zs x) (sym e) (inl refl)) in rw t refl

into_parts : (set : List ℕ) (kids more : Forest (List ℕ)) (x y : ℕ) → AllOnce (tree set kids more)
    → (IsHead kids x → IsHead kids y → spot_into x kids ≡ spot_into y kids → x ≡ y) → (IsHead more x → IsHead more y → spot_into x more ≡ spot_into y more → x ≡ y)
    → HeadPart set kids more x → HeadPart set kids more y → spot_into x (tree set kids more) ≡ spot_into y (tree set kids more) → x ≡ y
into_parts set kids more x y once kids_alike more_alike (of_root r p) (of_root s q) e = cc
into_parts set kids more x y once kids_alike more_alike (of_root r p) (of_kids k) e =
    let a = root_spot set r kids more x p in let b = into_down set kids more once y (head_in kids y k) in let c : join ≡ down (spot_into y kids) = sym a ∙ e ∙ b in absurd cc
into_parts set kids more x y once kids_alike more_alike (of_root r p) (of_more k) e =
    let a = root_spot set r kids more x p in let b = into_along set kids more once y (head_in more y k) in let c : join ≡ along (spot_into y more) = sym a ∙ e ∙ b in absurd cc
into_parts set kids more x y once kids_alike more_alike (of_kids h) (of_root s q) e =
    let a = into_down set kids more once x (head_in kids x h) in let b = root_spot set s kids more y q in let c : down (spot_into x kids) ≡ join = sym a ∙ e ∙ b in absurd cc
into_parts set kids more x y once kids_alike more_alike (of_kids h) (of_kids k) e =
    let a = into_down set kids more once x (head_in kids x h) in let b = into_down set kids more once y (head_in kids y k) in
    let c : down (spot_into x kids) ≡ down (spot_into y kids) = sym a ∙ e ∙ b in
    kids_alike h k cc
into_parts set kids more x y once kids_alike more_alike (of_kids h) (of_more k) e =
    let a = into_down set kids more once x (head_in kids x h) in let b = into_along set kids more once y (head_in more y k) in
    let c : down (spot_into x kids) ≡ along (spot_into y more) = sym a ∙ e ∙ b in absurd cc
into_parts set kids more x y once kids_alike more_alike (of_more h) (of_root s q) e =
    let a = into_along set kids more once x (head_in more x h) in let b = root_spot set s kids more y q in let c : along (spot_into x more) ≡ join = sym a ∙ e ∙ b in absurd cc
into_parts set kids more x y once kids_alike more_alike (of_more h) (of_kids k) e =
    let a = into_along set kids more once x (head_in more x h) in let b = into_down set kids more once y (head_in kids y k) in
    let c : along (spot_into x more) ≡ down (spot_into y kids) = sym a ∙ e ∙ b in absurd cc
into_parts set kids more x y once kids_alike more_alike (of_more h) (of_more k) e =
    let a = into_along set kids more once x (head_in more x h) in let b = into_along set kids more once y (head_in more y k) in
    let c : along (spot_into x more) ≡ along (spot_into y more) = sym a ∙ e ∙ b in
    more_alike h k cc

-- two heads that name one place are one node
pub into_unique : (F : Forest (List ℕ)) (x y : ℕ) → AllOnce F → IsHead F x → IsHead F y → spot_into x F ≡ spot_into y F → x ≡ y
into_unique empty x y once h k e = absurd h
into_unique (tree set kids more) x y once h k e =
    into_parts set kids more x y once (λ a b q. into_unique kids x y once.4 a b q) (λ a b q. into_unique more x y once.5 a b q) (head_part set kids more x h) (head_part set kids more y k) e

-- an insertion among the roots is none under a node
insertion_under : (F : Forest (List ℕ)) (i n u : ℕ) (t : Spot) → AllOnce F → IsIn F u → insertion i n ≡ spot_under u t F → ⊥
insertion_under empty i n u t once h e = h
insertion_under (tree set kids more) zero n u t once (inl h) e =
    let a : has u set ≡ true = has_true u set h in let b : wrap n ≡ down t = e ∙ rw a refl in cc
insertion_under (tree set kids more) (suc i) n u t once (inl h) e =
    let a : has u set ≡ true = has_true u set h in let b : along (insertion i n) ≡ down t = e ∙ rw a refl in cc
insertion_under (tree set kids more) zero n u t once (inr (inl h)) e = let b : wrap n ≡ down (spot_under u t kids) = e ∙ under_down set kids more once u t h in cc
insertion_under (tree set kids more) (suc i) n u t once (inr (inl h)) e = let b : along (insertion i n) ≡ down (spot_under u t kids) = e ∙ under_down set kids more once u t h in cc
insertion_under (tree set kids more) zero n u t once (inr (inr h)) e = let b : wrap n ≡ along (spot_under u t more) = e ∙ under_along set kids more once u t h in cc
insertion_under (tree set kids more) (suc i) n u t once (inr (inr h)) e =
    let b : along (insertion i n) ≡ along (spot_under u t more) = e ∙ under_along set kids more once u t h in insertion_under more i n u t once.5 h cc

-- two insertions under heads with one place are one
pub record SameUnder (u v i n j k : ℕ) : Type 0 where
  pub node : u ≡ v
  pub from : i ≡ j
  pub taken : n ≡ k

root_under : (set rest : List ℕ) (kids more : Forest (List ℕ)) (x : ℕ) (s : Spot) → set ≡ x ∷ rest → spot_under x s (tree set kids more) ≡ down s
root_under set rest kids more x s e = let t : has x set ≡ true = has_true x set (subst (λ zs. IsAmong zs x) (sym e) (inl refl)) in rw t refl

under_parts : (set : List ℕ) (kids more : Forest (List ℕ)) (u v i n j k : ℕ) → AllOnce (tree set kids more)
    → (IsHead kids u → IsHead kids v → spot_under u (insertion i n) kids ≡ spot_under v (insertion j k) kids → SameUnder u v i n j k)
    → (IsHead more u → IsHead more v → spot_under u (insertion i n) more ≡ spot_under v (insertion j k) more → SameUnder u v i n j k)
    → HeadPart set kids more u → HeadPart set kids more v → spot_under u (insertion i n) (tree set kids more) ≡ spot_under v (insertion j k) (tree set kids more) → SameUnder u v i n j k
under_parts set kids more u v i n j k once kids_alike more_alike (of_root r p) (of_root s q) e =
    let a = root_under set r kids more u (insertion i n) p in let b = root_under set s kids more v (insertion j k) q in
    let c : down (insertion i n) ≡ down (insertion j k) = sym a ∙ e ∙ b in
    let w = insertion_unique i n j k cc in
    record { node = cc; from = w.0; taken = w.1 }
under_parts set kids more u v i n j k once kids_alike more_alike (of_root r p) (of_kids h) e =
    let a = root_under set r kids more u (insertion i n) p in let b = under_down set kids more once v (insertion j k) (head_in kids v h) in
    let c : down (insertion i n) ≡ down (spot_under v (insertion j k) kids) = sym a ∙ e ∙ b in
    absurd (insertion_under kids i n v (insertion j k) once.4 (head_in kids v h) cc)
under_parts set kids more u v i n j k once kids_alike more_alike (of_root r p) (of_more h) e =
    let a = root_under set r kids more u (insertion i n) p in let b = under_along set kids more once v (insertion j k) (head_in more v h) in
    let c : down (insertion i n) ≡ along (spot_under v (insertion j k) more) = sym a ∙ e ∙ b in absurd cc
under_parts set kids more u v i n j k once kids_alike more_alike (of_kids h) (of_root s q) e =
    let a = under_down set kids more once u (insertion i n) (head_in kids u h) in let b = root_under set s kids more v (insertion j k) q in
    let c : down (insertion j k) ≡ down (spot_under u (insertion i n) kids) = sym b ∙ sym e ∙ a in
    absurd (insertion_under kids j k u (insertion i n) once.4 (head_in kids u h) cc)
under_parts set kids more u v i n j k once kids_alike more_alike (of_kids h) (of_kids g) e =
    let a = under_down set kids more once u (insertion i n) (head_in kids u h) in let b = under_down set kids more once v (insertion j k) (head_in kids v g) in
    let c : down (spot_under u (insertion i n) kids) ≡ down (spot_under v (insertion j k) kids) = sym a ∙ e ∙ b in kids_alike h g cc
under_parts set kids more u v i n j k once kids_alike more_alike (of_kids h) (of_more g) e =
    let a = under_down set kids more once u (insertion i n) (head_in kids u h) in let b = under_along set kids more once v (insertion j k) (head_in more v g) in
    let c : down (spot_under u (insertion i n) kids) ≡ along (spot_under v (insertion j k) more) = sym a ∙ e ∙ b in absurd cc
under_parts set kids more u v i n j k once kids_alike more_alike (of_more h) (of_root s q) e =
    let a = under_along set kids more once u (insertion i n) (head_in more u h) in let b = root_under set s kids more v (insertion j k) q in
    let c : along (spot_under u (insertion i n) more) ≡ down (insertion j k) = sym a ∙ e ∙ b in absurd cc
under_parts set kids more u v i n j k once kids_alike more_alike (of_more h) (of_kids g) e =
    let a = under_along set kids more once u (insertion i n) (head_in more u h) in let b = under_down set kids more once v (insertion j k) (head_in kids v g) in
    let c : along (spot_under u (insertion i n) more) ≡ down (spot_under v (insertion j k) kids) = sym a ∙ e ∙ b in absurd cc
under_parts set kids more u v i n j k once kids_alike more_alike (of_more h) (of_more g) e =
    let a = under_along set kids more once u (insertion i n) (head_in more u h) in let b = under_along set kids more once v (insertion j k) (head_in more v g) in
    let c : along (spot_under u (insertion i n) more) ≡ along (spot_under v (insertion j k) more) = sym a ∙ e ∙ b in more_alike h g cc

pub under_unique : (F : Forest (List ℕ)) (u v i n j k : ℕ) → AllOnce F → IsHead F u → IsHead F v → spot_under u (insertion i n) F ≡ spot_under v (insertion j k) F → SameUnder u v i n j k
under_unique empty u v i n j k once h g e = absurd h
under_unique (tree set kids more) u v i n j k once h g e =
    under_parts set kids more u v i n j k once (λ a b q. under_unique kids u v i n j k once.4 a b q) (λ a b q. under_unique more u v i n j k once.5 a b q)
    (head_part set kids more u h) (head_part set kids more v g) e

join_down : (s : Spot) → IsJoin (down s) → IsJoin s
join_down s (is_down j) = j

join_along : (s : Spot) → IsJoin (along s) → IsJoin s
join_along s (is_along j) = j

-- an insertion joins no tree node
insertion_joins : (i n : ℕ) → IsJoin (insertion i n) → ⊥
insertion_joins zero n j = elim j [ ]
insertion_joins (suc i) n (is_along j) = insertion_joins i n j

under_joins : (F : Forest (List ℕ)) (u i n : ℕ) → AllOnce F → IsIn F u → IsJoin (spot_under u (insertion i n) F) → ⊥
under_joins empty u i n once h j = h
under_joins (tree set kids more) u i n once (inl h) j =
    let a : has u set ≡ true = has_true u set h in let b : spot_under u (insertion i n) (tree set kids more) ≡ down (insertion i n) = rw a refl in
    insertion_joins i n (join_down (insertion i n) (subst (λ s. IsJoin s) b j))
under_joins (tree set kids more) u i n once (inr (inl h)) j =
    under_joins kids u i n once.4 h (join_down (spot_under u (insertion i n) kids) (subst (λ s. IsJoin s) (under_down set kids more once u (insertion i n) h) j))
under_joins (tree set kids more) u i n once (inr (inr h)) j =
    under_joins more u i n once.5 h (join_along (spot_under u (insertion i n) more) (subst (λ s. IsJoin s) (under_along set kids more once u (insertion i n) h) j))

-- two named steps with one place are one step
pub named_unique : (F : Forest (List ℕ)) (s t : Step) → AllOnce F → IsNamedStep F s → IsNamedStep F t → spot_of s F ≡ spot_of t F → s ≡ t
named_unique F (Merge x) (Merge y) once h g e = ap (λ (k : ℕ). Merge k) (into_unique F x y once h g e)
named_unique F (Merge x) (Insert None i j) once h g e =
    absurd (insertion_joins i (j - i) (subst (λ s. IsJoin s) e (joins_join x (spot_into x F) F (into_joins x F once (head_in F x h))).0))
named_unique F (Merge x) (Insert (Some u) i j) once h g e =
    absurd (under_joins F u i (j - i) once (head_in F u g.0) (subst (λ s. IsJoin s) e (joins_join x (spot_into x F) F (into_joins x F once (head_in F x h))).0))
named_unique F (Insert None i j) (Merge x) once h g e =
    absurd (insertion_joins i (j - i) (subst (λ s. IsJoin s) (sym e) (joins_join x (spot_into x F) F (into_joins x F once (head_in F x g))).0))
named_unique F (Insert (Some u) i j) (Merge x) once h g e =
    absurd (under_joins F u i (j - i) once (head_in F u h.0) (subst (λ s. IsJoin s) (sym e) (joins_join x (spot_into x F) F (into_joins x F once (head_in F x g))).0))
named_unique F (Insert None i j) (Insert None k l) once h g e =
    let r = insertion_unique i (j - i) k (l - k) e in
    let a = r.0 in let b = r.1 in let c = h.1 in let d = g.1 in
    let f : j ≡ l = omega arith in
    ap₂ (λ (p : ℕ) (q : ℕ). Insert None p q) a f
named_unique F (Insert None i j) (Insert (Some v) k l) once h g e = absurd (insertion_under F i (j - i) v (insertion k (l - k)) once (head_in F v g.0) e)
named_unique F (Insert (Some u) i j) (Insert None k l) once h g e = absurd (insertion_under F k (l - k) u (insertion i (j - i)) once (head_in F u h.0) (sym e))
named_unique F (Insert (Some u) i j) (Insert (Some v) k l) once h g e =
    let r = under_unique F u v i (j - i) k (l - k) once h.0 g.0 e in
    let a = r.from in let b = r.taken in let c = h.1 in let d = g.1 in
    let f : j ≡ l = omega arith in
    ap (λ (w : ℕ). Insert (Some w) i j) r.node ∙ ap₂ (λ (p : ℕ) (q : ℕ). Insert (Some v) p q) a f
