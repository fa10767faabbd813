-- Lists in byte order of their keys: such a list is fixed by its members, and a sorted list whose keys differ is one.
use Rattle.std.specs.Prelude.{◌≡◌, ℕ, zero, suc, ◌<◌, ◌≤◌, Bool, true, false, List, [], ◌∷◌, ◌++◌, map, length, ◌⊎◌, Contains, slice_index_or, refl}
use Rattle.std.specs.declared.cmp.Ordering.TheVariants.{Less, Equal}
use Rattle.std.specs.Cmp.{IsStrictWeakOrder, nat_cmp_is}
use Rattle.std.specs.Cmp.Lexicographic.{slice_cmp}
use Rattle.std.specs.Ordering.{nat_cmp, ordering_then}
use Rattle.std.specs.List.Sorted.{IsSortedBy, IsPermutation}
use Rattle.std.proofs.Common.{inl, inr, ap, ap₂, sym, ◌∙◌, subst, arith, get_or, append_assoc}
use Rattle.std.proofs.lemmas.Bool.{false≢true}
use Rattle.std.proofs.lemmas.List.{map-id}
use Rattle.std.proofs.lemmas.List.Sorted.{sorted_far, Contains-permutation, length_permutation}
use Rattle.gr_base.specs.Lists.{IsAmong, IsWithin, NoneTwice, Each, IsBefore, InByteOrder}
use Rattle.gr_base.proofs.ListLemmas.{IsAmong-append, IsAmong-append_left, IsAmong-append_right, IsAmong-map, Each-at}
use Rattle.gr_base.proofs.Numbers.{less_same_more}
use Rattle.gr_base.proofs.Counting.{length-within, IsBefore-irreflexive, IsBefore-trans}

-- of two texts one stands before the other, or they are equal
pub IsBefore-total : (xs ys : List ℕ) → IsBefore xs ys ⊎ ((xs ≡ ys) ⊎ IsBefore ys xs)
IsBefore-total [] [] = inr (inl refl)
IsBefore-total [] (y ∷ ys) = inl tt
IsBefore-total (x ∷ xs) [] = inr (inr tt)
IsBefore-total (x ∷ xs) (y ∷ ys) = by_first x y xs ys (less_same_more x y) (IsBefore-total xs ys)
  where
    by_first : (x y : ℕ) (xs ys : List ℕ) → (x < y) ⊎ ((x ≡ y) ⊎ (y < x)) → IsBefore xs ys ⊎ ((xs ≡ ys) ⊎ IsBefore ys xs) → IsBefore (x ∷ xs) (y ∷ ys) ⊎ ((x ∷ xs ≡ y ∷ ys) ⊎ IsBefore (y ∷ ys) (x ∷ xs))
    by_first x y xs ys (inl h) rest = inl (inl h)
    by_first x y xs ys (inr (inr h)) rest = inr (inr (inl h))
    by_first x y xs ys (inr (inl e)) (inl h) = inl (inr (e, h))
    by_first x y xs ys (inr (inl e)) (inr (inl f)) = inr (inl (ap₂ (λ z zs. z ∷ zs) e f))
    by_first x y xs ys (inr (inl e)) (inr (inr h)) = inr (inr (inr (sym e, h)))

-- a text before another compares as less
pub IsBefore-Less : (xs ys : List ℕ) → IsBefore xs ys → slice_cmp nat_cmp xs ys ≡ Less
IsBefore-Less xs [] h = absurd h
IsBefore-Less [] (y ∷ ys) h = refl
IsBefore-Less (x ∷ xs) (y ∷ ys) (inl h) = ap (λ o. ordering_then o (slice_cmp nat_cmp xs ys)) (sym (nat_cmp_is x y Less h))
IsBefore-Less (x ∷ xs) (y ∷ ys) (inr h) = ap (λ o. ordering_then o (slice_cmp nat_cmp xs ys)) (sym (nat_cmp_is x y Equal h.0)) ∙ IsBefore-Less xs ys h.1

module _ {A : Type 0} (key : A → List ℕ) where
  key_before : (x y : A) (xs : List A) → Each (IsBefore (key x)) (map key xs) → IsAmong xs y → IsBefore (key x) (key y)
  key_before x y xs before i = Each-at (IsBefore (key x)) (map key xs) (key y) before (IsAmong-map key xs y i)

  first_alike : (x y : A) (xs ys : List A) → InByteOrder (map key (x ∷ xs)) → InByteOrder (map key (y ∷ ys)) → IsAmong (y ∷ ys) x → IsAmong (x ∷ xs) y → x ≡ y
  first_alike x y xs ys a b (inl e) j = e
  first_alike x y xs ys a b (inr i) (inl e) = sym e
  first_alike x y xs ys a b (inr i) (inr j) =
      absurd (IsBefore-irreflexive (key x) (IsBefore-trans (key x) (key y) (key x) (key_before x y xs a.0 j) (key_before y x ys b.0 i)))

  rest_within : (x : A) (xs ys : List A) → InByteOrder (map key (x ∷ xs)) → IsWithin (x ∷ xs) (x ∷ ys) → IsWithin xs ys
  rest_within x xs ys order within z i = elim (within z (inr i)) [
    | inl e ↦ absurd (IsBefore-irreflexive (key x) (subst (λ k. IsBefore (key x) k) (ap key e) (key_before x z xs order.0 i)))
    | inr j ↦ j
  ]

  -- a list in byte order of its keys is fixed by its members
  pub InByteOrder-unique_by : (xs ys : List A) → InByteOrder (map key xs) → InByteOrder (map key ys) → IsWithin xs ys → IsWithin ys xs → xs ≡ ys
  InByteOrder-unique_by [] [] a b f g = refl
  InByteOrder-unique_by [] (y ∷ ys) a b f g = absurd (g y (inl refl))
  InByteOrder-unique_by (x ∷ xs) [] a b f g = absurd (f x (inl refl))
  InByteOrder-unique_by (x ∷ xs) (y ∷ ys) a b f g =
      let e : x ≡ y = first_alike x y xs ys a b (f x (inl refl)) (g y (inl refl)) in
      ap₂ (λ z zs. z ∷ zs) e
      (InByteOrder-unique_by xs ys a.1 b.1
      (rest_within x xs ys a (subst (λ z. IsWithin (x ∷ xs) (z ∷ ys)) (sym e) f))
      (rest_within y ys xs b (subst (λ z. IsWithin (y ∷ ys) (z ∷ xs)) e g)))

  module _ (lt : A → A → Bool) (less : (x y : A) → IsBefore (key x) (key y) → lt x y ≡ true) where
    all_behind : (x : A) (xs : List A) → ((j : ℕ) (d : A) → j < length xs → lt (get_or xs j d) x ≡ false) → (IsAmong (map key xs) (key x) → ⊥) → Each (IsBefore (key x)) (map key xs)
    all_behind x [] far new = tt
    all_behind x (y ∷ ys) far new = (
      elim (IsBefore-total (key x) (key y)) [
        | inl h ↦ h
        | inr (inl e) ↦ absurd (new (inl e))
        | inr (inr h) ↦ absurd (false≢true (sym (far zero y (omega arith)) ∙ less y x h))
      ],
      all_behind x ys (λ j d within. far (suc j) d (omega arith)) (λ i. new (inr i)),
    )

    far_apart : (xs : List A) → ((i j : ℕ) (d : A) → i ≤ j → j < length xs → lt (get_or xs j d) (get_or xs i d) ≡ false) → NoneTwice (map key xs) → InByteOrder (map key xs)
    far_apart [] far once = tt
    far_apart (x ∷ xs) far once = (
      all_behind x xs (λ j d within. far zero (suc j) d (omega arith) (omega arith)) once.0,
      far_apart xs (λ i j d le within. far (suc i) (suc j) d (omega arith) (omega arith)) once.1,
    )

    -- a list that is sorted by an order that puts lower keys first, and whose keys differ, is in byte order of its keys
    pub InByteOrder-sorted : IsStrictWeakOrder lt → (xs : List A) → IsSortedBy lt xs → NoneTwice (map key xs) → InByteOrder (map key xs)
    InByteOrder-sorted weak xs sorted once = far_apart xs (sorted_far lt weak xs sorted) once

-- a list in byte order is fixed by its texts: so a compiled list, and a list of sentences, is unique
pub InByteOrder-unique : (xs ys : List (List ℕ)) → InByteOrder xs → InByteOrder ys → IsWithin xs ys → IsWithin ys xs → xs ≡ ys
InByteOrder-unique xs ys a b = InByteOrder-unique_by (λ x. x) xs ys (subst (λ zs. InByteOrder zs) (sym (map-id xs)) a) (subst (λ zs. InByteOrder zs) (sym (map-id ys)) b)

-- a list as long as one without repetition whose elements it has repeats none either
pub NoneTwice-within : {A : Type 0} (xs ys : List A) → NoneTwice xs → IsWithin xs ys → length ys ≤ length xs → NoneTwice ys
NoneTwice-within {A} xs ys once within short = behind [] ys within short
  where
    without : (front back : List A) (y : A) → IsAmong back y → IsWithin (front ++ y ∷ back) (front ++ back)
    without front back y i z j = elim (IsAmong-append front (y ∷ back) z j) [
      | inl k ↦ IsAmong-append_left front back z k
      | inr (inl e) ↦ IsAmong-append_right front back z (subst (λ w. IsAmong back w) (sym e) i)
      | inr (inr k) ↦ IsAmong-append_right front back z k
    ]

    longer : (front back : List A) (y : A) → length (front ++ y ∷ back) ≡ suc (length (front ++ back))
    longer [] back y = refl
    longer (x ∷ front) back y = ap suc (longer front back y)

    behind : (front back : List A) → IsWithin xs (front ++ back) → length (front ++ back) ≤ length xs → NoneTwice back
    behind front [] within short = tt
    behind front (y ∷ back) within short =
        let regroup : front ++ y ∷ back ≡ (front ++ y ∷ []) ++ back = sym (append_assoc front (y ∷ []) back) in (
          λ i.
              let fits : length xs ≤ length (front ++ back) = length-within xs (front ++ back) once (λ z j. without front back y i z (within z j)) in
              let more : length (front ++ y ∷ back) ≡ suc (length (front ++ back)) = longer front back y in
              omega arith,
          behind (front ++ y ∷ []) back (subst (λ zs. IsWithin xs zs) regroup within) (subst (λ zs. length zs ≤ length xs) regroup short),
        )

-- what is among a list has a place in it, and the other way round
pub Contains-IsAmong : {A : Type 0} (xs : List A) (x : A) → IsAmong xs x → Contains xs x
Contains-IsAmong [] x i = absurd i
Contains-IsAmong (y ∷ ys) x (inl e) = (zero, omega arith, sym e)
Contains-IsAmong (y ∷ ys) x (inr i) = let r = Contains-IsAmong ys x i in let h : r.0 < length ys = r.1 in (suc r.0, omega arith, r.2)

pub IsAmong-Contains : {A : Type 0} (xs : List A) (x : A) → Contains xs x → IsAmong xs x
IsAmong-Contains {A} xs x c = at xs x c.0 c.1 c.2
  where
    at : (xs : List A) (x : A) (k : ℕ) → k < length xs → slice_index_or xs k x ≡ x → IsAmong xs x
    at [] x k within e = absurd (omega arith)
    at (y ∷ ys) x zero within e = inl (sym e)
    at (y ∷ ys) x (suc k) within e = inr (at ys x k (omega arith) e)

-- a permutation has the same elements, and repeats none where the list repeats none
pub IsWithin-permutation : {A : Type 0} (xs ys : List A) → IsPermutation xs ys → IsWithin xs ys
IsWithin-permutation xs ys moved x i = IsAmong-Contains ys x (Contains-permutation xs ys x moved (Contains-IsAmong xs x i))

pub NoneTwice-permutation : {A : Type 0} (xs ys : List A) → IsPermutation xs ys → NoneTwice xs → NoneTwice ys
NoneTwice-permutation xs ys moved once =
    let short : length ys ≡ length xs = length_permutation xs ys moved in
    NoneTwice-within xs ys once (IsWithin-permutation xs ys moved) (omega arith)
