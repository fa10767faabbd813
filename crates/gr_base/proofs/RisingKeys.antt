-- Lists whose keys rise: their parts, one element more or less, and that such a list is fixed by its members.
use Rattle.std.specs.Prelude.{◌≡◌, ℕ, zero, suc, ◌<◌, ◌≤◌, List, [], ◌∷◌, ◌++◌, map, length, take, drop, slice_index_or, refl}
use Rattle.std.proofs.Common.{inl, inr, ap, ap₂, sym, ◌∙◌, subst, get_or, arith}
use Rattle.std.specs.List.Sorted.{IsNonDecreasingBy}
use Rattle.gr_base.specs.Lists.{IsAmong, IsWithin, Each, NoneTwice, IsRising}
use Rattle.std.proofs.lemmas.Bool.{cases_lt}
use Rattle.gr_base.proofs.ListLemmas.{IsAmong-get_or, Each-at, Each-left, Each-middle, Each-without, Each-map, Each-map_from}

-- a number that is no greater and another one is lower
nat_below : (m n : ℕ) → m ≤ n → (m ≡ n → ⊥) → m < n
nat_below m n le other = elim (cases_lt m n) [ inl l ↦ l | inr g ↦ absurd (other (omega (arith, le, g))) ]

-- in a list whose keys rise, all from a place on have higher keys than what is below the key at that place
module _ {A : Type 0} (key : A → ℕ) where
  pub above-drop : (xs : List A) (i low : ℕ) (d : A) → IsRising (map key xs) → i < length xs → low < key (get_or xs i d) → Each (λ x. low < key x) (drop i xs)
  above-drop [] i low d rises within above = absurd (omega arith)
  above-drop (x ∷ xs) zero low d rises within above = (above, above_each (key x) xs above (Each-map_from key (λ n. key x < n) xs rises.0))
    where
      above_each : (n : ℕ) (ys : List A) → low < n → Each (λ y. n < key y) ys → Each (λ y. low < key y) ys
      above_each n [] h each = tt
      above_each n (y ∷ ys) h each = (omega (arith, each.0), above_each n ys h each.1)
  above-drop (x ∷ xs) (suc i) low d rises within above = above-drop xs i low d rises.1 (omega arith) above

  -- the keys rise still where one is put between lower and higher ones
  pub IsRising-middle : (front back : List A) (x : A) → IsRising (map key (front ++ back)) → Each (λ y. key y < key x) front → Each (λ y. key x < key y) back → IsRising (map key (front ++ x ∷ back))
  IsRising-middle [] back x rises lower higher = (Each-map key (λ n. key x < n) back higher, rises)
  IsRising-middle (y ∷ front) back x rises lower higher = (
    Each-map key (λ n. key y < n) (front ++ x ∷ back) (Each-middle (λ z. key y < key z) front back x (Each-map_from key (λ n. key y < n) (front ++ back) rises.0) lower.0),
    IsRising-middle front back x rises.1 lower.1 higher,
  )

  -- the keys of a front of a list, of a back, and of what is left when one is taken out, rise still
  pub IsRising-front : (front back : List A) → IsRising (map key (front ++ back)) → IsRising (map key front)
  IsRising-front [] back rises = tt
  IsRising-front (x ∷ front) back rises =
      (Each-map key (λ n. key x < n) front (Each-left (λ y. key x < key y) front back (Each-map_from key (λ n. key x < n) (front ++ back) rises.0)), IsRising-front front back rises.1)

  pub IsRising-back : (front back : List A) → IsRising (map key (front ++ back)) → IsRising (map key back)
  IsRising-back [] back rises = rises
  IsRising-back (x ∷ front) back rises = IsRising-back front back rises.1

  pub IsRising-without : (front back : List A) (x : A) → IsRising (map key (front ++ x ∷ back)) → IsRising (map key (front ++ back))
  IsRising-without [] back x rises = rises.1
  IsRising-without (y ∷ front) back x rises = (
    Each-map key (λ n. key y < n) (front ++ back) (Each-without (λ z. key y < key z) front back x (Each-map_from key (λ n. key y < n) (front ++ x ∷ back) rises.0)),
    IsRising-without front back x rises.1,
  )

  -- all before a place have lower keys than what stands there
  pub lower-take : (xs : List A) (i : ℕ) (d : A) → IsRising (map key xs) → i < length xs → Each (λ x. key x < key (get_or xs i d)) (take i xs)
  lower-take [] i d rises within = absurd (omega arith)
  lower-take (x ∷ xs) zero d rises within = tt
  lower-take (x ∷ xs) (suc i) d rises within = (
    Each-at (λ y. key x < key y) xs (get_or xs i d) (Each-map_from key (λ n. key x < n) xs rises.0) (IsAmong-get_or xs i d (omega arith)),
    lower-take xs i d rises.1 (omega arith),
  )

  -- two elements of one key are one
  pub IsRising-same : (xs : List A) (x y : A) → IsRising (map key xs) → IsAmong xs x → IsAmong xs y → key x ≡ key y → x ≡ y
  IsRising-same [] x y rises i j e = absurd i
  IsRising-same (z ∷ zs) x y rises (inl p) (inl q) e = p ∙ sym q
  IsRising-same (z ∷ zs) x y rises (inl p) (inr j) e =
      let h : key z < key y = Each-at (λ u. key z < key u) zs y (Each-map_from key (λ n. key z < n) zs rises.0) j in
      let f : key x ≡ key z = ap key p in
      absurd (omega arith)
  IsRising-same (z ∷ zs) x y rises (inr i) (inl q) e =
      let h : key z < key x = Each-at (λ u. key z < key u) zs x (Each-map_from key (λ n. key z < n) zs rises.0) i in
      let f : key y ≡ key z = ap key q in
      absurd (omega arith)
  IsRising-same (z ∷ zs) x y rises (inr i) (inr j) e = IsRising-same zs x y rises.1 i j e

  rising_head : (x y : A) (xs ys : List A) → IsRising (map key (x ∷ xs)) → IsRising (map key (y ∷ ys)) → IsAmong (y ∷ ys) x → IsAmong (x ∷ xs) y → x ≡ y
  rising_head x y xs ys a b (inl e) j = e
  rising_head x y xs ys a b (inr i) (inl e) = sym e
  rising_head x y xs ys a b (inr i) (inr j) =
      let h : key y < key x = Each-at (λ u. key y < key u) ys x (Each-map_from key (λ n. key y < n) ys b.0) i in
      let k : key x < key y = Each-at (λ u. key x < key u) xs y (Each-map_from key (λ n. key x < n) xs a.0) j in
      absurd (omega arith)

  rising_tail : (x : A) (xs ys : List A) → IsRising (map key (x ∷ xs)) → IsWithin (x ∷ xs) (x ∷ ys) → IsWithin xs ys
  rising_tail x xs ys rises within z i = elim (within z (inr i)) [
    | inl e ↦
        let h : key x < key z = Each-at (λ u. key x < key u) xs z (Each-map_from key (λ n. key x < n) xs rises.0) i in
        let f : key z ≡ key x = ap key e in
        absurd (omega arith)
    | inr j ↦ j
  ]

  -- a list whose keys rise is fixed by its members
  pub IsRising-unique : (xs ys : List A) → IsRising (map key xs) → IsRising (map key ys) → IsWithin xs ys → IsWithin ys xs → xs ≡ ys
  IsRising-unique [] [] a b f g = refl
  IsRising-unique [] (y ∷ ys) a b f g = absurd (g y (inl refl))
  IsRising-unique (x ∷ xs) [] a b f g = absurd (f x (inl refl))
  IsRising-unique (x ∷ xs) (y ∷ ys) a b f g =
      let e : x ≡ y = rising_head x y xs ys a b (f x (inl refl)) (g y (inl refl)) in
      ap₂ (λ z zs. z ∷ zs) e
      (IsRising-unique xs ys a.1 b.1
      (rising_tail x xs ys a (subst (λ z. IsWithin (x ∷ xs) (z ∷ ys)) (sym e) f))
      (rising_tail y ys xs b (subst (λ z. IsWithin (y ∷ ys) (z ∷ xs)) e g)))

  -- the keys rise where none falls and none stands twice
  pub IsRising-once : (xs : List A) → IsNonDecreasingBy key xs → NoneTwice (map key xs) → IsRising (map key xs)
  IsRising-once [] up once = tt
  IsRising-once (x ∷ xs) up once = (
    behind xs (λ j d within. up zero (suc j) d (omega arith) (omega arith)) once.0,
    IsRising-once xs (λ i j d le within. up (suc i) (suc j) d (omega arith) (omega arith)) once.1,
  )
    where
      behind : (ys : List A) → ((j : ℕ) (d : A) → j < length ys → key x ≤ key (slice_index_or ys j d)) → (IsAmong (map key ys) (key x) → ⊥) → Each (λ n. key x < n) (map key ys)
      behind [] up new = tt
      behind (y ∷ ys) up new =
          let le : key x ≤ key y = up zero y (omega arith) in
          let other : key x ≡ key y → ⊥ = λ e. new (inl e) in
          (nat_below (key x) (key y) le other, behind ys (λ j d within. up (suc j) d (omega arith)) (λ i. new (inr i)))
