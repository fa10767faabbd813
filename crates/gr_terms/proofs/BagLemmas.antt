-- Lemmas on bags: what a pair put in changes, and that a bag is fixed by its members.
use Rattle.std.specs.Prelude.{◌≡◌, ℕ, ◌<◌, List, [], ◌∷◌, ◌++◌, length, take, drop, slice_get, Some, ◌⊎◌, refl, Result, Ok, Err, OnErr, MatchResult, ◌≤◌, ◌+◌}
use Rattle.std.proofs.Common.{inl, inr, ap, sym, ◌∙◌, subst, get_or, arith}
use Rattle.std.proofs.lemmas.Option.{slice_get-get_or, get_or_from_slice_get, slice_get_within}
use Rattle.std.proofs.lemmas.List.{take-append-drop, append-nil, get_or-take, get_or-drop, length-take-le, length-drop}
use Rattle.std.specs.List.Sorted.{IsPermutation, IsSearchInRange, IsBinarySearchResult, IsNonDecreasingBy}
use Rattle.std.specs.Ordering.{nat_cmp, ordering_index}
use Rattle.std.proofs.lemmas.Bool.Decides.{nat_tests}
use Rattle.std.proofs.lemmas.Cmp.{ranked}
use Rattle.std.proofs.lemmas.List.Sorted.{IsPermutation-sym, IsPermutation-middle, IsNonDecreasingBy-from_default}
use Rattle.gr_base.specs.Lists.{IsAmong, IsWithin, Each}
use Rattle.gr_base.proofs.ListLemmas.{IsAmong-append, IsAmong-append_left, IsAmong-append_right, IsAmong-slice_get, IsAmong-get_or, Each-at, Each-places}
use Rattle.gr_base.proofs.RisingKeys.{IsRising-middle, IsRising-front, IsRising-without, lower-take, IsRising-same, IsRising-unique}
use Rattle.gr_terms.specs.declared.Sym.{Sym}
use Rattle.gr_terms.specs.declared.Term.{Term}
use Rattle.gr_terms.specs.declared.Term.TheVariants.{Var}
use Rattle.gr_terms.specs.Bags.{IsListed, HasAttribute, LacksAttribute, Puts, StandsAt, FitsAt}

-- what is among the new list is what was put in or among the old one
module _ {A : Type 0} (old new : List A) (x : A) (puts : Puts old new x) where
  pub IsAmong-puts : (y : A) → IsAmong new y → (y ≡ x) ⊎ IsAmong old y
  IsAmong-puts y i = elim (IsAmong-append puts.0 (x ∷ puts.1) y (subst (λ zs. IsAmong zs y) puts.3 i)) [
    | inl j ↦ inr (subst (λ zs. IsAmong zs y) (sym puts.2) (IsAmong-append_left puts.0 puts.1 y j))
    | inr j ↦ elim j [
      | inl e ↦ inl e
      | inr k ↦ inr (subst (λ zs. IsAmong zs y) (sym puts.2) (IsAmong-append_right puts.0 puts.1 y k))
    ]
  ]

  pub IsAmong-puts_new : IsAmong new x
  IsAmong-puts_new = subst (λ zs. IsAmong zs x) (sym puts.3) (IsAmong-append_right puts.0 (x ∷ puts.1) x (inl refl))

  pub IsAmong-puts_old : (y : A) → IsAmong old y → IsAmong new y
  IsAmong-puts_old y i = elim (IsAmong-append puts.0 puts.1 y (subst (λ zs. IsAmong zs y) puts.2 i)) [
    | inl j ↦ subst (λ zs. IsAmong zs y) (sym puts.3) (IsAmong-append_left puts.0 (x ∷ puts.1) y j)
    | inr j ↦ subst (λ zs. IsAmong zs y) (sym puts.3) (IsAmong-append_right puts.0 (x ∷ puts.1) y (inr j))
  ]

  -- the new list is a permutation of the pair and the old list
  pub IsPermutation-puts : IsPermutation (x ∷ old) new
  IsPermutation-puts =
      subst (λ zs. IsPermutation (x ∷ zs) new) (sym puts.2)
      (subst (λ zs. IsPermutation (x ∷ (puts.0 ++ puts.1)) zs) (sym puts.3)
      (IsPermutation-sym (puts.0 ++ x ∷ puts.1) (x ∷ (puts.0 ++ puts.1)) (IsPermutation-middle puts.0 x puts.1)))

-- a bag is fixed by its members
pub IsListed-unique : {X : Type 0} (xs ys : List (Sym × X)) → IsListed xs → IsListed ys → IsWithin xs ys → IsWithin ys xs → xs ≡ ys
IsListed-unique xs ys = IsRising-unique (λ p. p.0.0) xs ys

-- an attribute has one value in a bag
pub IsListed-value : {X : Type 0} (pairs : List (Sym × X)) (attr : Sym) (v w : X) → IsListed pairs → IsAmong pairs (attr, v) → IsAmong pairs (attr, w) → v ≡ w
IsListed-value pairs attr v w listed i j = ap (λ p. p.1) (IsRising-same (λ p. p.0.0) pairs (attr, v) (attr, w) listed i j refl)

-- a search among pairs by rising attribute finds the attribute, or the place where a pair with it would keep the order
module _ (pairs : List (Sym × Term)) (attr : Sym) (listed : IsListed pairs) where
  abbrev blank : Sym × Term
  blank = (record { 0 = 0 }, Var 0)

  abbrev key_at : ℕ → ℕ
  key_at i = (get_or pairs i blank).0.0

  keys_rise : (i j : ℕ) → i < j → j < length pairs → key_at i < key_at j
  keys_rise i j less within =
      subst (λ x. x.0.0 < key_at j) (get_or-take j pairs i blank less)
      (Each-at (λ x. x.0.0 < key_at j) (take j pairs) (get_or (take j pairs) i blank) (lower-take (λ x. x.0.0) pairs j blank listed within)
      (IsAmong-get_or (take j pairs) i blank (omega (arith, length-take-le j pairs (omega arith)))))

  comparisons_rise : IsNonDecreasingBy (λ pair. ordering_index (nat_cmp pair.0.0 attr.0)) pairs
  comparisons_rise = IsNonDecreasingBy-from_default (λ pair. ordering_index (nat_cmp pair.0.0 attr.0)) pairs blank (λ i j le within.
      let rise : key_at i ≤ key_at j = grind (arith, keys_rise i j, λ (same : i ≡ j). ap key_at same) in
      grind (arith, nat_tests))

  pub searched : (r : Result ℕ ℕ) → IsSearchInRange r (length pairs) → IsBinarySearchResult (λ pair. nat_cmp pair.0.0 attr.0) pairs r → MatchResult r (StandsAt pairs attr) (FitsAt pairs attr)
  searched (Ok at) within equal =
      let same : get_or pairs at blank ≡ (attr, (get_or pairs at blank).1) = λ k. (record { 0 = ranked _ attr.0 _ (sym (equal blank)) k }, (get_or pairs at blank).1) in
      ((get_or pairs at blank).1, slice_get-get_or pairs at blank within ∙ ap Some same)
  searched (Err at) within parted =
      let lower : (k : ℕ) → k < at → key_at k < attr.0 = λ k less. ranked _ attr.0 _ (sym ((parted comparisons_rise).0 k blank (omega arith) less)) in
      let higher : (k : ℕ) → at ≤ k → k < length pairs → attr.0 < key_at k = λ k le less. ranked _ attr.0 _ (sym ((parted comparisons_rise).1 k blank le less)) in
      record {
        within = within;
        lower = Each-places (λ p. p.0.0 < attr.0) (take at pairs) blank (λ k less.
            let below : k < at = omega (arith, length-take-le at pairs within) in
            subst (λ x. x.0.0 < attr.0) (sym (get_or-take at pairs k blank below)) (lower k below));
        higher = Each-places (λ p. attr.0 < p.0.0) (drop at pairs) blank (λ k less.
            subst (λ x. attr.0 < x.0.0) (sym (get_or-drop at pairs k blank)) (higher (at + k) (omega arith) (omega (arith, length-drop at pairs))));
      }

-- where a pair fits, its attribute stands nowhere
pub FitsAt-lacks : {X : Type 0} (pairs : List (Sym × X)) (attr : Sym) (place : ℕ) → FitsAt pairs attr place → LacksAttribute pairs attr
FitsAt-lacks pairs attr place fits value i = elim (IsAmong-append (take place pairs) (drop place pairs) (attr, value) (subst (λ zs. IsAmong zs (attr, value)) (sym (take-append-drop place pairs)) i)) [
  | inl j ↦ let h : attr.0 < attr.0 = Each-at (λ p. p.0.0 < attr.0) (take place pairs) (attr, value) fits.lower j in omega arith
  | inr j ↦ let h : attr.0 < attr.0 = Each-at (λ p. attr.0 < p.0.0) (drop place pairs) (attr, value) fits.higher j in omega arith
]

-- a pair put in where it fits keeps the order
pub IsListed-insert : {X : Type 0} (pairs : List (Sym × X)) (attr : Sym) (place : ℕ) (value : X) → IsListed pairs → FitsAt pairs attr place → IsListed (take place pairs ++ (attr, value) ∷ drop place pairs)
IsListed-insert pairs attr place value listed fits =
    IsRising-middle (λ p. p.0.0) (take place pairs) (drop place pairs) (attr, value)
    (subst (λ zs. IsListed zs) (sym (take-append-drop place pairs)) listed) fits.lower fits.higher

-- where an attribute stands, a bag has it
pub StandsAt-has : {X : Type 0} (pairs : List (Sym × X)) (attr : Sym) (place : ℕ) → StandsAt pairs attr place → HasAttribute pairs attr
StandsAt-has pairs attr place stands = (stands.0, IsAmong-slice_get pairs place (attr, stands.0) stands.1)

-- so the value read there is a value of the attribute
pub StandsAt-read : {X : Type 0} (pairs : List (Sym × X)) (attr : Sym) (place : ℕ) (other : Sym × X) → StandsAt pairs attr place → IsAmong pairs (attr, (get_or pairs place other).1)
StandsAt-read pairs attr place other stands =
    let same : get_or pairs place other ≡ (attr, stands.0) = get_or_from_slice_get pairs place (attr, stands.0) other stands.1 in
    subst (λ v. IsAmong pairs (attr, v)) (sym (ap (λ p. p.1) same)) (IsAmong-slice_get pairs place (attr, stands.0) stands.1)

-- a bag's first pairs are a bag, and so is a bag without a pair that was put in
pub IsListed-take : {X : Type 0} (pairs : List (Sym × X)) (n : ℕ) → IsListed pairs → IsListed (take n pairs)
IsListed-take pairs n listed = IsRising-front (λ p. p.0.0) (take n pairs) (drop n pairs) (subst (λ zs. IsListed zs) (sym (take-append-drop n pairs)) listed)

pub IsListed-puts_old : {X : Type 0} (old new : List (Sym × X)) (x : Sym × X) → Puts old new x → IsListed new → IsListed old
IsListed-puts_old old new x puts listed =
    subst (λ zs. IsListed zs) (sym puts.2) (IsRising-without (λ p. p.0.0) puts.0 puts.1 x (subst (λ zs. IsListed zs) puts.3 listed))

-- the new bag is fixed by the old one and the pair
pub Puts-unique : {X : Type 0} (old new other : List (Sym × X)) (x : Sym × X) → Puts old new x → Puts old other x → IsListed new → IsListed other → new ≡ other
Puts-unique old new other x puts puts_other listed listed_other =
    IsListed-unique new other listed listed_other
    (λ y i. elim (IsAmong-puts old new x puts y i) [
      | inl e ↦ subst (λ z. IsAmong other z) (sym e) (IsAmong-puts_new old other x puts_other)
      | inr j ↦ IsAmong-puts_old old other x puts_other y j
    ])
    (λ y i. elim (IsAmong-puts old other x puts_other y i) [
      | inl e ↦ subst (λ z. IsAmong new z) (sym e) (IsAmong-puts_new old new x puts)
      | inr j ↦ IsAmong-puts_old old new x puts y j
    ])

-- a pair above all others is put at the end
pub Puts-end : {X : Type 0} (old new : List (Sym × X)) (x : Sym × X) → Puts old new x → IsListed new → Each (λ p. p.0.0 < x.0.0) old → new ≡ old ++ x ∷ []
Puts-end old new x puts listed lower =
    let at_end : Puts old (old ++ x ∷ []) x = (old, [], sym (append-nil old), refl) in
    let rises : IsListed (old ++ x ∷ []) =
    IsRising-middle (λ p. p.0.0) old [] x (subst (λ zs. IsListed zs) (sym (append-nil old)) (IsListed-puts_old old new x puts listed)) lower tt in
    Puts-unique old new (old ++ x ∷ []) x puts at_end listed rises

-- no pair before a place has the attribute that stands there
pub IsListed-before : {X : Type 0} (pairs : List (Sym × X)) (i : ℕ) (pair : Sym × X) → IsListed pairs → slice_get pairs i ≡ Some pair → Each (λ p. p.0.0 < pair.0.0) (take i pairs)
IsListed-before pairs i pair listed at =
    subst (λ q. Each (λ p. p.0.0 < q.0.0) (take i pairs)) (get_or_from_slice_get pairs i pair pair at)
    (lower-take (λ p. p.0.0) pairs i pair listed (slice_get_within pairs i pair at))

pub LacksAttribute-lower : {X : Type 0} (pairs : List (Sym × X)) (attr : Sym) → Each (λ p. p.0.0 < attr.0) pairs → LacksAttribute pairs attr
LacksAttribute-lower pairs attr lower value i = let h : attr.0 < attr.0 = Each-at (λ p. p.0.0 < attr.0) pairs (attr, value) lower i in omega arith

-- what holds is so where there was no memory
pub on_err : {X E : Type 0} (r : Result X E) (P : Type 0) → P → OnErr r P
on_err (Ok x) P p = tt
on_err (Err e) P p = p
