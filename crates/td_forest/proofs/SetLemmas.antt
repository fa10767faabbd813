-- Rising sets: a node put in, and a node taken out.
use Rattle.std.specs.Prelude.{◌≡◌, ℕ, suc, ◌<◌, ◌≤◌, List, [], ◌∷◌, ◌++◌, ◌⊎◌, Bool, true, false, ◌==◌, if◌then◌else◌, length, refl}
use Rattle.std.proofs.Common.{inl, inr, ap, sym, ◌∙◌, subst, arith}
use Rattle.std.proofs.lemmas.Bool.{cases_lt, lt-ltb, le-ltb}
use Rattle.std.proofs.lemmas.Bool.Decides.{nat_tests}
use Rattle.gr_base.specs.Lists.{IsAmong, NoneTwice, Each, IsRising}
use Rattle.gr_base.proofs.ListLemmas.{Each-at}
use Rattle.td_forest.specs.Steps.{put}
use Rattle.td_forest.specs.Without.{is_alone, thinned}

pub eqb-same : (x : ℕ) → (x == x) ≡ true
eqb-same x = grind (arith, nat_tests)

pub eqb-other : (y x : ℕ) → (x ≡ y → ⊥) → (y == x) ≡ false
eqb-other y x h = grind (arith, nat_tests)

-- where x comes before the first of the set, and where not
put-before : (x y : ℕ) (ys : List ℕ) → x < y → put x (y ∷ ys) ≡ x ∷ y ∷ ys
put-before x y ys h = rw (lt-ltb x y h) refl

put-behind : (x y : ℕ) (ys : List ℕ) → y ≤ x → put x (y ∷ ys) ≡ y ∷ put x ys
put-behind x y ys h = rw (le-ltb x y h) refl

-- what holds of both forms holds of the set with x in it
put-cases : (P : List ℕ → Type 0) (x y : ℕ) (ys : List ℕ) → (x < y → P (x ∷ y ∷ ys)) → (y ≤ x → P (y ∷ put x ys)) → P (put x (y ∷ ys))
put-cases P x y ys before behind = elim (cases_lt x y) [
  | inl h ↦ subst P (sym (put-before x y ys h)) (before h)
  | inr h ↦ subst P (sym (put-behind x y ys h)) (behind h)
]

-- the members of the set with x in it are those of the set and x
pub in-put : (x : ℕ) (set : List ℕ) (y : ℕ) → IsAmong set y → IsAmong (put x set) y
in-put x [] y i = absurd i
in-put x (z ∷ zs) y i = put-cases (λ set. IsAmong set y) x z zs (λ h. inr i) (λ h. elim i [ inl e ↦ inl e | inr j ↦ inr (in-put x zs y j) ])

pub put-new : (x : ℕ) (set : List ℕ) → IsAmong (put x set) x
put-new x [] = inl refl
put-new x (z ∷ zs) = put-cases (λ set. IsAmong set x) x z zs (λ h. inl refl) (λ h. inr (put-new x zs))

pub put-in : (x : ℕ) (set : List ℕ) (y : ℕ) → IsAmong (put x set) y → IsAmong set y ⊎ (y ≡ x)
put-in x [] y (inl e) = inr e
put-in x [] y (inr i) = absurd i
put-in x (z ∷ zs) y i =
    put-cases (λ set. IsAmong set y → IsAmong (z ∷ zs) y ⊎ (y ≡ x)) x z zs
    (λ h j. elim j [ inl e ↦ inr e | inr k ↦ inl k ])
    (λ h j. elim j [ inl e ↦ inl (inl e) | inr k ↦ elim (put-in x zs y k) [ inl l ↦ inl (inr l) | inr e ↦ inr e ] ])
    i

pub put-old : (x : ℕ) (set : List ℕ) (y : ℕ) → IsAmong (put x set) y → (y ≡ x → ⊥) → IsAmong set y
put-old x set y i ne = elim (put-in x set y i) [ inl j ↦ j | inr e ↦ absurd (ne e) ]

pub put-full : (x : ℕ) (set : List ℕ) → put x set ≡ [] → ⊥
put-full x [] e = cc
put-full x (y ∷ ys) e = put-cases (λ set. set ≡ [] → ⊥) x y ys (λ h q. cc) (λ h q. cc) e

pub put-once : (x : ℕ) (set : List ℕ) → NoneTwice set → (IsAmong set x → ⊥) → NoneTwice (put x set)
put-once x [] once new = ((λ i. i), tt)
put-once x (y ∷ ys) once new =
    put-cases (λ set. NoneTwice set) x y ys
    (λ h. (new, once))
    (λ h. ((λ i. elim (put-in x ys y i) [ inl j ↦ once.0 j | inr e ↦ new (inl (sym e)) ]), put-once x ys once.1 (λ i. new (inr i))))

each-put : (P : ℕ → Type 0) (x : ℕ) (set : List ℕ) → Each P set → P x → Each P (put x set)
each-put P x [] each here = (here, tt)
each-put P x (y ∷ ys) each here = put-cases (λ set. Each P set) x y ys (λ h. (here, each)) (λ h. (each.0, each-put P x ys each.1 here))

each-less : (x y : ℕ) (ys : List ℕ) → x < y → Each (λ z. y < z) ys → Each (λ z. x < z) ys
each-less x y [] h each = tt
each-less x y (z ∷ zs) h each = let a : y < z = each.0 in (omega arith, each-less x y zs h each.1)

pub put-rises : (x : ℕ) (set : List ℕ) → IsRising set → (IsAmong set x → ⊥) → IsRising (put x set)
put-rises x [] rise new = (tt, tt)
put-rises x (y ∷ ys) rise new =
    put-cases (λ set. IsRising set) x y ys
    (λ h. ((h, each-less x y ys h rise.0), rise))
    (λ h. let ne : x ≡ y → ⊥ = λ e. new (inl e) in (each-put (λ z. y < z) x ys rise.0 (apart y x h ne), put-rises x ys rise.1 (λ i. new (inr i))))
  where
    apart : (y x : ℕ) → y ≤ x → (x ≡ y → ⊥) → y < x
    apart y x h ne = elim (cases_lt y x) [ inl l ↦ l | inr g ↦ absurd (ne (omega arith)) ]

pub put-length : (x : ℕ) (set : List ℕ) → length (put x set) ≡ suc (length set)
put-length x [] = refl
put-length x (y ∷ ys) = put-cases (λ set. length set ≡ suc (suc (length ys))) x y ys (λ h. refl) (λ h. ap suc (put-length x ys))

pub put-longer : (x : ℕ) (set : List ℕ) → put x set ≡ set → ⊥
put-longer x set e = let l : length (put x set) ≡ suc (length set) = put-length x set in let k : length (put x set) ≡ length set = ap length e in omega arith

pub put-alone : (x : ℕ) (set : List ℕ) → (set ≡ [] → ⊥) → put x set ≡ x ∷ [] → ⊥
put-alone x [] h e = h refl
put-alone x (y ∷ ys) h e = let l : length (put x (y ∷ ys)) ≡ suc (length (y ∷ ys)) = put-length x (y ∷ ys) in let k : length (put x (y ∷ ys)) ≡ 1 = ap length e in omega arith

-- what is greater than all comes last
pub put-last : (x : ℕ) (set : List ℕ) → ((y : ℕ) → IsAmong set y → y < x) → put x set ≡ set ++ x ∷ []
put-last x [] low = refl
put-last x (y ∷ ys) low = let h : y < x = low y (inl refl) in put-behind x y ys (omega arith) ∙ ap (λ zs. y ∷ zs) (put-last x ys (λ z i. low z (inr i)))

-- a set without x stays as it is
pub thinned-absent : (x : ℕ) (set : List ℕ) → (IsAmong set x → ⊥) → thinned x set ≡ set
thinned-absent x [] h = refl
thinned-absent x (y ∷ ys) h = rw (eqb-other y x (λ e. h (inl e))) (ap (λ zs. y ∷ zs) (thinned-absent x ys (λ i. h (inr i))))

thinned-same : (x : ℕ) (set : List ℕ) → thinned x (x ∷ set) ≡ thinned x set
thinned-same x set = rw (eqb-same x) refl

thinned-other : (x y : ℕ) (set : List ℕ) → (x ≡ y → ⊥) → thinned x (y ∷ set) ≡ y ∷ thinned x set
thinned-other x y set ne = rw (eqb-other y x ne) refl

-- what is put in is taken out again
pub thinned-put : (x : ℕ) (set : List ℕ) → (IsAmong set x → ⊥) → thinned x (put x set) ≡ set
thinned-put x [] h = thinned-same x []
thinned-put x (y ∷ ys) h =
    put-cases (λ set. thinned x set ≡ y ∷ ys) x y ys
    (λ l. thinned-same x (y ∷ ys) ∙ thinned-absent x (y ∷ ys) h)
    (λ l. thinned-other x y (put x ys) (λ e. h (inl e)) ∙ ap (λ zs. y ∷ zs) (thinned-put x ys (λ i. h (inr i))))

-- and what is taken out is put in again
pub put-thinned : (x : ℕ) (set : List ℕ) → IsRising set → IsAmong set x → put x (thinned x set) ≡ set
put-thinned x [] rise i = absurd i
put-thinned x (y ∷ ys) rise (inl e) =
    let absent : IsAmong ys x → ⊥ = λ i. (let a : y < x = Each-at (λ z. y < z) ys x rise.0 i in absurd (omega arith)) in
    let t : thinned x (y ∷ ys) ≡ ys = subst (λ z. thinned x (z ∷ ys) ≡ ys) e (thinned-same x ys ∙ thinned-absent x ys absent) in
    ap (put x) t ∙ front x ys (subst (λ z. Each (λ w. z < w) ys) (sym e) rise.0) ∙ ap (λ z. z ∷ ys) e
  where
    front : (x : ℕ) (ys : List ℕ) → Each (λ w. x < w) ys → put x ys ≡ x ∷ ys
    front x [] each = refl
    front x (z ∷ zs) each = put-before x z zs each.0
put-thinned x (y ∷ ys) rise (inr i) =
    let a : y < x = Each-at (λ z. y < z) ys x rise.0 i in
    let ne : x ≡ y → ⊥ = λ e. absurd (omega arith) in
    ap (put x) (thinned-other x y ys ne) ∙ put-behind x y (thinned x ys) (omega arith) ∙ ap (λ zs. y ∷ zs) (put-thinned x ys rise.1 i)

pub alone-absent : (x : ℕ) (set : List ℕ) → (IsAmong set x → ⊥) → is_alone x set ≡ false
alone-absent x [] h = refl
alone-absent x (y ∷ []) h = eqb-other y x (λ e. h (inl e))
alone-absent x (y ∷ z ∷ ys) h = refl

pub alone-put : (x : ℕ) (set : List ℕ) → (set ≡ [] → ⊥) → is_alone x (put x set) ≡ false
alone-put x [] h = absurd (h refl)
alone-put x (y ∷ ys) h = put-cases (λ set. is_alone x set ≡ false) x y ys (λ l. refl) (λ l. two y (put x ys) (put-full x ys))
  where
    two : (y : ℕ) (zs : List ℕ) → (zs ≡ [] → ⊥) → is_alone x (y ∷ zs) ≡ false
    two y [] full = absurd (full refl)
    two y (z ∷ zs) full = refl

pub alone-is : (x : ℕ) (set : List ℕ) → is_alone x set ≡ true → set ≡ x ∷ []
alone-is x [] e = cc
alone-is x (y ∷ []) e = let q : y ≡ x = grind (arith, nat_tests) in ap (λ z. z ∷ []) q
alone-is x (y ∷ z ∷ zs) e = cc

-- a set repeats nothing where it does not with x put in, and then x was not in it
pub put-once_before : (x : ℕ) (set : List ℕ) → NoneTwice (put x set) → NoneTwice set
put-once_before x [] h = tt
put-once_before x (y ∷ ys) h =
    put-cases (λ set. NoneTwice set → NoneTwice (y ∷ ys)) x y ys (λ l k. k.1) (λ l k. ((λ i. k.0 (in-put x ys y i)), put-once_before x ys k.1)) h

pub put-new_before : (x : ℕ) (set : List ℕ) → NoneTwice (put x set) → IsAmong set x → ⊥
put-new_before x [] h i = i
put-new_before x (y ∷ ys) h i =
    put-cases (λ set. NoneTwice set → ⊥) x y ys
    (λ l k. k.0 i)
    (λ l k. elim i [ inl e ↦ k.0 (subst (λ z. IsAmong (put x ys) z) e (put-new x ys)) | inr j ↦ put-new_before x ys k.1 j ])
    h

-- what is left of a rising set rises, and something is left where x was not alone
each-thinned : (P : ℕ → Type 0) (x : ℕ) (set : List ℕ) → Each P set → Each P (thinned x set)
each-thinned P x [] each = tt
each-thinned P x (y ∷ ys) each = both (y == x) (each-thinned P x ys each.1)
  where
    both : (b : Bool) → Each P (thinned x ys) → Each P (if b then thinned x ys else y ∷ thinned x ys)
    both true e = e
    both false e = (each.0, e)

pub thinned-rises : (x : ℕ) (set : List ℕ) → IsRising set → IsRising (thinned x set)
thinned-rises x [] rise = tt
thinned-rises x (y ∷ ys) rise = both (y == x) (thinned-rises x ys rise.1)
  where
    both : (b : Bool) → IsRising (thinned x ys) → IsRising (if b then thinned x ys else y ∷ thinned x ys)
    both true e = e
    both false e = (each-thinned (λ z. y < z) x ys rise.0, e)

not_single : (x : ℕ) (set : List ℕ) → is_alone x set ≡ false → x ∷ [] ≡ set → ⊥
not_single x [] e q = cc
not_single x (y ∷ []) e q = let p : x ≡ y = cc in let r : (y == x) ≡ true = grind (arith, nat_tests) in cc
not_single x (y ∷ z ∷ ys) e q = cc

pub thinned-full : (x : ℕ) (set : List ℕ) → IsRising set → IsAmong set x → is_alone x set ≡ false → thinned x set ≡ [] → ⊥
thinned-full x set rise i alone e = not_single x set alone (subst (λ zs. put x zs ≡ set) e (put-thinned x set rise i))
