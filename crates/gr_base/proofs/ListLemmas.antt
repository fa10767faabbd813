-- Lemmas on lists: members, what holds of each, places, repetition, and tests.
use Rattle.std.specs.Prelude.{◌≡◌, ℕ, zero, suc, ◌+◌, ◌<◌, ◌≤◌, List, [], ◌∷◌, ◌++◌, map, length, take, drop, Bool, true, false, not, ◌&&◌, ◌||◌, None, Some, position, slice_get, ◌⊎◌, ◌↔◌, refl}
use Rattle.std.specs.Bool.{Decides}
use Rattle.std.specs.List.{list_any, join_with_byte}
use Rattle.std.specs.Option.{option_map}
use Rattle.std.proofs.Common.{inl, inr, ap, sym, ◌∙◌, subst, get_or, append_assoc, arith}
use Rattle.std.proofs.Math.Seq.{drop-nil, drop-append_seam}
use Rattle.std.proofs.lemmas.Bool.{false≢true, or_right}
use Rattle.std.proofs.lemmas.List.{length_push, take_all, take_more, take-append-drop}
use Rattle.std.proofs.lemmas.List.Quantifiers.{position-Some}
use Rattle.std.proofs.lemmas.Option.{none-some, same_Some, slice_get-map, slice_get-get_or, slice_get_within, get_or_from_slice_get}
use Rattle.gr_base.specs.Lists.{IsAmong, IsWithin, NoneTwice, Each, joined, gathered}

-- two equal lists with a first element have the same one, and the same rest
pub same_head : {A : Type 0} (x y : A) (xs ys : List A) → x ∷ xs ≡ y ∷ ys → x ≡ y
same_head x y xs ys e = cc

pub same_tail : {A : Type 0} (x y : A) (xs ys : List A) → x ∷ xs ≡ y ∷ ys → xs ≡ ys
same_tail x y xs ys e = cc

pub IsAmong-append_left : {A : Type 0} (xs ys : List A) (x : A) → IsAmong xs x → IsAmong (xs ++ ys) x
IsAmong-append_left [] ys x i = absurd i
IsAmong-append_left (z ∷ xs) ys x i = elim i [ inl e ↦ inl e | inr j ↦ inr (IsAmong-append_left xs ys x j) ]

pub IsAmong-append_right : {A : Type 0} (xs ys : List A) (x : A) → IsAmong ys x → IsAmong (xs ++ ys) x
IsAmong-append_right [] ys x i = i
IsAmong-append_right (z ∷ xs) ys x i = inr (IsAmong-append_right xs ys x i)

pub IsAmong-append : {A : Type 0} (xs ys : List A) (x : A) → IsAmong (xs ++ ys) x → IsAmong xs x ⊎ IsAmong ys x
IsAmong-append [] ys x i = inr i
IsAmong-append (z ∷ xs) ys x (inl e) = inl (inl e)
IsAmong-append (z ∷ xs) ys x (inr j) = elim (IsAmong-append xs ys x j) [ inl k ↦ inl (inr k) | inr k ↦ inr k ]

pub IsWithin-take : {A : Type 0} (n : ℕ) (xs : List A) → IsWithin (take n xs) xs
IsWithin-take n xs x i = subst (λ z. IsAmong z x) (take-append-drop n xs) (IsAmong-append_left (take n xs) (drop n xs) x i)

-- an element is not behind no elements, and where two lists together are empty, or a mapped list is, each list is
pub cons-not_nil : {A : Type 0} (x : A) (xs : List A) → x ∷ xs ≡ [] → ⊥
cons-not_nil x xs e = cc

pub append-nil_left : {A : Type 0} (xs ys : List A) → xs ++ ys ≡ [] → xs ≡ []
append-nil_left [] ys e = refl
append-nil_left (x ∷ xs) ys e = absurd (cons-not_nil x (xs ++ ys) e)

pub append-nil_right : {A : Type 0} (xs ys : List A) → xs ++ ys ≡ [] → ys ≡ []
append-nil_right [] ys e = e
append-nil_right (x ∷ xs) ys e = absurd (cons-not_nil x (xs ++ ys) e)

pub map-nil : {A B : Type 0} (f : A → B) (xs : List A) → map f xs ≡ [] → xs ≡ []
map-nil f [] e = refl
map-nil f (x ∷ xs) e = absurd (cons-not_nil (f x) (map f xs) e)

pub IsAmong-map : {A B : Type 0} (f : A → B) (xs : List A) (x : A) → IsAmong xs x → IsAmong (map f xs) (f x)
IsAmong-map f [] x i = i
IsAmong-map f (y ∷ ys) x (inl e) = inl (ap f e)
IsAmong-map f (y ∷ ys) x (inr j) = inr (IsAmong-map f ys x j)

-- an element of a mapped list comes from one of the list
pub IsAmong-map_from : {A B : Type 0} (f : A → B) (xs : List A) (y : B) → IsAmong (map f xs) y → (x : A) × IsAmong xs x × (y ≡ f x)
IsAmong-map_from f [] y i = absurd i
IsAmong-map_from f (z ∷ zs) y (inl e) = (z, inl refl, e)
IsAmong-map_from f (z ∷ zs) y (inr j) = let r = IsAmong-map_from f zs y j in (r.0, inr r.1, r.2)

pub IsWithin-append : {A : Type 0} (xs ys zs : List A) → IsWithin xs zs → IsWithin ys zs → IsWithin (xs ++ ys) zs
IsWithin-append xs ys zs f g x i = elim (IsAmong-append xs ys x i) [ inl a ↦ f x a | inr b ↦ g x b ]

pub IsAmong-joined : {A : Type 0} (xs : List A) (xss : List (List A)) (x : A) → IsAmong xss xs → IsAmong xs x → IsAmong (joined xss) x
IsAmong-joined xs [] x i j = absurd i
IsAmong-joined xs (ys ∷ xss) x (inl e) j = IsAmong-append_left ys (joined xss) x (subst (λ zs. IsAmong zs x) e j)
IsAmong-joined xs (ys ∷ xss) x (inr i) j = IsAmong-append_right ys (joined xss) x (IsAmong-joined xs xss x i j)

-- an element of the list with one more is the new one or one of the list
pub IsAmong-one_more : {A : Type 0} (xs : List A) (e x : A) → IsAmong (xs ++ e ∷ []) x → IsAmong xs x ⊎ (x ≡ e)
IsAmong-one_more xs e x i = elim (IsAmong-append xs (e ∷ []) x i) [ inl j ↦ inl j | inr j ↦ elim j [ inl p ↦ inr p | inr k ↦ absurd k ] ]

pub IsWithin-one_more : {A : Type 0} (xs : List A) (e : A) → IsWithin xs (xs ++ e ∷ [])
IsWithin-one_more xs e x i = IsAmong-append_left xs (e ∷ []) x i

pub IsAmong-new_one : {A : Type 0} (xs : List A) (e : A) → IsAmong (xs ++ e ∷ []) e
IsAmong-new_one xs e = IsAmong-append_right xs (e ∷ []) e (inl refl)

-- a map that can be undone keeps elements apart
pub undone_apart : {A B : Type 0} (f : A → B) (g : B → A) → ((x : A) → g (f x) ≡ x) → (x y : A) → f x ≡ f y → x ≡ y
undone_apart f g back x y e = sym (back x) ∙ (ap g e ∙ back y)

pub IsAmong-undone : {A B : Type 0} (f : A → B) (g : B → A) → ((x : A) → g (f x) ≡ x) → (xs : List A) (x : A) → IsAmong (map f xs) (f x) ↔ IsAmong xs x
IsAmong-undone f g back xs x = (
  (λ i. let r = IsAmong-map_from f xs (f x) i in subst (λ y. IsAmong xs y) (sym (undone_apart f g back x r.0 r.2)) r.1),
  IsAmong-map f xs x,
)

-- what holds of each element of a list holds of each one that is among it
pub Each-at : {A : Type 0} (P : A → Type 0) (xs : List A) (x : A) → Each P xs → IsAmong xs x → P x
Each-at P [] x e i = absurd i
Each-at P (y ∷ ys) x e (inl p) = subst P (sym p) e.0
Each-at P (y ∷ ys) x e (inr i) = Each-at P ys x e.1 i

-- what holds of each member holds of each element
pub Each-members : {A : Type 0} (P : A → Type 0) (xs : List A) → ((x : A) → IsAmong xs x → P x) → Each P xs
Each-members P [] f = tt
Each-members P (x ∷ xs) f = (f x (inl refl), Each-members P xs (λ y i. f y (inr i)))

-- P holds of each element where it holds of what stands at each place
pub Each-places : {A : Type 0} (P : A → Type 0) (xs : List A) (d : A) → ((k : ℕ) → k < length xs → P (get_or xs k d)) → Each P xs
Each-places P [] d h = tt
Each-places P (x ∷ xs) d h = (h 0 (omega arith), Each-places P xs d (λ k within. h (suc k) (omega arith)))

-- what holds of each element of a list holds of those of its parts, and the other way round
pub Each-left : {A : Type 0} (P : A → Type 0) (xs ys : List A) → Each P (xs ++ ys) → Each P xs
Each-left P [] ys e = tt
Each-left P (x ∷ xs) ys e = (e.0, Each-left P xs ys e.1)

pub Each-right : {A : Type 0} (P : A → Type 0) (xs ys : List A) → Each P (xs ++ ys) → Each P ys
Each-right P [] ys e = e
Each-right P (x ∷ xs) ys e = Each-right P xs ys e.1

pub Each-append : {A : Type 0} (P : A → Type 0) (xs ys : List A) → Each P xs → Each P ys → Each P (xs ++ ys)
Each-append P [] ys a b = b
Each-append P (x ∷ xs) ys a b = (a.0, Each-append P xs ys a.1 b)

-- what holds of each element of the first so many that are all
pub Each-whole : {A : Type 0} (P : A → Type 0) (xs : List A) (n : ℕ) → length xs ≤ n → Each P (take n xs) → Each P xs
Each-whole P xs n all each = subst (Each P) (take_all n xs all) each

-- what holds of each element, weakened, and of two facts of each
pub Each-weaker : {A : Type 0} (P Q : A → Type 0) → ((x : A) → P x → Q x) → (xs : List A) → Each P xs → Each Q xs
Each-weaker P Q f [] h = tt
Each-weaker P Q f (x ∷ xs) h = (f x h.0, Each-weaker P Q f xs h.1)

pub Each-both : {A : Type 0} (P Q R : A → Type 0) → ((x : A) → P x → Q x → R x) → (xs : List A) → Each P xs → Each Q xs → Each R xs
Each-both P Q R f [] h k = tt
Each-both P Q R f (x ∷ xs) h k = (f x h.0 k.0, Each-both P Q R f xs h.1 k.1)

-- what holds of each element of a list and of x holds of each with x at some place
pub Each-middle : {A : Type 0} (P : A → Type 0) (front back : List A) (x : A) → Each P (front ++ back) → P x → Each P (front ++ x ∷ back)
Each-middle P [] back x each here = (here, each)
Each-middle P (y ∷ front) back x each here = (each.0, Each-middle P front back x each.1 here)

-- and of each without one
pub Each-without : {A : Type 0} (P : A → Type 0) (front back : List A) (x : A) → Each P (front ++ x ∷ back) → Each P (front ++ back)
Each-without P [] back x each = each.1
Each-without P (y ∷ front) back x each = (each.0, Each-without P front back x each.1)

-- what holds of f of each element holds of each element of the mapped list, and the other way round
pub Each-map : {A B : Type 0} (f : A → B) (P : B → Type 0) (xs : List A) → Each (λ x. P (f x)) xs → Each P (map f xs)
Each-map f P [] each = tt
Each-map f P (x ∷ xs) each = (each.0, Each-map f P xs each.1)

pub Each-map_from : {A B : Type 0} (f : A → B) (P : B → Type 0) (xs : List A) → Each P (map f xs) → Each (λ x. P (f x)) xs
Each-map_from f P [] each = tt
Each-map_from f P (x ∷ xs) each = (each.0, Each-map_from f P xs each.1)

-- what stands at a place is one of the list
pub IsAmong-slice_get : {A : Type 0} (xs : List A) (i : ℕ) (x : A) → slice_get xs i ≡ Some x → IsAmong xs x
IsAmong-slice_get [] i x at = absurd (none-some x at)
IsAmong-slice_get (y ∷ ys) zero x at = inl (sym (same_Some y x at))
IsAmong-slice_get (y ∷ ys) (suc i) x at = inr (IsAmong-slice_get ys i x at)

pub IsAmong-get_or : {A : Type 0} (xs : List A) (i : ℕ) (d : A) → i < length xs → IsAmong xs (get_or xs i d)
IsAmong-get_or xs i d within = IsAmong-slice_get xs i (get_or xs i d) (slice_get-get_or xs i d within)

-- each one of the list has a place
pub slice_get-IsAmong : {A : Type 0} (xs : List A) (x : A) → IsAmong xs x → (i : ℕ) × (slice_get xs i ≡ Some x)
slice_get-IsAmong [] x i = absurd i
slice_get-IsAmong (y ∷ ys) x (inl e) = (zero, ap Some (sym e))
slice_get-IsAmong (y ∷ ys) x (inr i) = let r = slice_get-IsAmong ys x i in (suc r.0, r.1)

-- in a list without repetition an element has one place
pub one_place : {A : Type 0} (xs : List A) (i j : ℕ) (x : A) → NoneTwice xs → slice_get xs i ≡ Some x → slice_get xs j ≡ Some x → i ≡ j
one_place [] i j x once at at' = absurd (none-some x at)
one_place (y ∷ ys) zero zero x once at at' = refl
one_place (y ∷ ys) zero (suc j) x once at at' =
    absurd (once.0 (subst (λ z. IsAmong ys z) (sym (same_Some y x at)) (IsAmong-slice_get ys j x at')))
one_place (y ∷ ys) (suc i) zero x once at at' =
    absurd (once.0 (subst (λ z. IsAmong ys z) (sym (same_Some y x at')) (IsAmong-slice_get ys i x at)))
one_place (y ∷ ys) (suc i) (suc j) x once at at' = ap suc (one_place ys i j x once.1 at at')

-- a place keeps its element where the list grows at the end
pub slice_get-append_left : {A : Type 0} (xs ys : List A) (i : ℕ) (x : A) → slice_get xs i ≡ Some x → slice_get (xs ++ ys) i ≡ Some x
slice_get-append_left [] ys i x at = absurd (none-some x at)
slice_get-append_left (z ∷ xs) ys zero x at = at
slice_get-append_left (z ∷ xs) ys (suc i) x at = slice_get-append_left xs ys i x at

-- and the part that it grows by has its places behind those of the list
pub slice_get-append_right : {A : Type 0} (xs ys : List A) (i : ℕ) → slice_get (xs ++ ys) (length xs + i) ≡ slice_get ys i
slice_get-append_right [] ys i = let e : 0 + i ≡ i = omega arith in ap (slice_get ys) e
slice_get-append_right (x ∷ xs) ys i =
    let e : suc (length xs) + i ≡ suc (length xs + i) = omega arith in ap (slice_get (x ∷ xs ++ ys)) e ∙ slice_get-append_right xs ys i

-- what stands in a list with one more at the end
pub slice_get-push_cases : {A : Type 0} (xs : List A) (y : A) (i : ℕ) (x : A) → slice_get (xs ++ y ∷ []) i ≡ Some x → (slice_get xs i ≡ Some x) ⊎ ((i ≡ length xs) × (x ≡ y))
slice_get-push_cases [] y zero x at = inr (refl, sym (same_Some y x at))
slice_get-push_cases [] y (suc i) x at = absurd (none-some x at)
slice_get-push_cases (z ∷ xs) y zero x at = inl at
slice_get-push_cases (z ∷ xs) y (suc i) x at = elim (slice_get-push_cases xs y i x at) [ inl h ↦ inl h | inr h ↦ inr (ap suc h.0, h.1) ]

-- an element stands at each place of the list
pub slice_get-some : {A : Type 0} (xs : List A) (i : ℕ) → i < length xs → (x : A) × (slice_get xs i ≡ Some x)
slice_get-some [] i within = absurd (omega arith)
slice_get-some (x ∷ xs) zero within = (x, refl)
slice_get-some (x ∷ xs) (suc i) within = slice_get-some xs i (omega arith)

pub slice_get-not_none : {A : Type 0} (xs : List A) (i : ℕ) → i < length xs → slice_get xs i ≡ None → ⊥
slice_get-not_none xs i within none = let r = slice_get-some xs i within in none-some r.0 (sym none ∙ r.1)

-- in a mapped list stands f of what stands in the list
pub slice_get-mapped : {A B : Type 0} (f : A → B) (xs : List A) (i : ℕ) (x : A) → slice_get xs i ≡ Some x → slice_get (map f xs) i ≡ Some (f x)
slice_get-mapped f xs i x at = slice_get-map f xs i ∙ ap (option_map f) at

-- the elements before a place, with the one that stands there
pub take-one_more : {A : Type 0} (xs : List A) (i : ℕ) (x : A) → slice_get xs i ≡ Some x → take (i + 1) xs ≡ take i xs ++ x ∷ []
take-one_more xs i x at = take_more xs i x (slice_get_within xs i x at) ∙ ap (λ y. take i xs ++ y ∷ []) (get_or_from_slice_get xs i x x at)

-- what stands from a place on begins with what stands there
pub drop-slice_get : {A : Type 0} (xs : List A) (i : ℕ) (x : A) → slice_get xs i ≡ Some x → drop i xs ≡ x ∷ drop (suc i) xs
drop-slice_get [] i x at = absurd (none-some x at)
drop-slice_get (y ∷ ys) zero x at = ap (λ z. z ∷ ys) (same_Some y x at)
drop-slice_get (y ∷ ys) (suc i) x at = drop-slice_get ys i x at

pub drop-behind : {A : Type 0} (xs : List A) (i : ℕ) (x : A) (ys : List A) → drop i xs ≡ x ∷ ys → drop (suc i) xs ≡ ys
drop-behind [] zero x ys e = cc
drop-behind [] (suc i) x ys e = cc
drop-behind (z ∷ zs) zero x ys e = cc
drop-behind (z ∷ zs) (suc i) x ys e = drop-behind zs i x ys e

-- what stands behind so many and so many more
pub drop-add : {A : Type 0} (xs : List A) (m n : ℕ) → drop (m + n) xs ≡ drop n (drop m xs)
drop-add xs zero n = ap (λ k. drop k xs) (omega arith)
drop-add [] (suc m) n = drop-nil (suc m + n) ∙ sym (drop-nil n)
drop-add (x ∷ xs) (suc m) n = let e : suc m + n ≡ suc (m + n) = omega arith in ap (λ k. drop k (x ∷ xs)) e ∙ drop-add xs m n

-- what stands behind a part of a list
pub drop-part : {A : Type 0} (xs : List A) (i n : ℕ) (ys zs : List A) → drop i xs ≡ ys ++ zs → length ys ≡ n → drop (i + n) xs ≡ zs
drop-part xs i n ys zs e count = drop-add xs i n ∙ ap (drop n) e ∙ ap (λ k. drop k (ys ++ zs)) (sym count) ∙ drop-append_seam ys zs

-- a list with one more element
pub length-pushed : {A : Type 0} {old mid new : List A} (x : A) → new ≡ mid ++ x ∷ [] → mid ≡ old → length new ≡ length old + 1
length-pushed {A} {mid = mid} x e h = ap length e ∙ length_push mid x ∙ ap (λ (z : List A). length z + 1) h

-- a list that ends with an element is a first element and others
pub record IsCons {A : Type 0} (xs : List A) : Type 0 where
  pub first : A
  pub others : List A
  pub is : xs ≡ first ∷ others

pub cons-more : {A : Type 0} (xs : List A) (x : A) → IsCons (xs ++ x ∷ [])
cons-more [] x = record { first = x; others = []; is = refl }
cons-more (y ∷ xs) x = record { first = y; others = xs ++ x ∷ []; is = refl }

-- one more text behind texts with a byte between them
pub join-push : (between : ℕ) (x : List ℕ) (xs : List (List ℕ)) (y : List ℕ) → join_with_byte between (x ∷ xs ++ y ∷ []) ≡ join_with_byte between (x ∷ xs) ++ between ∷ y
join-push between x [] y = refl
join-push between x (z ∷ zs) y =
    ap (λ t. x ++ between ∷ t) (join-push between z zs y) ∙ sym (append_assoc x (between ∷ join_with_byte between (z ∷ zs)) (between ∷ y))

-- the element that goes last has the old length as its place
pub slice_get_push : {A : Type 0} (xs : List A) (x : A) → slice_get (xs ++ x ∷ []) (length xs) ≡ Some x
slice_get_push [] x = refl
slice_get_push (y ∷ ys) x = slice_get_push ys x

-- one more element, that is not there, leaves a list without repetition
pub NoneTwice-push : {A : Type 0} (xs : List A) (x : A) → NoneTwice xs → (IsAmong xs x → ⊥) → NoneTwice (xs ++ x ∷ [])
NoneTwice-push [] x once new = (λ i. i, tt)
NoneTwice-push (y ∷ ys) x once new =
    let apart : IsAmong (ys ++ x ∷ []) y → ⊥ =
    λ i. elim (IsAmong-append ys (x ∷ []) y i) [ inl j ↦ once.0 j | inr j ↦ elim j [ inl e ↦ new (inl (sym e)) | inr k ↦ k ] ]
    in (apart, NoneTwice-push ys x once.1 (λ i. new (inr i)))

-- two lists without repetition that share no element, one behind the other
pub NoneTwice-append : {A : Type 0} (xs ys : List A) → NoneTwice xs → NoneTwice ys → ((x : A) → IsAmong xs x → IsAmong ys x → ⊥) → NoneTwice (xs ++ ys)
NoneTwice-append [] ys a b apart = b
NoneTwice-append (x ∷ xs) ys a b apart =
    ((λ i. elim (IsAmong-append xs ys x i) [ inl j ↦ a.0 j | inr j ↦ apart x (inl refl) j ]), NoneTwice-append xs ys a.1 b (λ y i j. apart y (inr i) j))

-- an element that stands before its own place stands twice
pub NoneTwice-again : {A : Type 0} (xs : List A) (x : A) (ys : List A) → NoneTwice (xs ++ x ∷ ys) → IsAmong xs x → ⊥
NoneTwice-again [] x ys once i = i
NoneTwice-again (y ∷ xs) x ys once (inl e) = once.0 (later xs x ys y (sym e))
  where
    later : {A : Type 0} (xs : List A) (x : A) (ys : List A) (y : A) → y ≡ x → IsAmong (xs ++ x ∷ ys) y
    later [] x ys y e = inl e
    later (z ∷ xs) x ys y e = inr (later xs x ys y e)
NoneTwice-again (y ∷ xs) x ys once (inr i) = NoneTwice-again xs x ys once.1 i

-- where f of no two elements is equal, f of the element at a place is not before that place
pub NoneTwice-map_take : {A B : Type 0} (f : A → B) (xs : List A) (i : ℕ) (d : A) → i < length xs → NoneTwice (map f xs)
    → IsAmong (map f (take i xs)) (f (get_or xs i d)) → ⊥
NoneTwice-map_take f [] i d within once j = absurd (omega arith)
NoneTwice-map_take f (x ∷ xs) zero d within once j = j
NoneTwice-map_take f (x ∷ xs) (suc i) d within once (inl e) =
    once.0 (subst (λ z. IsAmong (map f xs) z) e (IsAmong-map f xs (get_or xs i d) (IsAmong-get_or xs i d (omega arith))))
NoneTwice-map_take f (x ∷ xs) (suc i) d within once (inr j) = NoneTwice-map_take f xs i d (omega arith) once.1 j

-- an element that passes the test is there just where the test finds one
pub list_any-IsAmong : {A : Type 0} (test : A → Bool) (xs : List A) (x : A) → IsAmong xs x → test x ≡ true → list_any test xs ≡ true
list_any-IsAmong test [] x i p = absurd i
list_any-IsAmong test (y ∷ ys) x (inl e) p = ap (λ b. b || list_any test ys) (ap test (sym e) ∙ p)
list_any-IsAmong test (y ∷ ys) x (inr i) p = or_right (test y) (list_any test ys) (list_any-IsAmong test ys x i p)

pub IsAmong-list_any : {A : Type 0} (test : A → Bool) (xs : List A) → list_any test xs ≡ true → (x : A) × IsAmong xs x × (test x ≡ true)
IsAmong-list_any test [] h = absurd (false≢true h)
IsAmong-list_any {A} test (y ∷ ys) h = by (test y) refl (IsAmong-list_any test ys)
  where
    by : (b : Bool) → test y ≡ b → (list_any test ys ≡ true → (x : A) × IsAmong ys x × (test x ≡ true)) → (x : A) × IsAmong (y ∷ ys) x × (test x ≡ true)
    by true e rest = (y, inl refl, e)
    by false e rest = let r = rest (sym (ap (λ b. b || list_any test ys) e) ∙ h) in (r.0, inr r.1, r.2)

-- What a test finds that decides which elements are seen as y.
module _ {A B : Type 0} (view : A → B) (test : A → Bool) (y : B) (decides : (x : A) → Decides (test x) (y ≡ view x)) where
  -- what is seen as y stands at the place found
  pub slice_get-position : (xs : List A) (i : ℕ) → position test xs ≡ Some i → slice_get (map view xs) i ≡ Some y
  slice_get-position [] i found = absurd (none-some i found)
  slice_get-position (x ∷ xs) i found =
      let r = position-Some test (x ∷ xs) i x found in
      slice_get-map view (x ∷ xs) i ∙ ap (option_map view) (slice_get-get_or (x ∷ xs) i x r.0) ∙ ap Some (sym ((decides (get_or (x ∷ xs) i x)).0 r.1))

  -- an element passes the test just where y is there
  pub IsAmong-test : (xs : List A) → list_any test xs ≡ true → IsAmong (map view xs) y
  IsAmong-test xs h =
      let r = IsAmong-list_any test xs h in
      subst (λ z. IsAmong (map view xs) z) (sym ((decides r.0).0 r.2)) (IsAmong-map view xs r.0 r.1)

  pub test-IsAmong : (xs : List A) → IsAmong (map view xs) y → list_any test xs ≡ true
  test-IsAmong xs i =
      let r = IsAmong-map_from view xs y i in
      list_any-IsAmong test xs r.0 r.1 ((decides r.0).1 r.2)

-- whether no element stands twice, by a test that decides which elements are equal
abbrev pub none_twice : {A : Type 0} → (A → A → Bool) → List A → Bool
none_twice eq [] = true
none_twice eq (x ∷ xs) = not (list_any (eq x) xs) && none_twice eq xs

pub NoneTwice-none_twice : {A : Type 0} (eq : A → A → Bool) → ((x y : A) → Decides (eq x y) (x ≡ y)) → (xs : List A) → none_twice eq xs ≡ true → NoneTwice xs
NoneTwice-none_twice eq decides [] h = tt
NoneTwice-none_twice eq decides (x ∷ xs) h =
    let parts = both (list_any (eq x) xs) (none_twice eq xs) h in
    (λ i. false≢true (sym parts.0 ∙ list_any-IsAmong (eq x) xs x i ((decides x x).1 refl)), NoneTwice-none_twice eq decides xs parts.1)
  where
    both : (b c : Bool) → (not b && c) ≡ true → (b ≡ false) × (c ≡ true)
    both true c h = absurd (false≢true h)
    both false c h = (refl, h)

-- a member of lists one after another is a member of one of them
pub IsAmong-gathered : {A B : Type 0} (f : A → List B) (xs : List A) (x : A) (y : B) → IsAmong xs x → IsAmong (f x) y → IsAmong (gathered f xs) y
IsAmong-gathered f [] x y i j = absurd i
IsAmong-gathered f (z ∷ zs) x y (inl e) j = IsAmong-append_left (f z) (gathered f zs) y (subst (λ w. IsAmong (f w) y) e j)
IsAmong-gathered f (z ∷ zs) x y (inr i) j = IsAmong-append_right (f z) (gathered f zs) y (IsAmong-gathered f zs x y i j)

pub IsAmong-gathered_from : {A B : Type 0} (f : A → List B) (xs : List A) (y : B) → IsAmong (gathered f xs) y → (x : A) × IsAmong xs x × IsAmong (f x) y
IsAmong-gathered_from f [] y i = absurd i
IsAmong-gathered_from f (x ∷ xs) y i = elim (IsAmong-append (f x) (gathered f xs) y i) [
  | inl j ↦ (x, inl refl, j)
  | inr j ↦ let r = IsAmong-gathered_from f xs y j in (r.0, inr r.1, r.2)
]
