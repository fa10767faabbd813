-- Sets of names by their numbers, in order.
use Rattle.std.specs.Prelude.{◌≡◌, ℕ, zero, suc, ◌<◌, ◌≤◌, List, [], ◌∷◌, map, length, take, get_or, ◌+◌, Option, Some, Result, Ok, Err, is_ok, ◌↔◌, Bool, true, false, ◌++◌, IsTrue, IsPermutation, IsSorted, slice_get}
use Rattle.std.specs.List.Sorted.{IsBinarySearchResult}
use Rattle.std.specs.Ordering.{nat_cmp}
use Rattle.std.proofs.Common.{inl, inr, refl, ap, sym, ◌∙◌, subst, arith, append_assoc}
use Rattle.std.proofs.lemmas.Bool.{false≢true, cases_lt}
use Rattle.std.proofs.lemmas.List.{take_more, take_all, length-map}
use Rattle.std.proofs.lemmas.Option.{none-some, same_Some, slice_get-get_or, slice_get_within}
use Rattle.std.proofs.lemmas.List.Sorted.{Contains-permutation, IsPermutation-sym, IsNonDecreasingBy-from_sort, searched}
use Rattle.gr_base.specs.Lists.{IsAmong}
use Rattle.gr_base.proofs.ListLemmas.{IsAmong-map, IsAmong-map_from, IsAmong-get_or, slice_get-IsAmong}
use Rattle.gr_base.proofs.OrderedPairs.{Contains-IsAmong, IsAmong-Contains}
use Rattle.gr_terms.specs.declared.Sym.{Sym}
use Rattle.gr_terms.proofs.ViewLemmas.{same_sym}
use Rattle.mg_scope.specs.declared.uses.Use.{Use}
use Rattle.mg_syntax.specs.declared.item.Class.{Class}
use Rattle.mg_syntax.specs.declared.item.Item.{Item}
use Rattle.mg_syntax.specs.declared.item.Item.TheVariants as item
use Rattle.mg_scope.specs.declared.directory.Outline.{Outline}
use Rattle.mg_scope.specs.Classes.{exports_in, exports_of}
use Rattle.mg_scope.specs.Faults.{StandsIn}
use Rattle.mg_scope.specs.Names.{number_of, Rise, AreNumbers}
use Rattle.mg_scope.specs.Directories.{outline_of, outlined, exported, IsOutline, AreExports, AreOutlines, IsFirstPlace}
use Rattle.mg_scope.proofs.ClassLemmas.{place_found, class_of-none}

-- in another order the numbers are those of the same names
pub sorted_numbers : (names : List Sym) (given numbers : List ℕ) → given ≡ map number_of names → IsPermutation given numbers → AreNumbers numbers names
sorted_numbers names given numbers is sorted x = (
  (λ i.
      let among = IsAmong-Contains given x.0 (Contains-permutation numbers given x.0 (IsPermutation-sym given numbers sorted) (Contains-IsAmong numbers x.0 i)) in
      let p = IsAmong-map_from number_of names x.0 (subst (λ z. IsAmong z x.0) is among) in
      subst (IsAmong names) (sym (same_sym x p.0 p.2)) p.1),
  (λ i.
      let among : IsAmong given x.0 = subst (λ z. IsAmong z x.0) (sym is) (IsAmong-map number_of names x i) in
      IsAmong-Contains numbers x.0 (Contains-permutation given numbers x.0 sorted (Contains-IsAmong given x.0 among))),
)

pub sorted_rise : (numbers : List ℕ) → IsSorted nat_cmp numbers → Rise numbers
sorted_rise numbers sorted = let h = IsNonDecreasingBy-from_sort (λ x. x) numbers sorted in λ i j le within. h i j 0 le within

-- what a search by halves tells
pub has_number : (numbers : List ℕ) (x : ℕ) (r : Result ℕ ℕ) → IsBinarySearchResult (λ y. nat_cmp y x) numbers r → Rise numbers → IsTrue (is_ok r) ↔ IsAmong numbers x
has_number numbers x (Ok i) h rise =
    let s = searched numbers x (Ok i) h rise in
    ((λ _. subst (IsAmong numbers) s.1 (IsAmong-get_or numbers i 0 s.0)), (λ _. refl))
has_number numbers x (Err i) h rise = ((λ e. absurd (false≢true e)), (λ among. absurd (none among)))
  where
    none : IsAmong numbers x → ⊥
    none among =
        let s = searched numbers x (Err i) h rise in
        let p = slice_get-IsAmong numbers x among in
        let within = slice_get_within numbers p.0 x p.1 in
        let is : get_or numbers p.0 0 ≡ x = same_Some (get_or numbers p.0 0) x (sym (slice_get-get_or numbers p.0 0 within) ∙ p.1) in
        elim (cases_lt p.0 i) [ inl l ↦ (let e = s.1 p.0 l in omega (arith, e, is)) | inr l ↦ (let e = s.2 p.0 l within in omega (arith, e, is)) ]

pub has_by_halves : (numbers given own : List ℕ) (x : ℕ) (r : Result ℕ ℕ) (b : Bool) → given ≡ numbers → numbers ≡ own → IsBinarySearchResult (λ y. nat_cmp y x) given r → Rise numbers → b ≡ is_ok r
    → IsTrue b ↔ IsAmong own x
has_by_halves numbers given own x r b is view found rise tells =
    let h = has_number numbers x r (subst (λ z. IsBinarySearchResult (λ y. nat_cmp y x) z r) is found) rise in
    ((λ t. subst (λ z. IsAmong z x) view (h.0 (sym tells ∙ t))), (λ i. tells ∙ h.1 (subst (λ z. IsAmong z x) (sym view) i)))

-- a list that is mapped, with one more
map_push : {A B : Type 0} (f : A → B) (xs : List A) (x : A) → map f (xs ++ x ∷ []) ≡ map f xs ++ f x ∷ []
map_push f [] x = refl
map_push f (y ∷ ys) x = ap (λ z. f y ∷ z) (map_push f ys x)

pub mapped_more : {A B : Type 0} (f : A → B) (xs : List A) (i : ℕ) (d : A) (front now new : List B) (y : B) → i < length xs → now ≡ front ++ map f (take i xs) → new ≡ now ++ y ∷ [] → y ≡ f (get_or xs i d)
    → new ≡ front ++ map f (take (i + 1) xs)
mapped_more f xs i d front now new y within so_far more is =
    more ∙ ap (λ z. now ++ z ∷ []) is ∙ ap (λ z. z ++ f (get_or xs i d) ∷ []) so_far ∙ append_assoc front (map f (take i xs)) (f (get_or xs i d) ∷ [])
    ∙ ap (λ z. front ++ z) (sym (map_push f (take i xs) (get_or xs i d)) ∙ ap (map f) (sym (take_more xs i d within)))

-- one more item with its outline
exports_more : (m : List Item) (outlines : List Outline) (i : Item) (o : Outline) → length outlines ≡ length m → AreExports m outlines → AreNumbers o.exports (exported i)
    → AreExports (m ++ i ∷ []) (outlines ++ o ∷ [])
exports_more [] [] i o same known more zero j p at_m at_o =
    subst (λ z. AreNumbers p.exports (exported z)) (same_Some i j at_m) (subst (λ (z : Outline). AreNumbers z.exports (exported i)) (same_Some o p at_o) more)
exports_more [] [] i o same known more (suc n) j p at_m at_o = absurd (none-some j at_m)
exports_more [] (q ∷ outlines) i o same known more n j p at_m at_o = absurd (omega (arith, same))
exports_more (k ∷ m) [] i o same known more n j p at_m at_o = absurd (omega (arith, same))
exports_more (k ∷ m) (q ∷ outlines) i o same known more zero j p at_m at_o = known zero j p at_m at_o
exports_more (k ∷ m) (q ∷ outlines) i o same known more (suc n) j p at_m at_o =
    exports_more m outlines i o (omega (arith, same)) (λ n j p a b. known (suc n) j p a b) more n j p at_m at_o

pub outlines_none : AreOutlines [] []
outlines_none = (refl, λ n i o at_m at_o. absurd (none-some i at_m))

pub outlines_more : (m : List Item) (outlines : List Outline) (i : Item) (o : Outline) → AreOutlines m outlines → IsOutline i o → AreOutlines (m ++ i ∷ []) (outlines ++ o ∷ [])
outlines_more m outlines i o (same, known) (is, more) = (
  map_push outlined outlines o ∙ ap (λ z. z ++ outlined o ∷ []) same ∙ ap (λ z. map outline_of m ++ z ∷ []) is ∙ sym (map_push outline_of m i),
  exports_more m outlines i o (sym (length-map outlines outlined) ∙ ap length same ∙ length-map m outline_of) known more,
)

pub outlines_next : (m : List Item) (i : ℕ) (x : Item) (outlines new : List Outline) (o : Outline) → i < length m → x ≡ get_or m i x → AreOutlines (take i m) outlines → IsOutline x o
    → new ≡ outlines ++ o ∷ [] → AreOutlines (take (i + 1) m) new
outlines_next m i x outlines new o within is known outline push =
    subst (λ z. AreOutlines z new) (sym (take_more m i x within))
    (subst (AreOutlines (take i m ++ get_or m i x ∷ [])) (sym push) (outlines_more (take i m) outlines (get_or m i x) o known (subst (λ z. IsOutline z o) is outline)))

pub outlines_all : (m : List Item) (i : ℕ) (outlines : List Outline) → length m ≤ i → AreOutlines (take i m) outlines → AreOutlines m outlines
outlines_all m i outlines all known = subst (λ z. AreOutlines z outlines) (take_all i m all) known

pub exports_none : (m : List Item) (c x : Sym) → (StandsIn m c → ⊥) → IsTrue false ↔ IsAmong (exports_of m c) x
exports_none m c x none = ((λ h. absurd (false≢true h)), (λ i. absurd (subst (λ z. IsAmong z x) (ap exports_in (class_of-none m c none)) i)))

-- what the first class of a name exports
pub exports_here : (m : List Item) (c x : Sym) (i : ℕ) (numbers : List ℕ) (r : Bool) → IsFirstPlace m c i → ((it : Item) → slice_get m i ≡ Some it → AreNumbers numbers (exported it))
    → (IsTrue r ↔ IsAmong numbers x.0) → IsTrue r ↔ IsAmong (exports_of m c) x
exports_here m c x i numbers r place known has =
    let f = place_found m c i place in
    let are : AreNumbers numbers f.found.exports = known (item.Class f.found) f.at in
    let is : exports_of m c ≡ f.found.exports = ap exports_in f.first in
    ((λ h. subst (λ z. IsAmong z x) (sym is) ((are x).0 (has.0 h))), (λ h. has.1 ((are x).1 (subst (λ z. IsAmong z x) is h))))
