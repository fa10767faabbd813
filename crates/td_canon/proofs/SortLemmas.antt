-- The pairs that a sort has put in order.
use Rattle.std.specs.Prelude.{◌≡◌, ℕ, zero, suc, ◌<◌, Bool, true, List, [], ◌∷◌, map, take, drop, length, refl}
use Rattle.std.specs.Cmp.Lexicographic.{slice_cmp}
use Rattle.std.specs.Ordering.{nat_cmp, is_lt}
use Rattle.std.specs.Cmp.{IsStrictWeakOrder}
use Rattle.std.specs.Fn.{Called, ComparesAs}
use denote.Param.Members.{Mut}
use denote.Ref.{Bor}
use Rattle.std.specs.declared.cmp.Ordering.{Ordering}
use Rattle.std.proofs.lemmas.Fn.{always_returns_same}
use Rattle.std.specs.List.Sorted.{IsPermutation, IsSortedBy}
use Rattle.std.proofs.Common.{ap, sym, ◌∙◌, subst, arith, take-append-drop}
use Rattle.std.proofs.lemmas.Cmp.{nat_list_cmp_total}
use Rattle.std.proofs.lemmas.List.Sorted.{IsPermutation-map, IsPermutation-sym, length_permutation, ranks_by}
use Rattle.std.proofs.lemmas.List.{nil_from_length}
use Rattle.gr_base.specs.Lists.{IsWithin, Each, IsBefore, InByteOrder, NoneTwice}
use Rattle.gr_base.proofs.ListLemmas.{Each-at, Each-members, Each-right}
use Rattle.gr_base.proofs.OrderedPairs.{InByteOrder-sorted, IsBefore-Less, IsWithin-permutation, NoneTwice-permutation}
use Rattle.gr_base.proofs.RisingKeys.{IsRising-back}
use Rattle.gr_terms.specs.Bags.{IsListed}
use Rattle.gr_terms.specs.BagViews.{pairs_of}
use Rattle.gr_terms.specs.Networks.{Term}
use Rattle.gr_terms.specs.Views.{term_of}
use Rattle.gr_terms.proofs.ViewLemmas.{IsRising-pairs_of}
use Rattle.gr_terms.specs.declared.Sym.{Sym}
use Rattle.gr_terms.specs.declared.Term.{Term as Value}
use Rattle.td_tree.specs.Trees.{BagPairs}
use Rattle.td_tree.specs.TreeViews.{Pairs}
use Rattle.td_canon.specs.CanonicalTexts.{IsNamedBag, IsNamedTerm, text_in}
use Rattle.td_canon.specs.Writing.{AreNamedPairs, by_text, in_order, seen_pairs}
use Rattle.td_canon.specs.declared.pairs.Pair.{Pair}
use Rattle.td_canon.proofs.OrderLemmas.{NoneTwice-texts, in_order-unique}

-- how the code's pairs compare
abbrev pub is_less : Pair → Pair → Bool
is_less p q = is_lt (slice_cmp nat_cmp p.attribute.now q.attribute.now)

pub is_less-order : IsStrictWeakOrder is_less
is_less-order = ranks_by nat_list_cmp_total (λ (p : Pair). p.attribute.now)

-- what a sort by a closure that compares the attributes leaves
pub sorted_by_attribute : {F : Type 0} {g : Mut F (Bor Pair × (Bor Pair × Unit {0})) Ordering} {f : F} (ps : List Pair) →
    ((lt : Pair → Pair → Bool) → IsStrictWeakOrder lt → ComparesAs g lt f → IsSortedBy lt ps) →
    ((a : Bor Pair × (Bor Pair × Unit {0})) (r : Ordering) (f' : F) → Called g f a r f' → (r ≡ slice_cmp nat_cmp a.0.now.attribute.now a.1.0.now.attribute.now) × (f' ≡ f)) →
    IsSortedBy is_less ps
sorted_by_attribute {g = g} {f = f} ps sorted calls =
    sorted is_less is_less-order
    (always_returns_same g (λ a r. is_lt r ≡ is_less a.0.now a.1.0.now) f (λ a r f' called. let h = calls a r f' called in (ap is_lt h.0, h.1)))

less_before : (p q : Pair) → IsBefore p.attribute.now q.attribute.now → is_less p q ≡ true
less_before p q h = ap is_lt (IsBefore-Less p.attribute.now q.attribute.now h)

-- the pairs from a place on are listed and named still
pub IsListed-drop : (bag : BagPairs) (from : ℕ) → IsListed bag → IsListed (drop from bag)
IsListed-drop bag from listed = IsRising-back (λ p. p.0.0) (take from bag) (drop from bag) (subst (λ ps. IsListed ps) (sym (take-append-drop from bag)) listed)

pub named_attributes : (count : ℕ) (bag : BagPairs) → IsNamedBag count bag → Each (λ (p : ℕ × Term ℕ). p.0 < count) (pairs_of bag)
named_attributes count [] named = tt
named_attributes count (p ∷ bag) named = (named.0.0, named_attributes count bag named.1)

pub IsNamedBag-drop : (count : ℕ) (bag : BagPairs) (from : ℕ) → IsNamedBag count bag → IsNamedBag count (drop from bag)
IsNamedBag-drop count bag from named =
    Each-right (λ (p : Sym × Value). (p.0.0 < count) × IsNamedTerm count p.1) (take from bag) (drop from bag)
    (subst (λ ps. IsNamedBag count ps) (sym (take-append-drop from bag)) named)

pub once_by_text : (texts : List (List ℕ)) (bag : BagPairs) → NoneTwice texts → IsListed bag → IsNamedBag (length texts) bag → NoneTwice (map (λ (p : ℕ × Term ℕ). text_in texts p.0) (pairs_of bag))
once_by_text texts bag once listed named = NoneTwice-texts texts (pairs_of bag) once (IsRising-pairs_of bag listed) (named_attributes (length texts) bag named)

abbrev seen : Pair → List ℕ × Term ℕ
seen p = (p.attribute.now, term_of p.value)

attributes-seen : (ps : List Pair) → map (λ (p : Pair). p.attribute.now) ps ≡ map (λ (p : List ℕ × Term ℕ). p.0) (seen_pairs ps)
attributes-seen [] = refl
attributes-seen (p ∷ ps) = ap (λ ks. p.attribute.now ∷ ks) (attributes-seen ps)

attributes-by_text : (text : ℕ → List ℕ) (ps : Pairs) → map (λ (p : List ℕ × Term ℕ). p.0) (by_text text ps) ≡ map (λ (p : ℕ × Term ℕ). text p.0) ps
attributes-by_text text [] = refl
attributes-by_text text (p ∷ ps) = ap (λ ks. text p.0 ∷ ks) (attributes-by_text text ps)

empty_by_text : (text : ℕ → List ℕ) (ps : Pairs) → length (by_text text ps) ≡ 0 → by_text text (in_order text ps) ≡ []
empty_by_text text [] e = refl
empty_by_text text (p ∷ ps) e = absurd (omega arith)

length-seen : (ps : List Pair) → length (seen_pairs ps) ≡ length ps
length-seen [] = refl
length-seen (p ∷ ps) = ap suc (length-seen ps)

-- pairs of a bag that a sort has put in order
pub sorted_pairs : (texts : List (List ℕ)) (bag : BagPairs) (ps qs : List Pair) → IsListed bag → IsNamedBag (length texts) bag → (0 < length bag → NoneTwice texts) →
    seen_pairs ps ≡ by_text (text_in texts) (pairs_of bag) → IsPermutation ps qs → IsSortedBy is_less qs → seen_pairs qs ≡ by_text (text_in texts) (in_order (text_in texts) (pairs_of bag))
sorted_pairs texts [] ps qs listed named distinct are moved sorted =
    let none : length (seen_pairs ps) ≡ 0 = ap length are in
    let as_many : length (seen_pairs ps) ≡ length ps = length-seen ps in
    let moved_as_many : length qs ≡ length ps = length_permutation ps qs moved in
    ap seen_pairs (nil_from_length qs (omega arith))
sorted_pairs texts (p ∷ bag) ps qs listed named distinct are moved sorted =
    let text = text_in texts in
    let pairs = pairs_of (p ∷ bag) in
    let once : NoneTwice (map (λ (q : ℕ × Term ℕ). text q.0) pairs) = once_by_text texts (p ∷ bag) (distinct (omega arith)) listed named in
    let keys : map (λ (q : Pair). q.attribute.now) ps ≡ map (λ (q : ℕ × Term ℕ). text q.0) pairs = attributes-seen ps ∙ ap (λ zs. map (λ (q : List ℕ × Term ℕ). q.0) zs) are ∙ attributes-by_text text pairs in
    let differ : NoneTwice (map (λ (q : Pair). q.attribute.now) qs) =
    NoneTwice-permutation (map (λ (q : Pair). q.attribute.now) ps) (map (λ (q : Pair). q.attribute.now) qs) (IsPermutation-map (λ (q : Pair). q.attribute.now) ps qs moved) (subst (λ ks. NoneTwice ks) (sym keys) once) in
    let order : InByteOrder (map (λ (q : List ℕ × Term ℕ). q.0) (seen_pairs qs)) =
    subst (λ ks. InByteOrder ks) (attributes-seen qs) (InByteOrder-sorted (λ (q : Pair). q.attribute.now) is_less less_before is_less-order qs sorted differ) in
    let moved_seen : IsPermutation (seen_pairs ps) (seen_pairs qs) = IsPermutation-map seen ps qs moved in
    in_order-unique text pairs (seen_pairs qs) once order
    (subst (λ zs. IsWithin (seen_pairs qs) zs) are (IsWithin-permutation (seen_pairs qs) (seen_pairs ps) (IsPermutation-sym (seen_pairs ps) (seen_pairs qs) moved_seen)))
    (subst (λ zs. IsWithin zs (seen_pairs qs)) are (IsWithin-permutation (seen_pairs ps) (seen_pairs qs) moved_seen))

-- where a pair is left behind a place, that place is below the length
pub left_within : {X : Type 0} (xs : List X) (from : ℕ) → 0 < length (drop from xs) → from < length xs
left_within [] zero h = absurd (omega arith)
left_within [] (suc from) h = absurd (omega arith)
left_within (x ∷ xs) zero h = omega arith
left_within (x ∷ xs) (suc from) h = let r : from < length xs = left_within xs from h in omega arith

-- and their values are named still
pub AreNamedPairs-moved : (count : ℕ) (ps qs : List Pair) → IsPermutation ps qs → AreNamedPairs count ps → AreNamedPairs count qs
AreNamedPairs-moved count ps qs moved named =
    Each-members (λ (p : Pair). IsNamedTerm count p.value) qs
    (λ p i. Each-at (λ (q : Pair). IsNamedTerm count q.value) ps p named (IsWithin-permutation qs ps (IsPermutation-sym ps qs moved) p i))
