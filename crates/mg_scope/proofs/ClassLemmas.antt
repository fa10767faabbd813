-- The first class of a name, by its place and by itself.
use Rattle.std.specs.Prelude.{◌≡◌, ℕ, zero, suc, ◌+◌, ◌<◌, ◌≤◌, List, [], ◌∷◌, ◌++◌, map, length, take, Bool, true, false, Option, Some, None, ◌==◌, if◌then◌else◌, ◌⊎◌, slice_get, get_or, IfSome, IsSome, MatchOption}
use Rattle.std.specs.Option.{option_map}
use Rattle.std.proofs.Common.{inl, inr, refl, ap, sym, ◌∙◌, subst, arith, true≢false, append_assoc, Bor}
use Rattle.std.proofs.lemmas.Bool.{eqb-true, false≢true}
use Rattle.std.proofs.lemmas.Option.{none-some, same_Some, slice_get-map, slice_get-get_or}
use Rattle.gr_base.specs.Lists.{IsAmong, Each, gathered}
use Rattle.gr_base.proofs.ListLemmas.{IsAmong-append_left, IsAmong-append_right, IsAmong-append}
use Rattle.gr_terms.specs.declared.Sym.{Sym}
use Rattle.gr_terms.proofs.ViewLemmas.{same_sym}
use Rattle.mg_syntax.specs.declared.item.Class.{Class}
use Rattle.mg_syntax.specs.declared.item.Item.{Item}
use Rattle.mg_syntax.specs.declared.item.Item.TheVariants as item
use Rattle.mg_scope.specs.declared.uses.Use.{Use}
use Rattle.mg_scope.specs.Classes.{class_of, mentions, uses_of, mentions_of, mentioned, exports_of}
use Rattle.mg_scope.specs.Faults.{StandsIn, IsThere}
use Rattle.mg_scope.specs.Directories.{outline_of, IsFirstPlace, IsPlace, ArePlaces, PutsFirst}
use Rattle.mg_scope.specs.Tables.{Cells, value_at, Puts}
use Rattle.mg_scope.proofs.TableLemmas.{same_number, other_number}

-- one item is one class
pub class_same : (j k : Class) → item.Class j ≡ item.Class k → j ≡ k
class_same j k e = cc

-- behind classes of other names the first class of a name is the next one
pub class_of-first : (before after : List Item) (k : Class) (c : Sym) → (StandsIn before c → ⊥) → k.name ≡ c → class_of (before ++ item.Class k ∷ after) c ≡ Some k
class_of-first [] after k c new e = ap (λ b. if b then Some k else class_of after c) (same_number k.name.0 c.0 (ap (λ (s : Sym). s.0) e))
class_of-first (item.Class j ∷ before) after k c new e =
    let other : j.name.0 ≡ c.0 → ⊥ = λ h. new (j, inl refl, same_sym j.name c h) in
    ap (λ b. if b then Some j else class_of (before ++ item.Class k ∷ after) c) (other_number j.name.0 c.0 other)
    ∙ class_of-first before after k c (λ s. new (s.0, inr s.1, s.2)) e
class_of-first (item.Value v ∷ before) after k c new e = class_of-first before after k c (λ s. new (s.0, inr s.1, s.2)) e
class_of-first (item.Header h ∷ before) after k c new e = class_of-first before after k c (λ s. new (s.0, inr s.1, s.2)) e

-- where no class has the name there is none
pub class_of-none : (m : List Item) (c : Sym) → (StandsIn m c → ⊥) → class_of m c ≡ None
class_of-none [] c new = refl
class_of-none (item.Class j ∷ m) c new =
    let other : j.name.0 ≡ c.0 → ⊥ = λ h. new (j, inl refl, same_sym j.name c h) in
    ap (λ b. if b then Some j else class_of m c) (other_number j.name.0 c.0 other) ∙ class_of-none m c (λ s. new (s.0, inr s.1, s.2))
class_of-none (item.Value v ∷ m) c new = class_of-none m c (λ s. new (s.0, inr s.1, s.2))
class_of-none (item.Header h ∷ m) c new = class_of-none m c (λ s. new (s.0, inr s.1, s.2))

-- the first class of a name is one of the items, and has the name
pub class_of-stands : (m : List Item) (c : Sym) (k : Class) → class_of m c ≡ Some k → IsAmong m (item.Class k) × (k.name ≡ c)
class_of-stands [] c k e = absurd (none-some k e)
class_of-stands (item.Class j ∷ m) c k e = by (j.name.0 == c.0) refl (class_of-stands m c k)
  where
    by : (b : Bool) → (j.name.0 == c.0) ≡ b → (class_of m c ≡ Some k → IsAmong m (item.Class k) × (k.name ≡ c)) → IsAmong (item.Class j ∷ m) (item.Class k) × (k.name ≡ c)
    by true t more =
        let same : j ≡ k = same_Some j k (sym (ap (λ b. if b then Some j else class_of m c) t) ∙ e) in
        (inl (ap item.Class (sym same)), ap (λ (z : Class). z.name) (sym same) ∙ same_sym j.name c (eqb-true j.name.0 c.0 t))
    by false t more =
        let r = more (sym (ap (λ b. if b then Some j else class_of m c) t) ∙ e) in
        (inr r.0, r.1)
class_of-stands (item.Value v ∷ m) c k e = let r = class_of-stands m c k e in (inr r.0, r.1)
class_of-stands (item.Header h ∷ m) c k e = let r = class_of-stands m c k e in (inr r.0, r.1)

-- what stands at a place behind so many
pub slice_get-at : {A : Type 0} (before after : List A) (x : A) (i : ℕ) → length before ≡ i → slice_get (before ++ x ∷ after) i ≡ Some x
slice_get-at {A = A} before after x i e = subst (λ (k : ℕ). slice_get (before ++ x ∷ after) k ≡ Some x) e (seam before)
  where
    seam : (before : List A) → slice_get (before ++ x ∷ after) (length before) ≡ Some x
    seam [] = refl
    seam (y ∷ ys) = seam ys

-- the place of the first class has it
pub record IsFound (m : List Item) (c : Sym) (i : ℕ) : Type 0 where
  pub found : Class
  pub at : slice_get m i ≡ Some (item.Class found)
  pub first : class_of m c ≡ Some found
  pub within : i < length m

pub place_found : (m : List Item) (c : Sym) (i : ℕ) → IsFirstPlace m c i → IsFound m c i
place_found m c i (before, after, k, parts, count, named, new) = record {
  found = k;
  at = ap (λ (z : List Item). slice_get z i) parts ∙ slice_get-at before after (item.Class k) i count;
  first = ap (λ (z : List Item). class_of z c) parts ∙ class_of-first before after k c new named;
  within = let e = ap length parts in let l = length-middle before after (item.Class k) in omega (arith, e, l, count);
}
  where
    length-middle : {A : Type 0} (before after : List A) (x : A) → length (before ++ x ∷ after) ≡ suc (length before + length after)
    length-middle [] after x = omega arith
    length-middle (y ∷ before) after x = let h = length-middle before after x in omega (arith, h)

-- one more item leaves a place as it is, where it is no first class of the name
pub place_stays : (m : List Item) (i : Item) (c : Sym) (p : ℕ) → IsFirstPlace m c p → IsFirstPlace (m ++ i ∷ []) c p
place_stays m i c p (before, after, k, parts, count, named, new) =
    (before, after ++ i ∷ [], k, ap (λ (z : List Item). z ++ i ∷ []) parts ∙ append_assoc before (item.Class k ∷ after) (i ∷ []), count, named, new)

pub none_stays : (m : List Item) (i : Item) (c : Sym) → ((k : Class) → i ≡ item.Class k → k.name ≡ c → ⊥) → (StandsIn m c → ⊥) → StandsIn (m ++ i ∷ []) c → ⊥
none_stays m i c other none (k, among, named) =
    elim (IsAmong-append m (i ∷ []) (item.Class k) among) [ inl a ↦ none (k, a, named) | inr b ↦ elim b [ inl e ↦ other k (sym e) named | inr f ↦ f ] ]

pub places_stay : (m : List Item) (i : Item) (t : Cells) → ((k : Class) → i ≡ item.Class k → ⊥) → ArePlaces m t → ArePlaces (m ++ i ∷ []) t
places_stay m i t other known c = by (value_at t c) (known c)
  where
    by : (r : Option ℕ) → IsPlace m c r → IsPlace (m ++ i ∷ []) c r
    by None none = none_stays m i c (λ k e n. other k e) none
    by (Some p) first = place_stays m i c p first

pub places_more : (m : List Item) (k : Class) (old new : Cells) (p : ℕ) → PutsFirst old new k.name p → length m ≡ p → ArePlaces m old → ArePlaces (m ++ item.Class k ∷ []) new
places_more m k old new p (again, fresh) count known c = by (value_at old k.name) refl
  where
    old_place : (r : Option ℕ) → (k.name ≡ c → ⊥) → IsPlace m c r → IsPlace (m ++ item.Class k ∷ []) c r
    old_place None other none = none_stays m (item.Class k) c (λ j e n. other (ap (λ (z : Class). z.name) (class_same k j e) ∙ n)) none
    old_place (Some q) other first = place_stays m (item.Class k) c q first

    by_name : (b : Bool) → (c.0 == k.name.0) ≡ b → value_at old k.name ≡ None → Puts old new k.name p → IsPlace (m ++ item.Class k ∷ []) c (value_at new c)
    by_name true t none put =
        let same : c ≡ k.name = same_sym c k.name (eqb-true c.0 k.name.0 t) in
        let value : value_at new c ≡ Some p = put c ∙ ap (λ b. if b then Some p else value_at old c) t in
        let new_one : StandsIn m c → ⊥ = λ s. subst (IsPlace m c) (ap (value_at old) same ∙ none) (known c) s in
        subst (IsPlace (m ++ item.Class k ∷ []) c) (sym value) (m, [], k, refl, count, sym same, new_one)
    by_name false t none put =
        let other : k.name ≡ c → ⊥ = λ e. true≢false (sym (same_number c.0 k.name.0 (ap (λ (s : Sym). s.0) (sym e))) ∙ t) in
        let value : value_at new c ≡ value_at old c = put c ∙ ap (λ b. if b then Some p else value_at old c) t in
        subst (IsPlace (m ++ item.Class k ∷ []) c) (sym value) (old_place (value_at old c) other (known c))

    known_place : (r : Option ℕ) → (n : ℕ) → value_at old k.name ≡ Some n → value_at old c ≡ r → IsPlace m c r → IsPlace (m ++ item.Class k ∷ []) c r
    known_place None n there at none =
        none_stays m (item.Class k) c (λ j e named.
        none-some n (sym at ∙ ap (value_at old) (sym (ap (λ (z : Class). z.name) (class_same k j e) ∙ named)) ∙ there)) none
    known_place (Some q) n there at first = place_stays m (item.Class k) c q first

    by : (r : Option ℕ) → value_at old k.name ≡ r → IsPlace (m ++ item.Class k ∷ []) c (value_at new c)
    by None e = by_name (c.0 == k.name.0) refl e (fresh e)
    by (Some n) e = subst (IsPlace (m ++ item.Class k ∷ []) c) (sym (again n e c)) (known_place (value_at old c) n e refl (known c))

-- the class in the item at the place is the first one of the name
pub class_here : (items m : List Item) (c : Sym) (i : ℕ) (d : Item) (r : Option (Bor Class)) → items ≡ m → IsFirstPlace m c i
    → ((k : Class) → get_or items i d ≡ item.Class k → IfSome r (λ x. x.now ≡ k) × IsSome r) → MatchOption r (class_of m c ≡ None) (λ x. class_of m c ≡ Some x.now)
class_here items m c i d r same place at = by r (at f.found (ap (λ (z : List Item). get_or z i d) same ∙ same_Some _ _ (sym (slice_get-get_or m i d f.within) ∙ f.at)))
  where
    f : IsFound m c i
    f = place_found m c i place

    by : (r : Option (Bor Class)) → IfSome r (λ x. x.now ≡ f.found) × IsSome r → MatchOption r (class_of m c ≡ None) (λ x. class_of m c ≡ Some x.now)
    by None h = absurd (false≢true h.1)
    by (Some x) h = f.first ∙ ap Some (sym h.0)

-- what the class at a place mentions and uses
pub mentions_here : (m : List Item) (c : Sym) (i : ℕ) (names : List Sym) (uses : List Use) → IsFirstPlace m c i → slice_get (map outline_of m) i ≡ Some (names, uses) → names ≡ mentioned m c
mentions_here m c i names uses place at =
    let f = place_found m c i place in
    let both : (mentions f.found, uses_of f.found) ≡ (names, uses) =
    same_Some (mentions f.found, uses_of f.found) (names, uses) (ap (option_map outline_of) (sym f.at) ∙ sym (slice_get-map outline_of m i) ∙ at)
    in
    ap (λ (z : List Sym × List Use). z.0) (sym both) ∙ ap mentions_of (sym f.first)

-- what is found at a name by the table of places
pub place_answer : (m : List Item) (t : Cells) (c : Sym) (r : Option ℕ) → ArePlaces m t → r ≡ value_at t c
    → MatchOption r (class_of m c ≡ None) (λ i. (k : Class) × (class_of m c ≡ Some k) × (slice_get m i ≡ Some (item.Class k)))
place_answer m t c None known is = class_of-none m c (subst (IsPlace m c) (sym is) (known c))
place_answer m t c (Some i) known is = let f = place_found m c i (subst (IsPlace m c) (sym is) (known c)) in (f.found, f.first, f.at)
