-- Variables by first meeting: the table of their places, and what is written when more are met.
use Rattle.std.specs.Prelude.{◌≡◌, ◌≢◌, ℕ, zero, suc, ◌+◌, ◌<◌, ◌≤◌, ◌⊎◌, List, [], ◌∷◌, ◌++◌, Bool, true, false, map, length, take, slice_get, Some, refl}
use Rattle.std.specs.Bool.{OnTrue, OnFalse}
use Rattle.std.proofs.Common.{inl, inr, ap, ap₂, subst, sym, ◌∙◌, arith, append_assoc, append-nil, get_or, set}
use Rattle.std.proofs.lemmas.Bool.{false≢true}
use Rattle.std.proofs.lemmas.List.{map-append, get_or-set_same, get_or-set_other, length-set}
use Rattle.std.proofs.lemmas.Option.{none-some, same_Some, slice_get_within, get_or_from_slice_get, slice_get-get_or}
use Rattle.gr_base.specs.Lists.{Each, IsAmong, gathered}
use Rattle.gr_base.proofs.ListLemmas.{Each-map, Each-map_from, IsAmong-slice_get, slice_get-append_left, take-one_more}
use Rattle.gr_terms.specs.Bags.{HasAttribute, IsListed, Puts}
use Rattle.gr_terms.specs.Networks.{variable}
use Rattle.gr_terms.specs.Views.{term_of}
use Rattle.gr_terms.specs.declared.Sym.{Sym}
use Rattle.gr_terms.specs.declared.Term.{Term}
use Rattle.gr_terms.specs.declared.Term.TheVariants.{Const, Var}
use Rattle.gr_terms.proofs.BagLemmas.{IsListed-before, LacksAttribute-lower, Puts-end}
use Rattle.td_tree.specs.Trees.{BagPairs}
use Rattle.td_canon.specs.Renaming.{rename_term}
use Rattle.td_canon.specs.Writing.{BeginsWith, meet, meet_all}
use Rattle.td_canon.proofs.MeetingLemmas.{BeginsWith-meet_all, BeginsWith-same, is_met, is_met-IsAmong, meet-new, meet-there, meet_all-append, place, place-absent, place-stays, stands_in, IsAmong-meet_all}
use Rattle.lx_anchor.specs.Numberings.{AreKept, IsNumbered, Numbers}

-- ---- the table of places

pub kept-none : (places : List ℕ) → AreKept places []
kept-none places v k at = absurd (none-some v at)

pub kept-longer : (places more met : List ℕ) → AreKept places met → AreKept (places ++ more) met
kept-longer places more met kept v k at = slice_get-append_left places more v k (kept v k at)

pub kept-still : (places later met : List ℕ) → (more : List ℕ) × (later ≡ places ++ more) → AreKept places met → AreKept later met
kept-still places later met (more, e) kept = subst (λ p. AreKept p met) (sym e) (kept-longer places more met kept)

module _ (places met : List ℕ) (kept : AreKept places met) (v : ℕ) where
  pub place-found : (k : ℕ) → slice_get met k ≡ Some v → k ≡ place v met
  place-found k at =
      let s = stands_in v met [] (is_met-IsAmong v met (IsAmong-slice_get met k v at)) in
      same_Some k (place v met) (sym (kept v k at) ∙ kept v (place v met) s.at)

  pub place-found_at : get_or places v 0 < length met → get_or met (get_or places v 0) 0 ≡ v → get_or places v 0 ≡ place v met
  place-found_at within is = place-found (get_or places v 0) (slice_get-get_or met (get_or places v 0) 0 within ∙ ap Some is)

  place-missing : ((k : ℕ) → slice_get met k ≡ Some v → ⊥) → length met ≡ place v met
  place-missing none = by (is_met v met) refl
    where
      by : (b : Bool) → is_met v met ≡ b → length met ≡ place v met
      by true e = absurd (none (place v met) (stands_in v met [] e).at)
      by false e = sym (place-absent v met e)

  pub place-beyond : length places ≤ v → length met ≡ place v met
  place-beyond le = place-missing (λ k at. let lt : v < length places = slice_get_within places v k (kept v k at) in omega arith)

  pub place-other : (get_or places v 0 < length met → get_or met (get_or places v 0) 0 ≡ v → ⊥) → length met ≡ place v met
  place-other other = place-missing (λ k at.
      let is : get_or places v 0 ≡ k = get_or_from_slice_get places v k 0 (kept v k at) in
      let within : k < length met = slice_get_within met k v at in
      let value : get_or met k 0 ≡ v = get_or_from_slice_get met k v 0 at in
      other (subst (λ j. j < length met) (sym is) within) (subst (λ j. get_or met j 0 ≡ v) (sym is) value))

  -- a variable without a place among those that were met wasn't met
  pub not_met : place v met ≡ length met → is_met v met ≡ false
  not_met e = by (is_met v met) refl
    where
      by : (b : Bool) → is_met v met ≡ b → is_met v met ≡ false
      by true h = let s : place v met < length met = (stands_in v met [] h).within in absurd (omega (arith, e))
      by false h = h

  pub met_there : (place v met ≡ length met → ⊥) → meet met (variable v) ≡ met
  met_there h = by (is_met v met) refl
    where
      by : (b : Bool) → is_met v met ≡ b → meet met (variable v) ≡ met
      by true e = meet-there met v e
      by false e = absurd (h (place-absent v met e))

  pub met_new : place v met ≡ length met → meet met (variable v) ≡ met ++ v ∷ []
  met_new e = meet-new met v (not_met e)

pushed-at : (xs : List ℕ) (x : ℕ) (k : ℕ) (y : ℕ) → slice_get (xs ++ x ∷ []) k ≡ Some y → (slice_get xs k ≡ Some y) ⊎ ((k ≡ length xs) × (y ≡ x))
pushed-at [] x zero y at = inr (refl, sym (same_Some x y at))
pushed-at [] x (suc k) y at = absurd (none-some y at)
pushed-at (z ∷ xs) x zero y at = inl at
pushed-at (z ∷ xs) x (suc k) y at = elim (pushed-at xs x k y at) [ inl h ↦ inl h | inr h ↦ inr (ap suc h.0, h.1) ]

pub kept-push : (places met : List ℕ) (v n : ℕ) → AreKept places met → v < length places → place v met ≡ length met → n ≡ length met → AreKept (set places v n) (met ++ v ∷ [])
kept-push places met v n kept room new is w k at = elim (pushed-at met v k w at) [
  | inl h ↦
      let there : slice_get places w ≡ Some k = kept w k h in
      let within : w < length places = slice_get_within places w k there in
      let other : w ≢ v = λ e.
      let here = is_met-IsAmong v met (IsAmong-slice_get met k v (subst (λ z. slice_get met k ≡ Some z) e h)) in
      absurd (false≢true (sym (not_met places met kept v new) ∙ here)) in
      let long : w < length (set places v n) = omega (arith, length-set places v n, within) in
      slice_get-get_or (set places v n) w 0 long ∙ ap Some (get_or-set_other places v w n 0 other ∙ get_or_from_slice_get places w k 0 there)
  | inr h ↦
      let long : v < length (set places v n) = omega (arith, length-set places v n, room) in
      let here : slice_get (set places v n) v ≡ Some k = slice_get-get_or (set places v n) v 0 long ∙ ap Some (get_or-set_same places v n 0 room ∙ is ∙ sym h.0) in
      subst (λ z. slice_get (set places v n) z ≡ Some k) (sym h.1) here
]

-- ---- what is written with numbers

pub Numbers-before : (met all : List ℕ) (f : ℕ → ℕ) → BeginsWith met all → Numbers all f → Numbers met f
Numbers-before met all f (more, e) h v k at = h v k (subst (λ xs. slice_get xs k ≡ Some v) (sym e) (slice_get-append_left met more k v at))

pub Numbers-place : (met all : List ℕ) (v : ℕ) (f : ℕ → ℕ) → BeginsWith (meet met (variable v)) all → IsAmong all v → Numbers all f → f v ≡ place v met
Numbers-place met all v f begins i h = h v (place v all) (stands_in v all [] (is_met-IsAmong v all i)).at ∙ place-stays met v all begins

pub numbered-const : (old : List ℕ) (s : Sym) → IsNumbered old old (Const s ∷ []) (λ f. rename_term f (Const s)) (Const s)
numbered-const old s = record { met = refl; written = λ f h. refl }

pub numbered-var : (old new : List ℕ) (v k : ℕ) → new ≡ meet old (variable v) → k ≡ place v old → IsNumbered old new (Var v ∷ []) (λ f. rename_term f (Var v)) (Var k)
numbered-var old new v k met is = record {
  met = met;
  written = λ f h.
      ap Var (is ∙ sym (Numbers-place old new v f (subst (λ xs. BeginsWith xs new) met (BeginsWith-same new)) (subst (λ xs. IsAmong xs v) (sym met) (IsAmong-meet_all old (variable v ∷ []) v (inl refl))) h));
}

pub numbered-none : {A B : Type 0} (old : List ℕ) (T : List A → List Term) (g : (ℕ → ℕ) → A → B) → T [] ≡ [] → IsNumbered old old (T []) (λ f. map (g f) []) []
numbered-none old T g e = record { met = sym (ap (λ ts. meet_all old (map term_of ts)) e); written = λ f h. refl }

begins-after : (mid new : List ℕ) (terms : List Term) → new ≡ meet_all mid (map term_of terms) → BeginsWith mid new
begins-after mid new terms e = subst (λ xs. BeginsWith mid xs) (sym e) (BeginsWith-meet_all mid (map term_of terms))

met-both : (old mid new : List ℕ) (ts us : List Term) → mid ≡ meet_all old (map term_of ts) → new ≡ meet_all mid (map term_of us) → new ≡ meet_all old (map term_of (ts ++ us))
met-both old mid new ts us e h =
    h ∙ ap (λ ms. meet_all ms (map term_of us)) e ∙ sym (meet_all-append old (map term_of ts) (map term_of us)) ∙ ap (meet_all old) (sym (map-append term_of ts us))

-- one after another
pub numbered-both : {A B C : Type 0} (join : A → B → C) (old mid new : List ℕ) (ts us : List Term) (w : (ℕ → ℕ) → A) (x : (ℕ → ℕ) → B) (a : A) (b : B) → IsNumbered old mid ts w a → IsNumbered mid new us x b
    → IsNumbered old new (ts ++ us) (λ f. join (w f) (x f)) (join a b)
numbered-both join old mid new ts us w x a b h k = record {
  met = met-both old mid new ts us h.met k.met;
  written = λ f n. ap₂ join (h.written f (Numbers-before mid new f (begins-after mid new us k.met) n)) (k.written f n);
}

-- one more element of a list
pub numbered-push : {A B : Type 0} (T : List A → List Term) (g : (ℕ → ℕ) → A → B) (xs : List A) (k : ℕ) (x : A) (us : List Term) (old mid new : List ℕ) (out later : List B) (y : B)
    → slice_get xs k ≡ Some x → ((ys : List A) → T (ys ++ x ∷ []) ≡ T ys ++ us) → IsNumbered old mid (T (take k xs)) (λ f. map (g f) (take k xs)) out → IsNumbered mid new us (λ f. g f x) y → later ≡ out ++ y ∷ []
    → IsNumbered old new (T (take (k + 1) xs)) (λ f. map (g f) (take (k + 1) xs)) later
numbered-push T g xs k x us old mid new out later y at more h one e =
    let upto : take (k + 1) xs ≡ take k xs ++ x ∷ [] = take-one_more xs k x at in
    record {
      met = met-both old mid new (T (take k xs)) us h.met one.met ∙ ap (λ ts. meet_all old (map term_of ts)) (sym (ap T upto ∙ more (take k xs)));
      written = λ f n.
          e
          ∙ ap₂ (λ zs z. zs ++ z ∷ []) (h.written f (Numbers-before mid new f (begins-after mid new us one.met) n)) (one.written f n)
          ∙ sym (map-append (g f) (take k xs) (x ∷ []))
          ∙ ap (map (g f)) (sym upto);
    }

take_whole : {A : Type 0} (xs : List A) (k : ℕ) → length xs ≤ k → take k xs ≡ xs
take_whole [] zero le = refl
take_whole [] (suc k) le = refl
take_whole (x ∷ xs) zero le = absurd (omega (arith, le))
take_whole (x ∷ xs) (suc k) le = ap (λ ys. x ∷ ys) (take_whole xs k (omega (arith, le)))

pub numbered-all : {A B : Type 0} (T : List A → List Term) (g : (ℕ → ℕ) → A → B) (xs : List A) (k : ℕ) (old new : List ℕ) (out : List B) → length xs ≤ k
    → IsNumbered old new (T (take k xs)) (λ f. map (g f) (take k xs)) out → IsNumbered old new (T xs) (λ f. map (g f) xs) out
numbered-all T g xs k old new out le h = subst (λ zs. IsNumbered old new (T zs) (λ f. map (g f) zs) out) (take_whole xs k le) h

pub gathered-push : {A B : Type 0} (f : A → List B) (x : A) (xs : List A) → gathered f (xs ++ x ∷ []) ≡ gathered f xs ++ f x
gathered-push f x [] = append-nil (f x)
gathered-push f x (z ∷ xs) = ap (λ ys. f z ++ ys) (gathered-push f x xs) ∙ sym (append_assoc (f z) (gathered f xs) (f x))

-- ---- pairs are put at the end

abbrev pub attributes : BagPairs → List Sym
attributes bag = map (λ (p : Sym × Term). p.0) bag

pub pair-added : (added : Bool) (bag : BagPairs) (k : ℕ) (x : Sym × Term) (old new : BagPairs) (value : Term) → IsListed bag → slice_get bag k ≡ Some x → attributes old ≡ attributes (take k bag)
    → OnTrue added (Puts old new (x.0, value)) → OnFalse added (HasAttribute old x.0) → IsListed new → new ≡ old ++ (x.0, value) ∷ []
pair-added added bag k x old new value listed at same puts has is = by added puts has
  where
    lower : Each (λ (p : Sym × Term). p.0.0 < x.0.0) old
    lower =
        Each-map_from (λ (p : Sym × Term). p.0) (λ (s : Sym). s.0 < x.0.0) old
        (subst (λ ss. Each (λ (s : Sym). s.0 < x.0.0) ss) (sym same) (Each-map (λ (p : Sym × Term). p.0) (λ (s : Sym). s.0 < x.0.0) (take k bag) (IsListed-before bag k x listed at)))

    by : (b : Bool) → OnTrue b (Puts old new (x.0, value)) → OnFalse b (HasAttribute old x.0) → new ≡ old ++ (x.0, value) ∷ []
    by true p h = Puts-end old new (x.0, value) p is lower
    by false p h = absurd (LacksAttribute-lower old x.0 lower h.0 h.1)

pub attributes-push : (bag : BagPairs) (k : ℕ) (x : Sym × Term) (old new : BagPairs) (value : Term) → slice_get bag k ≡ Some x → attributes old ≡ attributes (take k bag) → new ≡ old ++ (x.0, value) ∷ []
    → attributes new ≡ attributes (take (k + 1) bag)
attributes-push bag k x old new value at same e =
    ap attributes e
    ∙ map-append (λ (p : Sym × Term). p.0) old ((x.0, value) ∷ [])
    ∙ ap (λ ss. ss ++ x.0 ∷ []) same
    ∙ sym (map-append (λ (p : Sym × Term). p.0) (take k bag) (x ∷ []))
    ∙ ap attributes (sym (take-one_more bag k x at))

-- beside what has no variable
pub numbered-beside : {A X : Type 0} (a : X) (old new : List ℕ) (terms : List Term) (w : (ℕ → ℕ) → A) (out : A) → IsNumbered old new terms w out → IsNumbered {A = X × A} old new terms (λ f. (a, w f)) (a, out)
numbered-beside a old new terms w out h = record { met = h.met; written = λ f n. ap (λ z. (a, z)) (h.written f n) }
