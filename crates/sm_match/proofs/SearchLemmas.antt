-- A search over the places of one more literal.
use Rattle.std.specs.Prelude.{◌≡◌, ℕ, ◌+◌, ◌<◌, ◌≤◌, List, [], ◌∷◌, ◌++◌, map, length, slice_get, Bool, true, false, Some, Result, Ok, Err, ◌⊎◌, refl}
use Rattle.std.proofs.Common.{inl, inr, ap, sym, ◌∙◌, subst, get_or, take, arith, append_assoc, append-nil}
use Rattle.std.proofs.lemmas.Bool.{false≢true}
use Rattle.std.proofs.lemmas.List.{take_more, length_push}
use Rattle.std.proofs.lemmas.Option.{none-some, same_Some}
use Rattle.gr_base.specs.Lists.{IsAmong, IsRising, IsBefore}
use Rattle.gr_base.proofs.ListLemmas.{IsAmong-append_left, IsAmong-one_more, IsAmong-new_one, Each-at}
use Rattle.gr_base.proofs.RisingKeys.{lower-take}
use Rattle.gr_terms.specs.Canonical.{literal_terms}
use Rattle.gr_terms.specs.LiteralViews.{literal_of}
use Rattle.gr_terms.specs.declared.Literal.{Literal}
use Rattle.tg_model.specs.Instances.{equations, FitsPlace, MayStandAt, IsSooner}
use Rattle.tg_model.specs.declared.instance.TheConstants.{INSTANCE_LIMIT}
use Rattle.tg_model.specs.declared.instance.Instance.{Instance}
use Rattle.sm_match.specs.declared.bindings.Bound.{Bound}
use Rattle.sm_match.specs.declared.search.Task.{Task}
use Rattle.sm_match.specs.declared.refusal.SelectRefusal.{SelectRefusal}
use Rattle.sm_match.specs.declared.refusal.SelectRefusal.TheVariants.{Over, Memory}
use Rattle.sm_match.specs.Index.{wanted_name, suiting}
use Rattle.sm_match.specs.Listings.{Adds, Overflows, Finds}
use Rattle.sm_match.specs.Bindings.{Equates}
use Rattle.sm_match.specs.Tasks.{IsTask, IsBegun, IsFrom, Puts}
use Rattle.sm_match.proofs.BindingLemmas.{GoesOn-same}
use Rattle.sm_match.proofs.IndexLemmas.{SuitsAt, place_suits, suits_place, suits_arity}
use Rattle.sm_match.proofs.ListingLemmas.{adds_alike, adds_then, overflows_then, overflows_alike}
use Rattle.sm_match.proofs.PlaceLemmas.{begun_more, clash_here, used_here, stands_at, StandsAt, before_at}

-- ---- what is found, by another word

pub finds_alike : {U : Type 0} (P Q : Instance → Type 0) (old new : List Instance) (r : Result U SelectRefusal) → ((i : Instance) → P i → Q i) → ((i : Instance) → Q i → P i) → Finds P old new r → Finds Q old new r
finds_alike P Q old new (Ok u) there home f = adds_alike P Q old new there home f
finds_alike P Q old new (Err Over) there home f = overflows_alike P Q old there f
finds_alike P Q old new (Err Memory) there home f = tt

-- one more is one too many
pub one_too_many : (P : Instance → Type 0) (old : List Instance) (i : Instance) → P i → INSTANCE_LIMIT ≤ length old → Overflows P old
one_too_many P old i here full = record { more = i ∷ []; many = let e : length (i ∷ []) ≡ 1 = refl in omega arith; order = (tt, tt); only = (here, tt) }

-- ---- a literal is put at a place

pub put_done : (task : Task) (l g : Literal) (p : ℕ) (ps new : List ℕ) (before after : List Bound) (r : Bool) → slice_get task.tree.now.sem (length ps) ≡ Some l → slice_get task.input.now p ≡ Some g → length l.args ≡ length g.args
    → (IsAmong ps p → ⊥) → new ≡ ps ++ p ∷ [] → IsBegun task.input.now task.tree.now.sem ps before
    → Equates (equations (literal_terms (literal_of l)) (literal_terms (literal_of g))) before after r → Puts task p ps new before after r
put_done task l g p ps new before after true at there arity fresh e begun h = record {
  more = p ∷ [];
  places = e;
  bindings = h.0;
  put = λ _. (e, subst (λ qs. IsBegun task.input.now task.tree.now.sem qs after) (sym e) (begun_more task.input.now task.tree.now.sem ps before after l p g at there begun arity fresh h));
  none = λ t. absurd (false≢true (sym t));
}
put_done task l g p ps new before after false at there arity fresh e begun h = record {
  more = p ∷ [];
  places = e;
  bindings = h.0;
  put = λ t. absurd (false≢true t);
  none = λ _ i from. clash_here task.input.now task.tree.now.sem ps before after l p g at there begun h task.tree.now task.number refl i from;
}

pub put_none : (task : Task) (p : ℕ) (ps : List ℕ) (bs : List Bound) → IsAmong ps p → Puts task p ps ps bs bs false
put_none task p ps bs m = record {
  more = [];
  places = sym (append-nil ps);
  bindings = GoesOn-same bs;
  put = λ t. absurd (false≢true t);
  none = λ _ i from. used_here task.input.now task.tree.now task.number ps p m i from;
}

-- ---- all literals have places

module _ (task : Task) (ps : List ℕ) where
  pub from_here : (i : Instance) → (begun : MayStandAt task.input.now task.tree.now ps) → i ≡ record { tree = task.number; places = ps } → IsFrom task ps i
  from_here i stands e = subst (λ j. IsFrom task ps j) (sym e) (record { tree = refl; stands = stands; rest = []; begins = sym (append-nil ps) })

  -- ---- the places of one more literal

  -- the next place is one of these
  pub record IsAmongFrom (cs : List ℕ) (i : Instance) : Type 0 where
    pub place : ℕ
    pub among : IsAmong cs place
    pub from : IsFrom task (ps ++ place ∷ []) i

  among_nothing : (i : Instance) → IsAmongFrom [] i → ⊥
  among_nothing i h = h.among

  among_from : (cs : List ℕ) (i : Instance) → IsAmongFrom cs i → IsFrom task ps i
  among_from cs i h = record { tree = h.from.tree; stands = h.from.stands; rest = h.place ∷ h.from.rest; begins = h.from.begins ∙ append_assoc ps (h.place ∷ []) h.from.rest }

  module _ (cs : List ℕ) (j c : ℕ) (within : j < length cs) (c_is : c ≡ get_or cs j 0) (rises : IsRising cs) where
    more_is : take (j + 1) cs ≡ take j cs ++ c ∷ []
    more_is = take_more cs j 0 within ∙ ap (λ x. take j cs ++ x ∷ []) (sym c_is)

    left : (i : Instance) → IsAmongFrom (take j cs) i → IsAmongFrom (take (j + 1) cs) i
    left i h = record { place = h.place; among = subst (λ xs. IsAmong xs h.place) (sym more_is) (IsAmong-append_left (take j cs) (c ∷ []) h.place h.among); from = h.from }

    right : (i : Instance) → IsFrom task (ps ++ c ∷ []) i → IsAmongFrom (take (j + 1) cs) i
    right i h = record { place = c; among = subst (λ xs. IsAmong xs c) (sym more_is) (IsAmong-new_one (take j cs) c); from = h }

    split : (i : Instance) → IsAmongFrom (take (j + 1) cs) i → IsAmongFrom (take j cs) i ⊎ IsFrom task (ps ++ c ∷ []) i
    split i h = elim (IsAmong-one_more (take j cs) c h.place (subst (λ xs. IsAmong xs h.place) more_is h.among)) [
      | inl m ↦ inl (record { place = h.place; among = m; from = h.from })
      | inr e ↦ inr (subst (λ p. IsFrom task (ps ++ p ∷ []) i) e h.from)
    ]

    before : (i k : Instance) → IsAmongFrom (take j cs) i → IsFrom task (ps ++ c ∷ []) k → IsSooner i k
    before i k h f =
        let low : h.place < get_or cs j 0 = Each-at (λ x. x < get_or cs j 0) (take j cs) h.place (lower-take (λ x. x) cs j 0 (subst (λ xs. IsRising xs) (sym (map-same cs)) rises) within) h.among in
        let less : h.place < c = omega arith in
        inr (
          h.from.tree ∙ sym f.tree,
          subst (λ xs. IsBefore xs k.places) (sym (h.from.begins ∙ append_assoc ps (h.place ∷ []) h.from.rest))
              (subst (λ ys. IsBefore (ps ++ h.place ∷ h.from.rest) ys) (sym (f.begins ∙ append_assoc ps (c ∷ []) f.rest)) (before_at ps h.place c h.from.rest f.rest less)),
        )
      where
        map-same : (xs : List ℕ) → map (λ x. x) xs ≡ xs
        map-same [] = refl
        map-same (x ∷ xs) = ap (λ ys. x ∷ ys) (map-same xs)

    pub next_added : (old mid new : List Instance) → Adds (IsAmongFrom (take j cs)) old mid → Adds (IsFrom task (ps ++ c ∷ [])) mid new → Adds (IsAmongFrom (take (j + 1) cs)) old new
    next_added old mid new a b = adds_then (IsAmongFrom (take j cs)) (IsFrom task (ps ++ c ∷ [])) (IsAmongFrom (take (j + 1) cs)) left right before old mid a new split b

    pub next_over : (old mid : List Instance) → Adds (IsAmongFrom (take j cs)) old mid → Overflows (IsFrom task (ps ++ c ∷ [])) mid → Overflows (IsFrom task ps) old
    next_over old mid a b =
        overflows_alike (IsAmongFrom (take (j + 1) cs)) (IsFrom task ps) old (among_from (take (j + 1) cs))
        (overflows_then (IsAmongFrom (take j cs)) (IsFrom task (ps ++ c ∷ [])) (IsAmongFrom (take (j + 1) cs)) left right before old mid a b)

  -- the places that suit the next literal are all there are
  module _ (is : IsTask task) (l : Literal) (at : slice_get task.tree.now.sem (length ps) ≡ Some l) where
    abbrev pub suited : List ℕ
    suited = suiting 0 (wanted_name l.pred) (length l.args) task.input.now

    from_among : (i : Instance) → IsFrom task ps i → IsAmongFrom suited i
    from_among i h =
        let r : StandsAt task.input.now l i.places (length ps) = stands_at task.input.now task.tree.now i.places (length ps) l is.ground h.stands at in
        let there : slice_get (ps ++ h.rest) (length ps) ≡ Some r.place = subst (λ qs. slice_get qs (length ps) ≡ Some r.place) h.begins r.there in
        let n = behind ps h.rest r.place there in
        record {
          place = r.place;
          among = suits_place (wanted_name l.pred) (length l.args) task.input.now r.place r.suited;
          from = record { tree = h.tree; stands = h.stands; rest = n.0; begins = h.begins ∙ ap (λ qs. ps ++ qs) n.1 ∙ sym (append_assoc ps (r.place ∷ []) n.0) };
        }
      where
        behind : (qs rest : List ℕ) (p : ℕ) → slice_get (qs ++ rest) (length qs) ≡ Some p → (more : List ℕ) × (rest ≡ p ∷ more)
        behind [] [] p e = absurd (none-some p e)
        behind [] (x ∷ rest) p e = (rest, ap (λ y. y ∷ rest) (same_Some x p e))
        behind (q ∷ qs) rest p e = behind qs rest p e

    pub all_added : (old new : List Instance) → Adds (IsAmongFrom suited) old new → Adds (IsFrom task ps) old new
    all_added old new a = adds_alike (IsAmongFrom suited) (IsFrom task ps) old new (among_from suited) from_among a

    -- each of them fits
    pub suited_fits : (p : ℕ) → IsAmong suited p → FitsPlace task.input.now l p
    suited_fits p i =
        let s : SuitsAt (wanted_name l.pred) (length l.args) task.input.now p = place_suits (wanted_name l.pred) (length l.args) task.input.now p i in
        (s.literal, s.at, suits_arity (wanted_name l.pred) (length l.args) s.literal s.suited)

-- ---- going back

pub one_longer : (old new ps : List ℕ) (c at : ℕ) → new ≡ old ++ c ∷ [] → old ≡ ps → at ≡ length ps → at + 1 ≡ length new
one_longer old new ps c at e same long =
    let f : length new ≡ length old + 1 = ap length e ∙ length_push old c in
    let g : length old ≡ length ps = ap length same in
    omega arith

pub taken_back : {A : Type 0} (start old mid new : List A) (n : ℕ) → n ≡ length start → old ≡ start → (more : List A) → mid ≡ old ++ more → new ≡ take n mid → new ≡ start
taken_back start old mid new n long same more grown back =
    back ∙ (λ k. take (long k) (grown k)) ∙ ap (λ xs. take (length start) (xs ++ more)) same ∙ front start more
  where
    front : {A : Type 0} (xs ys : List A) → take (length xs) (xs ++ ys) ≡ xs
    front [] ys = refl
    front (x ∷ xs) ys = ap (λ zs. x ∷ zs) (front xs ys)

-- too many there are too many here
pub finds_err : (U V : Type 0) (P Q : Instance → Type 0) (old mid new newer : List Instance) (e : SelectRefusal) → (Overflows Q mid → Overflows P old) → Finds {U = U} Q mid new (Err e) → Finds {U = V} P old newer (Err e)
finds_err U V P Q old mid new newer Over over h = over h
finds_err U V P Q old mid new newer Memory over h = tt
