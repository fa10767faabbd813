-- Variables by first meeting: their numbers stay when more are met, and tell them apart.
use Rattle.std.specs.Prelude.{◌≡◌, ℕ, suc, ◌+◌, ◌<◌, Bool, true, false, not, cond, ◌||◌, nat_eq, List, [], ◌∷◌, ◌++◌, map, length, ⊤, slice_get, Some, if◌then◌else◌, refl}
use Rattle.std.specs.List.{list_any, position_or_len}
use Rattle.std.proofs.Common.{inl, inr, ap, sym, ◌∙◌, subst, append_assoc, append-nil, arith}
use Rattle.std.proofs.lemmas.Bool.{false≢true}
use Rattle.std.proofs.lemmas.Bool.Decides.{Decides-eqb}
use Rattle.std.proofs.lemmas.List.{length_push}
use Rattle.std.proofs.lemmas.Option.{same_Some}
use Rattle.gr_base.specs.Lists.{IsAmong}
use Rattle.gr_base.proofs.ListLemmas.{IsAmong-append_left, IsAmong-new_one, IsAmong-list_any, list_any-IsAmong}
use Rattle.gr_terms.specs.Networks.{Term, name, variable}
use Rattle.gr_terms.specs.Canonical.{named, numbered, IsNumberedFrom}
use Rattle.td_canon.specs.Writing.{BeginsWith, label_in, meet, meet_all}

-- the place of a variable among those met, or how many they are
abbrev pub place : ℕ → List ℕ → ℕ
place v met = position_or_len (nat_eq v) met

-- whether it is there
abbrev pub is_met : ℕ → List ℕ → Bool
is_met v met = list_any (nat_eq v) met

-- ---- places

-- a variable that is there keeps its place when more are met
pub record StandsIn (v : ℕ) (met more : List ℕ) : Type 0 where
  pub stays : place v (met ++ more) ≡ place v met
  pub within : place v met < length met
  pub at : slice_get met (place v met) ≡ Some v

pub stands_in : (v : ℕ) (met more : List ℕ) → is_met v met ≡ true → StandsIn v met more
stands_in v [] more h = absurd (false≢true h)
stands_in v (w ∷ ws) more h = by (nat_eq v w) refl (stands_in v ws more)
  where
    by : (b : Bool) → nat_eq v w ≡ b → (is_met v ws ≡ true → StandsIn v ws more) → StandsIn v (w ∷ ws) more
    by true e later =
        let here : (x : ℕ) → cond (not (nat_eq v w)) (1 + x) 0 ≡ 0 = λ x. ap (λ b. cond (not b) (1 + x) 0) e in
        record {
          stays = here (place v (ws ++ more)) ∙ sym (here (place v ws));
          within = subst (λ n. n < suc (length ws)) (sym (here (place v ws))) (omega arith);
          at = subst (λ n. slice_get (w ∷ ws) n ≡ Some v) (sym (here (place v ws))) (ap Some (sym ((Decides-eqb v w).0 e)));
        }
    by false e later =
        let there : (x : ℕ) → cond (not (nat_eq v w)) (1 + x) 0 ≡ suc x = λ x. ap (λ b. cond (not b) (1 + x) 0) e ∙ omega arith in
        let rest = later (sym (ap (λ b. b || is_met v ws) e) ∙ h) in
        let within : place v ws < length ws = rest.within in
        record {
          stays = there (place v (ws ++ more)) ∙ ap suc rest.stays ∙ sym (there (place v ws));
          within = subst (λ n. n < suc (length ws)) (sym (there (place v ws))) (omega arith);
          at = subst (λ n. slice_get (w ∷ ws) n ≡ Some v) (sym (there (place v ws))) rest.at;
        }

-- a variable that is not there gets the next place
pub place-new : (v : ℕ) (met more : List ℕ) → is_met v met ≡ false → place v (met ++ v ∷ more) ≡ length met
place-new v [] more h = ap (λ b. cond (not b) (1 + place v more) 0) ((Decides-eqb v v).1 refl)
place-new v (w ∷ ws) more h = by (nat_eq v w) refl (place-new v ws more)
  where
    by : (b : Bool) → nat_eq v w ≡ b → (is_met v ws ≡ false → place v (ws ++ v ∷ more) ≡ length ws) → place v ((w ∷ ws) ++ v ∷ more) ≡ suc (length ws)
    by true e later = absurd (false≢true (sym h ∙ ap (λ b. b || is_met v ws) e))
    by false e later =
        ap (λ b. cond (not b) (1 + place v (ws ++ v ∷ more)) 0) e ∙ omega (arith, later (sym (ap (λ b. b || is_met v ws) e) ∙ h))

-- what is not there has the length as its place
pub place-absent : (v : ℕ) (met : List ℕ) → is_met v met ≡ false → place v met ≡ length met
place-absent v [] h = refl
place-absent v (w ∷ ws) h = by (nat_eq v w) refl (place-absent v ws)
  where
    by : (b : Bool) → nat_eq v w ≡ b → (is_met v ws ≡ false → place v ws ≡ length ws) → place v (w ∷ ws) ≡ suc (length ws)
    by true e later = absurd (false≢true (sym h ∙ ap (λ b. b || is_met v ws) e))
    by false e later = ap (λ b. cond (not b) (1 + place v ws) 0) e ∙ omega (arith, later (sym (ap (λ b. b || is_met v ws) e) ∙ h))

-- ---- more that is met stands behind

pub BeginsWith-same : (met : List ℕ) → BeginsWith met met
BeginsWith-same met = ([], sym (append-nil met))

pub BeginsWith-trans : (a b c : List ℕ) → BeginsWith a b → BeginsWith b c → BeginsWith a c
BeginsWith-trans a b c (more, e) (others, f) = (more ++ others, f ∙ ap (λ xs. xs ++ others) e ∙ append_assoc a more others)

pub BeginsWith-meet : (met : List ℕ) (t : Term ℕ) → BeginsWith met (meet met t)
BeginsWith-meet met (name a) = BeginsWith-same met
BeginsWith-meet met (variable v) = by (is_met v met)
  where
    by : (b : Bool) → BeginsWith met (if b then met else (met ++ v ∷ []))
    by true = BeginsWith-same met
    by false = (v ∷ [], refl)

pub BeginsWith-meet_all : (met : List ℕ) (ts : List (Term ℕ)) → BeginsWith met (meet_all met ts)
BeginsWith-meet_all met [] = BeginsWith-same met
BeginsWith-meet_all met (t ∷ ts) = BeginsWith-trans met (meet met t) (meet_all met (t ∷ ts)) (BeginsWith-meet met t) (BeginsWith-meet_all (meet met t) ts)

pub meet_all-append : (met : List ℕ) (ts us : List (Term ℕ)) → meet_all met (ts ++ us) ≡ meet_all (meet_all met ts) us
meet_all-append met [] us = refl
meet_all-append met (t ∷ ts) us = meet_all-append (meet met t) ts us

-- ---- a variable's number when it is met

pub meet-there : (met : List ℕ) (v : ℕ) → is_met v met ≡ true → meet met (variable v) ≡ met
meet-there met v h = ap (λ b. if b then met else (met ++ v ∷ [])) h

pub meet-new : (met : List ℕ) (v : ℕ) → is_met v met ≡ false → meet met (variable v) ≡ met ++ v ∷ []
meet-new met v h = ap (λ b. if b then met else (met ++ v ∷ [])) h

-- is the one that it has in the end
pub place-stays : (met : List ℕ) (v : ℕ) (all : List ℕ) → BeginsWith (meet met (variable v)) all → place v all ≡ place v met
place-stays met v all (more, e) = by (is_met v met) refl
  where
    by : (b : Bool) → is_met v met ≡ b → place v all ≡ place v met
    by true h = ap (place v) (e ∙ ap (λ xs. xs ++ more) (meet-there met v h)) ∙ (stands_in v met more h).stays
    by false h =
        ap (place v) (e ∙ ap (λ xs. xs ++ more) (meet-new met v h) ∙ append_assoc met (v ∷ []) more)
        ∙ place-new v met more h
        ∙ sym (place-absent v met h)

-- ---- what was met is there

pub is_met-IsAmong : (v : ℕ) (met : List ℕ) → IsAmong met v → is_met v met ≡ true
is_met-IsAmong v met i = list_any-IsAmong (nat_eq v) met v i ((Decides-eqb v v).1 refl)

pub IsAmong-is_met : (v : ℕ) (met : List ℕ) → is_met v met ≡ true → IsAmong met v
IsAmong-is_met v met h = let r = IsAmong-list_any (nat_eq v) met h in subst (λ w. IsAmong met w) (sym ((Decides-eqb v r.0).0 r.2)) r.1

IsAmong-begins : (met all : List ℕ) (v : ℕ) → BeginsWith met all → IsAmong met v → IsAmong all v
IsAmong-begins met all v (more, e) i = subst (λ xs. IsAmong xs v) (sym e) (IsAmong-append_left met more v i)

IsAmong-meet : (met : List ℕ) (v : ℕ) → IsAmong (meet met (variable v)) v
IsAmong-meet met v = by (is_met v met) refl
  where
    by : (b : Bool) → is_met v met ≡ b → IsAmong (meet met (variable v)) v
    by true h = subst (λ xs. IsAmong xs v) (sym (meet-there met v h)) (IsAmong-is_met v met h)
    by false h = subst (λ xs. IsAmong xs v) (sym (meet-new met v h)) (IsAmong-new_one met v)

pub IsAmong-meet_all : (met : List ℕ) (ts : List (Term ℕ)) (v : ℕ) → IsAmong ts (variable v) → IsAmong (meet_all met ts) v
IsAmong-meet_all met [] v i = absurd i
IsAmong-meet_all met (t ∷ ts) v (inl e) =
    IsAmong-begins (meet met t) (meet_all met (t ∷ ts)) v (BeginsWith-meet_all (meet met t) ts) (subst (λ x. IsAmong (meet met x) v) e (IsAmong-meet met v))
IsAmong-meet_all met (t ∷ ts) v (inr i) = IsAmong-meet_all (meet met t) ts v i

-- ---- so labels tell the terms apart

variables_apart : (all : List ℕ) (v w : ℕ) → IsAmong all v → IsAmong all w → place v all ≡ place w all → v ≡ w
variables_apart all v w i j e =
    let a = (stands_in v all [] (is_met-IsAmong v all i)).at in
    let b = (stands_in w all [] (is_met-IsAmong w all j)).at in
    same_Some v w (sym a ∙ ap (slice_get all) e ∙ b)

pub same_named : (a b : ℕ) → named a ≡ named b → a ≡ b
same_named a b e = cc

pub same_numbered : (a b : ℕ) → numbered a ≡ numbered b → a ≡ b
same_numbered a b e = cc

pub named-numbered : {P : Type 0} (a k : ℕ) → named a ≡ numbered k → P
named-numbered a k e = absurd cc

-- a variable, if the term is one, is among those met
abbrev pub IsMetIn : List ℕ → Term ℕ → Type 0
IsMetIn all (name a) = ⊤
IsMetIn all (variable v) = IsAmong all v

pub labels_apart : (all : List ℕ) (x y : Term ℕ) → IsMetIn all x → IsMetIn all y → label_in all x ≡ label_in all y → x ≡ y
labels_apart all (name a) (name b) i j e = ap name (same_named a b e)
labels_apart all (name a) (variable w) i j e = named-numbered a (suc (place w all)) e
labels_apart all (variable v) (name b) i j e = named-numbered b (suc (place v all)) (sym e)
labels_apart all (variable v) (variable w) i j e =
    let h : suc (place v all) ≡ suc (place w all) = same_numbered (suc (place v all)) (suc (place w all)) e in
    ap variable (variables_apart all v w i j (omega arith))

pub IsMetIn-meet_all : (met : List ℕ) (ts : List (Term ℕ)) (x : Term ℕ) → IsAmong ts x → IsMetIn (meet_all met ts) x
IsMetIn-meet_all met ts (name a) i = tt
IsMetIn-meet_all met ts (variable v) i = IsAmong-meet_all met ts v i

-- ---- and the numbers are given by first meeting

pub IsNumberedFrom-met : (met : List ℕ) (ts : List (Term ℕ)) (all : List ℕ) → BeginsWith (meet_all met ts) all → IsNumberedFrom (length met) (map (label_in all) ts)
IsNumberedFrom-met met [] all h = tt
IsNumberedFrom-met met (name a ∷ ts) all h = IsNumberedFrom-met met ts all h
IsNumberedFrom-met met (variable v ∷ ts) all h = by (is_met v met) refl (λ m g. IsNumberedFrom-met m ts all g)
  where
    stays : place v all ≡ place v met
    stays =
        place-stays met v all
        (BeginsWith-trans (meet met (variable v)) (meet_all met (variable v ∷ ts)) all (BeginsWith-meet_all (meet met (variable v)) ts) h)

    by : (b : Bool) → is_met v met ≡ b → ((m : List ℕ) → BeginsWith (meet_all m ts) all → IsNumberedFrom (length m) (map (label_in all) ts)) →
        IsNumberedFrom (length met) (map (label_in all) (variable v ∷ ts))
    by true e later =
        let within : place v met < length met = (stands_in v met [] e).within in
        inl (omega arith, omega (arith, stays), later met (subst (λ m. BeginsWith (meet_all m ts) all) (meet-there met v e) h))
    by false e later =
        let next : place v met ≡ length met = place-absent v met e in
        let rest : IsNumberedFrom (length (met ++ v ∷ [])) (map (label_in all) ts) = later (met ++ v ∷ []) (subst (λ m. BeginsWith (meet_all m ts) all) (meet-new met v e) h) in
        inr (omega (arith, stays), subst (λ n. IsNumberedFrom n (map (label_in all) ts)) (length_push met v ∙ omega arith) rest)
