-- Pairs that are gathered into a bag one by one.
use Rattle.std.proofs.Common.{◌≡◌, ℕ, List, [], ◌∷◌, ◌++◌, ◌⊎◌, inl, inr, Option, Some, None, Bool, true, false, refl, sym, ◌∙◌, ap, subst, append_assoc}
use Rattle.std.specs.Prelude.{unwrap_or, nat_eq}
use Rattle.std.proofs.lemmas.Bool.{eqb-true, eq-eqb, false≢true}
use Rattle.std.proofs.lemmas.List.{map-append}
use Rattle.gr_base.specs.Lists.{IsAmong, NoneTwice}
use Rattle.gr_base.proofs.ListLemmas.{same_head, same_tail, IsAmong-append_right, NoneTwice-push, IsAmong-map}
use Rattle.gr_terms.specs.declared.Sym.{Sym}
use Rattle.gr_terms.specs.declared.Term.{Term}
use Rattle.gr_terms.specs.Bags.{IsListed, HasAttribute, LacksAttribute, Puts}
use Rattle.gr_terms.proofs.BagLemmas.{IsAmong-puts, IsAmong-puts_new, IsAmong-puts_old}
use Rattle.gr_feats.specs.declared.gathered.Pair.{Pair}
use Rattle.gr_feats.specs.declared.gathered.Gathered.{Gathered}
use Rattle.gr_feats.specs.Readings.{attributes, IsFirst, IsAgain, Gathers}

-- a list with one more at its end, split at an element
pub last_split : {A : Type 0} (xs : List A) (p : A) (before : List A) (q : A) (after : List A) → xs ++ p ∷ [] ≡ before ++ q ∷ after
    → ((xs ≡ before) × (p ≡ q)) ⊎ ((more : List A) × (xs ≡ before ++ q ∷ more))
last_split [] p [] q after e = inl (refl, same_head p q [] after e)
last_split {A = A} [] p (b ∷ bs) q after e = absurd (none bs (same_tail p b [] (bs ++ q ∷ after) e))
  where
    none : (bs : List A) → [] ≡ bs ++ q ∷ after → ⊥
    none [] h = cc
    none (c ∷ cs) h = cc
last_split (x ∷ xs) p [] q after e = inr (xs, ap (λ y. y ∷ xs) (same_head x q (xs ++ p ∷ []) after e))
last_split (x ∷ xs) p (b ∷ bs) q after e =
    let same : x ≡ b = same_head x b (xs ++ p ∷ []) (bs ++ q ∷ after) e in
    elim (last_split xs p bs q after (same_tail x b (xs ++ p ∷ []) (bs ++ q ∷ after) e)) [
      | inl h ↦ inl ((λ i. same i ∷ h.0 i), h.1)
      | inr h ↦ inr (h.0, (λ i. same i ∷ h.1 i))
    ]

-- an attribute of some pair stands first in one
pub first_of : (pairs : List Pair) (attr : Sym) → IsAmong (attributes pairs) attr → (value : Term) × IsFirst pairs attr value
first_of [] attr i = absurd i
first_of (p ∷ pairs) attr (inl e) = (p.value, ([], p, pairs, refl, (λ i. i), sym e, refl))
first_of (p ∷ pairs) attr (inr i) = by (nat_eq attr.0 p.attr.0) refl (first_of pairs attr i)
  where
    by : (b : Bool) → nat_eq attr.0 p.attr.0 ≡ b → (value : Term) × IsFirst pairs attr value → (value : Term) × IsFirst (p ∷ pairs) attr value
    by true e rest =
        let same : p.attr ≡ attr = let n = eqb-true attr.0 p.attr.0 e in λ k. record { 0 = sym n k } in
        (p.value, ([], p, pairs, refl, (λ j. j), same, refl))
    by false e rest =
        let f = rest.1 in
        (rest.0, (p ∷ f.0, f.1, f.2, ap (λ ps. p ∷ ps) f.3, (λ j. elim j [ inl h ↦ false≢true (sym e ∙ eq-eqb attr.0 p.attr.0 (ap (λ s. s.0) h)) | inr k ↦ f.4 k ]), f.5, f.6))

-- more pairs behind don't change where an attribute stands first
pub first_before : (pairs : List Pair) (p : Pair) (attr : Sym) (value : Term) → IsFirst pairs attr value → IsFirst (pairs ++ p ∷ []) attr value
first_before pairs p attr value f =
    (f.0, f.1, f.2 ++ p ∷ [], ap (λ ps. ps ++ p ∷ []) f.3 ∙ append_assoc f.0 (f.1 ∷ f.2) (p ∷ []), f.4, f.5, f.6)

-- where it stands first in one pair more, it stands first before it, or that pair is the first with it
pub first_last : (pairs : List Pair) (p : Pair) (attr : Sym) (value : Term) → IsFirst (pairs ++ p ∷ []) attr value
    → IsFirst pairs attr value ⊎ ((IsAmong (attributes pairs) attr → ⊥) × ((p.attr ≡ attr) × (p.value ≡ value)))
first_last pairs p attr value f = elim (last_split pairs p f.0 f.1 f.2 f.3) [
  | inl h ↦ inr (subst (λ ps. IsAmong (attributes ps) attr → ⊥) (sym h.0) f.4, (ap (λ q. q.attr) h.1 ∙ f.5, ap (λ q. q.value) h.1 ∙ f.6))
  | inr h ↦ inl (f.0, f.1, h.0, h.1, f.4, f.5, f.6)
]

pub again_before : (pairs : List Pair) (p : Pair) (left : ℕ) → IsAgain pairs (Some left) → IsAgain (pairs ++ p ∷ []) (Some left)
again_before pairs p left a = (a.0, a.1, a.2 ++ p ∷ [], ap (λ ps. ps ++ p ∷ []) a.3 ∙ append_assoc a.0 (a.1 ∷ a.2) (p ∷ []), a.4, a.5, a.6)

pub Gathers-none : Gathers [] (record { bag = []; again = None })
Gathers-none = record { listed = tt; firsts = λ attr value. ((λ i. absurd i), λ f. absurd (none f.0 f.1 f.2 f.3)); again = tt }
  where
    none : (before : List Pair) (pair : Pair) (after : List Pair) → [] ≡ before ++ pair ∷ after → ⊥
    none [] pair after h = cc
    none (c ∷ cs) pair after h = cc

-- an attribute of the pairs is one of the bag
pub gathered_has : (pairs : List Pair) (g : Gathered) → Gathers pairs g → (attr : Sym) → IsAmong (attributes pairs) attr → HasAttribute g.bag attr
gathered_has pairs g gathers attr i = let f = first_of pairs attr i in (f.0, (gathers.firsts attr f.0).1 f.1)

-- and the other way round
pub has_gathered : (pairs : List Pair) (g : Gathered) → Gathers pairs g → (attr : Sym) → HasAttribute g.bag attr → IsAmong (attributes pairs) attr
has_gathered pairs g gathers attr h =
    let f = (gathers.firsts attr h.0).0 h.1 in
    let there : IsAmong (attributes (f.0 ++ f.1 ∷ f.2)) f.1.attr = IsAmong-map (λ p. p.attr) (f.0 ++ f.1 ∷ f.2) f.1 (IsAmong-append_right f.0 (f.1 ∷ f.2) f.1 (inl refl)) in
    subst (λ a. IsAmong (attributes pairs) a) f.5 (subst (λ ps. IsAmong (attributes ps) f.1.attr) (sym f.3) there)

-- a pair with a new attribute
pub Gathers-new : (pairs : List Pair) (p : Pair) (g : Gathered) (bag : List (Sym × Term)) → Gathers pairs g
    → LacksAttribute g.bag p.attr → Puts g.bag bag (p.attr, p.value) → IsListed bag → Gathers (pairs ++ p ∷ []) (record { bag = bag; again = g.again })
Gathers-new pairs p g bag gathers lacks puts listed = record {
  listed = listed;
  firsts = λ attr value. (there attr value, here attr value);
  again = again g.again gathers.again;
}
  where
    new : IsAmong (attributes pairs) p.attr → ⊥
    new i = let h = gathered_has pairs g gathers p.attr i in lacks h.0 h.1

    there : (attr : Sym) (value : Term) → IsAmong bag (attr, value) → IsFirst (pairs ++ p ∷ []) attr value
    there attr value i = elim (IsAmong-puts g.bag bag (p.attr, p.value) puts (attr, value) i) [
      | inl e ↦ (pairs, p, [], refl, subst (λ q. IsAmong (attributes pairs) q.0 → ⊥) (sym e) new, sym (ap (λ q. q.0) e), sym (ap (λ q. q.1) e))
      | inr j ↦ first_before pairs p attr value ((gathers.firsts attr value).0 j)
    ]

    here : (attr : Sym) (value : Term) → IsFirst (pairs ++ p ∷ []) attr value → IsAmong bag (attr, value)
    here attr value f = elim (first_last pairs p attr value f) [
      | inl h ↦ IsAmong-puts_old g.bag bag (p.attr, p.value) puts (attr, value) ((gathers.firsts attr value).1 h)
      | inr h ↦ let same : (p.attr, p.value) ≡ (attr, value) = λ i. (h.1.0 i, h.1.1 i) in subst (λ q. IsAmong bag q) same (IsAmong-puts_new g.bag bag (p.attr, p.value) puts)
    ]

    again : (a : Option ℕ) → IsAgain pairs a → IsAgain (pairs ++ p ∷ []) a
    again None once = subst NoneTwice (sym (map-append (λ q. q.attr) pairs (p ∷ []))) (NoneTwice-push (attributes pairs) p.attr once new)
    again (Some left) h = again_before pairs p left h

-- a pair with an attribute that is there
pub Gathers-again : (pairs : List Pair) (p : Pair) (g : Gathered) (bag : List (Sym × Term)) → Gathers pairs g
    → HasAttribute g.bag p.attr → bag ≡ g.bag → Gathers (pairs ++ p ∷ []) (record { bag = bag; again = Some (unwrap_or g.again p.left) })
Gathers-again pairs p g bag gathers has same = record {
  listed = subst IsListed (sym same) gathers.listed;
  firsts = λ attr value. (there attr value, here attr value);
  again = again g.again gathers.again;
}
  where
    known : IsAmong (attributes pairs) p.attr
    known = has_gathered pairs g gathers p.attr has

    there : (attr : Sym) (value : Term) → IsAmong bag (attr, value) → IsFirst (pairs ++ p ∷ []) attr value
    there attr value i = first_before pairs p attr value ((gathers.firsts attr value).0 (subst (λ b. IsAmong b (attr, value)) same i))

    here : (attr : Sym) (value : Term) → IsFirst (pairs ++ p ∷ []) attr value → IsAmong bag (attr, value)
    here attr value f = elim (first_last pairs p attr value f) [
      | inl h ↦ subst (λ b. IsAmong b (attr, value)) (sym same) ((gathers.firsts attr value).1 h)
      | inr h ↦ absurd (h.0 (subst (λ a. IsAmong (attributes pairs) a) h.1.0 known))
    ]

    again : (a : Option ℕ) → IsAgain pairs a → IsAgain (pairs ++ p ∷ []) (Some (unwrap_or a p.left))
    again None once = (pairs, p, [], refl, once, known, refl)
    again (Some left) h = again_before pairs p left h
