-- A store that takes up assertions one after another.
use Rattle.std.specs.Prelude.{◌≡◌, ◌↔◌, ℕ, zero, suc, ◌+◌, ◌-◌, ◌<◌, ◌≤◌, List, [], ◌∷◌, ◌++◌, length, take, Bool, true, false, IsTrue, refl}
use Rattle.std.specs.Bool.{OnTrue}
use Rattle.std.proofs.Common.{inl, inr, ap, ap₂, sym, ◌∙◌, subst, get_or, arith}
use Rattle.std.proofs.lemmas.Bool.{false≢true}
use Rattle.std.proofs.lemmas.List.{take_more, length-append}
use Rattle.gr_base.specs.Lists.{IsWithin}
use Rattle.gr_terms.specs.declared.Assertion.{Assertion}
use Rattle.gr_terms.specs.declared.Assertion.TheVariants.{Entry, Equate, Link}
use Rattle.gr_terms.specs.Networks.{Agrees}
use Rattle.gr_terms.specs.Views.{network_of}
use Rattle.gr_terms.proofs.NetworkLemmas.{Agrees-part}
use Rattle.gr_store.specs.Contents.{Contents, accepting, entry_count}
use Rattle.mg_facts.specs.Ledgers.{Kept, kept_of, HasTotal, HasSpare}
use Rattle.gr_store.proofs.States.{entry_count-push, entry_count-take}

module _ (list : List Assertion) (i : ℕ) (d : Assertion) (within : i < length list) where
  entries_more : entry_count (take (i + 1) list) ≡ entry_count (take i list) + entry_count (get_or list i d ∷ [])
  entries_more = ap entry_count (take_more list i d within) ∙ entry_count-push (take i list) (get_or list i d)

  pub entries_left : (e : ℕ) → entry_count list ≤ e → entry_count (get_or list i d ∷ []) ≤ e - entry_count (take i list)
  entries_left e few = omega (arith, entries_more, entry_count-take (i + 1) list, few)

longer : (xs : List Assertion) (x : Assertion) (n : ℕ) → 0 < length (xs ++ x ∷ []) + n
longer xs x n = omega (arith, length-append xs (x ∷ []))

-- the store after so many of the assertions
abbrev pub after : Contents → ℕ → List Assertion → Contents
after c i list = record c {
  accepted = take i list;
  spare = record c.spare { entries = c.spare.entries - entry_count (take i list); assertions = c.spare.assertions - i };
}

abbrev built : Contents → List Assertion → ℕ → ℕ → Contents
built c l e a = record c { accepted = l; spare = record c.spare { entries = e; assertions = a } }

built-same : (c : Contents) (l k : List Assertion) (e f a b : ℕ) → l ≡ k → e ≡ f → a ≡ b → built c l e a ≡ built c k f b
built-same c l k e f a b p q r = ap (λ x. built c x e a) p ∙ ap₂ (λ y z. built c k y z) q r

-- one assertion more
one_more : (c : Contents) (i : ℕ) (list : List Assertion) (x : Assertion) → take (i + 1) list ≡ take i list ++ x ∷ []
    → accepting (after c i list) x ≡ after c (i + 1) list
one_more c i list (Entry s attr v) e =
    built-same c _ _ _ _ _ _ (sym e) (omega (arith, ap entry_count e, entry_count-push (take i list) (Entry s attr v))) (omega arith)
one_more c i list (Equate a b) e =
    built-same c _ _ _ _ _ _ (sym e) (omega (arith, ap entry_count e, entry_count-push (take i list) (Equate a b))) (omega arith)
one_more c i list (Link s t) e =
    built-same c _ _ _ _ _ _ (sym e) (omega (arith, ap entry_count e, entry_count-push (take i list) (Link s t))) (omega arith)

-- a part of a list that agrees agrees
within_take : (n : ℕ) (list : List Assertion) → IsWithin (network_of (take n list)) (network_of list)
within_take zero list a i = absurd i
within_take (suc n) [] a i = i
within_take (suc n) (x ∷ list) a (inl e) = inl e
within_take (suc n) (x ∷ list) a (inr i) = inr (within_take n list a i)

pub accepts : (c old new : Contents) (list : List Assertion) (i : ℕ) (d : Assertion) (b : Bool) → i < length list → old ≡ after c i list
    → Agrees (network_of list) → (IsTrue b ↔ Agrees (network_of (old.accepted ++ get_or list i d ∷ []))) → OnTrue b (new ≡ accepting old (get_or list i d))
    → new ≡ after c (i + 1) list
accepts c old new list i d b within is agrees tells accepted = by b tells accepted
  where
    x : Assertion
    x = get_or list i d

    part : Agrees (network_of (old.accepted ++ x ∷ []))
    part = subst (λ z. Agrees (network_of z)) (take_more list i d within ∙ ap (λ z. z ++ x ∷ []) (ap (λ (o : Contents). o.accepted) (sym is)))
        (Agrees-part (network_of (take (i + 1) list)) (network_of list) (within_take (i + 1) list) agrees)

    by : (b : Bool) → (IsTrue b ↔ Agrees (network_of (old.accepted ++ x ∷ []))) → OnTrue b (new ≡ accepting old x) → new ≡ after c (i + 1) list
    by true t h = h ∙ ap (λ o. accepting o x) is ∙ one_more c i list x (take_more list i d within)
    by false t h = absurd (false≢true (t.1 part))

pub accepting-accepted : (c : Contents) (x : Assertion) → (accepting c x).accepted ≡ c.accepted ++ x ∷ []
accepting-accepted c (Entry s attr v) = refl
accepting-accepted c (Equate a b) = refl
accepting-accepted c (Link s t) = refl

pub accepting-total : (c : Contents) (x : Assertion) → HasSpare c → HasTotal (accepting c x)
accepting-total c (Entry s attr v) h = record { vars = omega (arith, h.vars); slots = omega (arith, h.slots); entries = omega (arith, entry_count-push c.accepted (Entry s attr v)); assertions = longer c.accepted (Entry s attr v) (c.spare.assertions - 1) }
accepting-total c (Equate a b) h = record { vars = omega (arith, h.vars); slots = omega (arith, h.slots); entries = omega (arith, h.entries); assertions = longer c.accepted (Equate a b) (c.spare.assertions - 1) }
accepting-total c (Link s t) h = record { vars = omega (arith, h.vars); slots = omega (arith, h.slots); entries = omega (arith, h.entries); assertions = longer c.accepted (Link s t) (c.spare.assertions - 1) }

-- the ledger's list and room after an assertion was accepted
pub accepted_in : (list : List Assertion) (c : Contents) (x : Assertion) (new : Contents) (items : List Assertion)
    → list ≡ c.accepted → HasSpare c → items ≡ list ++ x ∷ [] → new ≡ accepting c x → (items ≡ new.accepted) × HasTotal new
accepted_in list c x new items same spare pushed is = (
  pushed ∙ ap (λ z. z ++ x ∷ []) same ∙ sym (ap (λ (o : Contents). o.accepted) is ∙ accepting-accepted c x),
  subst HasTotal (sym is) (accepting-total c x spare),
)

pub tells_of : (k : Kept) (c : Contents) (x : Assertion) (b : Bool) → kept_of c ≡ k → (IsTrue b ↔ Agrees (network_of (c.accepted ++ x ∷ []))) → (IsTrue b ↔ Agrees (network_of (k.accepted ++ x ∷ [])))
tells_of k c x b same h = subst (λ (z : List Assertion). IsTrue b ↔ Agrees (network_of (z ++ x ∷ []))) (ap (λ (k : Kept). k.accepted) same) h
