-- The network of facts in numbers, read with variables and slots, is that of what is said; each is interpreted in the other.
use Rattle.std.specs.Prelude.{◌≡◌, ◌↔◌, ℕ, zero, suc, ◌+◌, ◌*◌, ◌/◌, ◌%◌, ◌<◌, ◌≤◌, List, [], ◌∷◌, ◌++◌, map, length, refl}
use Rattle.std.proofs.Common.{inl, inr, ap, ap₂, sym, ◌∙◌, subst, arith}
use Rattle.gr_base.specs.Lists.{IsAmong, Each, NoneTwice, gathered}
use Rattle.gr_base.proofs.ListLemmas.{Each-at, IsAmong-map_from, Each-weaker}
use Rattle.gr_base.proofs.Gathering.{map-gathered, gathered-read}
use Rattle.gr_terms.specs.declared.Term.{Term}
use Rattle.gr_terms.specs.declared.Term.TheVariants.{Const, Var}
use Rattle.gr_terms.specs.declared.Assertion as code
use Rattle.gr_terms.specs.declared.Assertion.TheVariants.{Entry, Equate, Link}
use Rattle.gr_terms.specs.Networks as net
use Rattle.gr_terms.specs.Networks.{Assertion, entry, equate, link, variable, put_term, put_assertion, put_network, Follows, Agrees}
use Rattle.gr_terms.specs.Interpretations.{Interprets}
use Rattle.gr_terms.specs.Views.{term_of, assertion_of, network_of}
use Rattle.gr_terms.proofs.NetworkLemmas.{Interprets-put, Follows-among, Agrees-from}
use Rattle.gr_store.specs.Contents as store
use Rattle.mg_facts.specs.declared.variable.Variable.{Variable}
use Rattle.mg_facts.specs.declared.fact.Fact.{Fact}
use Rattle.mg_facts.specs.declared.fact.Fact.TheVariants as fact
use Rattle.mg_facts.specs.Said.{Slot, own_of, top_of, bottom_of, the_interface}
use Rattle.mg_facts.specs.Meanings.{one_assertions, assertions, network}
use Rattle.mg_facts.specs.Numbered.{named, named_term, named_slot, slot_number, said_of, all_said, IsBelow, one_of, asserted, all_asserted, joined_by, all_joined}
use Rattle.td_desc.specs.Conditions.{IsTermBelow}
use Rattle.mg_facts.proofs.GatheredLemmas.{Each-gathered}
use Rattle.mg_facts.proofs.NumberLemmas.{named_slot-own, named_slot-top, named_slot-bottom, number_of, number_of-named}

-- WHAT A FACT MENTIONS

made_up : (n vars : ℕ) → n ≤ vars → (t : Term) → IsTermBelow n t → store.IsMade vars t
made_up n vars up (Const a) h = omega arith
made_up n vars up (Var x) h = omega arith

one_of-mentions : (n vars slots : ℕ) → n ≤ vars → 3 * n + 1 ≤ slots → (x y : ℕ) → x < n → y < n → store.MentionsAll vars slots (one_of x y)
one_of-mentions n vars slots v s x y h k = ((omega arith, omega arith), ((omega arith, omega arith), ((omega arith, omega arith), ((omega arith, omega arith), tt))))

pub asserted-mentions : (n vars slots : ℕ) → n ≤ vars → 3 * n + 1 ≤ slots → (f : Fact) → IsBelow n f → store.MentionsAll vars slots (asserted f)
asserted-mentions n vars slots v s (fact.Block x) h = tt
asserted-mentions n vars slots v s (fact.Related x how y) h = tt
asserted-mentions n vars slots v s (fact.OneNode x y) h = one_of-mentions n vars slots v s x y h.0 h.1
asserted-mentions n vars slots v s (fact.Identified x y) h = one_of-mentions n vars slots v s x y h.0 h.1
asserted-mentions n vars slots v s (fact.IsName x a) h = ((omega arith, omega arith), tt)
asserted-mentions n vars slots v s (fact.Coloured x c) h = tt
asserted-mentions n vars slots v s (fact.Paired p a t) h = ((omega arith, made_up n vars v t h.1), tt)
asserted-mentions n vars slots v s (fact.Says l) h = tt

pub all_asserted-mentions : (n vars slots : ℕ) → n ≤ vars → 3 * n + 1 ≤ slots → (facts : List Fact) → Each (IsBelow n) facts → store.MentionsAll vars slots (all_asserted facts)
all_asserted-mentions n vars slots v s facts below =
    Each-gathered asserted (store.Mentions vars slots) facts (Each-weaker (IsBelow n) (λ f. store.MentionsAll vars slots (asserted f)) (asserted-mentions n vars slots v s) facts below)

pub joined_by-mentions : (n vars slots : ℕ) → n ≤ vars → (f : Fact) → IsBelow n f → store.MentionsAll vars slots (joined_by f)
joined_by-mentions n vars slots v (fact.Block x) h = tt
joined_by-mentions n vars slots v (fact.Related x how y) h = tt
joined_by-mentions n vars slots v (fact.OneNode x y) h = ((omega arith, omega arith), tt)
joined_by-mentions n vars slots v (fact.Identified x y) h = ((omega arith, omega arith), tt)
joined_by-mentions n vars slots v (fact.IsName x a) h = tt
joined_by-mentions n vars slots v (fact.Coloured x c) h = tt
joined_by-mentions n vars slots v (fact.Paired p a t) h = tt
joined_by-mentions n vars slots v (fact.Says l) h = tt

pub all_joined-mentions : (n vars slots : ℕ) → n ≤ vars → (facts : List Fact) → Each (IsBelow n) facts → store.MentionsAll vars slots (all_joined facts)
all_joined-mentions n vars slots v facts below =
    Each-gathered joined_by (store.Mentions vars slots) facts (Each-weaker (IsBelow n) (λ f. store.MentionsAll vars slots (joined_by f)) (joined_by-mentions n vars slots v) facts below)

-- THE NETWORK IS READ

module _ (names : List Variable) where
  one-said : (x y : ℕ) → one_assertions (named names x) (named names y) ≡ put_network (named_term names) (named_slot names) (network_of (one_of x y))
  one-said x y =
      ap (λ rest. equate (variable (named names x)) (variable (named names y)) ∷ rest)
      (ap₂ (λ l rest. l ∷ rest) (ap₂ link (sym (named_slot-own names x)) (sym (named_slot-own names y)))
      (ap₂ (λ l rest. l ∷ rest) (ap₂ link (sym (named_slot-top names x)) (sym (named_slot-top names y)))
      (ap (λ l. l ∷ []) (ap₂ link (sym (named_slot-bottom names x)) (sym (named_slot-bottom names y))))))

  asserted-said : (f : Fact) → assertions (said_of names f) ≡ put_network (named_term names) (named_slot names) (network_of (asserted f))
  asserted-said (fact.Block x) = refl
  asserted-said (fact.Related x how y) = refl
  asserted-said (fact.OneNode x y) = one-said x y
  asserted-said (fact.Identified x y) = one-said x y
  asserted-said (fact.IsName x a) = refl
  asserted-said (fact.Coloured x c) = refl
  asserted-said (fact.Paired s a t) = refl
  asserted-said (fact.Says l) = refl

  pub network-said : (facts : List Fact) → network (all_said names facts) ≡ put_network (named_term names) (named_slot names) (network_of (all_asserted facts))
  network-said facts =
      gathered-read (said_of names) assertions (λ f. network_of (asserted f)) (put_assertion (named_term names) (named_slot names)) asserted-said facts
      ∙ ap (put_network (named_term names) (named_slot names)) (sym (map-gathered assertion_of asserted facts))

  -- THE WAY BACK

  -- the variable's number, and the number of its slot
  abbrev pub forth : Variable → net.Term ℕ
  forth x = variable (number_of names x)

  abbrev pub forth_slot : Slot → ℕ
  forth_slot (own_of x) = 3 * number_of names x + 1
  forth_slot (top_of x) = 3 * number_of names x + 2
  forth_slot (bottom_of x) = 3 * number_of names x + 3
  forth_slot the_interface = 0

  slot_number-forth : (m : ℕ) (x : Variable) → m < 3 → forth_slot (slot_number m x) ≡ 3 * number_of names x + 1 + m
  slot_number-forth zero x h = omega arith
  slot_number-forth (suc zero) x h = omega arith
  slot_number-forth (suc (suc zero)) x h = omega arith
  slot_number-forth (suc (suc (suc m))) x h = absurd (omega arith)

  module _ (once : NoneTwice names) where
    pub term-round : (t : Term) → store.IsMade (length names) t → put_term forth (put_term (named_term names) (term_of t)) ≡ term_of t
    term-round (Const a) h = refl
    term-round (Var x) h = ap variable (number_of-named names once x (omega arith))

    pub slot-round : (s : ℕ) → s < 3 * length names + 1 → forth_slot (named_slot names s) ≡ s
    slot-round zero h = refl
    slot-round (suc k) h =
        let below : k / 3 < length names = omega arith in
        let less : k % 3 < 3 = omega arith in
        let e : number_of names (named names (k / 3)) ≡ k / 3 = number_of-named names once (k / 3) below in
        let p : forth_slot (slot_number (k % 3) (named names (k / 3))) ≡ 3 * number_of names (named names (k / 3)) + 1 + k % 3 = slot_number-forth (k % 3) (named names (k / 3)) less in
        p ∙ (omega arith)

    assertion-round : (a : code.Assertion) → store.Mentions (length names) (3 * length names + 1) a
        → put_assertion forth forth_slot (put_assertion (named_term names) (named_slot names) (assertion_of a)) ≡ assertion_of a
    assertion-round (Entry s a t) h = ap₂ (λ p v. entry p a.0 v) (slot-round s.0 h.0) (term-round t h.1)
    assertion-round (Equate a b) h = ap₂ equate (term-round a h.0) (term-round b h.1)
    assertion-round (Link s t) h = ap₂ link (slot-round s.0 h.0) (slot-round t.0 h.1)

    module _ (facts : List Fact) (below : Each (IsBelow (length names)) facts) where
      pub home : Interprets (named_term names) (named_slot names) (network_of (all_asserted facts)) (network (all_said names facts))
      home = subst (λ z. Interprets (named_term names) (named_slot names) (network_of (all_asserted facts)) z) (sym (network-said facts))
          (Interprets-put (named_term names) (named_slot names) (network_of (all_asserted facts)))

      pub there : Interprets forth forth_slot (network (all_said names facts)) (network_of (all_asserted facts))
      there a i =
          let j : IsAmong (put_network (named_term names) (named_slot names) (network_of (all_asserted facts))) a = subst (λ z. IsAmong z a) (network-said facts) i in
          let r = IsAmong-map_from (put_assertion (named_term names) (named_slot names)) (network_of (all_asserted facts)) a j in
          let q = IsAmong-map_from assertion_of (all_asserted facts) r.0 r.1 in
          let n = length names in
          let mentions = Each-at (store.Mentions n (3 * n + 1)) (all_asserted facts) q.0 (all_asserted-mentions n n (3 * n + 1) (omega arith) (omega arith) facts below) q.1 in
          let e : put_assertion forth forth_slot a ≡ r.0 =
          ap (put_assertion forth forth_slot) (r.2 ∙ ap (put_assertion (named_term names) (named_slot names)) q.2) ∙ assertion-round q.0 mentions ∙ sym q.2
          in
          subst (λ z. Follows (network_of (all_asserted facts)) z) (sym e) (Follows-among (network_of (all_asserted facts)) r.0 r.1)

      pub agrees-said : Agrees (network (all_said names facts)) ↔ Agrees (network_of (all_asserted facts))
      agrees-said = (
        Agrees-from (named_term names) (named_slot names) (network_of (all_asserted facts)) (network (all_said names facts)) home,
        Agrees-from forth forth_slot (network (all_said names facts)) (network_of (all_asserted facts)) there,
      )
