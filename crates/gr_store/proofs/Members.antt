-- Lists of the code's assertions and the networks that they are read as.
use Rattle.std.proofs.Common.{◌≡◌, ℕ, ◌<◌, ◌≤◌, ◌⊎◌, inl, inr, List, refl, sym, ◌∙◌, ap, subst, arith}
use Rattle.std.specs.List.{Contains}
use Rattle.gr_base.specs.Lists.{IsAmong, IsWithin}
use Rattle.gr_base.proofs.ListLemmas.{Each-at, IsAmong-map, IsAmong-map_from}
use Rattle.gr_base.proofs.OrderedPairs.{Contains-IsAmong, IsAmong-Contains}
use Rattle.gr_terms.specs.declared.Sym.{Sym}
use Rattle.gr_terms.specs.declared.SlotId.{SlotId}
use Rattle.gr_terms.specs.declared.Term.{Term}
use Rattle.gr_terms.specs.declared.Assertion.{Assertion}
use Rattle.gr_terms.specs.declared.Assertion.TheVariants.{Entry, Equate, Link}
use Rattle.gr_terms.specs.Views.{assertion_of, network_of}
use Rattle.gr_terms.specs.Networks as net
use Rattle.gr_terms.specs.Networks.{HasValue}
use Rattle.gr_store.specs.Contents.{Mentions, MentionsAll}
use Rattle.gr_terms.proofs.ViewLemmas.{IsAmong-network_of, assertion_from, assertion_from-assertion_of, term_from, term_of-term_from}
use Rattle.gr_store.specs.Solution.{LinkedTerms, LinkedSlots, IsPartOf}

-- an assertion of a network is one of the list that is read so
pub Contains-network : (list : List Assertion) (a : net.Assertion ℕ ℕ) → IsAmong (network_of list) a → Contains list (assertion_from a)
Contains-network list a i =
    let from = IsAmong-map_from assertion_of list a i in
    Contains-IsAmong list (assertion_from a) (subst (IsAmong list) (sym (ap assertion_from from.2 ∙ assertion_from-assertion_of from.0)) from.1)

pub IsAmong-network : (list : List Assertion) (x : Assertion) → Contains list x → IsAmong (network_of list) (assertion_of x)
IsAmong-network list x c = IsAmong-map assertion_of list x (IsAmong-Contains list x c)

-- the links that single assertions of a list make
pub by_equate : (list : List Assertion) (a b : Term) → Contains list (Equate a b) → LinkedTerms list a b
by_equate list a b c = net.equated _ _ (IsAmong-network list (Equate a b) c)

pub by_link : (list : List Assertion) (s t : SlotId) → Contains list (Link s t) → LinkedSlots list s t
by_link list s t c = net.linked _ _ (IsAmong-network list (Link s t) c)

pub by_entries : (list : List Assertion) (s t : SlotId) (attr : Sym) (a b : Term) → LinkedSlots list s t → Contains list (Entry s attr a) → Contains list (Entry t attr b) → LinkedTerms list a b
by_entries list s t attr a b l c d = net.shared s.0 t.0 attr.0 _ _ l (IsAmong-network list (Entry s attr a) c) (IsAmong-network list (Entry t attr b) d)

pub IsWithin-network : (part whole : List Assertion) → IsPartOf part whole → IsWithin (network_of part) (network_of whole)
IsWithin-network part whole inside a i =
    let from = IsAmong-map_from assertion_of part a i in
    subst (IsAmong (network_of whole)) (sym from.2) (IsAmong-network whole from.0 (inside from.0 (Contains-IsAmong part from.0 from.1)))

-- slots that are linked are one, or both are made
pub linked_made : (vars slots : ℕ) (list : List Assertion) → MentionsAll vars slots list → (s t : ℕ) → net.AreLinkedSlots (network_of list) s t → (s ≡ t) ⊎ ((s < slots) × (t < slots))
linked_made vars slots list all _ _ (net.linked s t among) =
    inr (Each-at (Mentions vars slots) list (Link (record { 0 = s }) (record { 0 = t })) all ((IsAmong-network_of list (Link (record { 0 = s }) (record { 0 = t }))).0 among))
linked_made vars slots list all _ _ (net.same_slot s) = inl refl
linked_made vars slots list all _ _ (net.back_slot s t l) = elim (linked_made vars slots list all s t l) [
  | inl same ↦ inl (sym same)
  | inr made ↦ inr (made.1, made.0)
]
linked_made vars slots list all _ _ (net.next_slot s t u l m) = elim (linked_made vars slots list all s t l) [
  | inl same ↦ subst (λ z. (z ≡ u) ⊎ ((z < slots) × (u < slots))) (sym same) (linked_made vars slots list all t u m)
  | inr made ↦ elim (linked_made vars slots list all t u m) [
    | inl same ↦ inr (made.0, subst (λ z. z < slots) same made.1)
    | inr more ↦ inr (made.0, more.1)
  ]
]

-- a slot that isn't made has no value
pub unmade_value : (vars slots : ℕ) (list : List Assertion) → MentionsAll vars slots list → (s a : ℕ) (x : net.Term ℕ) → slots ≤ s → HasValue (network_of list) s a x → ⊥
unmade_value vars slots list all s a x past (t, l, among) =
    let e : Assertion = Entry (record { 0 = t }) (record { 0 = a }) (term_from x) in
    let there : IsAmong (network_of list) (assertion_of e) = subst (λ z. IsAmong (network_of list) (net.entry t a z)) (sym (term_of-term_from x)) among in
    let made : t < slots = (Each-at (Mentions vars slots) list e all ((IsAmong-network_of list e).0 there)).0 in
    elim (linked_made vars slots list all s t l) [
      | inl same ↦ omega (arith, same)
      | inr both ↦ omega (arith, both.0)
    ]
