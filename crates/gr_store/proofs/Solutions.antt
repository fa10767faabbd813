-- What solves a network decides what is linked in it, and can be carried on over one more assertion.
use Rattle.std.proofs.Common.{◌≡◌, ℕ, ◌<◌, ◌⊎◌, inl, inr, List, [], ◌∷◌, ◌++◌, refl, sym, ◌∙◌, ap}
use Rattle.std.specs.List.{Contains}
use Rattle.std.proofs.lemmas.List.Elements.{Contains-append_left, Contains-push, Contains-push_cases}
use Rattle.gr_terms.specs.declared.Sym.{Sym}
use Rattle.gr_terms.specs.declared.SlotId.{SlotId}
use Rattle.gr_terms.specs.declared.Term.{Term}
use Rattle.gr_terms.specs.declared.Term.TheVariants.{Const, Var}
use Rattle.gr_terms.specs.declared.Assertion.{Assertion}
use Rattle.gr_terms.specs.declared.Assertion.TheVariants.{Entry, Equate, Link}
use Rattle.gr_terms.specs.Networks.{AreLinkedSlots, linked as linked_by, same_slot, back_slot, next_slot, AreLinked, equated, shared, same as same_term, back as back_term, next as next_term, Agrees}
use Rattle.gr_terms.specs.Networks as net
use Rattle.gr_terms.specs.Views.{term_of, network_of}
use Rattle.gr_terms.proofs.NetworkLemmas.{AreLinkedSlots-part, AreLinked-part}
use Rattle.gr_terms.proofs.ViewLemmas.{term_from, term_from-term_of}
use Rattle.gr_store.proofs.Members.{Contains-network, IsWithin-network, by_equate}
use Rattle.gr_store.specs.Roots.{Joins, AreDifferentNames}
use Rattle.gr_store.specs.Solution.{LinkedTerms, LinkedSlots, IsPartOf, Solves, IsLinked, ArePooled, SlotsBelow}

module _ (bound : ℕ) (list : List Assertion) (f : Term → Term) (g : SlotId → Term) (solved : Solves bound list f g) where
  slots_joined : (s t : ℕ) → AreLinkedSlots (network_of list) s t → g (record { 0 = s }) ≡ g (record { 0 = t })
  slots_joined _ _ (linked_by s t i) = solved.links _ _ (Contains-network list (net.link s t) i)
  slots_joined _ _ (same_slot s) = refl
  slots_joined _ _ (back_slot s t l) = sym (slots_joined s t l)
  slots_joined _ _ (next_slot s t u l m) = slots_joined s t l ∙ slots_joined t u m

  terms_joined : (x y : net.Term ℕ) → AreLinked (network_of list) x y → f (term_from x) ≡ f (term_from y)
  terms_joined _ _ (equated x y i) = solved.equates _ _ (Contains-network list (net.equate x y) i)
  terms_joined _ _ (shared s t a x y l i j) =
      solved.pools _ _ _ _ _ (slots_joined s t l) (Contains-network list (net.entry s a x) i) (Contains-network list (net.entry t a y) j)
  terms_joined _ _ (same_term x) = refl
  terms_joined _ _ (back_term x y l) = sym (terms_joined x y l)
  terms_joined _ _ (next_term x y z l m) = terms_joined x y l ∙ terms_joined y z m

  -- what solves a network joins what is linked
  pub joined_slots : (s t : SlotId) → LinkedSlots list s t → g s ≡ g t
  joined_slots s t l = slots_joined s.0 t.0 l

  pub joined_terms : (a b : Term) → LinkedTerms list a b → f a ≡ f b
  joined_terms a b l = ap f (sym (term_from-term_of a)) ∙ terms_joined (term_of a) (term_of b) l ∙ ap f (term_from-term_of b)

  -- a network that is solved agrees
  pub agrees_solved : Agrees (network_of list)
  agrees_solved a b l =
      let p : Sym = record { 0 = a } in
      let q : Sym = record { 0 = b } in
      let same_name : Const p ≡ Const q = sym (solved.names p) ∙ terms_joined (net.name a) (net.name b) l ∙ solved.names q in
      let same : p ≡ q = cc in
      ap (λ (x : Sym). x.0) same

pub grown : (net : List Assertion) (x : Assertion) → IsPartOf net (net ++ x ∷ [])
grown net x y h = Contains-append_left net (x ∷ []) y h

-- what is linked in a part is linked in the whole
pub IsLinked-part : (bound : ℕ) (net whole : List Assertion) (f : Term → Term) (g : SlotId → Term) → IsPartOf net whole → IsLinked bound net f g → IsLinked bound whole f g
IsLinked-part bound net whole f g inside l = record {
  terms = λ a b same. AreLinked-part (network_of net) (network_of whole) (IsWithin-network net whole inside) _ _ (l.terms a b same);
  slots = λ s t s_in t_in same. AreLinkedSlots-part (network_of net) (network_of whole) (IsWithin-network net whole inside) _ _ (l.slots s t s_in t_in same);
}

-- two terms that are linked, and have different names
pub refuses : (bound : ℕ) (net : List Assertion) (f : Term → Term) (g : SlotId → Term) (a b : Term) → IsLinked bound net f g → ((p : Sym) → f (Const p) ≡ Const p)
    → AreDifferentNames (f a) (f b) → LinkedTerms net a b → Agrees (network_of net) → ⊥
refuses bound net f g a b l fixed names linked agrees =
    names.differ (ap (λ (n : ℕ). record { 0 = n }) (agrees names.p.0 names.q.0
    (next_term _ _ _ (back_term _ _ (l.terms a (Const names.p) (names.x_is ∙ sym (fixed names.p))))
    (next_term _ _ _ linked (l.terms b (Const names.q) (names.y_is ∙ sym (fixed names.q)))))))

-- joining two linked terms joins linked terms alone
pub IsLinked-terms : (bound : ℕ) (net : List Assertion) (f f' : Term → Term) (g : SlotId → Term) (a b : Term) → IsLinked bound net f g
    → LinkedTerms net a b → Joins f f' a b → IsLinked bound net f' g
IsLinked-terms bound net f f' g a b before l joins = record {
  terms = λ x y same.
      let with_a : (z : Term) → (f z ≡ f a) ⊎ (f z ≡ f b) → LinkedTerms net z a =
      λ z h. elim h [ inl k ↦ before.terms z a k | inr k ↦ next_term _ _ _ (before.terms z b k) (back_term _ _ l) ] in
      elim (joins.only x y same) [
        | inl h ↦ before.terms x y h
        | inr h ↦ next_term _ _ _ (with_a x h.0) (back_term _ _ (with_a y h.1))
      ];
  slots = before.slots;
}

-- joining two linked slots joins linked slots alone
pub IsLinked-slots : (bound : ℕ) (net : List Assertion) (f : Term → Term) (h h' : Term → Term) (a b : SlotId) → a.0 < bound → b.0 < bound → IsLinked bound net f (λ s. h (Var s.0))
    → LinkedSlots net a b → Joins h h' (Var a.0) (Var b.0) → IsLinked bound net f (λ s. h' (Var s.0))
IsLinked-slots bound net f h h' a b a_in b_in before l joins = record {
  terms = before.terms;
  slots = λ s t s_in t_in same.
      let with_a : (z : SlotId) → z.0 < bound → (h (Var z.0) ≡ h (Var a.0)) ⊎ (h (Var z.0) ≡ h (Var b.0)) → LinkedSlots net z a =
      λ z z_in c. elim c [ inl k ↦ before.slots z a z_in a_in k | inr k ↦ next_slot _ _ _ (before.slots z b z_in b_in k) (back_slot _ _ l) ] in
      elim (joins.only (Var s.0) (Var t.0) same) [
        | inl k ↦ before.slots s t s_in t_in k
        | inr k ↦ next_slot _ _ _ (with_a s s_in k.0) (back_slot _ _ (with_a t t_in k.1))
      ];
}

-- one more equation
pub Solves-equate : (bound : ℕ) (net : List Assertion) (f f' : Term → Term) (g : SlotId → Term) (a b : Term) → Solves bound net f g → Joins f f' a b
    → ((p : Sym) → f' (Const p) ≡ Const p) → Solves bound (net ++ Equate a b ∷ []) f' g
Solves-equate bound net f f' g a b solved joins names =
    let whole = net ++ Equate a b ∷ [] in
    record {
      equates = λ x y h. elim (Contains-push_cases net (Equate a b) (Equate x y) h) [
        | inl old ↦ joins.keeps x y (solved.equates x y old)
        | inr new ↦ cc (joins.joins)
      ];
      links = λ s t h. elim (Contains-push_cases net (Equate a b) (Link s t) h) [
        | inl old ↦ solved.links s t old
        | inr new ↦ cc
      ];
      pools = λ s t attr x y same h k. elim (Contains-push_cases net (Equate a b) (Entry s attr x) h) [
        | inl old ↦ elim (Contains-push_cases net (Equate a b) (Entry t attr y) k) [
          | inl also ↦ joins.keeps x y (solved.pools s t attr x y same old also)
          | inr new ↦ cc
        ]
        | inr new ↦ cc
      ];
      is_linked = IsLinked-terms bound whole f f' g a b (IsLinked-part bound net whole f g (grown net (Equate a b)) solved.is_linked) (by_equate whole a b (Contains-push net (Equate a b))) joins;
      names = names;
      unnamed = solved.unnamed;
    }

-- one more entry, whose value f' joins with those that stand at joined slots
pub ArePooled-put : (net : List Assertion) (f f' : Term → Term) (g : SlotId → Term) (slot : SlotId) (attr : Sym) (value : Term) → ArePooled net f g
    → ((x y : Term) → f x ≡ f y → f' x ≡ f' y) → ((t : SlotId) (w : Term) → Contains net (Entry t attr w) → g t ≡ g slot → f' w ≡ f' value)
    → ArePooled (net ++ Entry slot attr value ∷ []) f' g
ArePooled-put net f f' g slot attr value pools keeps meets s t of x y same h k =
    elim (Contains-push_cases net (Entry slot attr value) (Entry s of x) h) [
      | inl old ↦ elim (Contains-push_cases net (Entry slot attr value) (Entry t of y) k) [
        | inl also ↦ keeps x y (pools s t of x y same old also)
        | inr new ↦
            let t_is : slot ≡ t = cc in
            let of_is : attr ≡ of = cc in
            let y_is : value ≡ y = cc in
            meets s x (rw of_is old) (same ∙ ap g (sym t_is)) ∙ ap f' y_is
      ]
      | inr new ↦
          let s_is : slot ≡ s = cc in
          let of_is : attr ≡ of = cc in
          let x_is : value ≡ x = cc in
          elim (Contains-push_cases net (Entry slot attr value) (Entry t of y) k) [
            | inl also ↦ ap f' (sym x_is) ∙ sym (meets t y (rw of_is also) (sym same ∙ ap g (sym s_is)))
            | inr also ↦
                let y_is : value ≡ y = cc in
                ap f' (sym x_is ∙ y_is)
          ]
    ]

pub Solves-put : (bound : ℕ) (net : List Assertion) (f f' : Term → Term) (g : SlotId → Term) (slot : SlotId) (attr : Sym) (value : Term) → Solves bound net f g
    → ((x y : Term) → f x ≡ f y → f' x ≡ f' y) → ((t : SlotId) (w : Term) → Contains net (Entry t attr w) → g t ≡ g slot → f' w ≡ f' value)
    → IsLinked bound (net ++ Entry slot attr value ∷ []) f' g → ((p : Sym) → f' (Const p) ≡ Const p) → Solves bound (net ++ Entry slot attr value ∷ []) f' g
Solves-put bound net f f' g slot attr value solved keeps meets links_all names = record {
  equates = λ x y h. elim (Contains-push_cases net (Entry slot attr value) (Equate x y) h) [
    | inl old ↦ keeps x y (solved.equates x y old)
    | inr new ↦ cc
  ];
  links = λ s t h. elim (Contains-push_cases net (Entry slot attr value) (Link s t) h) [
    | inl old ↦ solved.links s t old
    | inr new ↦ cc
  ];
  pools = ArePooled-put net f f' g slot attr value solved.pools keeps meets;
  is_linked = links_all;
  names = names;
  unnamed = solved.unnamed;
}

-- one more link, of which g' joins the slots
pub Solves-link : (bound : ℕ) (net : List Assertion) (f f' : Term → Term) (g g' : SlotId → Term) (a b : SlotId) → Solves bound net f g
    → ((x y : Term) → f x ≡ f y → f' x ≡ f' y) → ((s t : SlotId) → g s ≡ g t → g' s ≡ g' t) → g' a ≡ g' b → ArePooled net f' g'
    → IsLinked bound (net ++ Link a b ∷ []) f' g' → ((p : Sym) → f' (Const p) ≡ Const p) → ((s : SlotId) (p : Sym) → g' s ≡ Const p → ⊥) → Solves bound (net ++ Link a b ∷ []) f' g'
Solves-link bound net f f' g g' a b solved keeps keeps_slots joins pools links_all names unnamed = record {
  equates = λ x y h. elim (Contains-push_cases net (Link a b) (Equate x y) h) [
    | inl old ↦ keeps x y (solved.equates x y old)
    | inr new ↦ cc
  ];
  links = λ s t h. elim (Contains-push_cases net (Link a b) (Link s t) h) [
    | inl old ↦ keeps_slots s t (solved.links s t old)
    | inr new ↦ cc
  ];
  pools = λ s t attr x y same h k. elim (Contains-push_cases net (Link a b) (Entry s attr x) h) [
    | inl old ↦ elim (Contains-push_cases net (Link a b) (Entry t attr y) k) [
      | inl also ↦ pools s t attr x y same old also
      | inr new ↦ cc
    ]
    | inr new ↦ cc
  ];
  is_linked = links_all;
  names = names;
  unnamed = unnamed;
}

-- a function that joins the same slots solves the same
pub Solves-regroup : (bound : ℕ) (net : List Assertion) (f : Term → Term) (g g' : SlotId → Term) → Solves bound net f g → SlotsBelow bound net
    → ((s t : SlotId) → g s ≡ g t → g' s ≡ g' t) → ((s t : SlotId) → s.0 < bound → t.0 < bound → g' s ≡ g' t → g s ≡ g t)
    → ((s : SlotId) (p : Sym) → g' s ≡ Const p → ⊥) → Solves bound net f g'
Solves-regroup bound net f g g' solved below keeps only unnamed = record {
  equates = solved.equates;
  links = λ s t h. keeps s t (solved.links s t h);
  pools = λ s t attr a b same h k. solved.pools s t attr a b (only s t (below s attr a h) (below t attr b k) same) h k;
  is_linked = record { terms = solved.is_linked.terms; slots = λ s t s_in t_in same. solved.is_linked.slots s t s_in t_in (only s t s_in t_in same) };
  names = solved.names;
  unnamed = unnamed;
}
