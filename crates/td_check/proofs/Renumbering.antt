-- A network with its numbers counted from first ones, behind a list of a store that has none of these.
use Rattle.std.specs.Prelude.{◌≡◌, ℕ, ◌+◌, ◌-◌, ◌<◌, ◌≤◌, List, [], ◌∷◌, ◌++◌, map, ◌⊎◌, ◌↔◌, ⊤, refl}
use Rattle.std.proofs.Common.{inl, inr, ap, sym, ◌∙◌, subst, arith}
use Rattle.gr_base.specs.Lists.{IsAmong, IsWithin, Each}
use Rattle.gr_base.proofs.ListLemmas.{IsAmong-map, IsAmong-map_from}
use Rattle.gr_terms.specs.Networks.{Term, name, variable, Assertion, entry, equate, link, AreLinkedSlots, AreLinked, Agrees, HasValue, put_term, put_assertion, put_network}
use Rattle.gr_terms.specs.Views.{term_of, assertion_of, network_of}
use Rattle.gr_terms.specs.declared.Term as code_term
use Rattle.gr_terms.specs.declared.Term.TheVariants.{Const, Var}
use Rattle.gr_terms.specs.declared.Assertion as code_assertion
use Rattle.gr_terms.specs.declared.Assertion.TheVariants.{Entry, Equate, Link}
use Rattle.gr_terms.proofs.NetworkLemmas.{AreLinked-renamed, AreLinkedSlots-renamed, Agrees-renamed, linked_back, linked_slot_back}
use Rattle.gr_store.specs.Contents.{IsMade, Mentions, MentionsAll}
use Rattle.td_check.specs.Shifts.{counted_from, later_var, later_slot, moved}
use Rattle.td_check.proofs.Apart.{IsOf, AreOf, values_b, b_values, agree_both, linked_b, b_linked, agree_b}

-- the term with its variable counted from the first one
abbrev pub later : ℕ → Term ℕ → Term ℕ
later vars x = put_term (later_var vars) x

pub later-counted : (vars : ℕ) (x : code_term.Term) → term_of (counted_from vars x) ≡ later vars (term_of x)
later-counted vars (Const p) = refl
later-counted vars (Var v) = refl

-- ---- numbers go back

abbrev earlier_var : ℕ → ℕ → Term ℕ
earlier_var vars v = variable (v - vars)

abbrev earlier_slot : ℕ → ℕ → ℕ
earlier_slot slots s = s - slots

var_back : (vars v : ℕ) → put_term (earlier_var vars) (later_var vars v) ≡ variable v
var_back vars v = let e : vars + v - vars ≡ v = omega arith in ap (λ k. variable k) e

slot_back : (slots s : ℕ) → earlier_slot slots (later_slot slots s) ≡ s
slot_back slots s = omega arith

module _ (vars slots : ℕ) (N : List (Assertion ℕ ℕ)) where
  terms_back : (x : Term ℕ) → AreLinked N x (put_term (earlier_var vars) (later vars x))
  terms_back = linked_back (later_var vars) (earlier_var vars) N (var_back vars)

  slots_back : (s : ℕ) → AreLinkedSlots N s (earlier_slot slots (later_slot slots s))
  slots_back = linked_slot_back (later_slot slots) (earlier_slot slots) N (slot_back slots)

  linked_moved : (x y : Term ℕ) → AreLinked (moved vars slots N) (later vars x) (later vars y) ↔ AreLinked N x y
  linked_moved = AreLinked-renamed (later_var vars) (later_slot slots) (earlier_var vars) (earlier_slot slots) N terms_back slots_back

  slots_moved : (s t : ℕ) → AreLinkedSlots (moved vars slots N) (slots + s) (slots + t) ↔ AreLinkedSlots N s t
  slots_moved = AreLinkedSlots-renamed (later_var vars) (later_slot slots) (earlier_var vars) (earlier_slot slots) N terms_back slots_back

  agrees_moved : Agrees (moved vars slots N) ↔ Agrees N
  agrees_moved = Agrees-renamed (later_var vars) (later_slot slots) (earlier_var vars) (earlier_slot slots) N terms_back slots_back

  record FromEntry (t a : ℕ) (z : Term ℕ) : Type 0 where
    pub slot : ℕ
    pub value : Term ℕ
    pub there : IsAmong N (entry slot a value)
    pub slot_is : t ≡ slots + slot
    pub is : z ≡ later vars value

  from_entry : (t a : ℕ) (z : Term ℕ) (e : Assertion ℕ ℕ) → entry t a z ≡ put_assertion (later_var vars) (later_slot slots) e → IsAmong N e → FromEntry t a z
  from_entry t a z (entry s b x) q i =
      let p : a ≡ b = cc in
      let r : t ≡ slots + s = cc in
      let k : z ≡ later vars x = cc in
      record { slot = s; value = x; there = subst (λ c. IsAmong N (entry s c x)) (sym p) i; slot_is = r; is = k }
  from_entry t a z (equate x y) q i = let bad : ⊥ = cc in absurd bad
  from_entry t a z (link s r) q i = let bad : ⊥ = cc in absurd bad

  pub record FromValue (s a : ℕ) (z : Term ℕ) : Type 0 where
    pub value : Term ℕ
    pub has : HasValue N s a value
    pub is : z ≡ later vars value

  value_moved : (s a : ℕ) (z : Term ℕ) → HasValue (moved vars slots N) (slots + s) a z → FromValue s a z
  value_moved s a z h =
      let r = IsAmong-map_from (put_assertion (later_var vars) (later_slot slots)) N (entry h.0 a z) h.2 in
      let f = from_entry h.0 a z r.0 r.2 r.1 in
      record { value = f.value; has = (f.slot, (slots_moved s f.slot).0 (subst (λ t. AreLinkedSlots (moved vars slots N) (slots + s) t) f.slot_is h.1), f.there); is = f.is }

  moved_value : (s a : ℕ) (x : Term ℕ) → HasValue N s a x → HasValue (moved vars slots N) (slots + s) a (later vars x)
  moved_value s a x h = (slots + h.0, (slots_moved s h.0).1 h.1, IsAmong-map (put_assertion (later_var vars) (later_slot slots)) N (entry h.0 a x) h.2)

-- ---- terms and slots of the store, and those behind them

abbrev IsOldTerm : ℕ → Term ℕ → Type 0
IsOldTerm vars (name a) = ⊤
IsOldTerm vars (variable v) = v < vars

abbrev IsNewTerm : ℕ → Term ℕ → Type 0
IsNewTerm vars (name a) = ⊤
IsNewTerm vars (variable v) = vars ≤ v

abbrev IsOldSlot : ℕ → ℕ → Type 0
IsOldSlot slots s = s < slots

abbrev IsNewSlot : ℕ → ℕ → Type 0
IsNewSlot slots s = slots ≤ s

old_term : (vars : ℕ) (x : code_term.Term) → IsMade vars x → IsOldTerm vars (term_of x)
old_term vars (Const p) h = tt
old_term vars (Var v) h = let k : v + 1 ≤ vars = h in omega arith

old_assertion : (vars slots : ℕ) (e : code_assertion.Assertion) → Mentions vars slots e → IsOf (IsOldTerm vars) (IsOldSlot slots) (assertion_of e)
old_assertion vars slots (Entry s a x) h = (h.0, old_term vars x h.1)
old_assertion vars slots (Equate x y) h = (old_term vars x h.0, old_term vars y h.1)
old_assertion vars slots (Link s t) h = (h.0, h.1)

old_network : (vars slots : ℕ) (list : List code_assertion.Assertion) → MentionsAll vars slots list → AreOf (IsOldTerm vars) (IsOldSlot slots) (network_of list)
old_network vars slots [] h e i = absurd i
old_network vars slots (x ∷ list) h e (inl q) = subst (λ z. IsOf (IsOldTerm vars) (IsOldSlot slots) z) (sym q) (old_assertion vars slots x h.0)
old_network vars slots (x ∷ list) h e (inr i) = old_network vars slots list h.1 e i

pub new_term : (vars : ℕ) (x : Term ℕ) → IsNewTerm vars (later vars x)
new_term vars (name a) = tt
new_term vars (variable v) = omega arith

new_slot : (slots s : ℕ) → slots ≤ slots + s
new_slot slots s = omega arith

new_assertion : (vars slots : ℕ) (e : Assertion ℕ ℕ) → IsOf (IsNewTerm vars) (IsNewSlot slots) (put_assertion (later_var vars) (later_slot slots) e)
new_assertion vars slots (entry s a x) = (new_slot slots s, new_term vars x)
new_assertion vars slots (equate x y) = (new_term vars x, new_term vars y)
new_assertion vars slots (link s t) = (new_slot slots s, new_slot slots t)

new_network : (vars slots : ℕ) (N : List (Assertion ℕ ℕ)) → AreOf (IsNewTerm vars) (IsNewSlot slots) (moved vars slots N)
new_network vars slots N e i =
    let r = IsAmong-map_from (put_assertion (later_var vars) (later_slot slots)) N e i in
    subst (λ z. IsOf (IsNewTerm vars) (IsNewSlot slots) z) (sym r.2) (new_assertion vars slots r.0)

only_names : (vars : ℕ) (x : Term ℕ) → IsOldTerm vars x → IsNewTerm vars x → (a : ℕ) × (x ≡ name a)
only_names vars (name a) p q = (a, refl)
only_names vars (variable v) p q = absurd (omega arith)

slots_apart : (slots s : ℕ) → s < slots → slots ≤ s → ⊥
slots_apart slots s p q = omega arith

named_new : (vars a : ℕ) → IsNewTerm vars (name a)
named_new vars a = tt

-- ---- both together
module _ (vars slots : ℕ) (list : List code_assertion.Assertion) (mentions : MentionsAll vars slots list) (N : List (Assertion ℕ ℕ)) where
  pub agrees_loaded : Agrees (network_of list) → Agrees (network_of list ++ moved vars slots N) ↔ Agrees N
  agrees_loaded agrees = (
    (λ h. (agrees_moved vars slots N).0
        (agree_b (network_of list) (moved vars slots N) (IsOldTerm vars) (IsNewTerm vars) (IsOldSlot slots) (IsNewSlot slots) (old_network vars slots list mentions) (new_network vars slots N) (only_names vars) (slots_apart slots) h)),
    (λ h. agree_both (network_of list) (moved vars slots N) (IsOldTerm vars) (IsNewTerm vars) (IsOldSlot slots) (IsNewSlot slots) (old_network vars slots list mentions) (new_network vars slots N) (only_names vars) (slots_apart slots)
        agrees ((agrees_moved vars slots N).1 h)),
  )

  pub linked_loaded : Agrees (network_of list) → Agrees N → (x y : Term ℕ) → AreLinked (network_of list ++ moved vars slots N) (later vars x) (later vars y) ↔ AreLinked N x y
  linked_loaded agrees own x y = (
    (λ l. (linked_moved vars slots N x y).0
        (linked_b (network_of list) (moved vars slots N) (IsOldTerm vars) (IsNewTerm vars) (IsOldSlot slots) (IsNewSlot slots) (old_network vars slots list mentions) (new_network vars slots N) (only_names vars) (slots_apart slots)
        agrees ((agrees_moved vars slots N).1 own) (named_new vars) (later vars x) (later vars y) (new_term vars x) (new_term vars y) l)),
    (λ l. b_linked (network_of list) (moved vars slots N) (IsOldTerm vars) (IsNewTerm vars) (IsOldSlot slots) (IsNewSlot slots) (old_network vars slots list mentions) (new_network vars slots N) (only_names vars) (slots_apart slots)
        (later vars x) (later vars y) ((linked_moved vars slots N x y).1 l)),
  )

  pub value_loaded : (s a : ℕ) (z : Term ℕ) → HasValue (network_of list ++ moved vars slots N) (slots + s) a z → FromValue vars slots N s a z
  value_loaded s a z h = value_moved vars slots N s a z
      (values_b (network_of list) (moved vars slots N) (IsOldTerm vars) (IsNewTerm vars) (IsOldSlot slots) (IsNewSlot slots) (old_network vars slots list mentions) (new_network vars slots N) (only_names vars) (slots_apart slots)
      (slots + s) a z (new_slot slots s) h)

  pub loaded_value : (s a : ℕ) (x : Term ℕ) → HasValue N s a x → HasValue (network_of list ++ moved vars slots N) (slots + s) a (later vars x)
  loaded_value s a x h =
      b_values (network_of list) (moved vars slots N) (IsOldTerm vars) (IsNewTerm vars) (IsOldSlot slots) (IsNewSlot slots) (old_network vars slots list mentions) (new_network vars slots N) (only_names vars) (slots_apart slots)
      (slots + s) a (later vars x) (moved_value vars slots N s a x h)
