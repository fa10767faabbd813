-- What a store gains by assertions one after another.
use Rattle.std.specs.Prelude.{◌≡◌, ℕ, suc, ◌+◌, ◌-◌, ◌*◌, ◌<◌, ◌≤◌, List, [], ◌∷◌, ◌++◌, map, length, take, drop, slice_get, Some, ◌↔◌, IsTrue, Bool, true, false, refl}
use Rattle.std.specs.Bool.{OnTrue}
use Rattle.std.proofs.Common.{ap, sym, ◌∙◌, subst, arith, append_assoc, length-append}
use Rattle.std.proofs.lemmas.List.{append-nil, map-append, take_all, take-append-drop, length-take-le}
use Rattle.gr_base.specs.Lists.{Each}
use Rattle.gr_base.proofs.ListLemmas.{Each-at, IsAmong-append_left, IsAmong-slice_get, take-one_more}
use Rattle.gr_terms.specs.Networks as net
use Rattle.gr_terms.specs.Networks.{Agrees, put_assertion}
use Rattle.gr_terms.specs.Views.{term_of, assertion_of, network_of}
use Rattle.gr_terms.specs.declared.Sym.{Sym}
use Rattle.gr_terms.specs.declared.SlotId.{SlotId}
use Rattle.gr_terms.specs.declared.Term.{Term}
use Rattle.gr_terms.specs.declared.Assertion.{Assertion}
use Rattle.gr_terms.specs.declared.Assertion.TheVariants.{Entry, Equate, Link}
use Rattle.gr_terms.proofs.ViewLemmas.{network_of-append}
use Rattle.gr_terms.proofs.NetworkLemmas.{Agrees-part}
use Rattle.gr_store.specs.Contents.{Contents, Grows}
use Rattle.td_desc.specs.Conditions.{Mentions}
use Rattle.gr_store.proofs.Growth.{Grows-refl, Grows-trans}
use Rattle.td_check.specs.Shifts.{Gains, counted_from, later_var, later_slot, moved}
use Rattle.td_check.proofs.Renumbering.{later, later-counted}

abbrev pub Net : Type 0
Net = List (net.Assertion ℕ ℕ)

-- the store has gained the assertions, and agrees
pub record HasGained (old now : Contents) (list : Net) : Type 0 where
  pub gains : Gains old now list
  pub agrees : Agrees (network_of old.accepted ++ list)

pub gained_none : (c : Contents) → Agrees (network_of c.accepted) → HasGained c c []
gained_none c agrees = record {
  gains = record {
    vars = refl;
    slots = refl;
    accepted = sym (append-nil (network_of c.accepted));
    entries = omega arith;
    assertions = omega arith;
    grows = Grows-refl c;
  };
  agrees = subst (λ N. Agrees N) (sym (append-nil (network_of c.accepted))) agrees;
}

pub Gains-then : (a b c : Contents) (L M : Net) → Gains a b L → Gains b c M → Gains a c (L ++ M)
Gains-then a b c L M h k =
    let n : length (L ++ M) ≡ length L + length M = length-append L M in
    let e : a.spare.entries ≤ b.spare.entries + length L = h.entries in
    let f : b.spare.entries ≤ c.spare.entries + length M = k.entries in
    let p : a.spare.assertions ≤ b.spare.assertions + length L = h.assertions in
    let q : b.spare.assertions ≤ c.spare.assertions + length M = k.assertions in
    record {
      vars = k.vars ∙ h.vars;
      slots = k.slots ∙ h.slots;
      accepted = k.accepted ∙ ap (λ z. z ++ M) h.accepted ∙ append_assoc (network_of a.accepted) L M;
      entries = omega (arith, n);
      assertions = omega (arith, n);
      grows = Grows-trans a b c h.grows k.grows;
    }

-- what the store now has with more is what it had with all
agrees_then : (a b : Contents) (L M : Net) → Gains a b L → Agrees (network_of b.accepted ++ M) → Agrees (network_of a.accepted ++ (L ++ M))
agrees_then a b L M h agrees = subst (λ N. Agrees N) (ap (λ z. z ++ M) h.accepted ∙ append_assoc (network_of a.accepted) L M) agrees

agrees_now : (a b : Contents) (L M : Net) → Gains a b L → Agrees (network_of a.accepted ++ (L ++ M)) → Agrees (network_of b.accepted ++ M)
agrees_now a b L M h agrees = subst (λ N. Agrees N) (sym (ap (λ z. z ++ M) h.accepted ∙ append_assoc (network_of a.accepted) L M)) agrees

pub gained_then : (a b c : Contents) (L M : Net) → HasGained a b L → Gains b c M → Agrees (network_of b.accepted ++ M) → HasGained a c (L ++ M)
gained_then a b c L M h k agrees = record { gains = Gains-then a b c L M h.gains k; agrees = agrees_then a b L M h.gains agrees }

-- where it agrees with these, so it does now
pub gained_agrees : (a b : Contents) (L : Net) → HasGained a b L → Agrees (network_of b.accepted)
gained_agrees a b L h = subst (λ N. Agrees N) (sym h.gains.accepted) h.agrees

-- where more does not agree now, no list that goes on so agrees
pub gained_stop : (a b : Contents) (L M K : Net) → Gains a b L → (Agrees (network_of b.accepted ++ M) → ⊥) → Agrees (network_of a.accepted ++ (L ++ (M ++ K))) → ⊥
gained_stop a b L M K h none agrees =
    none (Agrees-part (network_of b.accepted ++ M) ((network_of b.accepted ++ M) ++ K) (λ x i. IsAmong-append_left (network_of b.accepted ++ M) K x i)
    (subst (λ N. Agrees N) (sym (append_assoc (network_of b.accepted) M K)) (agrees_now a b L (M ++ K) h agrees)))

pub stop_now : (a : Contents) (L K : Net) → (Agrees (network_of a.accepted ++ L) → ⊥) → Agrees (network_of a.accepted ++ (L ++ K)) → ⊥
stop_now a L K none agrees =
    none (Agrees-part (network_of a.accepted ++ L) ((network_of a.accepted ++ L) ++ K) (λ x i. IsAmong-append_left (network_of a.accepted ++ L) K x i)
    (subst (λ N. Agrees N) (sym (append_assoc (network_of a.accepted) L K)) agrees))

pub then_agrees : (a b : Contents) (L M : Net) (r : Bool) → Gains a b L → IsTrue r ↔ Agrees (network_of b.accepted ++ M) → IsTrue r ↔ Agrees (network_of a.accepted ++ (L ++ M))
then_agrees a b L M r h k = ((λ t. agrees_then a b L M h (k.0 t)), (λ agrees. k.1 (agrees_now a b L M h agrees)))

pub gained_true : (a b : Contents) (L : Net) (r : Bool) → r ≡ true → OnTrue r (Gains a b L) → Gains a b L
gained_true a b L r e h = subst (λ z. OnTrue z (Gains a b L)) e h

pub then_gains : (a b c : Contents) (L M : Net) (r : Bool) → Gains a b L → OnTrue r (Gains b c M) → OnTrue r (Gains a c (L ++ M))
then_gains a b c L M true h k = Gains-then a b c L M h k
then_gains a b c L M false h k = k

-- the answer to what agrees
pub yes_to : (A : Type 0) → A → IsTrue true ↔ A
yes_to A a = ((λ t. a), (λ h. refl))

pub no_to : (A : Type 0) → (A → ⊥) → IsTrue false ↔ A
no_to A none = ((λ t. absurd (differ t)), (λ a. absurd (none a)))
  where
    differ : ◌≡◌ {A = Bool} false true → ⊥
    differ e = cc

pub is_not : (b : Bool) (A : Type 0) → IsTrue b ↔ A → b ≡ false → A → ⊥
is_not b A h e a = by (sym e ∙ h.1 a)
  where
    by : ◌≡◌ {A = Bool} false true → ⊥
    by q = cc

-- what the store has made
pub made_at : (vars slots old_vars old_slots new_vars new_slots : ℕ) (list : List Assertion) (e : Assertion) (k : ℕ) → new_vars ≡ old_vars → new_slots ≡ old_slots
    → Each (Mentions (old_vars - vars) (old_slots - slots)) list → slice_get list k ≡ Some e → Mentions (new_vars - vars) (new_slots - slots) e
made_at vars slots old_vars old_slots new_vars new_slots list e k p q all at =
    subst (λ v. Mentions (v - vars) (new_slots - slots) e) (sym p) (subst (λ s. Mentions (old_vars - vars) (s - slots) e) (sym q) (Each-at (Mentions (old_vars - vars) (old_slots - slots)) list e all (IsAmong-slice_get list k e at)))

-- ---- one assertion of the code

pub agrees_one : (list : List Assertion) (x : Assertion) (e : net.Assertion ℕ ℕ) (b : Bool) → assertion_of x ≡ e → IsTrue b ↔ Agrees (network_of (list ++ x ∷ [])) → IsTrue b ↔ Agrees (network_of list ++ e ∷ [])
agrees_one list x e b q h = subst (λ N. IsTrue b ↔ Agrees N) (network_of-append list (x ∷ []) ∙ ap (λ z. network_of list ++ z ∷ []) q) h

pub counted_entry : (vars slots : ℕ) (a : Assertion) (s : SlotId) (attr : Sym) (value found : Term) → a ≡ Entry s attr value → found ≡ counted_from vars value
    → assertion_of (Entry (record { 0 = slots + s.0 }) attr found) ≡ put_assertion (later_var vars) (later_slot slots) (assertion_of a)
counted_entry vars slots a s attr value found is e =
    ap (λ z. net.entry (slots + s.0) attr.0 z) (ap term_of e ∙ later-counted vars value) ∙ ap (λ z. put_assertion (later_var vars) (later_slot slots) (assertion_of z)) (sym is)

pub counted_equate : (vars slots : ℕ) (a : Assertion) (x y found other : Term) → a ≡ Equate x y → found ≡ counted_from vars x → other ≡ counted_from vars y
    → assertion_of (Equate found other) ≡ put_assertion (later_var vars) (later_slot slots) (assertion_of a)
counted_equate vars slots a x y found other is e f =
    ap (λ z. net.equate z (term_of other)) (ap term_of e ∙ later-counted vars x)
    ∙ ap (λ z. net.equate (later vars (term_of x)) z) (ap term_of f ∙ later-counted vars y) ∙ ap (λ z. put_assertion (later_var vars) (later_slot slots) (assertion_of z)) (sym is)

pub counted_link : (vars slots : ℕ) (a : Assertion) (s t : SlotId) → a ≡ Link s t → assertion_of (Link (record { 0 = slots + s.0 }) (record { 0 = slots + t.0 })) ≡ put_assertion (later_var vars) (later_slot slots) (assertion_of a)
counted_link vars slots a s t is = ap (λ z. put_assertion (later_var vars) (later_slot slots) (assertion_of z)) (sym is)

-- ---- a network

pub moved-append : (vars slots : ℕ) (M N : Net) → moved vars slots (M ++ N) ≡ moved vars slots M ++ moved vars slots N
moved-append vars slots M N = map-append (put_assertion (later_var vars) (later_slot slots)) M N

pub length-moved : (vars slots : ℕ) (N : Net) → length (moved vars slots N) ≡ length N
length-moved vars slots [] = refl
length-moved vars slots (e ∷ N) = ap suc (length-moved vars slots N)

pub length-network : (list : List Assertion) → length (network_of list) ≡ length list
length-network [] = refl
length-network (e ∷ list) = ap suc (length-network list)

length-first : {A : Type 0} (xs : List A) (k : ℕ) → k ≤ length xs → length (take k xs) ≡ k
length-first xs k h = length-take-le k xs h

module _ (vars slots : ℕ) (list : List Assertion) where
  -- the first k assertions, counted from the first numbers
  abbrev pub first_moved : ℕ → Net
  first_moved k = moved vars slots (network_of (take k list))

  first_more : (k : ℕ) (e : Assertion) → slice_get list k ≡ Some e → first_moved (k + 1) ≡ first_moved k ++ moved vars slots (assertion_of e ∷ [])
  first_more k e at =
      ap (λ z. moved vars slots (network_of z)) (take-one_more list k e at)
      ∙ ap (λ z. moved vars slots z) (network_of-append (take k list) (e ∷ [])) ∙ moved-append vars slots (network_of (take k list)) (assertion_of e ∷ [])

  first_rest : (k : ℕ) (e : Assertion) → slice_get list k ≡ Some e
      → moved vars slots (network_of list) ≡ first_moved k ++ (moved vars slots (assertion_of e ∷ []) ++ moved vars slots (network_of (drop (k + 1) list)))
  first_rest k e at =
      ap (λ z. moved vars slots (network_of z)) (sym (take-append-drop (k + 1) list))
      ∙ ap (λ z. moved vars slots z) (network_of-append (take (k + 1) list) (drop (k + 1) list))
      ∙ moved-append vars slots (network_of (take (k + 1) list)) (network_of (drop (k + 1) list))
      ∙ ap (λ z. z ++ moved vars slots (network_of (drop (k + 1) list))) (first_more k e at)
      ∙ append_assoc (first_moved k) (moved vars slots (assertion_of e ∷ [])) (moved vars slots (network_of (drop (k + 1) list)))

  length-first_moved : (k : ℕ) → k ≤ length list → length (first_moved k) ≡ k
  length-first_moved k h = length-moved vars slots (network_of (take k list)) ∙ length-network (take k list) ∙ length-first list k h

  pub record RoomLeft (now : Contents) : Type 0 where
    pub entries : 0 < now.spare.entries
    pub assertions : 0 < now.spare.assertions

  pub room_left : (old now : Contents) (k : ℕ) → k < length list → Gains old now (first_moved k) → length list ≤ old.spare.entries → length list ≤ old.spare.assertions → RoomLeft now
  room_left old now k l h e a =
      let n : length (first_moved k) ≡ k = length-first_moved k (omega arith) in
      let p : old.spare.entries ≤ now.spare.entries + length (first_moved k) = h.entries in
      let q : old.spare.assertions ≤ now.spare.assertions + length (first_moved k) = h.assertions in
      record { entries = omega (arith, n); assertions = omega (arith, n) }

  pub load_none : (c : Contents) → Agrees (network_of c.accepted) → HasGained c c (first_moved 0)
  load_none c agrees = gained_none c agrees

  pub load_more : (old now new : Contents) (k : ℕ) (e : Assertion) → slice_get list k ≡ Some e → HasGained old now (first_moved k)
      → Gains now new (moved vars slots (assertion_of e ∷ [])) → Agrees (network_of now.accepted ++ moved vars slots (assertion_of e ∷ [])) → HasGained old new (first_moved (k + 1))
  load_more old now new k e at h g agrees =
      subst (λ L. HasGained old new L) (sym (first_more k e at)) (gained_then old now new (first_moved k) (moved vars slots (assertion_of e ∷ [])) h g agrees)

  pub load_stop : (old now : Contents) (k : ℕ) (e : Assertion) → slice_get list k ≡ Some e → HasGained old now (first_moved k)
      → (Agrees (network_of now.accepted ++ moved vars slots (assertion_of e ∷ [])) → ⊥) → Agrees (network_of old.accepted ++ moved vars slots (network_of list)) → ⊥
  load_stop old now k e at h none agrees =
      gained_stop old now (first_moved k) (moved vars slots (assertion_of e ∷ [])) (moved vars slots (network_of (drop (k + 1) list))) h.gains none
      (subst (λ L. Agrees (network_of old.accepted ++ L)) (first_rest k e at) agrees)

  pub load_all : (old now : Contents) (k : ℕ) → length list ≤ k → HasGained old now (first_moved k) → HasGained old now (moved vars slots (network_of list))
  load_all old now k high h = subst (λ z. HasGained old now (moved vars slots (network_of z))) (take_all k list high) h
