-- A description's network that is put into a store assertion by assertion, and the links of two nodes.
use Rattle.std.proofs.Common.{◌≡◌, ℕ, ◌+◌, ◌-◌, ◌*◌, ◌<◌, ◌≤◌, ◌^◌, List, [], ◌∷◌, ◌++◌, length, take, drop, Some, slice_get, sym, ◌∙◌, ap, subst, append_assoc, arith, refl}
use Rattle.std.proofs.lemmas.List.{append-nil, map-append, length-append, take-append-drop, take_all}
use Rattle.gr_base.proofs.ListLemmas.{Each-at, IsAmong-append_left, IsAmong-slice_get, take-one_more}
use Rattle.gr_terms.specs.declared.SlotId.{SlotId}
use Rattle.gr_terms.specs.declared.Term.{Term}
use Rattle.gr_terms.specs.declared.Term.TheVariants.{Const, Var}
use Rattle.gr_terms.specs.declared.Assertion.{Assertion}
use Rattle.gr_terms.specs.declared.Assertion.TheVariants.{Entry, Equate, Link}
use Rattle.gr_terms.specs.Networks.{Agrees}
use Rattle.gr_terms.specs.Views.{network_of}
use Rattle.gr_terms.proofs.ViewLemmas.{network_of-append}
use Rattle.gr_terms.proofs.NetworkLemmas.{Agrees-part}
use Rattle.gr_store.specs.Contents.{Contents, Fits, Grows, IsMade, accepting, entry_count, mark_of}
use Rattle.gr_store.specs.declared.room.Mark.{Mark}
use Rattle.gr_store.specs.declared.room.Room.{Room}
use Rattle.gr_store.specs.Contents as store
use Rattle.gr_store.proofs.Growth.{Grows-refl, Grows-trans}
use Rattle.gr_store.proofs.States.{entry_count-push, entry_count-take}
use Rattle.gr_feats.specs.Loading.{counted_from}
use Rattle.td_desc.specs.Conditions.{IsNumbered, IsTermBelow, Mentions}
use Rattle.td_desc.specs.declared.Description.{Description}
use Rattle.td_model.specs.Loads.{HasRoom, IsLoaded, counted_assertion, counted_network, slot_from, with_description}

-- ---- numbers counted from the first ones

counted_made : (first below vars : ℕ) (x : Term) → first + below ≤ vars → IsTermBelow below x → IsMade vars (counted_from first x)
counted_made first below vars (Const p) l h = omega arith
counted_made first below vars (Var v) l h = omega arith

pub counted_mentions : (vars slots below_vars below_slots v s : ℕ) (a : Assertion) → vars + below_vars ≤ v → slots + below_slots ≤ s → Mentions below_vars below_slots a → store.Mentions v s (counted_assertion vars slots a)
counted_mentions vars slots bv bs v s (Entry t a x) l k h = (let low : t.0 < bs = h.0 in omega arith, counted_made vars bv v x l h.1)
counted_mentions vars slots bv bs v s (Equate x y) l k h = (counted_made vars bv v x l h.0, counted_made vars bv v y l h.1)
counted_mentions vars slots bv bs v s (Link t r) l k h = (let low : t.0 < bs = h.0 in omega arith, let high : r.0 < bs = h.1 in omega arith)

counted_same : (x : Term) → counted_from 0 x ≡ x
counted_same (Const p) = refl
counted_same (Var v) = ap Var (omega arith)

slot_same : (s : SlotId) → slot_from 0 s ≡ s
slot_same s = let e : 0 + s.0 ≡ s.0 = omega arith in λ i. record { 0 = e i }

assertion_same : (a : Assertion) → counted_assertion 0 0 a ≡ a
assertion_same (Entry s a x) = let e = slot_same s in let f = counted_same x in λ i. Entry (e i) a (f i)
assertion_same (Equate x y) = let e = counted_same x in let f = counted_same y in λ i. Equate (e i) (f i)
assertion_same (Link s t) = let e = slot_same s in let f = slot_same t in λ i. Link (e i) (f i)

pub network_same : (list : List Assertion) → counted_network 0 0 list ≡ list
network_same [] = refl
network_same (a ∷ list) = let e = assertion_same a in let f = network_same list in λ i. e i ∷ f i

-- ---- variables and slots one by one

pub record HasMoreVariables (old : Contents) (count : ℕ) (now : Contents) : Type 0 where
  pub is : now ≡ record old { vars = old.vars + count; spare = record old.spare { vars = old.spare.vars - count } }
  pub grows : Grows old now

pub record HasMoreSlots (old : Contents) (count : ℕ) (now : Contents) : Type 0 where
  pub is : now ≡ record old { slots = old.slots + count; spare = record old.spare { slots = old.spare.slots - count } }
  pub grows : Grows old now

pub HasMoreVariables-none : (old : Contents) → HasMoreVariables old 0 old
HasMoreVariables-none old =
    let vars : old.vars ≡ old.vars + 0 = omega arith in
    let spare : old.spare.vars ≡ old.spare.vars - 0 = omega arith in
    record { is = λ i. record old { vars = vars i; spare = record old.spare { vars = spare i } }; grows = Grows-refl old }

pub HasMoreVariables-next : (old now new : Contents) (count : ℕ) → HasMoreVariables old count now → new ≡ record now { vars = now.vars + 1; spare = record now.spare { vars = now.spare.vars - 1 } } → Grows now new
    → HasMoreVariables old (count + 1) new
HasMoreVariables-next old now new count h e grows =
    let vars : old.vars + count + 1 ≡ old.vars + (count + 1) = omega arith in
    let spare : old.spare.vars - count - 1 ≡ old.spare.vars - (count + 1) = omega arith in
    record {
      is = e ∙ ap (λ (c : Contents). record c { vars = c.vars + 1; spare = record c.spare { vars = c.spare.vars - 1 } }) h.is ∙ (λ i. record old { vars = vars i; spare = record old.spare { vars = spare i } });
      grows = Grows-trans old now new h.grows grows;
    }

pub HasMoreVariables-room : (old now : Contents) (count all : ℕ) → HasMoreVariables old count now → count < all → all ≤ old.spare.vars → 0 < now.spare.vars
HasMoreVariables-room old now count all h low room = let e : now.spare.vars ≡ old.spare.vars - count = ap (λ (c : Contents). c.spare.vars) h.is in omega arith

pub HasMoreSlots-none : (old : Contents) → HasMoreSlots old 0 old
HasMoreSlots-none old =
    let slots : old.slots ≡ old.slots + 0 = omega arith in
    let spare : old.spare.slots ≡ old.spare.slots - 0 = omega arith in
    record { is = λ i. record old { slots = slots i; spare = record old.spare { slots = spare i } }; grows = Grows-refl old }

pub HasMoreSlots-next : (old now new : Contents) (count : ℕ) → HasMoreSlots old count now → new ≡ record now { slots = now.slots + 1; spare = record now.spare { slots = now.spare.slots - 1 } } → Grows now new
    → HasMoreSlots old (count + 1) new
HasMoreSlots-next old now new count h e grows =
    let slots : old.slots + count + 1 ≡ old.slots + (count + 1) = omega arith in
    let spare : old.spare.slots - count - 1 ≡ old.spare.slots - (count + 1) = omega arith in
    record {
      is = e ∙ ap (λ (c : Contents). record c { slots = c.slots + 1; spare = record c.spare { slots = c.spare.slots - 1 } }) h.is ∙ (λ i. record old { slots = slots i; spare = record old.spare { slots = spare i } });
      grows = Grows-trans old now new h.grows grows;
    }

pub HasMoreSlots-room : (old now : Contents) (count all : ℕ) → HasMoreSlots old count now → count < all → all ≤ old.spare.slots → 0 < now.spare.slots
HasMoreSlots-room old now count all h low room = let e : now.spare.slots ≡ old.spare.slots - count = ap (λ (c : Contents). c.spare.slots) h.is in omega arith

-- ---- links

-- the first assertions of a list that agrees agree
pub first_agree : (list more : List Assertion) → Agrees (network_of (list ++ more)) → Agrees (network_of list)
first_agree list more agrees =
    Agrees-part (network_of list) (network_of list ++ network_of more) (λ x i. IsAmong-append_left (network_of list) (network_of more) x i)
    (subst (λ N. Agrees N) (network_of-append list more) agrees)

pub first_of_three : (list : List Assertion) (a b c : Assertion) → Agrees (network_of (list ++ a ∷ b ∷ c ∷ [])) → Agrees (network_of (list ++ a ∷ []))
first_of_three list a b c agrees = first_agree (list ++ a ∷ []) (b ∷ c ∷ []) (subst (λ xs. Agrees (network_of xs)) (sym (append_assoc list (a ∷ []) (b ∷ c ∷ []))) agrees)

two_apart : (list : List Assertion) (a b c : Assertion) → list ++ a ∷ b ∷ c ∷ [] ≡ ((list ++ a ∷ []) ++ b ∷ []) ++ c ∷ []
two_apart list a b c = sym (append_assoc (list ++ a ∷ []) (b ∷ []) (c ∷ []) ∙ append_assoc list (a ∷ []) (b ∷ c ∷ []))

pub two_of_three : (list : List Assertion) (a b c : Assertion) → Agrees (network_of (list ++ a ∷ b ∷ c ∷ [])) → Agrees (network_of ((list ++ a ∷ []) ++ b ∷ []))
two_of_three list a b c agrees = first_agree ((list ++ a ∷ []) ++ b ∷ []) (c ∷ []) (subst (λ xs. Agrees (network_of xs)) (two_apart list a b c) agrees)

-- ---- the network one by one

-- the store with the description's variables and slots, and the first of its assertions
abbrev pub with_first : Contents → Description → List Assertion → Contents
with_first c d list = record {
  vars = c.vars + d.vars;
  slots = c.slots + d.slots;
  accepted = c.accepted ++ counted_network c.vars c.slots list;
  spare = record {
    vars = c.spare.vars - d.vars;
    slots = c.spare.slots - d.slots;
    entries = c.spare.entries - entry_count list;
    assertions = c.spare.assertions - length list;
  };
}

pub record IsAdded (old : Contents) (d : Description) (list : List Assertion) (now : Contents) : Type 0 where
  pub is : now ≡ with_first old d list
  pub agrees : Agrees (network_of now.accepted)
  pub grows : Grows old now

pub IsAdded-none : (old now : Contents) (d : Description) → now ≡ record old { vars = old.vars + d.vars; slots = old.slots + d.slots; spare = record old.spare { vars = old.spare.vars - d.vars; slots = old.spare.slots - d.slots } }
    → Agrees (network_of old.accepted) → Grows old now → IsAdded old d [] now
IsAdded-none old now d e agrees grows =
    let entries : old.spare.entries ≡ old.spare.entries - entry_count [] = omega arith in
    let assertions : old.spare.assertions ≡ old.spare.assertions - length {A = Assertion} [] = omega arith in
    let accepted : old.accepted ≡ old.accepted ++ [] = sym (append-nil old.accepted) in
    record {
      is = e ∙ (λ i. record {
        vars = old.vars + d.vars;
        slots = old.slots + d.slots;
        accepted = accepted i;
        spare = record { vars = old.spare.vars - d.vars; slots = old.spare.slots - d.slots; entries = entries i; assertions = assertions i };
      });
      agrees = subst (λ c. Agrees (network_of c.accepted)) (sym e) agrees;
      grows = grows;
    }

module _ (old : Contents) (d : Description) where
  longer : (list : List Assertion) (a : Assertion) → (old.accepted ++ counted_network old.vars old.slots list) ++ counted_assertion old.vars old.slots a ∷ [] ≡ old.accepted ++ counted_network old.vars old.slots (list ++ a ∷ [])
  longer list a =
      append_assoc old.accepted (counted_network old.vars old.slots list) (counted_assertion old.vars old.slots a ∷ [])
      ∙ ap (λ more. old.accepted ++ more) (sym (map-append (counted_assertion old.vars old.slots) list (a ∷ [])))

  one_less : (n : ℕ) (list : List Assertion) (a : Assertion) → n - length list - 1 ≡ n - length (list ++ a ∷ [])
  one_less n list a = let more : length (list ++ a ∷ []) ≡ length list + 1 = length-append list (a ∷ []) in omega (arith, more)

  with_first-more : (list : List Assertion) (a : Assertion) → accepting (with_first old d list) (counted_assertion old.vars old.slots a) ≡ with_first old d (list ++ a ∷ [])
  with_first-more list (Entry s attr x) =
      let all = longer list (Entry s attr x) in
      let more : entry_count (list ++ Entry s attr x ∷ []) ≡ entry_count list + 1 = entry_count-push list (Entry s attr x) in
      let entries : old.spare.entries - entry_count list - 1 ≡ old.spare.entries - entry_count (list ++ Entry s attr x ∷ []) = omega (arith, more) in
      let assertions = one_less old.spare.assertions list (Entry s attr x) in
      λ i. record (with_first old d list) { accepted = all i; spare = record (with_first old d list).spare { entries = entries i; assertions = assertions i } }
  with_first-more list (Equate x y) =
      let all = longer list (Equate x y) in
      let more : entry_count (list ++ Equate x y ∷ []) ≡ entry_count list + 0 = entry_count-push list (Equate x y) in
      let entries : old.spare.entries - entry_count list ≡ old.spare.entries - entry_count (list ++ Equate x y ∷ []) = omega (arith, more) in
      let assertions = one_less old.spare.assertions list (Equate x y) in
      λ i. record (with_first old d list) { accepted = all i; spare = record (with_first old d list).spare { entries = entries i; assertions = assertions i } }
  with_first-more list (Link s t) =
      let all = longer list (Link s t) in
      let more : entry_count (list ++ Link s t ∷ []) ≡ entry_count list + 0 = entry_count-push list (Link s t) in
      let entries : old.spare.entries - entry_count list ≡ old.spare.entries - entry_count (list ++ Link s t ∷ []) = omega (arith, more) in
      let assertions = one_less old.spare.assertions list (Link s t) in
      λ i. record (with_first old d list) { accepted = all i; spare = record (with_first old d list).spare { entries = entries i; assertions = assertions i } }

  module _ (place : ℕ) (a : Assertion) (now : Contents) (at : slice_get d.network place ≡ Some a) (added : IsAdded old d (take place d.network) now) where
    first_more : take (place + 1) d.network ≡ take place d.network ++ a ∷ []
    first_more = take-one_more d.network place a at

    pub IsAdded-more : (new : Contents) → new ≡ accepting now (counted_assertion old.vars old.slots a) → Grows now new
        → Agrees (network_of (now.accepted ++ counted_assertion old.vars old.slots a ∷ [])) → IsAdded old d (take (place + 1) d.network) new
    IsAdded-more new e grows agrees =
        let is : new ≡ with_first old d (take (place + 1) d.network) =
        e ∙ ap (λ c. accepting c (counted_assertion old.vars old.slots a)) added.is ∙ with_first-more (take place d.network) a ∙ ap (with_first old d) (sym first_more) in
        let all : now.accepted ++ counted_assertion old.vars old.slots a ∷ [] ≡ new.accepted =
        ap (λ c. c.accepted ++ counted_assertion old.vars old.slots a ∷ []) added.is ∙ longer (take place d.network) a ∙ ap (λ list. old.accepted ++ counted_network old.vars old.slots list) (sym first_more) ∙ sym (ap (λ c. c.accepted) is) in
        record { is = is; agrees = subst (λ list. Agrees (network_of list)) all agrees; grows = Grows-trans old now new added.grows grows }

    -- what does not agree after some assertions does not agree with all
    pub part_refuses : Agrees (network_of (old.accepted ++ counted_network old.vars old.slots d.network)) → Agrees (network_of (now.accepted ++ counted_assertion old.vars old.slots a ∷ []))
    part_refuses agrees =
        let upto = old.accepted ++ counted_network old.vars old.slots (take (place + 1) d.network) in
        let rest = counted_network old.vars old.slots (drop (place + 1) d.network) in
        let parts : upto ++ rest ≡ old.accepted ++ counted_network old.vars old.slots d.network =
        append_assoc old.accepted (counted_network old.vars old.slots (take (place + 1) d.network)) rest
        ∙ ap (λ more. old.accepted ++ more) (sym (map-append (counted_assertion old.vars old.slots) (take (place + 1) d.network) (drop (place + 1) d.network)) ∙ ap (counted_network old.vars old.slots) (take-append-drop (place + 1) d.network)) in
        let split : network_of upto ++ network_of rest ≡ network_of (old.accepted ++ counted_network old.vars old.slots d.network) = sym (network_of-append upto rest) ∙ ap network_of parts in
        let here : Agrees (network_of upto) =
        Agrees-part (network_of upto) (network_of upto ++ network_of rest) (λ x i. IsAmong-append_left (network_of upto) (network_of rest) x i) (subst (λ N. Agrees N) (sym split) agrees) in
        let same : now.accepted ++ counted_assertion old.vars old.slots a ∷ [] ≡ upto =
        ap (λ c. c.accepted ++ counted_assertion old.vars old.slots a ∷ []) added.is ∙ longer (take place d.network) a ∙ ap (λ list. old.accepted ++ counted_network old.vars old.slots list) (sym first_more) in
        subst (λ list. Agrees (network_of list)) (sym same) here

    -- the assertion is of made slots and variables, and there is room for it
    pub next_mentions : IsNumbered d → store.Mentions now.vars now.slots (counted_assertion old.vars old.slots a)
    next_mentions numbered =
        subst (λ c. store.Mentions c.vars c.slots (counted_assertion old.vars old.slots a)) (sym added.is)
        (counted_mentions old.vars old.slots d.vars d.slots (old.vars + d.vars) (old.slots + d.slots) a (omega arith) (omega arith)
        (Each-at (Mentions d.vars d.slots) d.network a numbered.network (IsAmong-slice_get d.network place a at)))

    upto_length : length (take place d.network) + 1 ≤ length d.network
    upto_length =
        let all : length (take (place + 1) d.network) + length (drop (place + 1) d.network) ≡ length d.network = sym (length-append (take (place + 1) d.network) (drop (place + 1) d.network)) ∙ ap length (take-append-drop (place + 1) d.network) in
        let more : length (take (place + 1) d.network) ≡ length (take place d.network) + 1 = ap length first_more ∙ length-append (take place d.network) (a ∷ []) in
        omega arith

    pub next_room : HasRoom old d → 0 < now.spare.assertions
    next_room room =
        let enough : length d.network ≤ old.spare.assertions = room.assertions in
        let e : now.spare.assertions ≡ old.spare.assertions - length (take place d.network) = ap (λ c. c.spare.assertions) added.is in
        omega (arith, upto_length)

    pub next_entry_room : HasRoom old d → entry_count (counted_assertion old.vars old.slots a ∷ []) ≤ now.spare.entries
    next_entry_room room =
        let enough : entry_count d.network ≤ old.spare.entries = room.entries in
        let e : now.spare.entries ≡ old.spare.entries - entry_count (take place d.network) = ap (λ c. c.spare.entries) added.is in
        let low : entry_count (take (place + 1) d.network) ≤ entry_count d.network = entry_count-take (place + 1) d.network in
        let more : entry_count (take (place + 1) d.network) ≡ entry_count (take place d.network) + entry_count (a ∷ []) = ap entry_count first_more ∙ entry_count-push (take place d.network) a in
        let same : entry_count (counted_assertion old.vars old.slots a ∷ []) ≡ entry_count (a ∷ []) = one_count a in
        omega arith
      where
        one_count : (x : Assertion) → entry_count (counted_assertion old.vars old.slots x ∷ []) ≡ entry_count (x ∷ [])
        one_count (Entry s attr x) = refl
        one_count (Equate x y) = refl
        one_count (Link s t) = refl

-- the code's numbers

pub counted_is : (old : Contents) (m : Mark) (a r : Assertion) → m ≡ mark_of old → r ≡ counted_assertion m.vars m.slots a → r ≡ counted_assertion old.vars old.slots a
counted_is old m a r e h = h ∙ ap (λ (n : Mark). counted_assertion n.vars n.slots a) e

pub counted_fits : (old now : Contents) (d : Description) (place : ℕ) (a : Assertion) (m : Mark) → IsNumbered d → slice_get d.network place ≡ Some a → m ≡ mark_of old
    → now.vars ≡ old.vars + d.vars → now.slots ≡ old.slots + d.slots → Fits now → store.Mentions 4294967295 4294967296 (counted_assertion m.vars m.slots a)
counted_fits old now d place a m numbered at e vars slots fits =
    let low : now.vars < 2 ^ 32 = fits.vars in
    let small : now.slots < 2 ^ 32 = fits.slots in
    subst (λ (n : Mark). store.Mentions 4294967295 4294967296 (counted_assertion n.vars n.slots a)) (sym e)
    (counted_mentions old.vars old.slots d.vars d.slots 4294967295 4294967296 a (omega arith) (omega arith) (Each-at (Mentions d.vars d.slots) d.network a numbered.network (IsAmong-slice_get d.network place a at)))

-- all assertions were added
pub IsAdded-all : (old now : Contents) (d : Description) (place : ℕ) → length d.network ≤ place → IsAdded old d (take place d.network) now → now ≡ with_description old d
IsAdded-all old now d place h added = added.is ∙ ap (with_first old d) (take_all place d.network h)

-- an empty store with room for the description

pub room_enough : (d : Description) (room : Room) → room.vars ≡ d.vars → room.slots ≡ d.slots → room.entries ≡ length d.network → room.assertions ≡ 3 * length d.nodes + length d.network
    → HasRoom (record { vars = 0; slots = 0; accepted = []; spare = room }) d
room_enough d room vars slots entries assertions =
    let low : entry_count d.network ≤ length d.network = entry_count-low d.network in
    record { vars = omega arith; slots = omega arith; entries = omega arith; assertions = omega arith }
  where
    entry_count-low : (list : List Assertion) → entry_count list ≤ length list
    entry_count-low [] = omega arith
    entry_count-low (Entry s a x ∷ list) = let h : entry_count list ≤ length list = entry_count-low list in omega arith
    entry_count-low (Equate x y ∷ list) = let h : entry_count list ≤ length list = entry_count-low list in omega arith
    entry_count-low (Link s t ∷ list) = let h : entry_count list ≤ length list = entry_count-low list in omega arith

pub loaded : (d : Description) (old new : Contents) (room : Room) → old ≡ record { vars = 0; slots = 0; accepted = []; spare = room } → room.assertions ≡ 3 * length d.nodes + length d.network
    → new ≡ with_description old d → Agrees (network_of (old.accepted ++ counted_network old.vars old.slots d.network)) → IsLoaded d new
loaded d old new room e assertions is agrees =
    let whole : new ≡ with_description (record { vars = 0; slots = 0; accepted = []; spare = room }) d = is ∙ ap (λ c. with_description c d) e in
    let same : old.accepted ++ counted_network old.vars old.slots d.network ≡ d.network = ap (λ (c : Contents). c.accepted ++ counted_network c.vars c.slots d.network) e ∙ network_same d.network in
    let spare : new.spare.assertions ≡ room.assertions - length d.network = ap (λ (c : Contents). c.spare.assertions) whole in
    record {
      vars = ap (λ (c : Contents). c.vars) whole ∙ omega arith;
      slots = ap (λ (c : Contents). c.slots) whole ∙ omega arith;
      accepted = ap (λ (c : Contents). c.accepted) whole ∙ network_same d.network;
      room = omega arith;
      agrees = subst (λ list. Agrees (network_of list)) same agrees;
    }

pub loaded_agrees : (d : Description) (old : Contents) (room : Room) → old ≡ record { vars = 0; slots = 0; accepted = []; spare = room } → Agrees (network_of d.network)
    → Agrees (network_of (old.accepted ++ counted_network old.vars old.slots d.network))
loaded_agrees d old room e agrees =
    let same : old.accepted ++ counted_network old.vars old.slots d.network ≡ d.network = ap (λ (c : Contents). c.accepted ++ counted_network c.vars c.slots d.network) e ∙ network_same d.network in
    subst (λ list. Agrees (network_of list)) (sym same) agrees
