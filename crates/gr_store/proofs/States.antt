-- What is kept of a store's state by its calls.
use Rattle.std.proofs.Common.{◌≡◌, ℕ, ◌+◌, ◌-◌, ◌<◌, ◌≤◌, List, [], ◌∷◌, ◌++◌, Option, Some, None, MatchOption, zero, suc, length, get_or, take, drop, set, refl, sym, ◌∙◌, ap, subst, arith}
use Rattle.std.specs.Prelude.{◌^◌}
use Rattle.std.proofs.lemmas.List.{take_all, length-append, length-map, length-set, length-take-le, take_more_set, take-take, take-map, map_push, map-append, get_or-map, get_or-take, get_or_past, take-append-drop, drop_more}
use Rattle.std.proofs.lemmas.List.Elements.{Contains-push}
use Rattle.gr_terms.specs.declared.Assertion.{Assertion}
use Rattle.gr_terms.specs.declared.Assertion.TheVariants.{Entry, Equate, Link}
use Rattle.gr_terms.specs.declared.Term.{Term}
use Rattle.gr_terms.specs.declared.SlotId.{SlotId}
use Rattle.gr_terms.specs.declared.Sym.{Sym}
use Rattle.gr_terms.specs.Networks.{Agrees, AreLinkedSlots, AreLinked, HasValue, same_slot, same as same_term, entry}
use Rattle.gr_terms.specs.Networks as net
use Rattle.gr_terms.specs.Views.{term_of, assertion_of, network_of}
use Rattle.gr_base.proofs.ListLemmas.{Each-at}
use Rattle.gr_base.proofs.OrderedPairs.{IsAmong-Contains}
use Rattle.gr_store.specs.declared.bindings.Bound.{Bound}
use Rattle.gr_store.specs.declared.kept.Kept.{Kept}
use Rattle.gr_store.specs.declared.room.Room.{Room}
use Rattle.gr_store.specs.declared.room.Mark.{Mark}
use Rattle.gr_store.specs.Roots.{root_by, slot_root, Extends, AreDifferentNames}
use Rattle.gr_store.specs.Index.{IsIndex, IsIndexed}
use Rattle.gr_store.specs.Contents.{Contents, IsEarlier, IsFirstValue, Mentions, MentionsAll, entry_attributes, entry_count}
use Rattle.gr_store.specs.Solution.{LinkedTerms, Solves, SlotsBelow, ValuesBelow, HasNoEntry, IsFirstEntry}
use Rattle.gr_store.specs.State.{assertions_of, terms_before, joins_before, first_bound, IsRising, IsHistory, IsState}
use Rattle.gr_store.proofs.Trails.{root_by-name}
use Rattle.gr_terms.proofs.ViewLemmas.{term_from}
use Rattle.gr_store.proofs.Members.{Contains-network, by_equate}
use Rattle.gr_store.proofs.Solutions.{joined_slots, refuses, IsLinked-part, grown}
use Rattle.gr_store.proofs.History.{IsRising-in, index_now, IsHistory-push, IsHistory-undo}

Mentions-more : (vars slots vars' slots' : ℕ) (x : Assertion) → vars ≤ vars' → slots ≤ slots' → Mentions vars slots x → Mentions vars' slots' x
Mentions-more vars slots vars' slots' (Entry s attr a) v w h = (omega (arith, h.0), omega (arith, h.1))
Mentions-more vars slots vars' slots' (Equate a b) v w h = (omega (arith, h.0), omega (arith, h.1))
Mentions-more vars slots vars' slots' (Link s t) v w h = (omega (arith, h.0), omega (arith, h.1))

pub MentionsAll-more : (vars slots vars' slots' : ℕ) (net : List Assertion) → vars ≤ vars' → slots ≤ slots' → MentionsAll vars slots net → MentionsAll vars' slots' net
MentionsAll-more vars slots vars' slots' [] v w h = tt
MentionsAll-more vars slots vars' slots' (x ∷ net) v w h = (Mentions-more vars slots vars' slots' x v w h.0, MentionsAll-more vars slots vars' slots' net v w h.1)

pub MentionsAll-push : (vars slots : ℕ) (net : List Assertion) (x : Assertion) → MentionsAll vars slots net → Mentions vars slots x → MentionsAll vars slots (net ++ x ∷ [])
MentionsAll-push vars slots [] x all one = (one, tt)
MentionsAll-push vars slots (y ∷ net) x all one = (all.0, MentionsAll-push vars slots net x all.1 one)

pub slots_below : (vars slots n : ℕ) (net : List Assertion) → MentionsAll vars slots net → slots ≤ n → SlotsBelow n net
slots_below vars slots n net all le s attr a h = let m : Mentions vars slots (Entry s attr a) = Each-at (Mentions vars slots) net (Entry s attr a) all (IsAmong-Contains net (Entry s attr a) h) in omega (arith, m.0)

pub values_below : (vars slots n : ℕ) (net : List Assertion) → MentionsAll vars slots net → vars ≤ n → ValuesBelow n net
values_below vars slots n net all le s attr a h = let m : Mentions vars slots (Entry s attr a) = Each-at (Mentions vars slots) net (Entry s attr a) all (IsAmong-Contains net (Entry s attr a) h) in omega (arith, m.1)

pub entry_attributes-append : (net more : List Assertion) → entry_attributes (net ++ more) ≡ entry_attributes net ++ entry_attributes more
entry_attributes-append [] more = refl
entry_attributes-append (Entry s attr a ∷ net) more = ap (λ (rest : List Sym). attr ∷ rest) (entry_attributes-append net more)
entry_attributes-append (Equate a b ∷ net) more = entry_attributes-append net more
entry_attributes-append (Link s t ∷ net) more = entry_attributes-append net more

pub entry_count-push : (net : List Assertion) (x : Assertion) → entry_count (net ++ x ∷ []) ≡ entry_count net + entry_count (x ∷ [])
entry_count-push net x = ap length (entry_attributes-append net (x ∷ [])) ∙ length-append (entry_attributes net) (entry_attributes (x ∷ []))

pub entry_count-take : (m : ℕ) (net : List Assertion) → entry_count (take m net) ≤ entry_count net
entry_count-take zero net = omega arith
entry_count-take (suc m) [] = omega arith
entry_count-take (suc m) (Entry s attr a ∷ net) = omega (arith, entry_count-take m net)
entry_count-take (suc m) (Equate a b ∷ net) = entry_count-take m net
entry_count-take (suc m) (Link s t ∷ net) = entry_count-take m net

-- the attributes of the first assertions are the first attributes
pub entry_attributes-take : (m : ℕ) (net : List Assertion) → take (entry_count (take m net)) (entry_attributes net) ≡ entry_attributes (take m net)
entry_attributes-take zero net = refl
entry_attributes-take (suc m) [] = refl
entry_attributes-take (suc m) (Entry s attr a ∷ net) = ap (λ (rest : List Sym). attr ∷ rest) (entry_attributes-take m net)
entry_attributes-take (suc m) (Equate a b ∷ net) = entry_attributes-take m net
entry_attributes-take (suc m) (Link s t ∷ net) = entry_attributes-take m net

-- the numbers after one more assertion
pub record IsCounted (attributes attributes' : List Sym) (used used' : Mark) (spare spare' : Room) (x : Assertion) : Type 0 where
  pub vars : used'.vars ≡ used.vars
  pub slots : used'.slots ≡ used.slots
  pub entries : used'.entries ≡ used.entries + entry_count (x ∷ [])
  pub assertions : used'.assertions ≡ used.assertions + 1
  pub spare_vars : spare'.vars ≡ spare.vars
  pub spare_slots : spare'.slots ≡ spare.slots
  pub spare_entries : spare'.entries + entry_count (x ∷ []) ≡ spare.entries
  pub spare_assertions : spare'.assertions + 1 ≡ spare.assertions
  pub attribute_room : length attributes' ≡ length attributes
  pub attribute_list : take used'.entries attributes' ≡ take used.entries attributes ++ entry_attributes (x ∷ [])

pub IsState-accept : (terms nodes terms' nodes' : ℕ × List Bound) (base : ℕ) (kept : List Kept) (attributes attributes' : List Sym) (used used' : Mark) (spare spare' : Room) (x : Assertion) (nt nn : ℕ)
    → IsState terms nodes base kept attributes used spare → terms'.0 ≡ terms.0 → nodes'.0 ≡ nodes.0 → Extends terms.1 terms'.1 → Extends nodes.1 nodes'.1
    → Solves base (assertions_of (take used.assertions kept) ++ x ∷ []) (root_by terms'.1) (slot_root nodes'.1) → IsIndex base (assertions_of (take used.assertions kept) ++ x ∷ []) nodes'.1
    → Mentions used.vars used.slots x → nt ≡ length terms.1 → nn ≡ length nodes.1 → IsCounted attributes attributes' used used' spare spare' x
    → IsState terms' nodes' base (set kept used.assertions (record { assertion = x; terms = nt; joins = nn })) attributes' used' spare'
IsState-accept terms nodes terms' nodes' base kept attributes attributes' used used' spare spare' x nt nn s t0 n0 et en new index mentions nt_is nn_is n =
    let e : Kept = record { assertion = x; terms = length terms.1; joins = length nodes.1 } in
    let past = take used.assertions kept in
    let room : used.assertions < length kept = omega (arith, s.kept_room, n.spare_assertions) in
    let now : take used'.assertions (set kept used.assertions e) ≡ past ++ e ∷ [] =
    ap (λ i. take i (set kept used.assertions e)) n.assertions ∙ take_more_set kept used.assertions e room in
    let nets : assertions_of (past ++ e ∷ []) ≡ assertions_of past ++ x ∷ [] = map_push (λ k. k.assertion) past e in
    rw (nt_is, nn_is) (record {
      var_room = omega (arith, s.var_room, n.vars, n.spare_vars, t0);
      slot_room = omega (arith, s.slot_room, n.slots, n.spare_slots);
      node_room = omega (arith, s.node_room, n0, length-set kept used.assertions e);
      kept_room = omega (arith, s.kept_room, n.assertions, n.spare_assertions, length-set kept used.assertions e);
      entry_room = omega (arith, s.entry_room, n.entries, n.spare_entries, n.attribute_room);
      vars_fit = omega (arith, s.vars_fit, t0);
      nodes_fit = omega (arith, s.nodes_fit, n0);
      entries_fit = omega (arith, s.entries_fit, n.attribute_room);
      entries = rw (now, nets) (n.attribute_list ∙ ap (λ (front : List Sym). front ++ entry_attributes (x ∷ [])) s.entries ∙ sym (entry_attributes-append (assertions_of past) (x ∷ [])));
      mentions = rw (now, nets, n.vars, n.slots) (MentionsAll-push used.vars used.slots (assertions_of past) x s.mentions mentions);
      history = rw now (IsHistory-push base past x terms.1 nodes.1 terms'.1 nodes'.1 s.history et en new index);
    })

-- the assertions after one more is kept
pub accepted_more : (kept : List Kept) (used : ℕ) (x : Assertion) (nt nn : ℕ) → used < length kept
    → assertions_of (take used kept) ++ x ∷ [] ≡ assertions_of (take (used + 1) (set kept used (record { assertion = x; terms = nt; joins = nn })))
accepted_more kept used x nt nn room =
    let e : Kept = record { assertion = x; terms = nt; joins = nn } in
    sym (ap assertions_of (take_more_set kept used e room) ∙ map_push (λ k. k.assertion) (take used kept) e)

-- the entries of a state are found by its nodes
pub state_indexed : (terms nodes : ℕ × List Bound) (base : ℕ) (kept : List Kept) (attributes : List Sym) (used : Mark) (spare : Room) → IsState terms nodes base kept attributes used spare
    → IsIndexed base (assertions_of (take used.assertions kept)) nodes
state_indexed terms nodes base kept attributes used spare s =
    let past = take used.assertions kept in
    record {
      room = omega (arith, s.node_room, s.kept_room, length-map past (λ e. e.assertion), length-take-le used.assertions kept (omega (arith, s.kept_room)));
      below = slots_below used.vars used.slots base (assertions_of past) s.mentions (omega (arith, s.slot_room));
      index = index_now base past terms.1 nodes.1 s.history;
    }

-- an equation that does not agree
pub equate_clash : (base : ℕ) (net : List Assertion) (terms slots : List Bound) (a b : Term) → Solves base net (root_by terms) (slot_root slots)
    → AreDifferentNames (root_by terms a) (root_by terms b) → Agrees (network_of (net ++ Equate a b ∷ [])) → ⊥
equate_clash base net terms slots a b solved names agrees =
    refuses base (net ++ Equate a b ∷ []) (root_by terms) (slot_root slots) a b
    (IsLinked-part base net (net ++ Equate a b ∷ []) (root_by terms) (slot_root slots) (grown net (Equate a b)) solved.is_linked)
    (root_by-name terms) names (by_equate (net ++ Equate a b ∷ []) a b (Contains-push net (Equate a b))) agrees

-- the first entry with an attribute at slots of a slot's class is the first one at linked slots
module _ (base : ℕ) (list : List Assertion) (f : Term → Term) (g : SlotId → Term) (slot : SlotId) (attr : Sym) (root : Term) (solved : Solves base list f g) (is : g slot ≡ root) where
  entry_none : HasNoEntry list (λ t. g t ≡ root) attr → (x : net.Term ℕ) → HasValue (network_of list) slot.0 attr.0 x → ⊥
  entry_none none x has =
      none (record { 0 = has.0 }) (term_from x) (Contains-network list (entry has.0 attr.0 x) has.2) (sym (joined_slots base list f g solved slot (record { 0 = has.0 }) has.1) ∙ is)

  entry_first : (value : Term) → slot.0 < base → SlotsBelow base list → IsFirstEntry list (λ t. g t ≡ root) attr value → IsFirstValue (network_of list) slot.0 attr.0 (term_of value)
  entry_first value slot_in below first =
      let k = first.place in
      let x : Assertion = Entry first.from attr value in
      let parts : list ≡ take k list ++ x ∷ drop (k + 1) list =
      sym (take-append-drop k list) ∙ ap (λ (rest : List Assertion). take k list ++ rest) (drop_more list k x first.within ∙ ap (λ (y : Assertion). y ∷ drop (k + 1) list) first.here) in
      record {
        before = network_of (take k list);
        after = network_of (drop (k + 1) list);
        from = first.from.0;
        parts = ap network_of parts ∙ map-append assertion_of (take k list) (x ∷ drop (k + 1) list);
        is_linked = solved.is_linked.slots slot first.from slot_in (below first.from attr value (k, first.within, first.here)) (is ∙ sym first.told);
        first = λ t y l i.
            let s : SlotId = record { 0 = t } in
            let c = Contains-network (take k list) (entry t attr.0 y) i in
            let c_in : c.0 < k = omega (arith, c.1, length-take-le k list (omega (arith, first.within))) in
            first.before c.0 s (term_from y) c_in (sym (get_or-take k list c.0 (Entry s attr (term_from y)) c_in) ∙ c.2) (sym (joined_slots base list f g solved slot s l) ∙ is);
      }

  pub entry_answer : (r : Option Term) → slot.0 < base → SlotsBelow base list → MatchOption r (HasNoEntry list (λ t. g t ≡ root) attr) (λ value. IsFirstEntry list (λ t. g t ≡ root) attr value)
      → MatchOption r ((x : net.Term ℕ) → HasValue (network_of list) slot.0 attr.0 x → ⊥) (λ value. IsFirstValue (network_of list) slot.0 attr.0 (term_of value))
  entry_answer None slot_in below none = entry_none none
  entry_answer (Some value) slot_in below first = entry_first value slot_in below first

-- the numbers kept with an assertion are within the trails
pub joins_in : (kept : List Kept) (i : ℕ) (d : Kept) (n : ℕ) → i < length kept → IsRising (joins_before kept) n → (get_or kept i d).joins ≤ n
joins_in kept i d n h rise = omega (arith, IsRising-in (joins_before kept) n rise i, get_or-map (λ e. e.joins) kept i d n h)

pub terms_in : (kept : List Kept) (i : ℕ) (d : Kept) (n : ℕ) → i < length kept → IsRising (terms_before kept) n → (get_or kept i d).terms ≤ n
terms_in kept i d n h rise = omega (arith, IsRising-in (terms_before kept) n rise i, get_or-map (λ e. e.terms) kept i d n h)

pub first_of_past : (kept : List Kept) (used m : ℕ) → m ≤ used → assertions_of (take m kept) ≡ take m (assertions_of (take used kept))
first_of_past kept used m le =
    ap assertions_of (sym (take-take m used kept le)) ∙ sym (take-map (λ k. k.assertion) m (take used kept))

-- as many entries are used as are accepted
pub state_entries : (terms nodes : ℕ × List Bound) (base : ℕ) (kept : List Kept) (attributes : List Sym) (used : Mark) (spare : Room) → IsState terms nodes base kept attributes used spare
    → used.entries ≡ entry_count (assertions_of (take used.assertions kept))
state_entries terms nodes base kept attributes used spare s =
    sym (length-take-le used.entries attributes (omega (arith, s.entry_room))) ∙ ap length s.entries

-- a state with only its first assertions
pub IsState-undo : (terms nodes terms' nodes' : ℕ × List Bound) (base : ℕ) (kept : List Kept) (attributes : List Sym) (used : Mark) (spare : Room) (m : Mark)
    → IsState terms nodes base kept attributes used spare
    → m.vars ≤ used.vars → m.slots ≤ used.slots → m.assertions ≤ used.assertions → m.entries ≤ used.entries
    → entry_count (take m.assertions (assertions_of (take used.assertions kept))) ≡ m.entries
    → MentionsAll m.vars m.slots (take m.assertions (assertions_of (take used.assertions kept)))
    → terms' ≡ (terms.0, first_bound (terms_before (take used.assertions kept)) terms.1 m.assertions)
    → nodes' ≡ (nodes.0, first_bound (joins_before (take used.assertions kept)) nodes.1 m.assertions)
    → IsState terms' nodes' base kept attributes m (record {
      vars = spare.vars + (used.vars - m.vars);
      slots = spare.slots + (used.slots - m.slots);
      entries = spare.entries + (used.entries - m.entries);
      assertions = spare.assertions + (used.assertions - m.assertions);
    })
IsState-undo terms nodes terms' nodes' base kept attributes used spare m s v w a e counted mentions t_is n_is =
    let nets = first_of_past kept used.assertions m.assertions a in
    let past = assertions_of (take used.assertions kept) in
    let in_past : m.assertions ≤ length (take used.assertions kept) = omega (arith, length-take-le used.assertions kept (omega (arith, s.kept_room))) in
    rw (t_is, n_is) (record {
      var_room = omega (arith, s.var_room);
      slot_room = omega (arith, s.slot_room);
      node_room = s.node_room;
      kept_room = omega (arith, s.kept_room);
      entry_room = omega (arith, s.entry_room);
      vars_fit = s.vars_fit;
      nodes_fit = s.nodes_fit;
      entries_fit = s.entries_fit;
      entries = rw nets (sym (take-take m.entries used.entries attributes e) ∙ ap (take m.entries) s.entries
          ∙ ap (λ n. take n (entry_attributes past)) (sym counted) ∙ entry_attributes-take m.assertions past);
      mentions = rw nets mentions;
      history = subst (λ (k : List Kept). IsHistory base k (first_bound (terms_before (take used.assertions kept)) terms.1 m.assertions) (first_bound (joins_before (take used.assertions kept)) nodes.1 m.assertions))
          (take-take m.assertions used.assertions kept a)
          (IsHistory-undo base (take used.assertions kept) terms.1 nodes.1 m.assertions in_past s.history);
    })

solves_nothing : (base : ℕ) → Solves base [] (root_by []) (slot_root [])
solves_nothing base = record {
  equates = λ a b h. absurd (omega (arith, h.1));
  links = λ s t h. absurd (omega (arith, h.1));
  pools = λ s t attr a b same h k. absurd (omega (arith, h.1));
  is_linked = record {
    terms = λ a b same. subst (λ (x : Term). LinkedTerms [] a x) same (same_term (term_of a));
    slots = λ s t s_in t_in same.
        let numbers : s.0 ≡ t.0 = cc in
        subst (λ (n : ℕ). AreLinkedSlots (network_of []) s.0 n) numbers (same_slot s.0);
  };
  names = λ p. refl;
  unnamed = λ s p is. cc;
}

index_nothing : (base : ℕ) → IsIndex base [] []
index_nothing base = record {
  at_slot = λ place s attr a h. absurd (omega (arith, h.0));
  alone = λ place none x same. cc;
}

-- an empty store
pub IsState-start : (terms nodes : ℕ × List Bound) (kept : List Kept) (attributes : List Sym) (room : Room) → terms ≡ (room.vars, []) → nodes ≡ (room.slots + room.assertions, [])
    → length kept ≡ room.assertions → length attributes ≡ room.entries
    → room.vars < 2 ^ 32 → room.slots + room.assertions < 2 ^ 32 → room.entries < 2 ^ 32
    → IsState terms nodes room.slots kept attributes (record { vars = 0; slots = 0; entries = 0; assertions = 0 }) room
IsState-start terms nodes kept attributes room t n k a vf nf ef = rw (t, n) (record {
  var_room = omega arith;
  slot_room = omega arith;
  node_room = omega arith;
  kept_room = omega arith;
  entry_room = omega arith;
  vars_fit = vf;
  nodes_fit = nf;
  entries_fit = omega arith;
  entries = refl;
  mentions = tt;
  history = record {
    terms_rise = λ j l le. omega (arith, get_or_past {X = ℕ} [] j 0 (omega arith), get_or_past {X = ℕ} [] l 0 (omega arith));
    joins_rise = λ j l le. omega (arith, get_or_past {X = ℕ} [] j 0 (omega arith), get_or_past {X = ℕ} [] l 0 (omega arith));
    solves = λ j le. let none : j ≡ 0 = omega arith in rw none (solves_nothing room.slots);
    index = λ j le. let none : j ≡ 0 = omega arith in rw none (index_nothing room.slots);
  };
})

-- a mark of what is used now
pub IsEarlier-now : (c : Contents) (m : Mark) → m.vars ≡ c.vars → m.slots ≡ c.slots → m.assertions ≡ length c.accepted → m.entries ≡ entry_count c.accepted
    → MentionsAll m.vars m.slots c.accepted → IsEarlier c m
IsEarlier-now c m v s a e mentions =
    let all : take m.assertions c.accepted ≡ c.accepted = take_all m.assertions c.accepted (omega arith) in
    record {
      vars = omega arith;
      slots = omega arith;
      assertions = omega arith;
      entries = ap entry_count all ∙ sym e;
      mentions = rw all mentions;
    }
