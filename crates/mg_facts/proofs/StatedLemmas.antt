-- The invariant of facts in numbers through each step.
use Rattle.std.specs.Prelude.{◌≡◌, ◌↔◌, ℕ, zero, suc, ◌+◌, ◌*◌, ◌^◌, ◌<◌, ◌≤◌, List, [], ◌∷◌, ◌++◌, map, length, take, drop, get_or, min, Bool, true, false, IsTrue, Some, slice_get, ◌⊎◌, if◌then◌else◌, refl}
use Rattle.std.specs.List.{list_any, take-map}
use Rattle.std.specs.Bool.{OnTrue, OnFalse}
use Rattle.std.proofs.Common.{inl, inr, ap, ap₂, sym, ◌∙◌, subst, append_assoc, arith}
use Rattle.std.proofs.Math.Nat.{min-le_left, min-le_right}
use Rattle.std.proofs.Math.Seq.{take-length, take-append_seam}
use Rattle.std.proofs.lemmas.Bool.{false≢true, cases_lt}
use Rattle.std.proofs.lemmas.List.{length-take, length-take-le, length_push, take_more, take-append-le, take-append-drop}
use Rattle.std.proofs.lemmas.Option.{slice_get_within}
use Rattle.gr_base.specs.Lists.{IsAmong, IsWithin, Each, NoneTwice, gathered}
use Rattle.gr_base.proofs.ListLemmas.{NoneTwice-push, list_any-IsAmong, one_place, slice_get_push, IsAmong-append, IsAmong-append_left, IsAmong-append_right, Each-append, IsAmong-map, IsAmong-map_from, slice_get-push_cases, Each-weaker, Each-both, IsWithin-take}
use Rattle.gr_terms.specs.declared.Assertion.{Assertion}
use Rattle.gr_terms.specs.declared.Assertion.TheVariants.{Entry, Equate, Link}
use Rattle.gr_terms.specs.declared.Term.{Term}
use Rattle.gr_terms.specs.declared.Term.TheVariants.{Const, Var}
use Rattle.gr_terms.specs.declared.Sym.{Sym}
use Rattle.gr_terms.specs.declared.SlotId.{SlotId}
use Rattle.gr_terms.specs.Networks.{Agrees, AreLinked, variable, name}
use Rattle.gr_terms.specs.Views.{term_of, assertion_of, network_of}
use Rattle.gr_terms.proofs.NetworkLemmas.{Agrees-part}
use Rattle.gr_store.specs.Contents.{entry_count, MentionsAll, rank}
use Rattle.mg_facts.specs.declared.variable.Variable.{Variable}
use Rattle.mg_facts.specs.declared.fact.Fact.{Fact}
use Rattle.mg_facts.specs.declared.marks.Past.{Past}
use Rattle.gr_store.specs.declared.room.Mark.{Mark}
use Rattle.mg_facts.specs.Ledgers.{Kept, IsMarked, kept_part}
use Rattle.mg_facts.specs.Numbered.{Numbered, Keeps, IsFresh, AreMet, GoesOn, IsBelow, variables_in, asserted, all_asserted, joined_by, all_joined, all_said, said_of, one_of, slot_id}
use Rattle.mg_facts.specs.State.{IsLess, IsPast, HasMoreRoom, IsStated}
use Rattle.mg_facts.specs.Classes.{IsJoin, AreJoins, AreOne, IsRoot}
use Rattle.mg_facts.proofs.GatheredLemmas.{gathered-push, take-gathered, take_take, Each-push, Each-take, IsAmong-gathered, IsAmong-gathered_from, slice_get-take}
use Rattle.mg_facts.proofs.NumberLemmas.{IsBelow-up, IsBelow-min, all_said-grow, Keeps-same, Keeps-goes_on}
use Rattle.mg_facts.proofs.ReadingLemmas.{asserted-mentions, all_asserted-mentions, joined_by-mentions, all_joined-mentions}
use Rattle.mg_facts.proofs.ClassLemmas.{joins-agree, no_name, all_joined-joins}

-- NAMES

pub NoneTwice-take : {A : Type 0} (n : ℕ) (xs : List A) → NoneTwice xs → NoneTwice (take n xs)
NoneTwice-take zero xs once = tt
NoneTwice-take (suc n) [] once = tt
NoneTwice-take (suc n) (x ∷ xs) once = ((λ i. once.0 (IsWithin-take n xs x i)), NoneTwice-take n xs once.1)

pub insert_once : {A : Type 0} (test : A → Bool) (ks : List A) (x : A) (new : List A) → new ≡ (if list_any test ks then ks else ks ++ x ∷ []) → test x ≡ true → NoneTwice ks → NoneTwice new
insert_once {A} test ks x new e itself once = subst NoneTwice (sym e) (by (list_any test ks) refl)
  where
    by : (b : Bool) → list_any test ks ≡ b → NoneTwice (if b then ks else ks ++ x ∷ [])
    by true h = once
    by false h = NoneTwice-push ks x once (λ i. false≢true (sym h ∙ list_any-IsAmong test ks x i itself))

-- LEDGERS

pub on_true : (b : Bool) (A P : Type 0) → (IsTrue b ↔ A) → A → OnTrue b P → P
on_true true A P iff here h = h
on_true false A P iff here h = absurd (false≢true (iff.1 here))

pub joins_accept : (list : List Assertion) → AreJoins list → (x y : ℕ) → Agrees (network_of (list ++ Equate (Var x) (Var y) ∷ []))
joins_accept list joins x y = joins-agree (list ++ Equate (Var x) (Var y) ∷ []) (Each-append IsJoin list (Equate (Var x) (Var y) ∷ []) joins (tt, tt))

joins_have_no_entry : (list : List Assertion) → AreJoins list → entry_count list ≡ 0
joins_have_no_entry [] j = refl
joins_have_no_entry (Entry s a t ∷ list) j = absurd j.0
joins_have_no_entry (Equate a b ∷ list) j = joins_have_no_entry list j.1
joins_have_no_entry (Link s t ∷ list) j = absurd j.0

-- where all agree, a first part with one more agrees
pub first_agrees : (old now list : List Assertion) (i : ℕ) (d : Assertion) → i < length list → now ≡ old ++ take i list
    → Agrees (network_of (old ++ list)) → Agrees (network_of (now ++ get_or list i d ∷ []))
first_agrees old now list i d h is agrees =
    subst (λ z. Agrees (network_of z)) (sym e) (Agrees-part (network_of (old ++ take (i + 1) list)) (network_of (old ++ list)) within agrees)
  where
    e : now ++ get_or list i d ∷ [] ≡ old ++ take (i + 1) list
    e = ap (λ z. z ++ get_or list i d ∷ []) is ∙ append_assoc old (take i list) (get_or list i d ∷ []) ∙ ap (λ z. old ++ z) (sym (take_more list i d h))

    within : IsWithin (network_of (old ++ take (i + 1) list)) (network_of (old ++ list))
    within a j =
        let r = IsAmong-map_from assertion_of (old ++ take (i + 1) list) a j in
        let k : IsAmong (old ++ list) r.0 =
        elim (IsAmong-append old (take (i + 1) list) r.0 r.1) [
          | inl m ↦ IsAmong-append_left old list r.0 m
          | inr m ↦ IsAmong-append_right old list r.0 (IsWithin-take (i + 1) list r.0 m)
        ]
        in
        subst (λ z. IsAmong (network_of (old ++ list)) z) (sym r.2) (IsAmong-map assertion_of (old ++ list) r.0 k)

pub one_of-made : (x y : ℕ) (a b c d e f : SlotId) → a.0 ≡ 3 * x + 1 → b.0 ≡ 3 * y + 1 → c.0 ≡ 3 * x + 2 → d.0 ≡ 3 * y + 2 → e.0 ≡ 3 * x + 3 → f.0 ≡ 3 * y + 3
    → Equate (Var x) (Var y) ∷ Link a b ∷ Link c d ∷ Link e f ∷ [] ≡ one_of x y
one_of-made x y a b c d e f p q r s t u =
    ap (λ rest. Equate (Var x) (Var y) ∷ rest)
    (ap₂ (λ l rest. l ∷ rest) (ap₂ (λ m n. Link (slot_id m) (slot_id n)) p q)
    (ap₂ (λ l rest. l ∷ rest) (ap₂ (λ m n. Link (slot_id m) (slot_id n)) r s)
    (ap (λ l. l ∷ []) (ap₂ (λ m n. Link (slot_id m) (slot_id n)) t u))))

-- ROOTS

pub root_is : (facts : List Fact) (accepted : List Assertion) (x root : ℕ) → accepted ≡ all_joined facts → AreLinked (network_of accepted) (variable x) (variable root)
    → ((u : Term) → AreLinked (network_of accepted) (variable x) (term_of u) → rank (Var root) ≤ rank u) → IsRoot facts x root
root_is facts accepted x root e l f = record {
  is_one = subst (λ z. AreLinked (network_of z) (variable x) (variable root)) e l;
  least = λ y h. let p : rank (Var root) ≤ rank (Var y) = f (Var y) (subst (λ z. AreLinked (network_of z) (variable x) (variable y)) (sym e) h) in omega arith;
}

pub root_is_no_name : (facts : List Fact) (accepted : List Assertion) (x a : ℕ) → accepted ≡ all_joined facts → AreLinked (network_of accepted) (variable x) (name a) → ⊥
root_is_no_name facts accepted x a e l = no_name (all_joined facts) (all_joined-joins facts) x a (subst (λ z. AreLinked (network_of z) (variable x) (name a)) e l)

-- PARTS

pub Agrees-taken : (facts : List Fact) (k : ℕ) → Agrees (network_of (all_asserted facts)) → Agrees (network_of (all_asserted (take k facts)))
Agrees-taken facts k agrees = Agrees-part (network_of (all_asserted (take k facts))) (network_of (all_asserted facts)) within agrees
  where
    within : IsWithin (network_of (all_asserted (take k facts))) (network_of (all_asserted facts))
    within a i =
        let r = IsAmong-map_from assertion_of (all_asserted (take k facts)) a i in
        let q = IsAmong-gathered_from asserted (take k facts) r.0 r.1 in
        subst (λ z. IsAmong (network_of (all_asserted facts)) z) (sym r.2)
        (IsAmong-map assertion_of (all_asserted facts) r.0 (IsAmong-gathered asserted facts q.0 r.0 (IsWithin-take k facts q.0 q.1) q.2))

-- THE INVARIANT

module _ (names : List Variable) (used : ℕ) (facts : List Fact) (past : List Past) (network classes : Kept) (fed : ℕ) (inv : IsStated names used facts past network classes fed) where
  pub IsStated-room : (network2 classes2 : Kept) → HasMoreRoom network network2 → HasMoreRoom classes classes2 → IsStated names used facts past network2 classes2 fed
  IsStated-room network2 classes2 h k = record {
    count = inv.count;
    part = inv.part;
    named = inv.named;
    below = inv.below;
    met = inv.met;
    vars = omega (arith, inv.vars, h.vars);
    slots = omega (arith, inv.slots, h.slots);
    class_vars = omega (arith, inv.class_vars, k.vars);
    asserted = h.accepted ∙ inv.asserted;
    joined = k.accepted ∙ inv.joined;
    clash = inv.clash;
    history = inv.history;
  }

  -- one variable more, for which there is room
  pub IsStated-named : (new : List Variable) (x : Variable) → GoesOn names new x → length names < network.vars → 3 * length names + 4 ≤ network.slots → length names < classes.vars
      → IsStated new used facts past network classes fed
  IsStated-named new x (inl e) v s c = subst (λ z. IsStated z used facts past network classes fed) (sym e) inv
  IsStated-named new x (inr e) v s c =
      let n : length new ≡ length names + 1 = ap length e ∙ length_push names x in
      record {
        count = inv.count;
        part = inv.part;
        named = omega (arith, inv.named);
        below = inv.below;
        met = inv.met;
        vars = omega arith;
        slots = omega arith;
        class_vars = omega arith;
        asserted = inv.asserted;
        joined = inv.joined;
        clash = inv.clash;
        history = inv.history;
      }

  -- without the variables that stand in no fact
  pub IsStated-forgotten : (new : List Variable) → new ≡ take used names → IsStated new used facts past network classes fed
  IsStated-forgotten new e =
      let n : length new ≡ used = ap length e ∙ length-take-le used names inv.named in
      record {
        count = inv.count;
        part = inv.part;
        named = omega arith;
        below = inv.below;
        met = inv.met;
        vars = omega (arith, inv.vars, inv.named);
        slots = omega (arith, inv.slots, inv.named);
        class_vars = omega (arith, inv.class_vars, inv.named);
        asserted = inv.asserted;
        joined = inv.joined;
        clash = inv.clash;
        history = inv.history;
      }

  pub forgotten_length : (new : List Variable) → new ≡ take used names → used ≡ length new
  forgotten_length new e = sym (ap length e ∙ length-take-le used names inv.named)

  pub reads_forgotten : (new : List Variable) → new ≡ take used names → (s : Numbered) → record { names = names; facts = facts; used = used } ≡ s → all_said new facts ≡ all_said s.names s.facts
  reads_forgotten new e s es =
      ap (λ z. all_said z facts) e
      ∙ sym (all_said-grow (take used names) (drop used names) facts (subst (λ z. Each (IsBelow z) facts) (sym (length-take-le used names inv.named)) inv.below))
      ∙ ap (λ z. all_said z facts) (take-append-drop used names)
      ∙ ap (λ (z : Numbered). all_said z.names z.facts) es

  -- ONE FACT MORE

  module _ (f : Fact) (h : IsBelow (length names) f) (fresh : (i : ℕ) → used ≤ i → i < length names → IsAmong (variables_in f) i) (p : Past) (at_names : p.names ≡ used) (at_assertions : p.assertions ≡ length network.accepted)
      (at_entries : p.entries ≡ entry_count network.accepted) (at_joins : p.joins ≡ length classes.accepted)
      (classes2 : Kept) (joins : classes2 ≡ record classes { accepted = classes.accepted ++ joined_by f }) where
    longer : length (facts ++ f ∷ []) ≡ length facts + 1
    longer = length_push facts f

    below_more : Each (IsBelow (length names)) (facts ++ f ∷ [])
    below_more = Each-push (IsBelow (length names)) facts f (Each-weaker (IsBelow used) (IsBelow (length names)) (IsBelow-up used (length names) inv.named) facts inv.below) h

    met_more : AreMet (length names) (facts ++ f ∷ [])
    met_more i l =
        subst (λ z. IsAmong z i) (sym (gathered-push variables_in facts f))
        (elim (cases_lt i used) [
          | inl a ↦ IsAmong-append_left (gathered variables_in facts) (variables_in f) i (inv.met i a)
          | inr a ↦ IsAmong-append_right (gathered variables_in facts) (variables_in f) i (fresh i a l)
        ])

    joined_more : classes2.accepted ≡ all_joined (facts ++ f ∷ [])
    joined_more = ap (λ (k : Kept). k.accepted) joins ∙ ap (λ z. z ++ joined_by f) inv.joined ∙ sym (gathered-push joined_by facts f)

    class_vars_more : length names ≤ classes2.vars
    class_vars_more = let e : classes2.vars ≡ classes.vars = ap (λ (k : Kept). k.vars) joins in omega (arith, inv.class_vars)

    count_more : length (past ++ p ∷ []) ≡ length (facts ++ f ∷ [])
    count_more = length_push past p ∙ ap (λ n. n + 1) inv.count ∙ sym longer

    take_same : (k : ℕ) → k ≤ length facts → take k (facts ++ f ∷ []) ≡ take k facts
    take_same k l = take-append-le k facts (f ∷ []) l

    -- what was before the facts, where perhaps one more is in the network
    history_more : (fed2 : ℕ) → fed ≤ fed2 → (fed2 ≡ fed) ⊎ ((fed2 ≡ fed + 1) × (fed ≡ length facts)) → (k : ℕ) (q : Past) → slice_get (past ++ p ∷ []) k ≡ Some q → IsPast (facts ++ f ∷ []) fed2 k q
    history_more fed2 up how k q at = elim (slice_get-push_cases past p k q at) [ inl before ↦ old before | inr here ↦ new here.0 here.1 ]
      where
        less_still : (part : ℕ) → k ≤ length facts → IsLess part k fed → IsLess part k fed2
        less_still part within l = record {
          first = l.first;
          second = omega (arith, l.second);
          either = elim l.either [
            | inl e ↦ inl e
            | inr e ↦ elim how [ inl g ↦ inr (e ∙ sym g) | inr g ↦ let a : fed ≡ length facts = g.1 in let b : part ≤ k = l.first in inl (omega arith) ]
          ];
        }

        old : slice_get past k ≡ Some q → IsPast (facts ++ f ∷ []) fed2 k q
        old before =
            let r = inv.history k q before in
            let within : k < length past = slice_get_within past k q before in
            let c : length past ≡ length facts = inv.count in
            let a : r.part ≤ k = r.less.first in
            record {
              part = r.part;
              less = less_still r.part (omega arith) r.less;
              below = subst (λ z. Each (IsBelow q.names) z) (sym (take_same k (omega arith))) r.below;
              met = subst (λ z. AreMet q.names z) (sym (take_same k (omega arith))) r.met;
              assertions = r.assertions ∙ ap (λ z. length (all_asserted z)) (sym (take_same r.part (omega arith)));
              entries = r.entries ∙ ap (λ z. entry_count (all_asserted z)) (sym (take_same r.part (omega arith)));
              joins = r.joins ∙ ap (λ z. length (all_joined z)) (sym (take_same k (omega arith)));
            }

        new : k ≡ length past → q ≡ p → IsPast (facts ++ f ∷ []) fed2 k q
        new e g =
            let c : length past ≡ length facts = inv.count in
            let l : fed ≤ length facts = inv.part in
            let n : q.names ≡ used = ap (λ (z : Past). z.names) g ∙ at_names in
            let whole : take k (facts ++ f ∷ []) ≡ facts = ap (λ z. take z (facts ++ f ∷ [])) (e ∙ c) ∙ take-append_seam facts (f ∷ []) in
            record {
              part = fed;
              less = record {
                first = omega arith;
                second = omega arith;
                either = elim how [ inl a ↦ inr (sym a) | inr a ↦ let b : fed ≡ length facts = a.1 in inl (omega arith) ];
              };
              below = subst (λ z. Each (IsBelow q.names) z) (sym whole) (subst (λ z. Each (IsBelow z) facts) (sym n) inv.below);
              met = subst (λ z. AreMet q.names z) (sym whole) (subst (λ z. AreMet z facts) (sym n) inv.met);
              assertions = ap (λ (z : Past). z.assertions) g ∙ at_assertions ∙ ap length (inv.asserted ∙ ap all_asserted (sym (take_same fed l)));
              entries = ap (λ (z : Past). z.entries) g ∙ at_entries ∙ ap entry_count (inv.asserted ∙ ap all_asserted (sym (take_same fed l)));
              joins = ap (λ (z : Past). z.joins) g ∙ at_joins ∙ ap length (inv.joined ∙ ap all_joined (sym whole));
            }

    taken_all : fed ≡ length facts → network.accepted ≡ all_asserted facts
    taken_all e = inv.asserted ∙ ap all_asserted (ap (λ k. take k facts) e ∙ take-length facts)

    -- the network agrees with the fact
    pub IsStated-fed : (network2 : Kept) → network2 ≡ record network { accepted = network.accepted ++ asserted f } → fed ≡ length facts → (fed2 : ℕ) → fed2 ≡ fed + 1
        → IsStated names (length names) (facts ++ f ∷ []) (past ++ p ∷ []) network2 classes2 fed2
    IsStated-fed network2 e all fed2 g = record {
      count = count_more;
      part = omega (arith, longer);
      named = omega arith;
      below = below_more;
      met = met_more;
      vars = let a : network2.vars ≡ network.vars = ap (λ (k : Kept). k.vars) e in omega (arith, inv.vars);
      slots = let a : network2.slots ≡ network.slots = ap (λ (k : Kept). k.slots) e in omega (arith, inv.slots);
      class_vars = class_vars_more;
      asserted =
          let n : fed2 ≡ length (facts ++ f ∷ []) = omega (arith, longer) in
          ap (λ (k : Kept). k.accepted) e ∙ ap (λ z. z ++ asserted f) (taken_all all) ∙ sym (gathered-push asserted facts f)
          ∙ ap all_asserted (sym (ap (λ k. take k (facts ++ f ∷ [])) n ∙ take-length (facts ++ f ∷ [])));
      joined = joined_more;
      clash = λ l _. absurd (omega (arith, longer));
      history = history_more fed2 (omega arith) (inr (g, all));
    }

    -- the network isn't fed, or doesn't agree with the fact
    pub IsStated-refused : (network2 : Kept) → network2 ≡ network → (fed ≡ length facts → Agrees (network_of (network.accepted ++ asserted f)) → ⊥)
        → IsStated names (length names) (facts ++ f ∷ []) (past ++ p ∷ []) network2 classes2 fed
    IsStated-refused network2 e never = record {
      count = count_more;
      part = omega (arith, longer, inv.part);
      named = omega arith;
      below = below_more;
      met = met_more;
      vars = let a : network2.vars ≡ network.vars = ap (λ (k : Kept). k.vars) e in omega (arith, inv.vars);
      slots = let a : network2.slots ≡ network.slots = ap (λ (k : Kept). k.slots) e in omega (arith, inv.slots);
      class_vars = class_vars_more;
      asserted = ap (λ (k : Kept). k.accepted) e ∙ inv.asserted ∙ ap all_asserted (sym (take_same fed inv.part));
      joined = joined_more;
      clash = clash_more;
      history = history_more fed (omega arith) (inl refl);
    }
      where
        clash_more : fed < length (facts ++ f ∷ []) → Agrees (network_of (all_asserted (take (fed + 1) (facts ++ f ∷ [])))) → ⊥
        clash_more l agrees =
            elim (at_end fed (length facts) inv.part) [
              | inl less ↦ inv.clash less (subst (λ z. Agrees (network_of (all_asserted z))) (take_same (fed + 1) (omega arith)) agrees)
              | inr all ↦
                  let n : fed + 1 ≡ length (facts ++ f ∷ []) = omega (arith, longer) in
                  let t : take (fed + 1) (facts ++ f ∷ []) ≡ facts ++ f ∷ [] = ap (λ k. take k (facts ++ f ∷ [])) n ∙ take-length (facts ++ f ∷ []) in
                  never all (subst (λ z. Agrees (network_of z)) (ap all_asserted t ∙ gathered-push asserted facts f ∙ ap (λ z. z ++ asserted f) (sym (taken_all all))) agrees)
            ]
          where
            at_end : (m n : ℕ) → m ≤ n → (m < n) ⊎ (m ≡ n)
            at_end zero zero h = inr refl
            at_end zero (suc n) h = inl (omega arith)
            at_end (suc m) zero h = absurd (omega arith)
            at_end (suc m) (suc n) h = elim (at_end m n (omega arith)) [ inl a ↦ inl (omega arith) | inr a ↦ inr (ap (λ k. suc k) a) ]

  -- THE FIRST FACTS

  module _ (count : ℕ) (l : count < length facts) (p : Past) (at : slice_get past count ≡ Some p) (n : ℕ) (is_n : n ≡ length (take p.names names)) where
    h : IsPast facts fed count p
    h = inv.history count p at

    pub few : n ≤ length names
    few = let e : length (take p.names names) ≡ min p.names (length names) = length-take p.names names in
        let m : min p.names (length names) ≤ length names = min-le_right p.names (length names) in
        omega arith

    below_first : Each (IsBelow n) (take count facts)
    below_first =
        Each-both (IsBelow p.names) (IsBelow (length names)) (IsBelow n) (IsBelow-min p.names (length names) n (is_n ∙ length-take p.names names)) (take count facts) h.below
        (Each-take (IsBelow (length names)) facts count (Each-weaker (IsBelow used) (IsBelow (length names)) (IsBelow-up used (length names) inv.named) facts inv.below))

    met_first : AreMet n (take count facts)
    met_first i l =
        let e : length (take p.names names) ≡ min p.names (length names) = length-take p.names names in
        let m : min p.names (length names) ≤ p.names = min-le_left p.names (length names) in
        h.met i (omega arith)

    below_part : Each (IsBelow n) (take h.part facts)
    below_part = subst (λ z. Each (IsBelow n) z) (take_take h.part count facts h.less.first) (Each-take (IsBelow n) (take count facts) h.part below_first)

    taken : take p.assertions network.accepted ≡ all_asserted (take h.part facts)
    taken =
        let t : take h.part (take fed facts) ≡ take h.part facts = take_take h.part fed facts h.less.second in
        ap₂ (λ k z. take k z) (h.assertions ∙ ap (λ z. length (all_asserted z)) (sym t)) inv.asserted ∙ take-gathered asserted (take fed facts) h.part ∙ ap all_asserted t

    taken_joins : take p.joins classes.accepted ≡ all_joined (take count facts)
    taken_joins = ap₂ (λ k z. take k z) h.joins inv.joined ∙ take-gathered joined_by facts count

    within_taken : {A : Type 0} (k : ℕ) (xs ys : List A) → take k xs ≡ ys → k ≡ length ys → k ≤ length xs
    within_taken k xs ys e g =
        let a : length (take k xs) ≡ min k (length xs) = length-take k xs in
        let b : min k (length xs) ≤ length xs = min-le_right k (length xs) in
        let c : length (take k xs) ≡ length ys = ap length e in
        omega arith

    pub network_marked : IsMarked network (record { vars = n; slots = 3 * n + 1; entries = p.entries; assertions = p.assertions })
    network_marked = record {
      vars = omega (arith, few, inv.vars);
      slots = omega (arith, few, inv.slots);
      assertions = within_taken p.assertions network.accepted (all_asserted (take h.part facts)) taken h.assertions;
      entries = ap entry_count taken ∙ sym h.entries;
      mentions = subst (λ z. MentionsAll n (3 * n + 1) z) (sym taken) (all_asserted-mentions n n (3 * n + 1) (omega arith) (omega arith) (take h.part facts) below_part);
    }

    pub classes_marked : IsMarked classes (record { vars = n; slots = 0; entries = 0; assertions = p.joins })
    classes_marked = record {
      vars = omega (arith, few, inv.class_vars);
      slots = omega arith;
      assertions = within_taken p.joins classes.accepted (all_joined (take count facts)) taken_joins h.joins;
      entries = ap entry_count taken_joins ∙ joins_have_no_entry (all_joined (take count facts)) (all_joined-joins (take count facts));
      mentions = subst (λ z. MentionsAll n 0 z) (sym taken_joins) (all_joined-mentions n n 0 (omega arith) (take count facts) below_first);
    }

    pub IsStated-first : (fed2 : ℕ) → fed2 ≤ fed → fed2 ≤ count → (fed2 ≡ fed) ⊎ (fed2 ≡ count) → (names2 : List Variable) → names2 ≡ take p.names names
        → (facts2 : List Fact) → facts2 ≡ take count facts → (past2 : List Past) → past2 ≡ take count past
        → (network2 classes2 : Kept) → network2 ≡ kept_part network (record { vars = n; slots = 3 * n + 1; entries = p.entries; assertions = p.assertions })
        → classes2 ≡ kept_part classes (record { vars = n; slots = 0; entries = 0; assertions = p.joins })
        → IsStated names2 n facts2 past2 network2 classes2 fed2
    IsStated-first fed2 u v how names2 en facts2 ef past2 ep network2 classes2 em ec =
        subst (λ z. IsStated z n facts2 past2 network2 classes2 fed2) (sym en)
        (subst (λ z. IsStated (take p.names names) n z past2 network2 classes2 fed2) (sym ef)
        (subst (λ z. IsStated (take p.names names) n (take count facts) z network2 classes2 fed2) (sym ep)
        (subst (λ z. IsStated (take p.names names) n (take count facts) (take count past) z classes2 fed2) (sym em)
        (subst (λ z. IsStated (take p.names names) n (take count facts) (take count past) (kept_part network (record { vars = n; slots = 3 * n + 1; entries = p.entries; assertions = p.assertions })) z fed2) (sym ec) first))))
      where
        size : length (take count facts) ≡ count
        size = length-take-le count facts (omega arith)

        same_part : h.part ≡ fed2
        same_part =
            let a : h.part ≤ count = h.less.first in
            let b : h.part ≤ fed = h.less.second in
            elim h.less.either [
              | inl e ↦ elim how [ inl g ↦ (omega arith) | inr g ↦ (omega arith) ]
              | inr e ↦ elim how [ inl g ↦ (omega arith) | inr g ↦ (omega arith) ]
            ]

        clash_first : fed2 < length (take count facts) → Agrees (network_of (all_asserted (take (fed2 + 1) (take count facts)))) → ⊥
        clash_first less agrees =
            let s : length (take count facts) ≡ count = size in
            let same : fed2 ≡ fed = elim how [ inl g ↦ g | inr g ↦ absurd (omega arith) ] in
            let t : take (fed2 + 1) (take count facts) ≡ take (fed + 1) facts = take_take (fed2 + 1) count facts (omega arith) ∙ ap (λ k. take (k + 1) facts) same in
            inv.clash (omega arith) (subst (λ z. Agrees (network_of (all_asserted z))) t agrees)

        history_first : (k : ℕ) (q : Past) → slice_get (take count past) k ≡ Some q → IsPast (take count facts) fed2 k q
        history_first k q there =
            let g = slice_get-take count past k q there in
            let less : k < count = g.0 in
            let r = inv.history k q g.1 in
            let a : r.part ≤ k = r.less.first in
            let b : r.part ≤ fed = r.less.second in
            record {
              part = r.part;
              less = record {
                first = a;
                second = elim how [ inl e ↦ (omega arith) | inr e ↦ (omega arith) ];
                either = elim r.less.either [ inl e ↦ inl e | inr e ↦ elim how [ inl d ↦ inr (omega arith) | inr d ↦ absurd (omega arith) ] ];
              };
              below = subst (λ z. Each (IsBelow q.names) z) (sym (take_take k count facts (omega arith))) r.below;
              met = subst (λ z. AreMet q.names z) (sym (take_take k count facts (omega arith))) r.met;
              assertions = r.assertions ∙ ap (λ z. length (all_asserted z)) (sym (take_take r.part count facts (omega arith)));
              entries = r.entries ∙ ap (λ z. entry_count (all_asserted z)) (sym (take_take r.part count facts (omega arith)));
              joins = r.joins ∙ ap (λ z. length (all_joined z)) (sym (take_take k count facts (omega arith)));
            }

        first : IsStated (take p.names names) n (take count facts) (take count past)
            (kept_part network (record { vars = n; slots = 3 * n + 1; entries = p.entries; assertions = p.assertions }))
            (kept_part classes (record { vars = n; slots = 0; entries = 0; assertions = p.joins })) fed2
        first = record {
          count = length-take count past ∙ ap (λ k. min count k) inv.count ∙ sym (length-take count facts);
          part = omega (arith, size);
          named = omega (arith, is_n);
          below = below_first;
          met = met_first;
          vars = omega (arith, is_n);
          slots = omega (arith, is_n);
          class_vars = omega (arith, is_n);
          asserted = taken ∙ ap all_asserted (ap (λ k. take k facts) same_part ∙ sym (take_take fed2 count facts v));
          joined = taken_joins;
          clash = clash_first;
          history = history_first;
        }

    -- the facts that are left are read as before
    pub reads_first : (names2 : List Variable) → names2 ≡ take p.names names → (facts2 : List Fact) → facts2 ≡ take count facts
        → (s : Numbered) → record { names = names; facts = facts; used = used } ≡ s → all_said names2 facts2 ≡ take count (all_said s.names s.facts)
    reads_first names2 en facts2 ef s es =
        ap₂ (λ z w. all_said z w) en ef
        ∙ sym (all_said-grow (take p.names names) (drop p.names names) (take count facts) (subst (λ z. Each (IsBelow z) (take count facts)) is_n below_first))
        ∙ ap (λ z. all_said z (take count facts)) (take-append-drop p.names names)
        ∙ sym (take-map (said_of names) count facts)
        ∙ ap (λ (z : Numbered). take count (all_said z.names z.facts)) es

-- NUMBERS

pub HasMoreRoom-refl : (k : Kept) → HasMoreRoom k k
HasMoreRoom-refl k = record { vars = omega arith; slots = omega arith; accepted = refl }

pub HasMoreRoom-trans : (a b c : Kept) → HasMoreRoom a b → HasMoreRoom b c → HasMoreRoom a c
HasMoreRoom-trans a b c h k = record { vars = omega (arith, h.vars, k.vars); slots = omega (arith, h.slots, k.slots); accepted = k.accepted ∙ h.accepted }

pub Keeps-still : (names : List Variable) (facts : List Fact) (used : ℕ) (s : Numbered) (new : List Variable) → record { names = names; facts = facts; used = used } ≡ s → new ≡ names
    → Keeps s (record { names = new; facts = facts; used = used })
Keeps-still names facts used s new e same = Keeps-same s (record { names = new; facts = facts; used = used }) (ap (λ z. record { names = z; facts = facts; used = used }) same ∙ e)

pub Keeps-numbered : (names : List Variable) (facts : List Fact) (used : ℕ) (s : Numbered) (new : List Variable) (x : Variable) → record { names = names; facts = facts; used = used } ≡ s
    → used ≤ length names → Each (IsBelow used) facts → GoesOn names new x → Keeps s (record { names = new; facts = facts; used = used })
Keeps-numbered names facts used s new x e within below goes =
    subst (λ z. Keeps z (record { names = new; facts = facts; used = used })) e
    (Keeps-goes_on names facts used new x (Each-weaker (IsBelow used) (IsBelow (length names)) (IsBelow-up used (length names) within) facts below) goes)

-- a new number is that of the variable
pub number_is_fresh : (s : Numbered) (names new : List Variable) (facts : List Fact) (used : ℕ) (x : Variable) (n : ℕ) → record { names = names; facts = facts; used = used } ≡ s
    → GoesOn names new x → NoneTwice new → slice_get new n ≡ Some x → IsFresh s (record { names = new; facts = facts; used = used }) (n ∷ [])
number_is_fresh s names new facts used x n e (inl g) once at i h k =
    let p : length names ≡ length s.names = ap (λ (z : Numbered). length z.names) e in
    let q : length new ≡ length names = ap length g in
    absurd (omega arith)
number_is_fresh s names new facts used x n e (inr g) once at i h k =
    let p : length names ≡ length s.names = ap (λ (z : Numbered). length z.names) e in
    let q : length new ≡ length names + 1 = ap length g ∙ length_push names x in
    let r : slice_get new (length names) ≡ Some x = subst (λ z. slice_get z (length names) ≡ Some x) (sym g) (slice_get_push names x) in
    let t : n ≡ length names = one_place new n (length names) x once at r in
    inl (omega arith)

-- a number is below the count, whose slots there are
pub number_small : (n count slots : ℕ) → n < count → 3 * count + 1 ≤ slots → slots < 2 ^ 32 → 3 * n + 3 < 2 ^ 32
number_small n count slots h k l = omega arith

pub GoesOn-count : (old new : List Variable) (x : Variable) → GoesOn old new x → length new ≤ length old + 1
GoesOn-count old new x (inl e) = let p : length new ≡ length old = ap length e in omega arith
GoesOn-count old new x (inr e) = let p : length new ≡ length old + 1 = ap length e ∙ length_push old x in omega arith

-- STATING

pub on_is_true : (b : Bool) (P : Type 0) → b ≡ true → OnTrue b P → P
on_is_true true P e h = h
on_is_true false P e h = absurd (false≢true e)

pub on_is_false : (b : Bool) (P : Type 0) → b ≡ false → OnFalse b P → P
on_is_false false P e h = h
on_is_false true P e h = absurd (false≢true (sym e))

module _ (names : List Variable) (used : ℕ) (facts : List Fact) (past : List Past) (network classes : Kept) (fed : ℕ) (inv : IsStated names used facts past network classes fed)
    (s : Numbered) (view_is : record { names = names; facts = facts; used = used } ≡ s) (f : Fact) (h : IsBelow (length s.names) f)
    (fresh : (i : ℕ) → s.used ≤ i → i < length s.names → IsAmong (variables_in f) i) where
  below_here : IsBelow (length names) f
  below_here = subst (λ (z : Numbered). IsBelow (length z.names) f) (sym view_is) h

  fresh_here : (i : ℕ) → used ≤ i → i < length names → IsAmong (variables_in f) i
  fresh_here = subst (λ (z : Numbered). (i : ℕ) → z.used ≤ i → i < length z.names → IsAmong (variables_in f) i) (sym view_is) fresh

  pub fact_mentions : (g : Fact) → g ≡ f → MentionsAll network.vars network.slots (asserted g)
  fact_mentions g e = subst (λ z. MentionsAll network.vars network.slots (asserted z)) (sym e) (asserted-mentions (length names) network.vars network.slots inv.vars inv.slots f below_here)

  pub fact_class_mentions : (g : Fact) → g ≡ f → MentionsAll classes.vars classes.slots (joined_by g)
  fact_class_mentions g e = subst (λ z. MentionsAll classes.vars classes.slots (joined_by z)) (sym e) (joined_by-mentions (length names) classes.vars classes.slots inv.class_vars f below_here)

  module _ (g : Fact) (is_f : g ≡ f) (p : Past) (at_names : p.names ≡ used) (at_assertions : p.assertions ≡ length network.accepted) (at_entries : p.entries ≡ entry_count network.accepted) (at_joins : p.joins ≡ length classes.accepted)
      (used2 : ℕ) (is_used : used2 ≡ length names) (facts2 : List Fact) (are_facts : facts2 ≡ facts ++ f ∷ []) (past2 : List Past) (are_past : past2 ≡ past ++ p ∷ [])
      (network2 classes2 : Kept) (joins : classes2 ≡ record classes { accepted = classes.accepted ++ joined_by g }) where
    joins_here : classes2 ≡ record classes { accepted = classes.accepted ++ joined_by f }
    joins_here = joins ∙ ap (λ z. record classes { accepted = classes.accepted ++ joined_by z }) is_f

    moved : (n : ℕ) → IsStated names (length names) (facts ++ f ∷ []) (past ++ p ∷ []) network2 classes2 n → IsStated names used2 facts2 past2 network2 classes2 n
    moved n i =
        subst (λ z. IsStated names z facts2 past2 network2 classes2 n) (sym is_used)
        (subst (λ z. IsStated names (length names) z past2 network2 classes2 n) (sym are_facts)
        (subst (λ z. IsStated names (length names) (facts ++ f ∷ []) z network2 classes2 n) (sym are_past) i))

    pub stated_fed : network2 ≡ record network { accepted = network.accepted ++ asserted g } → fed ≡ length facts → IsStated names used2 facts2 past2 network2 classes2 (fed + 1)
    stated_fed e all =
        moved (fed + 1)
        (IsStated-fed names used facts past network classes fed inv f below_here fresh_here p at_names at_assertions at_entries at_joins classes2 joins_here network2
        (e ∙ ap (λ z. record network { accepted = network.accepted ++ asserted z }) is_f) all (fed + 1) refl)

    pub stated_refused : network2 ≡ network → (fed ≡ length facts → Agrees (network_of (network.accepted ++ asserted g)) → ⊥) → IsStated names used2 facts2 past2 network2 classes2 fed
    stated_refused e never =
        moved fed
        (IsStated-refused names used facts past network classes fed inv f below_here fresh_here p at_names at_assertions at_entries at_joins classes2 joins_here network2 e
        (λ all agrees. never all (subst (λ z. Agrees (network_of (network.accepted ++ asserted z))) (sym is_f) agrees)))
