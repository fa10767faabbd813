-- Numbers of variables: what is read stays when more variables get a number, and a variable has one number.
use Rattle.std.specs.Prelude.{◌≡◌, ℕ, zero, suc, ◌+◌, ◌*◌, ◌/◌, ◌%◌, ◌<◌, ◌≤◌, List, [], ◌∷◌, ◌++◌, map, length, take, get_or, min, Bool, true, false, ◌&&◌, nat_eq, if◌then◌else◌, Some, slice_get, ◌⊎◌, refl}
use Rattle.std.specs.Bool.{Decides}
use Rattle.std.proofs.Common.{inl, inr, ap, ap₂, sym, ◌∙◌, subst, append_assoc, arith, eq-eqb}
use Rattle.std.proofs.Math.ListN.{get_or-append}
use Rattle.std.proofs.lemmas.Bool.{eqb-true, false≢true, and_from, and_parts}
use Rattle.std.proofs.lemmas.List.{append-nil}
use Rattle.gr_base.specs.Lists.{IsAmong, Each, NoneTwice}
use Rattle.gr_base.proofs.ListLemmas.{IsAmong-get_or, Each-weaker}
use Rattle.gr_terms.specs.declared.Term.{Term}
use Rattle.gr_terms.specs.declared.Term.TheVariants.{Const, Var}
use Rattle.gr_terms.specs.declared.Literal.{Literal}
use Rattle.gr_terms.specs.Networks as net
use Rattle.gr_terms.specs.Networks.{put_term}
use Rattle.gr_terms.specs.Canonical as canonical
use Rattle.gr_terms.specs.Views.{term_of}
use Rattle.td_desc.specs.declared.Dominance.{Dominance}
use Rattle.td_desc.specs.Conditions.{IsTermBelow, SaysOf}
use Rattle.mg_facts.specs.declared.variable.Variable.{Variable}
use Rattle.mg_facts.specs.declared.variable.Local.{Local}
use Rattle.mg_facts.specs.declared.variable.Local.TheVariants.{Name, Dotted, Own}
use Rattle.mg_facts.specs.declared.fact.Fact.{Fact}
use Rattle.mg_facts.specs.declared.fact.Fact.TheVariants as fact
use Rattle.mg_facts.specs.Said.{Said, block, related, one_node, identified, is_name, coloured, paired, says, own_of, top_of, bottom_of, Slot}
use Rattle.mg_facts.specs.Numbered.{Numbered, Keeps, GoesOn, anyone, slot_number, named, named_term, named_slot, read_term, said_of, all_said, IsBelow}
use Rattle.mg_facts.proofs.GatheredLemmas.{le_or}

-- NUMBERS OF SLOTS

third_below : (k n : ℕ) → suc k < 3 * n + 1 → k / 3 < n
third_below k n h = omega arith

module _ (names : List Variable) where
  pub named_slot-own : (x : ℕ) → named_slot names (3 * x + 1) ≡ own_of (named names x)
  named_slot-own x =
      let e : 3 * x + 1 ≡ suc (3 * x) = omega arith in
      let m : (3 * x) % 3 ≡ 0 = omega arith in
      let d : (3 * x) / 3 ≡ x = omega arith in
      ap (named_slot names) e ∙ ap₂ (λ k i. slot_number k (named names i)) m d

  pub named_slot-top : (x : ℕ) → named_slot names (3 * x + 2) ≡ top_of (named names x)
  named_slot-top x =
      let e : 3 * x + 2 ≡ suc (3 * x + 1) = omega arith in
      let m : (3 * x + 1) % 3 ≡ 1 = omega arith in
      let d : (3 * x + 1) / 3 ≡ x = omega arith in
      ap (named_slot names) e ∙ ap₂ (λ k i. slot_number k (named names i)) m d

  pub named_slot-bottom : (x : ℕ) → named_slot names (3 * x + 3) ≡ bottom_of (named names x)
  named_slot-bottom x =
      let e : 3 * x + 3 ≡ suc (3 * x + 2) = omega arith in
      let m : (3 * x + 2) % 3 ≡ 2 = omega arith in
      let d : (3 * x + 2) / 3 ≡ x = omega arith in
      ap (named_slot names) e ∙ ap₂ (λ k i. slot_number k (named names i)) m d

-- MORE VARIABLES

literal-same : (h k p q : net.Term Variable) (a b : List (net.Term Variable)) → h ≡ k → p ≡ q → a ≡ b
    → says (record { handle = h; pred = p; args = a }) ≡ says (record { handle = k; pred = q; args = b })
literal-same h k p q a b e f g = ap₂ (λ x y. says (record { handle = x; pred = y; args = a })) e f ∙ ap (λ z. says (record { handle = k; pred = q; args = z })) g

module _ (names more : List Variable) where
  pub named-grow : (i : ℕ) → i < length names → named (names ++ more) i ≡ named names i
  named-grow i h = get_or-append names more anyone i h

  pub term-grow : (t : Term) → IsTermBelow (length names) t → read_term (names ++ more) t ≡ read_term names t
  term-grow (Const a) h = refl
  term-grow (Var x) h = ap net.variable (named-grow x h)

  pub slot-grow : (s : ℕ) → s < 3 * length names + 1 → named_slot (names ++ more) s ≡ named_slot names s
  slot-grow zero h = refl
  slot-grow (suc k) h = ap (slot_number (k % 3)) (named-grow (k / 3) (third_below k (length names) h))

  pub terms-grow : (ts : List Term) → Each (IsTermBelow (length names)) ts → map (put_term (named_term (names ++ more))) (map term_of ts) ≡ map (put_term (named_term names)) (map term_of ts)
  terms-grow [] h = refl
  terms-grow (t ∷ ts) h = ap₂ (λ a b. a ∷ b) (term-grow t h.0) (terms-grow ts h.1)

  pub said-grow : (f : Fact) → IsBelow (length names) f → said_of (names ++ more) f ≡ said_of names f
  said-grow (fact.Block x) h = ap block (named-grow x h)
  said-grow (fact.Related x how y) h = ap₂ (λ a b. related a how b) (named-grow x h.0) (named-grow y h.1)
  said-grow (fact.OneNode x y) h = ap₂ one_node (named-grow x h.0) (named-grow y h.1)
  said-grow (fact.Identified x y) h = ap₂ identified (named-grow x h.0) (named-grow y h.1)
  said-grow (fact.IsName x a) h = ap (λ v. is_name v a.0) (named-grow x h)
  said-grow (fact.Coloured x c) h = ap (λ v. coloured v c) (named-grow x h)
  said-grow (fact.Paired s a t) h = ap₂ (λ p v. paired p a.0 v) (slot-grow s.0 h.0) (term-grow t h.1)
  said-grow (fact.Says l) h = literal-same _ _ _ _ _ _ (term-grow l.handle h.0) (term-grow l.pred h.1) (terms-grow l.args h.2)

  pub all_said-grow : (facts : List Fact) → Each (IsBelow (length names)) facts → all_said (names ++ more) facts ≡ all_said names facts
  all_said-grow [] h = refl
  all_said-grow (f ∷ fs) h = ap₂ (λ a b. a ∷ b) (said-grow f h.0) (all_said-grow fs h.1)

pub Keeps-refl : (s : Numbered) → Keeps s s
Keeps-refl s = record { more = []; names = sym (append-nil s.names); facts = refl; used = refl; reads = refl }

pub Keeps-same : (s t : Numbered) → t ≡ s → Keeps s t
Keeps-same s t e = subst (λ z. Keeps s z) (sym e) (Keeps-refl s)

pub Keeps-trans : (a b c : Numbered) → Keeps a b → Keeps b c → Keeps a c
Keeps-trans a b c h k = record {
  more = h.more ++ k.more;
  names = k.names ∙ ap (λ z. z ++ k.more) h.names ∙ append_assoc a.names h.more k.more;
  facts = k.facts ∙ h.facts;
  used = k.used ∙ h.used;
  reads = k.reads ∙ h.reads;
}

pub Keeps-goes_on : (names : List Variable) (facts : List Fact) (used : ℕ) (new : List Variable) (x : Variable) → Each (IsBelow (length names)) facts → GoesOn names new x
    → Keeps (record { names = names; facts = facts; used = used }) (record { names = new; facts = facts; used = used })
Keeps-goes_on names facts used new x below (inl e) = Keeps-same _ _ (ap (λ z. record { names = z; facts = facts; used = used }) e)
Keeps-goes_on names facts used new x below (inr e) = record {
  more = x ∷ [];
  names = e;
  facts = refl;
  used = refl;
  reads = ap (λ z. all_said z facts) e ∙ all_said-grow names (x ∷ []) facts below;
}

-- BOUNDS

pub IsTermBelow-up : (n m : ℕ) → n ≤ m → (t : Term) → IsTermBelow n t → IsTermBelow m t
IsTermBelow-up n m up (Const a) h = tt
IsTermBelow-up n m up (Var x) h = omega arith

pub IsBelow-up : (n m : ℕ) → n ≤ m → (f : Fact) → IsBelow n f → IsBelow m f
IsBelow-up n m up (fact.Block x) h = omega arith
IsBelow-up n m up (fact.Related x how y) h = (omega arith, omega arith)
IsBelow-up n m up (fact.OneNode x y) h = (omega arith, omega arith)
IsBelow-up n m up (fact.Identified x y) h = (omega arith, omega arith)
IsBelow-up n m up (fact.IsName x a) h = omega arith
IsBelow-up n m up (fact.Coloured x c) h = omega arith
IsBelow-up n m up (fact.Paired s a t) h = (omega arith, IsTermBelow-up n m up t h.1)
IsBelow-up n m up (fact.Says l) h = (IsTermBelow-up n m up l.handle h.0, IsTermBelow-up n m up l.pred h.1, Each-weaker (IsTermBelow n) (IsTermBelow m) (IsTermBelow-up n m up) l.args h.2)

-- below both numbers, below the less
pub IsBelow-min : (n m k : ℕ) → k ≡ min n m → (f : Fact) → IsBelow n f → IsBelow m f → IsBelow k f
IsBelow-min n m k e f h i =
    elim (le_or n m) [
      | inl l ↦ let p : n ≡ k = omega arith in subst (λ z. IsBelow z f) p h
      | inr l ↦ let p : m ≡ k = omega arith in subst (λ z. IsBelow z f) p i
    ]

-- ONE NUMBER FOR EACH VARIABLE

abbrev pub local_eq : Local → Local → Bool
local_eq (Name a) (Name b) = nat_eq a b
local_eq (Name a) (Dotted c d) = false
local_eq (Name a) Own = false
local_eq (Dotted a b) (Name c) = false
local_eq (Dotted a b) (Dotted c d) = nat_eq a c && nat_eq b d
local_eq (Dotted a b) Own = false
local_eq Own (Name a) = false
local_eq Own (Dotted a b) = false
local_eq Own Own = true

abbrev pub variable_eq : Variable → Variable → Bool
variable_eq x y = nat_eq x.at y.at && local_eq x.local y.local

-- the number of a variable
abbrev pub number_of : List Variable → Variable → ℕ
number_of [] x = 0
number_of (y ∷ ys) x = if variable_eq x y then 0 else suc (number_of ys x)

local_eq-same : (a : Local) → local_eq a a ≡ true
local_eq-same (Name a) = eq-eqb a a refl
local_eq-same (Dotted a b) = and_from (nat_eq a a) (nat_eq b b) (eq-eqb a a refl) (eq-eqb b b refl)
local_eq-same Own = refl

pub variable_eq-same : (x : Variable) → variable_eq x x ≡ true
variable_eq-same x = and_from (nat_eq x.at x.at) (local_eq x.local x.local) (eq-eqb x.at x.at refl) (local_eq-same x.local)

local_eq-true : (a b : Local) → local_eq a b ≡ true → a ≡ b
local_eq-true (Name a) (Name b) h = ap Name (eqb-true a b h)
local_eq-true (Name a) (Dotted c d) h = absurd (false≢true h)
local_eq-true (Name a) Own h = absurd (false≢true h)
local_eq-true (Dotted a b) (Name c) h = absurd (false≢true h)
local_eq-true (Dotted a b) (Dotted c d) h = let r = and_parts (nat_eq a c) (nat_eq b d) h in ap₂ Dotted (eqb-true a c r.0) (eqb-true b d r.1)
local_eq-true (Dotted a b) Own h = absurd (false≢true h)
local_eq-true Own (Name a) h = absurd (false≢true h)
local_eq-true Own (Dotted a b) h = absurd (false≢true h)
local_eq-true Own Own h = refl

pub variable_eq-true : (x y : Variable) → variable_eq x y ≡ true → x ≡ y
variable_eq-true x y h =
    let r = and_parts (nat_eq x.at y.at) (local_eq x.local y.local) h in
    ap₂ (λ a l. record { at = a; local = l }) (eqb-true x.at y.at r.0) (local_eq-true x.local y.local r.1)

variable_eq-false : (x y : Variable) → (x ≡ y → ⊥) → variable_eq x y ≡ false
variable_eq-false x y apart = by (variable_eq x y) refl
  where
    by : (b : Bool) → variable_eq x y ≡ b → b ≡ false
    by true e = absurd (apart (variable_eq-true x y e))
    by false e = refl

pub number_of-named : (names : List Variable) → NoneTwice names → (i : ℕ) → i < length names → number_of names (named names i) ≡ i
number_of-named [] once i h = absurd (omega arith)
number_of-named (y ∷ ys) once zero h = ap (λ b. if b then 0 else suc (number_of ys y)) (variable_eq-same y)
number_of-named (y ∷ ys) once (suc i) h =
    let x = named ys i in
    let l : i < length ys = omega arith in
    let apart : x ≡ y → ⊥ = λ e. once.0 (subst (λ z. IsAmong ys z) e (IsAmong-get_or ys i anyone l)) in
    ap (λ b. if b then 0 else suc (number_of ys x)) (variable_eq-false x y apart) ∙ ap (λ n. suc n) (number_of-named ys once.1 i l)

-- two numbers of one variable are one
pub one_number : (names : List Variable) → NoneTwice names → (i j : ℕ) → i < length names → j < length names → named names i ≡ named names j → i ≡ j
one_number names once i j h k e = sym (number_of-named names once i h) ∙ ap (number_of names) e ∙ number_of-named names once j k
