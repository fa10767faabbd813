-- What facts in numbers give stands for what is said: standing variables, colours, values, relations and literals.
use Rattle.std.specs.Prelude.{◌≡◌, ℕ, zero, suc, ◌+◌, ◌*◌, ◌/◌, ◌%◌, ◌<◌, ◌≤◌, List, [], ◌∷◌, ◌++◌, map, length, refl}
use Rattle.std.proofs.Common.{inl, inr, ap, ap₂, sym, ◌∙◌, subst, arith}
use Rattle.std.proofs.lemmas.List.{map-append, append-nil}
use Rattle.std.proofs.lemmas.Option.{get_or_from_slice_get, slice_get_within}
use Rattle.gr_base.specs.Lists.{IsAmong, IsWithin, Each, gathered}
use Rattle.gr_base.proofs.ListLemmas.{Each-at, IsAmong-map, IsAmong-map_from, IsAmong-append, IsAmong-append_left, IsAmong-append_right, slice_get-IsAmong, Each-weaker}
use Rattle.gr_base.proofs.Gathering.{gathered-read}
use Rattle.gr_terms.specs.declared.Term as code_term
use Rattle.gr_terms.specs.declared.Term.TheVariants.{Const, Var}
use Rattle.gr_terms.specs.declared.Literal as code_literal
use Rattle.gr_terms.specs.Networks.{Term, name, variable, put_term}
use Rattle.gr_terms.specs.Canonical.{Literal, literal_terms, map_literal}
use Rattle.gr_terms.specs.Views.{term_of}
use Rattle.gr_terms.specs.LiteralViews as views
use Rattle.td_desc.specs.declared.Colour.{Colour}
use Rattle.td_desc.specs.declared.Dominance.{Dominance}
use Rattle.td_desc.specs.Conditions.{IsTermBelow, SaysOf}
use Rattle.mg_facts.specs.declared.variable.Variable.{Variable}
use Rattle.mg_facts.specs.declared.fact.Fact.{Fact}
use Rattle.mg_facts.specs.declared.fact.Fact.TheVariants as fact
use Rattle.mg_facts.specs.Said.{Said, block, related, one_node, identified, is_name, coloured, paired, says}
use Rattle.mg_facts.specs.Meanings.{stands, standing, IsValueIn, relation_of, literal_of, term_names, names_in, slot_variables, term_variables, variables_said, names_of, assertion_names, literal_names}
use Rattle.mg_facts.specs.Numbered.{anyone, named, named_term, named_slot, slot_number, slot_variable, variables_in, AreMet, read_term, said_of, all_said, IsBelow, asserted, all_asserted, stand_in, variable_in, terms_in, values_in, colours_in, relations_in, literals_in}
use Rattle.mg_facts.proofs.GatheredLemmas.{Each-gathered, IsAmong-gathered, IsAmong-gathered_from}

-- BOUNDS

terms_below : (n : ℕ) (ts : List code_term.Term) → Each (IsTermBelow n) ts → Each (λ x. x < n) (gathered variable_in ts)
terms_below n [] h = tt
terms_below n (Const a ∷ ts) h = terms_below n ts h.1
terms_below n (Var x ∷ ts) h = (h.0, terms_below n ts h.1)

term_below : (n : ℕ) (t : code_term.Term) → IsTermBelow n t → Each (λ x. x < n) (variable_in t)
term_below n (Const a) h = tt
term_below n (Var x) h = (h, tt)

stand_below : (n : ℕ) (f : Fact) → IsBelow n f → Each (λ x. x < n) (stand_in f)
stand_below n (fact.Block x) h = (h, tt)
stand_below n (fact.Related x how y) h = (h.0, (h.1, tt))
stand_below n (fact.OneNode x y) h = (h.0, (h.1, tt))
stand_below n (fact.Identified x y) h = tt
stand_below n (fact.IsName x a) h = tt
stand_below n (fact.Coloured x c) h = tt
stand_below n (fact.Paired s a t) h = tt
stand_below n (fact.Says l) h = tt

value_below : (n : ℕ) (f : Fact) → IsBelow n f → Each (λ x. x < n) (values_in f)
value_below n (fact.Block x) h = tt
value_below n (fact.Related x how y) h = tt
value_below n (fact.OneNode x y) h = tt
value_below n (fact.Identified x y) h = tt
value_below n (fact.IsName x a) h = (h, tt)
value_below n (fact.Coloured x c) h = tt
value_below n (fact.Paired s a t) h = term_below n t h.1
value_below n (fact.Says l) h = terms_below n (l.handle ∷ l.pred ∷ l.args) (h.0, (h.1, h.2))

pub colour_below : (n : ℕ) (f : Fact) → IsBelow n f → Each (λ (p : ℕ × Colour). p.0 < n) (colours_in f)
colour_below n (fact.Block x) h = tt
colour_below n (fact.Related x how y) h = tt
colour_below n (fact.OneNode x y) h = tt
colour_below n (fact.Identified x y) h = tt
colour_below n (fact.IsName x a) h = tt
colour_below n (fact.Coloured x c) h = (h, tt)
colour_below n (fact.Paired s a t) h = tt
colour_below n (fact.Says l) h = tt

literal_below : (n : ℕ) (f : Fact) → IsBelow n f → Each (SaysOf n) (literals_in f)
literal_below n (fact.Block x) h = tt
literal_below n (fact.Related x how y) h = tt
literal_below n (fact.OneNode x y) h = tt
literal_below n (fact.Identified x y) h = tt
literal_below n (fact.IsName x a) h = tt
literal_below n (fact.Coloured x c) h = tt
literal_below n (fact.Paired s a t) h = tt
literal_below n (fact.Says l) h = (h, tt)

-- the ends of a relation stand as nodes
abbrev AreStanding : List ℕ → ℕ × Dominance × ℕ → Type 0
AreStanding xs r = IsAmong xs r.0 × IsAmong xs r.2

related_stand : (f : Fact) → Each (AreStanding (stand_in f)) (relations_in f)
related_stand (fact.Block x) = tt
related_stand (fact.Related x how y) = ((inl refl, inr (inl refl)), tt)
related_stand (fact.OneNode x y) = tt
related_stand (fact.Identified x y) = tt
related_stand (fact.IsName x a) = tt
related_stand (fact.Coloured x c) = tt
related_stand (fact.Paired s a t) = tt
related_stand (fact.Says l) = tt

pub relations_stand : (facts : List Fact) (r : ℕ × Dominance × ℕ) → IsAmong (gathered relations_in facts) r → IsAmong (gathered stand_in facts) r.0 × IsAmong (gathered stand_in facts) r.2
relations_stand facts r i =
    let q = IsAmong-gathered_from relations_in facts r i in
    let e = Each-at (AreStanding (stand_in q.0)) (relations_in q.0) r (related_stand q.0) q.2 in
    (IsAmong-gathered stand_in facts q.0 r.0 q.1 e.0, IsAmong-gathered stand_in facts q.0 r.2 q.1 e.1)

module _ (n : ℕ) (facts : List Fact) (below : Each (IsBelow n) facts) where
  pub standing_below : Each (λ x. x < n) (gathered stand_in facts)
  standing_below = Each-gathered stand_in (λ x. x < n) facts (Each-weaker (IsBelow n) (λ f. Each (λ x. x < n) (stand_in f)) (stand_below n) facts below)

  pub values_below : Each (λ x. x < n) (gathered values_in facts)
  values_below = Each-gathered values_in (λ x. x < n) facts (Each-weaker (IsBelow n) (λ f. Each (λ x. x < n) (values_in f)) (value_below n) facts below)

  pub colours_below : Each (λ (p : ℕ × Colour). p.0 < n) (gathered colours_in facts)
  colours_below = Each-gathered colours_in (λ (p : ℕ × Colour). p.0 < n) facts (Each-weaker (IsBelow n) (λ f. Each (λ (p : ℕ × Colour). p.0 < n) (colours_in f)) (colour_below n) facts below)

  pub literals_below : Each (SaysOf n) (gathered literals_in facts)
  literals_below = Each-gathered literals_in (SaysOf n) facts (Each-weaker (IsBelow n) (λ f. Each (SaysOf n) (literals_in f)) (literal_below n) facts below)

-- WHAT IS SAID

abbrev colours_of : Said → List (Variable × Colour)
colours_of (block x) = []
colours_of (related x how y) = []
colours_of (one_node x y) = []
colours_of (identified x y) = []
colours_of (is_name x a) = []
colours_of (coloured x c) = (x, c) ∷ []
colours_of (paired s a t) = []
colours_of (says l) = []

abbrev variable_of : Term Variable → List Variable
variable_of (name a) = []
variable_of (variable x) = x ∷ []

abbrev values_of : Said → List Variable
values_of (block x) = []
values_of (related x how y) = []
values_of (one_node x y) = []
values_of (identified x y) = []
values_of (is_name x a) = x ∷ []
values_of (coloured x c) = []
values_of (paired s a t) = variable_of t
values_of (says l) = gathered variable_of (literal_terms l)

variable_is : (t : Term Variable) (y : Variable) → IsAmong (variable_of t) y → variable y ≡ t
variable_is (name a) y i = absurd i
variable_is (variable x) y (inl e) = ap variable e
variable_is (variable x) y (inr i) = absurd i

is_variable : (t : Term Variable) (y : Variable) → t ≡ variable y → IsAmong (variable_of t) y
is_variable t y e = subst (λ z. IsAmong (variable_of z) y) (sym e) (inl refl)

value_to : (s : Said) (y : Variable) → IsValueIn s y → IsAmong (values_of s) y
value_to (block x) y h = absurd h
value_to (related x how z) y h = absurd h
value_to (one_node x z) y h = absurd h
value_to (identified x z) y h = absurd h
value_to (is_name x a) y h = inl h
value_to (coloured x c) y h = absurd h
value_to (paired s a t) y h = is_variable t y h
value_to (says l) y h = IsAmong-gathered variable_of (literal_terms l) (variable y) y h (inl refl)

value_from : (s : Said) (y : Variable) → IsAmong (values_of s) y → IsValueIn s y
value_from (block x) y i = i
value_from (related x how z) y i = i
value_from (one_node x z) y i = i
value_from (identified x z) y i = i
value_from (is_name x a) y (inl e) = e
value_from (is_name x a) y (inr i) = absurd i
value_from (coloured x c) y i = i
value_from (paired s a t) y i = sym (variable_is t y i)
value_from (says l) y i =
    let r = IsAmong-gathered_from variable_of (literal_terms l) y i in
    subst (λ z. IsAmong (literal_terms l) z) (sym (variable_is r.0 y r.2)) r.1

module _ (names : List Variable) where
  abbrev painted : ℕ × Colour → Variable × Colour
  painted p = (named names p.0, p.1)

  abbrev pub spoken : ℕ × Dominance × ℕ → Variable × Dominance × Variable
  spoken r = (named names r.0, r.1, named names r.2)

  abbrev pub spoken_literal : code_literal.Literal → Literal (Term Variable)
  spoken_literal l = map_literal (put_term (named_term names)) (views.literal_of l)

  stands-read : (f : Fact) → stands (said_of names f) ≡ map (named names) (stand_in f)
  stands-read (fact.Block x) = refl
  stands-read (fact.Related x how y) = refl
  stands-read (fact.OneNode x y) = refl
  stands-read (fact.Identified x y) = refl
  stands-read (fact.IsName x a) = refl
  stands-read (fact.Coloured x c) = refl
  stands-read (fact.Paired s a t) = refl
  stands-read (fact.Says l) = refl

  colours-read : (f : Fact) → colours_of (said_of names f) ≡ map painted (colours_in f)
  colours-read (fact.Block x) = refl
  colours-read (fact.Related x how y) = refl
  colours-read (fact.OneNode x y) = refl
  colours-read (fact.Identified x y) = refl
  colours-read (fact.IsName x a) = refl
  colours-read (fact.Coloured x c) = refl
  colours-read (fact.Paired s a t) = refl
  colours-read (fact.Says l) = refl

  term-values : (t : code_term.Term) → variable_of (read_term names t) ≡ map (named names) (variable_in t)
  term-values (Const a) = refl
  term-values (Var x) = refl

  terms-values : (ts : List code_term.Term) → gathered variable_of (map (put_term (named_term names)) (map term_of ts)) ≡ map (named names) (gathered variable_in ts)
  terms-values [] = refl
  terms-values (t ∷ ts) = ap₂ (λ a b. a ++ b) (term-values t) (terms-values ts) ∙ sym (map-append (named names) (variable_in t) (gathered variable_in ts))

  values-read : (f : Fact) → values_of (said_of names f) ≡ map (named names) (values_in f)
  values-read (fact.Block x) = refl
  values-read (fact.Related x how y) = refl
  values-read (fact.OneNode x y) = refl
  values-read (fact.Identified x y) = refl
  values-read (fact.IsName x a) = refl
  values-read (fact.Coloured x c) = refl
  values-read (fact.Paired s a t) = term-values t
  values-read (fact.Says l) = terms-values (terms_in l)

  relations-read : (f : Fact) → relation_of (said_of names f) ≡ map spoken (relations_in f)
  relations-read (fact.Block x) = refl
  relations-read (fact.Related x how y) = refl
  relations-read (fact.OneNode x y) = refl
  relations-read (fact.Identified x y) = refl
  relations-read (fact.IsName x a) = refl
  relations-read (fact.Coloured x c) = refl
  relations-read (fact.Paired s a t) = refl
  relations-read (fact.Says l) = refl

  literals-read : (f : Fact) → literal_of (said_of names f) ≡ map spoken_literal (literals_in f)
  literals-read (fact.Block x) = refl
  literals-read (fact.Related x how y) = refl
  literals-read (fact.OneNode x y) = refl
  literals-read (fact.Identified x y) = refl
  literals-read (fact.IsName x a) = refl
  literals-read (fact.Coloured x c) = refl
  literals-read (fact.Paired s a t) = refl
  literals-read (fact.Says l) = refl

  module _ (facts : List Fact) where
    pub standing-said : standing (all_said names facts) ≡ map (named names) (gathered stand_in facts)
    standing-said = gathered-read (said_of names) stands stand_in (named names) stands-read facts

    pub relations-said : gathered relation_of (all_said names facts) ≡ map spoken (gathered relations_in facts)
    relations-said = gathered-read (said_of names) relation_of relations_in spoken relations-read facts

    pub literals-said : gathered literal_of (all_said names facts) ≡ map spoken_literal (gathered literals_in facts)
    literals-said = gathered-read (said_of names) literal_of literals_in spoken_literal literals-read facts

    colours-said : gathered colours_of (all_said names facts) ≡ map painted (gathered colours_in facts)
    colours-said = gathered-read (said_of names) colours_of colours_in painted colours-read facts

    values-said : gathered values_of (all_said names facts) ≡ map (named names) (gathered values_in facts)
    values-said = gathered-read (said_of names) values_of values_in (named names) values-read facts

    -- a colour that is said has a number
    pub colour_to : (y : Variable) (c : Colour) → IsAmong (all_said names facts) (coloured y c) → (x : ℕ) × IsAmong (gathered colours_in facts) (x, c) × (y ≡ named names x)
    colour_to y c i =
        let j : IsAmong (map painted (gathered colours_in facts)) (y, c) = subst (λ z. IsAmong z (y, c)) colours-said (IsAmong-gathered colours_of (all_said names facts) (coloured y c) (y, c) i (inl refl)) in
        let r = IsAmong-map_from painted (gathered colours_in facts) (y, c) j in
        let e : c ≡ r.0.1 = ap (λ (p : Variable × Colour). p.1) r.2 in
        (r.0.0, subst (λ z. IsAmong (gathered colours_in facts) (r.0.0, z)) (sym e) r.1, ap (λ (p : Variable × Colour). p.0) r.2)

    painted_fact : (f : Fact) (x : ℕ) (c : Colour) → IsAmong facts f → IsAmong (colours_in f) (x, c) → IsAmong (all_said names facts) (coloured (named names x) c)
    painted_fact (fact.Block y) x c i j = absurd j
    painted_fact (fact.Related y how z) x c i j = absurd j
    painted_fact (fact.OneNode y z) x c i j = absurd j
    painted_fact (fact.Identified y z) x c i j = absurd j
    painted_fact (fact.IsName y a) x c i j = absurd j
    painted_fact (fact.Coloured y d) x c i (inl e) =
        let p : x ≡ y = ap (λ (p : ℕ × Colour). p.0) e in
        let q : c ≡ d = ap (λ (p : ℕ × Colour). p.1) e in
        subst (λ z. IsAmong (all_said names facts) (coloured (named names z) c)) (sym p)
        (subst (λ z. IsAmong (all_said names facts) (coloured (named names y) z)) (sym q) (IsAmong-map (said_of names) facts (fact.Coloured y d) i))
    painted_fact (fact.Coloured y d) x c i (inr j) = absurd j
    painted_fact (fact.Paired s a t) x c i j = absurd j
    painted_fact (fact.Says l) x c i j = absurd j

    pub colour_from : (x : ℕ) (c : Colour) → IsAmong (gathered colours_in facts) (x, c) → IsAmong (all_said names facts) (coloured (named names x) c)
    colour_from x c i = let r = IsAmong-gathered_from colours_in facts (x, c) i in painted_fact r.0 x c r.1 r.2

    -- a variable that stands as a value has a number
    pub value_number : (s : Said) (y : Variable) → IsAmong (all_said names facts) s → IsValueIn s y → (x : ℕ) × IsAmong (gathered values_in facts) x × (y ≡ named names x)
    value_number s y i h =
        let j : IsAmong (map (named names) (gathered values_in facts)) y = subst (λ z. IsAmong z y) values-said (IsAmong-gathered values_of (all_said names facts) s y i (value_to s y h)) in
        IsAmong-map_from (named names) (gathered values_in facts) y j

    pub number_value : (x : ℕ) → IsAmong (gathered values_in facts) x → (s : Said) × IsAmong (all_said names facts) s × IsValueIn s (named names x)
    number_value x i =
        let j : IsAmong (gathered values_of (all_said names facts)) (named names x) = subst (λ z. IsAmong z (named names x)) (sym values-said) (IsAmong-map (named names) (gathered values_in facts) x i) in
        let r = IsAmong-gathered_from values_of (all_said names facts) (named names x) j in
        (r.0, r.1, value_from r.0 (named names x) r.2)

    pub standing_number : (y : Variable) → IsAmong (standing (all_said names facts)) y → (x : ℕ) × IsAmong (gathered stand_in facts) x × (y ≡ named names x)
    standing_number y i = IsAmong-map_from (named names) (gathered stand_in facts) y (subst (λ z. IsAmong z y) standing-said i)

    pub number_standing : (x : ℕ) → IsAmong (gathered stand_in facts) x → IsAmong (standing (all_said names facts)) (named names x)
    number_standing x i = subst (λ z. IsAmong z (named names x)) (sym standing-said) (IsAmong-map (named names) (gathered stand_in facts) x i)

-- NAMES

term_names-read : (names : List Variable) (t : code_term.Term) → term_names (read_term names t) ≡ names_of t
term_names-read names (Const a) = refl
term_names-read names (Var x) = refl

terms_names-read : (names : List Variable) (ts : List code_term.Term) → gathered term_names (map (put_term (named_term names)) (map term_of ts)) ≡ gathered names_of ts
terms_names-read names [] = refl
terms_names-read names (t ∷ ts) = ap₂ (λ a b. a ++ b) (term_names-read names t) (terms_names-read names ts)

-- the names of what a fact gives to the network and to the literals
abbrev fact_names : Fact → List ℕ
fact_names f = gathered assertion_names (asserted f) ++ gathered literal_names (literals_in f)

fact_names-read : (names : List Variable) (f : Fact) → fact_names f ≡ names_in (said_of names f)
fact_names-read names (fact.Block x) = refl
fact_names-read names (fact.Related x how y) = refl
fact_names-read names (fact.OneNode x y) = refl
fact_names-read names (fact.Identified x y) = refl
fact_names-read names (fact.IsName x a) = refl
fact_names-read names (fact.Coloured x c) = refl
fact_names-read names (fact.Paired s a t) =
    append-nil (gathered assertion_names (asserted (fact.Paired s a t))) ∙ append-nil (a.0 ∷ names_of t) ∙ ap (λ z. a.0 ∷ z) (sym (term_names-read names t))
fact_names-read names (fact.Says l) = append-nil (literal_names l) ∙ sym (terms_names-read names (terms_in l))

name_among : (names : List Variable) (facts : List Fact) (f : Fact) (a : ℕ) → IsAmong facts f → IsAmong (fact_names f) a → IsAmong (gathered names_in (all_said names facts)) a
name_among names facts f a i j =
    IsAmong-gathered names_in (all_said names facts) (said_of names f) a (IsAmong-map (said_of names) facts f i) (subst (λ z. IsAmong z a) (fact_names-read names f) j)

pub names_within : (names : List Variable) (facts : List Fact) → IsWithin (gathered assertion_names (all_asserted facts) ++ gathered literal_names (gathered literals_in facts)) (gathered names_in (all_said names facts))
names_within names facts a i =
    elim (IsAmong-append (gathered assertion_names (all_asserted facts)) (gathered literal_names (gathered literals_in facts)) a i) [
      | inl j ↦
          let r = IsAmong-gathered_from assertion_names (all_asserted facts) a j in
          let q = IsAmong-gathered_from asserted facts r.0 r.1 in
          name_among names facts q.0 a q.1
          (IsAmong-append_left (gathered assertion_names (asserted q.0)) (gathered literal_names (literals_in q.0)) a (IsAmong-gathered assertion_names (asserted q.0) r.0 a q.2 r.2))
      | inr j ↦
          let r = IsAmong-gathered_from literal_names (gathered literals_in facts) a j in
          let q = IsAmong-gathered_from literals_in facts r.0 r.1 in
          name_among names facts q.0 a q.1
          (IsAmong-append_right (gathered assertion_names (asserted q.0)) (gathered literal_names (literals_in q.0)) a (IsAmong-gathered literal_names (literals_in q.0) r.0 a q.2 r.2))
    ]

-- VARIABLES

slot_number-variables : (k : ℕ) (x : Variable) → slot_variables (slot_number k x) ≡ x ∷ []
slot_number-variables zero x = refl
slot_number-variables (suc zero) x = refl
slot_number-variables (suc (suc k)) x = refl

slot_variables-read : (names : List Variable) (s : ℕ) → slot_variables (named_slot names s) ≡ map (named names) (slot_variable s)
slot_variables-read names zero = refl
slot_variables-read names (suc k) = slot_number-variables (k % 3) (named names (k / 3))

term_variables-read : (names : List Variable) (t : code_term.Term) → term_variables (read_term names t) ≡ map (named names) (variable_in t)
term_variables-read names (Const a) = refl
term_variables-read names (Var x) = refl

terms_variables-read : (names : List Variable) (ts : List code_term.Term) → gathered term_variables (map (put_term (named_term names)) (map term_of ts)) ≡ map (named names) (gathered variable_in ts)
terms_variables-read names [] = refl
terms_variables-read names (t ∷ ts) = ap₂ (λ a b. a ++ b) (term_variables-read names t) (terms_variables-read names ts) ∙ sym (map-append (named names) (variable_in t) (gathered variable_in ts))

variables-read : (names : List Variable) (f : Fact) → variables_said (said_of names f) ≡ map (named names) (variables_in f)
variables-read names (fact.Block x) = refl
variables-read names (fact.Related x how y) = refl
variables-read names (fact.OneNode x y) = refl
variables-read names (fact.Identified x y) = refl
variables-read names (fact.IsName x a) = refl
variables-read names (fact.Coloured x c) = refl
variables-read names (fact.Paired s a t) =
    ap₂ (λ a b. a ++ b) (slot_variables-read names s.0) (term_variables-read names t) ∙ sym (map-append (named names) (slot_variable s.0) (variable_in t))
variables-read names (fact.Says l) = terms_variables-read names (terms_in l)

-- each numbered variable is one that the facts have
pub names_said : (names : List Variable) (facts : List Fact) → AreMet (length names) facts → IsWithin names (gathered variables_said (all_said names facts))
names_said names facts met x i =
    let r = slice_get-IsAmong names x i in
    let l : r.0 < length names = slice_get_within names r.0 x r.1 in
    let e : named names r.0 ≡ x = get_or_from_slice_get names r.0 x anyone r.1 in
    subst (λ z. IsAmong z x) (sym (gathered-read (said_of names) variables_said variables_in (named names) (variables-read names) facts))
    (subst (λ z. IsAmong (map (named names) (gathered variables_in facts)) z) e (IsAmong-map (named names) (gathered variables_in facts) r.0 (met r.0 l)))
