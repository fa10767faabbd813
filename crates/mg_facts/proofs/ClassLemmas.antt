-- Classes of numbered variables are those of the variables that are said to be one.
use Rattle.std.specs.Prelude.{◌≡◌, ◌↔◌, ℕ, zero, suc, ◌+◌, ◌*◌, ◌<◌, ◌≤◌, List, [], ◌∷◌, ◌++◌, map, length, get_or, ◌⊎◌, refl}
use Rattle.std.proofs.Common.{inl, inr, ap, ap₂, sym, ◌∙◌, subst, arith}
use Rattle.gr_base.specs.Lists.{IsAmong, Each, NoneTwice, gathered}
use Rattle.gr_base.proofs.ListLemmas.{Each-at, IsAmong-map, IsAmong-map_from, Each-weaker}
use Rattle.gr_base.proofs.Gathering.{map-gathered, gathered-read}
use Rattle.gr_terms.specs.declared.Assertion as code
use Rattle.gr_terms.specs.declared.Assertion.TheVariants.{Entry, Equate, Link}
use Rattle.gr_terms.specs.declared.Term.TheVariants.{Const, Var}
use Rattle.gr_terms.specs.Networks.{Term, name, variable, Assertion, entry, equate, link, AreLinked, equated, shared, same, back, next, Agrees}
use Rattle.gr_terms.specs.Views.{assertion_of, network_of}
use Rattle.mg_facts.specs.declared.variable.Variable.{Variable}
use Rattle.mg_facts.specs.declared.fact.Fact.{Fact}
use Rattle.mg_facts.specs.declared.fact.Fact.TheVariants as fact
use Rattle.mg_facts.specs.Said.{Said, block, related, one_node, identified, is_name, coloured, paired, says}
use Rattle.mg_facts.specs.Meanings.{IsSaidOne, AreIdentified, said_one, itself, backwards, onwards}
use Rattle.mg_facts.specs.Numbered.{named, said_of, all_said, IsBelow, joined_by, all_joined}
use Rattle.mg_facts.specs.Classes.{IsJoin, AreJoins, AreOne, IsRoot, AreRoots, root, InRange}
use Rattle.mg_facts.proofs.GatheredLemmas.{gathered-same, Each-gathered, IsAmong-gathered, IsAmong-gathered_from}
use Rattle.mg_facts.proofs.NumberLemmas.{number_of, number_of-named}

-- JOINS AGREE

-- linked terms where all assertions are equations of variables: the same name, or two variables
abbrev AreVariables : Term ℕ → Term ℕ → Type 0
AreVariables (name a) (name b) = a ≡ b
AreVariables (name a) (variable y) = ⊥
AreVariables (variable x) (name b) = ⊥
AreVariables (variable x) (variable y) = Unit {0}

AreVariables-refl : (x : Term ℕ) → AreVariables x x
AreVariables-refl (name a) = refl
AreVariables-refl (variable x) = tt

AreVariables-sym : (x y : Term ℕ) → AreVariables x y → AreVariables y x
AreVariables-sym (name a) (name b) h = sym h
AreVariables-sym (name a) (variable y) h = h
AreVariables-sym (variable x) (name b) h = h
AreVariables-sym (variable x) (variable y) h = h

AreVariables-trans : (x y z : Term ℕ) → AreVariables x y → AreVariables y z → AreVariables x z
AreVariables-trans (name a) (name b) (name c) h k = h ∙ k
AreVariables-trans (name a) (name b) (variable z) h k = k
AreVariables-trans (name a) (variable y) z h k = absurd h
AreVariables-trans (variable x) (name b) z h k = absurd h
AreVariables-trans (variable x) (variable y) (name c) h k = absurd k
AreVariables-trans (variable x) (variable y) (variable z) h k = tt

two_variables : (x y : Term ℕ) (a b : ℕ) → ◌≡◌ {A = Assertion ℕ ℕ} (equate x y) (equate (variable a) (variable b)) → AreVariables x y
two_variables (name p) y a b e = cc
two_variables (variable p) (name q) a b e = cc
two_variables (variable p) (variable q) a b e = tt

-- what a join is
join-equates : (a : code.Assertion) (x y : Term ℕ) → IsJoin a → equate x y ≡ assertion_of a → AreVariables x y
join-equates (Entry s b t) x y j e = absurd j
join-equates (Equate (Const a) t) x y j e = absurd j
join-equates (Equate (Var a) (Const b)) x y j e = absurd j
join-equates (Equate (Var a) (Var b)) x y j e = two_variables x y a b e
join-equates (Link s t) x y j e = absurd j

join-entry : (a : code.Assertion) (s b : ℕ) (x : Term ℕ) → IsJoin a → entry s b x ≡ assertion_of a → ⊥
join-entry (Entry t c v) s b x j e = j
join-entry (Equate (Const a) t) s b x j e = j
join-entry (Equate (Var a) (Const c)) s b x j e = j
join-entry (Equate (Var a) (Var c)) s b x j e = cc
join-entry (Link t u) s b x j e = j

module _ (list : List code.Assertion) (joins : AreJoins list) where
  joins-link : (x y : Term ℕ) → AreLinked (network_of list) x y → AreVariables x y
  joins-link _ _ (equated x y i) = let r = IsAmong-map_from assertion_of list (equate x y) i in join-equates r.0 x y (Each-at IsJoin list r.0 joins r.1) r.2
  joins-link _ _ (shared s t a x y l i j) = let r = IsAmong-map_from assertion_of list (entry s a x) i in absurd (join-entry r.0 s a x (Each-at IsJoin list r.0 joins r.1) r.2)
  joins-link _ _ (same x) = AreVariables-refl x
  joins-link _ _ (back x y h) = AreVariables-sym x y (joins-link x y h)
  joins-link _ _ (next x y z h k) = AreVariables-trans x y z (joins-link x y h) (joins-link y z k)

  pub joins-agree : Agrees (network_of list)
  joins-agree a b h = joins-link (name a) (name b) h

  pub no_name : (x a : ℕ) → AreLinked (network_of list) (variable x) (name a) → ⊥
  no_name x a h = joins-link (variable x) (name a) h

pub joined_by-joins : (f : Fact) → AreJoins (joined_by f)
joined_by-joins (fact.Block x) = tt
joined_by-joins (fact.Related x how y) = tt
joined_by-joins (fact.OneNode x y) = (tt, tt)
joined_by-joins (fact.Identified x y) = (tt, tt)
joined_by-joins (fact.IsName x a) = tt
joined_by-joins (fact.Coloured x c) = tt
joined_by-joins (fact.Paired s a t) = tt
joined_by-joins (fact.Says l) = tt

each_fact : (P : Fact → Type 0) → ((f : Fact) → P f) → (facts : List Fact) → Each P facts
each_fact P h [] = tt
each_fact P h (f ∷ fs) = (h f, each_fact P h fs)

pub all_joined-joins : (facts : List Fact) → AreJoins (all_joined facts)
all_joined-joins facts = Each-gathered joined_by IsJoin facts (each_fact (λ f. AreJoins (joined_by f)) joined_by-joins facts)

-- PAIRS THAT ARE SAID TO BE ONE

abbrev ones_of : Said → List (Variable × Variable)
ones_of (block x) = []
ones_of (related x how y) = []
ones_of (one_node x y) = (x, y) ∷ []
ones_of (identified x y) = (x, y) ∷ []
ones_of (is_name x a) = []
ones_of (coloured x c) = []
ones_of (paired s a t) = []
ones_of (says l) = []

abbrev ones_in : Fact → List (ℕ × ℕ)
ones_in (fact.Block x) = []
ones_in (fact.Related x how y) = []
ones_in (fact.OneNode x y) = (x, y) ∷ []
ones_in (fact.Identified x y) = (x, y) ∷ []
ones_in (fact.IsName x a) = []
ones_in (fact.Coloured x c) = []
ones_in (fact.Paired s a t) = []
ones_in (fact.Says l) = []

abbrev tie : ℕ × ℕ → Assertion ℕ ℕ
tie p = equate (variable p.0) (variable p.1)

joined_by-ones : (f : Fact) → network_of (joined_by f) ≡ map tie (ones_in f)
joined_by-ones (fact.Block x) = refl
joined_by-ones (fact.Related x how y) = refl
joined_by-ones (fact.OneNode x y) = refl
joined_by-ones (fact.Identified x y) = refl
joined_by-ones (fact.IsName x a) = refl
joined_by-ones (fact.Coloured x c) = refl
joined_by-ones (fact.Paired s a t) = refl
joined_by-ones (fact.Says l) = refl

all_joined-ones : (facts : List Fact) → network_of (all_joined facts) ≡ map tie (gathered ones_in facts)
all_joined-ones facts =
    map-gathered assertion_of joined_by facts ∙ gathered-same (λ f. network_of (joined_by f)) (λ f. map tie (ones_in f)) joined_by-ones facts ∙ sym (map-gathered tie ones_in facts)

ones_below : (n : ℕ) (f : Fact) → IsBelow n f → Each (λ p. (p.0 < n) × (p.1 < n)) (ones_in f)
ones_below n (fact.Block x) h = tt
ones_below n (fact.Related x how y) h = tt
ones_below n (fact.OneNode x y) h = (h, tt)
ones_below n (fact.Identified x y) h = (h, tt)
ones_below n (fact.IsName x a) h = tt
ones_below n (fact.Coloured x c) h = tt
ones_below n (fact.Paired s a t) h = tt
ones_below n (fact.Says l) h = tt

pair_is : (u v a b : Variable) (all : List Said) → ◌≡◌ {A = Variable × Variable} (u, v) (a, b) → IsSaidOne all a b → IsSaidOne all u v
pair_is u v a b all e h = let p : u ≡ a = ap (λ (q : Variable × Variable). q.0) e in let q : v ≡ b = ap (λ (q : Variable × Variable). q.1) e in
    subst (λ z. IsSaidOne all z v) (sym p) (subst (λ z. IsSaidOne all a z) (sym q) h)

said_one-from : (all : List Said) (u v : Variable) (s : Said) → IsAmong all s → IsAmong (ones_of s) (u, v) → IsSaidOne all u v
said_one-from all u v (block x) i j = absurd j
said_one-from all u v (related x how y) i j = absurd j
said_one-from all u v (one_node x y) i (inl e) = pair_is u v x y all e (inr i)
said_one-from all u v (one_node x y) i (inr k) = absurd k
said_one-from all u v (identified x y) i (inl e) = pair_is u v x y all e (inl i)
said_one-from all u v (identified x y) i (inr k) = absurd k
said_one-from all u v (is_name x a) i j = absurd j
said_one-from all u v (coloured x c) i j = absurd j
said_one-from all u v (paired s a t) i j = absurd j
said_one-from all u v (says l) i j = absurd j

said_one-to : (all : List Said) (u v : Variable) → IsSaidOne all u v → IsAmong (gathered ones_of all) (u, v)
said_one-to all u v (inl i) = IsAmong-gathered ones_of all (identified u v) (u, v) i (inl refl)
said_one-to all u v (inr i) = IsAmong-gathered ones_of all (one_node u v) (u, v) i (inl refl)

-- CLASSES

module _ (names : List Variable) (facts : List Fact) where
  abbrev named_pair : ℕ × ℕ → Variable × Variable
  named_pair p = (named names p.0, named names p.1)

  ones-read : (f : Fact) → ones_of (said_of names f) ≡ map named_pair (ones_in f)
  ones-read (fact.Block x) = refl
  ones-read (fact.Related x how y) = refl
  ones-read (fact.OneNode x y) = refl
  ones-read (fact.Identified x y) = refl
  ones-read (fact.IsName x a) = refl
  ones-read (fact.Coloured x c) = refl
  ones-read (fact.Paired s a t) = refl
  ones-read (fact.Says l) = refl

  ones-said : gathered ones_of (all_said names facts) ≡ map named_pair (gathered ones_in facts)
  ones-said = gathered-read (said_of names) ones_of ones_in named_pair ones-read facts

  -- a pair that is joined is said to be one
  said_pair : (p : ℕ × ℕ) → IsAmong (gathered ones_in facts) p → IsSaidOne (all_said names facts) (named names p.0) (named names p.1)
  said_pair p i =
      let j : IsAmong (gathered ones_of (all_said names facts)) (named_pair p) =
      subst (λ z. IsAmong z (named_pair p)) (sym ones-said) (IsAmong-map named_pair (gathered ones_in facts) p i)
      in
      let r = IsAmong-gathered_from ones_of (all_said names facts) (named_pair p) j in
      said_one-from (all_said names facts) (named names p.0) (named names p.1) r.0 r.1 r.2

  abbrev IsTied : Term ℕ → Term ℕ → Type 0
  IsTied (name a) t = Unit {0}
  IsTied (variable x) (name b) = Unit {0}
  IsTied (variable x) (variable y) = AreIdentified (all_said names facts) (named names x) (named names y)

  IsTied-refl : (x : Term ℕ) → IsTied x x
  IsTied-refl (name a) = tt
  IsTied-refl (variable x) = itself (named names x)

  IsTied-sym : (x y : Term ℕ) → IsTied x y → IsTied y x
  IsTied-sym (name a) (name b) h = tt
  IsTied-sym (name a) (variable y) h = tt
  IsTied-sym (variable x) (name b) h = tt
  IsTied-sym (variable x) (variable y) h = backwards _ _ h

  tied_by : (x y : Term ℕ) (p : ℕ × ℕ) → equate x y ≡ tie p → IsAmong (gathered ones_in facts) p → IsTied x y
  tied_by x y p e i =
      let q : x ≡ variable p.0 = cc in
      let r : y ≡ variable p.1 = cc in
      subst (λ z. IsTied z y) (sym q) (subst (λ z. IsTied (variable p.0) z) (sym r) (said_one _ _ (said_pair p i)))

  entry_is_no_tie : (s a : ℕ) (x : Term ℕ) (p : ℕ × ℕ) → entry s a x ≡ tie p → ⊥
  entry_is_no_tie s a x p e = cc

  -- links of the joins go between variables, and these are one
  linked-tied : (x y : Term ℕ) → AreLinked (network_of (all_joined facts)) x y → IsTied x y
  linked-tied _ _ (equated x y i) =
      let r = IsAmong-map_from tie (gathered ones_in facts) (equate x y) (subst (λ z. IsAmong z (equate x y)) (all_joined-ones facts) i) in
      tied_by x y r.0 r.2 r.1
  linked-tied _ _ (shared s t a x y l i j) =
      let r = IsAmong-map_from tie (gathered ones_in facts) (entry s a x) (subst (λ z. IsAmong z (entry s a x)) (all_joined-ones facts) i) in
      absurd (entry_is_no_tie s a x r.0 r.2)
  linked-tied _ _ (same x) = IsTied-refl x
  linked-tied _ _ (back x y h) = IsTied-sym x y (linked-tied x y h)
  linked-tied _ _ (next x y z h k) = tied_on x y z h k (linked-tied x y h) (linked-tied y z k)
    where
      tied_on : (x y z : Term ℕ) → AreLinked (network_of (all_joined facts)) x y → AreLinked (network_of (all_joined facts)) y z → IsTied x y → IsTied y z → IsTied x z
      tied_on (name a) y z l m p q = tt
      tied_on (variable x) y (name c) l m p q = tt
      tied_on (variable x) (name b) (variable z) l m p q = absurd (no_name (all_joined facts) (all_joined-joins facts) x b l)
      tied_on (variable x) (variable y) (variable z) l m p q = onwards _ _ _ p q

  pub one-identified : (x y : ℕ) → AreOne facts x y → AreIdentified (all_said names facts) (named names x) (named names y)
  one-identified x y h = linked-tied (variable x) (variable y) h

  module _ (once : NoneTwice names) (below : Each (IsBelow (length names)) facts) where
    abbrev number : Variable → ℕ
    number x = number_of names x

    linked_numbers : (u v : Variable) → AreIdentified (all_said names facts) u v → AreOne facts (number u) (number v)
    linked_numbers _ _ (said_one u v h) =
        let n = length names in
        let j : IsAmong (map named_pair (gathered ones_in facts)) (u, v) = subst (λ z. IsAmong z (u, v)) ones-said (said_one-to (all_said names facts) u v h) in
        let r = IsAmong-map_from named_pair (gathered ones_in facts) (u, v) j in
        let within = Each-at (λ (p : ℕ × ℕ). (p.0 < n) × (p.1 < n)) (gathered ones_in facts) r.0 (Each-gathered ones_in (λ (p : ℕ × ℕ). (p.0 < n) × (p.1 < n)) facts (Each-weaker (IsBelow n) (λ f. Each (λ p. (p.0 < n) × (p.1 < n)) (ones_in f)) (ones_below n) facts below)) r.1 in
        let a : number u ≡ r.0.0 = ap number (ap (λ (q : Variable × Variable). q.0) r.2) ∙ number_of-named names once r.0.0 within.0 in
        let b : number v ≡ r.0.1 = ap number (ap (λ (q : Variable × Variable). q.1) r.2) ∙ number_of-named names once r.0.1 within.1 in
        let t : IsAmong (network_of (all_joined facts)) (tie r.0) = subst (λ z. IsAmong z (tie r.0)) (sym (all_joined-ones facts)) (IsAmong-map tie (gathered ones_in facts) r.0 r.1) in
        subst (λ z. AreOne facts z (number v)) (sym a) (subst (λ z. AreOne facts r.0.0 z) (sym b) (equated (variable r.0.0) (variable r.0.1) t))
    linked_numbers _ _ (itself x) = same (variable (number x))
    linked_numbers _ _ (backwards x y h) = back _ _ (linked_numbers x y h)
    linked_numbers _ _ (onwards x y z h k) = next _ _ _ (linked_numbers x y h) (linked_numbers y z k)

    pub identified-one : (x y : ℕ) → x < length names → y < length names → AreIdentified (all_said names facts) (named names x) (named names y) → AreOne facts x y
    identified-one x y h k ident =
        subst (λ z. AreOne facts z y) (number_of-named names once x h)
        (subst (λ z. AreOne facts (number (named names x)) z) (number_of-named names once y k) (linked_numbers (named names x) (named names y) ident))

    -- variables have one root exactly where they are one
    module _ (roots : List ℕ) (are : AreRoots facts (length names) roots) where
      pub one_root : (x y : ℕ) → x < length names → y < length names → AreIdentified (all_said names facts) (named names x) (named names y) → root roots x ≡ root roots y
      one_root x y h k ident =
          let o : AreOne facts x y = identified-one x y h k ident in
          let p : root roots x ≤ root roots y = (are.each x h).least (root roots y) (next _ _ _ o (are.each y k).is_one) in
          let q : root roots y ≤ root roots x = (are.each y k).least (root roots x) (next _ _ _ (back _ _ o) (are.each x h).is_one) in
          omega arith

      pub root_one : (x y : ℕ) → x < length names → y < length names → root roots x ≡ root roots y → AreIdentified (all_said names facts) (named names x) (named names y)
      root_one x y h k e =
          one-identified x y
          (next _ _ _ (are.each x h).is_one (subst (λ z. AreOne facts z y) (sym e) (back _ _ (are.each y k).is_one)))

pub AreRoots-range : (facts : List Fact) (n : ℕ) (roots : List ℕ) → AreRoots facts n roots → InRange roots
AreRoots-range facts n roots are x h =
    let size : length roots ≡ n = are.size in
    let l : x < n = omega arith in
    let p : root roots x ≤ x = (are.each x l).least x (same (variable x)) in
    omega arith
