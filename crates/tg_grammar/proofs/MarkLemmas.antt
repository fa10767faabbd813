-- Values of attributes, and marks of nodes.
use Rattle.std.specs.Prelude.{◌≡◌, ◌≢◌, ℕ, suc, ◌+◌, ◌≤◌, List, [], ◌∷◌, ◌++◌, length, Option, Some, None, Bool, true, false, if◌then◌else◌, option_map, MatchOption, refl}
use Rattle.std.proofs.Common.{inl, inr, ap, sym, ◌∙◌, arith, eq-eqb}
use Rattle.std.proofs.lemmas.Bool.Decides.{eqb_tells}
use Rattle.std.proofs.lemmas.Option.{none-some, same_Some}
use Rattle.gr_base.specs.Lists.{IsAmong}
use Rattle.gr_terms.specs.Bags.{IsListed, LacksAttribute}
use Rattle.gr_terms.proofs.BagLemmas.{IsListed-value}
use Rattle.gr_terms.specs.BagViews.{pairs_of}
use Rattle.gr_terms.specs.Networks as net
use Rattle.gr_terms.specs.Views.{term_of}
use Rattle.gr_terms.specs.declared.Sym.{Sym}
use Rattle.gr_terms.specs.declared.Term.{Term}
use Rattle.td_tree.specs.Trees.{BagPairs}
use Rattle.tg_grammar.specs.Marks.{value_of, numbers_from}

-- the first pair has the attribute, or another
value_here : {V : Type 0} (p : ℕ × net.Term V) (ps : List (ℕ × net.Term V)) (a : ℕ) → p.0 ≡ a → value_of (p ∷ ps) a ≡ Some p.1
value_here p ps a e = ap (λ b. if b then Some p.1 else value_of ps a) (eq-eqb p.0 a e)

value_later : {V : Type 0} (p : ℕ × net.Term V) (ps : List (ℕ × net.Term V)) (a : ℕ) → p.0 ≢ a → value_of (p ∷ ps) a ≡ value_of ps a
value_later p ps a differs = elim (eqb_tells p.0 a) [
  | inl h ↦ absurd (differs h.1)
  | inr h ↦ ap (λ b. if b then Some p.1 else value_of ps a) h.0
]

-- an attribute that no pair has has no value
pub value_of-lacks : (pairs : List (Sym × Term)) (attr : Sym) → LacksAttribute pairs attr → value_of (pairs_of pairs) attr.0 ≡ None
value_of-lacks [] attr lacks = refl
value_of-lacks (p ∷ ps) attr lacks =
    value_later (p.0.0, term_of p.1) (pairs_of ps) attr.0 (λ e. lacks p.1 (inl (λ i. (record { 0 = sym e i }, p.1))))
    ∙ value_of-lacks ps attr (λ v i. lacks v (inr i))

-- in a listed bag the value is that of the one pair with the attribute
pub value_of-among : (pairs : List (Sym × Term)) (attr : Sym) (v : Term) → IsListed pairs → IsAmong pairs (attr, v) → value_of (pairs_of pairs) attr.0 ≡ Some (term_of v)
value_of-among [] attr v listed i = absurd i
value_of-among (p ∷ ps) attr v listed i = elim (eqb_tells p.0.0 attr.0) [
  | inl h ↦
      let here : (attr, p.1) ≡ p = λ j. (record { 0 = sym h.1 j }, p.1) in
      value_here (p.0.0, term_of p.1) (pairs_of ps) attr.0 h.1 ∙ ap (λ x. Some (term_of x)) (IsListed-value (p ∷ ps) attr p.1 v listed (inl here) i)
  | inr h ↦ value_later (p.0.0, term_of p.1) (pairs_of ps) attr.0 h.1 ∙ elim i [
    | inl e ↦ absurd (h.1 (ap (λ x. x.0.0) (sym e)))
    | inr k ↦ value_of-among ps attr v listed.1 k
  ]
]

-- what a bag answers for an attribute is the value
pub value_of-get : (pairs : List (Sym × Term)) (attr : Sym) (o : Option Term) → IsListed pairs
    → MatchOption o (LacksAttribute pairs attr) (λ v. IsAmong pairs (attr, v)) → value_of (pairs_of pairs) attr.0 ≡ option_map term_of o
value_of-get pairs attr None listed h = value_of-lacks pairs attr h
value_of-get pairs attr (Some v) listed h = value_of-among pairs attr v listed h

-- ---- numbers of the elements that pass a test

-- how many numbers there are doesn't depend on where counting begins
length-numbers_from : {A : Type 0} (m n : ℕ) (test : A → Bool) (xs : List A) → length (numbers_from m test xs) ≡ length (numbers_from n test xs)
length-numbers_from m n test [] = refl
length-numbers_from m n test (x ∷ xs) =
    elim (test x) as (λ b. length (if b then (m ∷ numbers_from (suc m) test xs) else numbers_from (suc m) test xs) ≡ length (if b then (n ∷ numbers_from (suc n) test xs) else numbers_from (suc n) test xs)) [
      | true ↦ ap suc (length-numbers_from (suc m) (suc n) test xs)
      | false ↦ length-numbers_from (suc m) (suc n) test xs
    ]

-- one more element
pub length-numbers_push : {A : Type 0} (n : ℕ) (test : A → Bool) (xs : List A) (x : A) → length (numbers_from n test (xs ++ x ∷ [])) ≡ length (numbers_from n test xs) + (if test x then 1 else 0)
length-numbers_push n test [] x =
    elim (test x) as (λ b. length (if b then (n ∷ []) else []) ≡ 0 + (if b then 1 else 0)) [ true ↦ omega arith | false ↦ omega arith ]
length-numbers_push n test (y ∷ ys) x =
    elim (test y) as (λ b. length (if b then (n ∷ numbers_from (suc n) test (ys ++ x ∷ [])) else numbers_from (suc n) test (ys ++ x ∷ [])) ≡ length (if b then (n ∷ numbers_from (suc n) test ys) else numbers_from (suc n) test ys) + (if test x then 1 else 0)) [
      | true ↦ omega (arith, length-numbers_push (suc n) test ys x)
      | false ↦ length-numbers_push (suc n) test ys x
    ]

-- at most all of them
pub length-numbers_≤ : {A : Type 0} (n : ℕ) (test : A → Bool) (xs : List A) → length (numbers_from n test xs) ≤ length xs
length-numbers_≤ n test [] = omega arith
length-numbers_≤ n test (x ∷ xs) =
    elim (test x) as (λ b. length (if b then (n ∷ numbers_from (suc n) test xs) else numbers_from (suc n) test xs) ≤ suc (length xs)) [
      | true ↦ omega (arith, length-numbers_≤ (suc n) test xs)
      | false ↦ omega (arith, length-numbers_≤ (suc n) test xs)
    ]

-- the value of an attribute stands in the bag
pub value_there : (bag : BagPairs) (a : ℕ) (z : net.Term ℕ) → value_of (pairs_of bag) a ≡ Some z → (y : Term) × IsAmong bag (record { 0 = a }, y) × (z ≡ term_of y)
value_there [] a z e = absurd (none-some z e)
value_there (p ∷ bag) a z e = elim (eqb_tells p.0.0 a) [
  | inl h ↦
      let first : Some (term_of p.1) ≡ Some z = sym (ap (λ b. if b then Some (term_of p.1) else value_of (pairs_of bag) a) h.0) ∙ e in
      let attr : a ≡ p.0.0 = sym h.1 in
      (p.1, inl (λ i. (record { 0 = attr i }, p.1)), sym (same_Some (term_of p.1) z first))
  | inr h ↦
      let rest : value_of (pairs_of bag) a ≡ Some z = sym (ap (λ b. if b then Some (term_of p.1) else value_of (pairs_of bag) a) h.0) ∙ e in
      let r = value_there bag a z rest in
      (r.0, inr r.1, r.2)
]
