-- The types of the code and what they are read as have the same elements.
use Rattle.std.specs.Prelude.{◌≡◌, ℕ, List, [], ◌∷◌, ◌++◌, map, ◌↔◌, refl}
use Rattle.std.proofs.Common.{ap, ap₂, sym, subst}
use Rattle.gr_base.specs.Lists.{IsAmong, IsRising}
use Rattle.gr_base.proofs.ListLemmas.{undone_apart, IsAmong-undone}
use Rattle.gr_terms.specs.declared.Sym.{Sym}
use Rattle.gr_terms.specs.declared.Term.{Term}
use Rattle.gr_terms.specs.declared.Term.TheVariants.{Const, Var}
use Rattle.gr_terms.specs.declared.Assertion.{Assertion}
use Rattle.gr_terms.specs.declared.Assertion.TheVariants.{Entry, Equate, Link}
use Rattle.gr_terms.specs.Networks as net
use Rattle.gr_terms.specs.Bags.{IsListed}
use Rattle.gr_terms.specs.Views.{term_of, assertion_of, network_of}
use Rattle.gr_terms.specs.BagViews.{pairs_of}

-- a symbol is fixed by its number
pub same_sym : (a b : Sym) → a.0 ≡ b.0 → a ≡ b
same_sym a b e = ap {B = Sym} (λ n. record { 0 = n }) e

-- what is read can be read back
abbrev pub term_from : net.Term ℕ → Term
term_from (net.name a) = Const (record { 0 = a })
term_from (net.variable v) = Var v

abbrev pub assertion_from : net.Assertion ℕ ℕ → Assertion
assertion_from (net.entry s a x) = Entry (record { 0 = s }) (record { 0 = a }) (term_from x)
assertion_from (net.equate x y) = Equate (term_from x) (term_from y)
assertion_from (net.link s t) = Link (record { 0 = s }) (record { 0 = t })

pub term_from-term_of : (x : Term) → term_from (term_of x) ≡ x
term_from-term_of (Const p) = refl
term_from-term_of (Var v) = refl

pub term_of-term_from : (x : net.Term ℕ) → term_of (term_from x) ≡ x
term_of-term_from (net.name a) = refl
term_of-term_from (net.variable v) = refl

pub assertion_from-assertion_of : (a : Assertion) → assertion_from (assertion_of a) ≡ a
assertion_from-assertion_of (Entry s a x) = ap (λ y. Entry s a y) (term_from-term_of x)
assertion_from-assertion_of (Equate x y) = ap₂ Equate (term_from-term_of x) (term_from-term_of y)
assertion_from-assertion_of (Link s t) = refl

pub assertion_of-assertion_from : (a : net.Assertion ℕ ℕ) → assertion_of (assertion_from a) ≡ a
assertion_of-assertion_from (net.entry s a x) = ap (λ y. net.entry s a y) (term_of-term_from x)
assertion_of-assertion_from (net.equate x y) = ap₂ net.equate (term_of-term_from x) (term_of-term_from y)
assertion_of-assertion_from (net.link s t) = refl

-- so it keeps elements apart
pub term_of-apart : (x y : Term) → term_of x ≡ term_of y → x ≡ y
term_of-apart = undone_apart term_of term_from term_from-term_of

pub assertion_of-apart : (a b : Assertion) → assertion_of a ≡ assertion_of b → a ≡ b
assertion_of-apart = undone_apart assertion_of assertion_from assertion_from-assertion_of

pub IsAmong-network_of : (list : List Assertion) (a : Assertion) → IsAmong (network_of list) (assertion_of a) ↔ IsAmong list a
IsAmong-network_of = IsAmong-undone assertion_of assertion_from assertion_from-assertion_of

-- the reading of a list with more behind it
pub network_of-append : (list more : List Assertion) → network_of (list ++ more) ≡ network_of list ++ network_of more
network_of-append [] more = refl
network_of-append (a ∷ list) more = ap (λ rest. assertion_of a ∷ rest) (network_of-append list more)

-- a bag's attributes and pairs are those of its reading
pub attributes-pairs_of : (pairs : List (Sym × Term)) → map (λ p. p.0) (pairs_of pairs) ≡ map (λ p. p.0.0) pairs
attributes-pairs_of [] = refl
attributes-pairs_of (p ∷ pairs) = ap (λ rest. p.0.0 ∷ rest) (attributes-pairs_of pairs)

pub IsRising-pairs_of : (pairs : List (Sym × Term)) → IsListed pairs → IsRising (map (λ p. p.0) (pairs_of pairs))
IsRising-pairs_of pairs listed = subst (λ ns. IsRising ns) (sym (attributes-pairs_of pairs)) listed

pub IsAmong-pairs_of : (pairs : List (Sym × Term)) (attr : Sym) (value : Term) → IsAmong (pairs_of pairs) (attr.0, term_of value) ↔ IsAmong pairs (attr, value)
IsAmong-pairs_of pairs attr value = IsAmong-undone (λ p. (p.0.0, term_of p.1)) (λ p. (record { 0 = p.0 }, term_from p.1)) (λ p. ap (λ x. (p.0, x)) (term_from-term_of p.1)) pairs (attr, value)
