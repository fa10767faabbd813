-- The types of the code, read as terms, assertions and networks at numbers.
use Rattle.std.specs.Prelude.{ℕ, List, map}
use Rattle.gr_terms.specs.declared.Term.{Term}
use Rattle.gr_terms.specs.declared.Term.TheVariants.{Const, Var}
use Rattle.gr_terms.specs.declared.Assertion.{Assertion}
use Rattle.gr_terms.specs.declared.Assertion.TheVariants.{Entry, Equate, Link}
use Rattle.gr_terms.specs.Networks as net

abbrev pub term_of : Term → net.Term ℕ
term_of (Const p) = net.name p.0
term_of (Var v) = net.variable v

abbrev pub assertion_of : Assertion → net.Assertion ℕ ℕ
assertion_of (Entry s a x) = net.entry s.0 a.0 (term_of x)
assertion_of (Equate x y) = net.equate (term_of x) (term_of y)
assertion_of (Link s t) = net.link s.0 t.0

abbrev pub network_of : List Assertion → List (net.Assertion ℕ ℕ)
network_of list = map assertion_of list
