-- The literals of the code, read as literals over terms at numbers, and literals without variables.
use Rattle.std.specs.Prelude.{ℕ, List, map, ⊤}
use Rattle.gr_base.specs.Lists.{Each}
use Rattle.gr_terms.specs.declared.Literal.{Literal}
use Rattle.gr_terms.specs.declared.Term.{Term}
use Rattle.gr_terms.specs.declared.Term.TheVariants.{Const, Var}
use Rattle.gr_terms.specs.Networks as net
use Rattle.gr_terms.specs.Canonical as canonical
use Rattle.gr_terms.specs.Views.{term_of}

abbrev pub literal_of : Literal → canonical.Literal (net.Term ℕ)
literal_of l = record { handle = term_of l.handle; pred = term_of l.pred; args = map term_of l.args }

abbrev pub literals_of : List Literal → List (canonical.Literal (net.Term ℕ))
literals_of list = map literal_of list

-- the term is a name
abbrev pub IsConst : Term → Type 0
IsConst (Const s) = ⊤
IsConst (Var k) = ⊥

-- no variable stands in the literal
pub record AreConst (x : Literal) : Type 0 where
  pub handle : IsConst x.handle
  pub pred : IsConst x.pred
  pub args : Each IsConst x.args
