-- The bags of the code, read as pairs of an attribute's number and a term at numbers.
use Rattle.std.specs.Prelude.{ℕ, List, map}
use Rattle.gr_terms.specs.declared.Sym.{Sym}
use Rattle.gr_terms.specs.declared.Term.{Term}
use Rattle.gr_terms.specs.Networks as net
use Rattle.gr_terms.specs.Views.{term_of}

abbrev pub pairs_of : List (Sym × Term) → List (ℕ × net.Term ℕ)
pairs_of pairs = map (λ p. (p.0.0, term_of p.1)) pairs
