use Rattle.std.proofs.Common.{◌≡◌, map, take}
use Rattle.gr_terms.specs.declared.Sym.{Sym}
use Rattle.gr_terms.specs.declared.Term.{Term}
use Rattle.td_model.proofs.listing.keys.Given as goal

abbrev pub invariant-pairs : goal.invariant-pairs
invariant-pairs l = l.keys ≡ map (λ (p : Sym × Term). p.0) (take l.place l.bag)
