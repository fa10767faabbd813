use Rattle.std.proofs.Common.{◌≡◌, take}
use Rattle.std.specs.Prelude.{map}
use Rattle.gr_terms.specs.declared.Sym.{Sym}
use Rattle.mg_scope.specs.Classes.{firsts}
use Rattle.mg_expand.proofs.exports.meet_all.Given as goal

abbrev pub invariant-loop-name : goal.invariant-loop-name
invariant-loop-name l = (l.names.items ≡ firsts (take l.name-index l.exports)) × (l.met.keys ≡ map (λ (n : Sym). n.0) l.names.items)
