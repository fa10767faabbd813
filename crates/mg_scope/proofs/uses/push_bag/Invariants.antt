use Rattle.std.proofs.Common.{◌≡◌, ◌++◌, take}
use Rattle.gr_base.specs.Lists.{gathered}
use Rattle.gr_terms.specs.declared.Sym.{Sym}
use Rattle.mg_syntax.specs.declared.body.Side.{Side}
use Rattle.mg_scope.specs.Uses.{side_uses}
use Rattle.mg_scope.proofs.uses.push_bag.Given as goal

abbrev pub invariant-loop-pair : goal.invariant-loop-pair
invariant-loop-pair l = l.uses.items ≡ l.initial.uses.items ++ gathered (λ (p : Sym × Side). side_uses p.1) (take l.pair-index l.pair-items)
