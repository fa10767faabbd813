use Rattle.std.proofs.Common.{sym, subst, ◌++◌, ◌∷◌, [], Option, ℕ}
use Rattle.gr_terms.specs.declared.Sym.{Sym}
use Rattle.mg_scope.specs.Orders.{IsBest}
use Rattle.mg_scope.proofs.StepLemmas.{best_first, best_fewer, best_stays}
use Rattle.mg_scope.proofs.cycles.fewer.Goals as goal

pub returns-in-None : goal.returns-in-None
returns-in-None c = λ t seen at best. best_first t seen c.args.name c.args.count at (subst (λ (z : Option (ℕ × Sym)). IsBest t seen z) c.in-None.is best)

pub returns-then-count-fewest : goal.returns-then-count-fewest
returns-then-count-fewest c = λ t seen at best.
    best_fewer t seen c.args.name c.in-Some.field-0-1 c.args.count c.in-Some.fewest at c.if-count-fewest.true (subst (λ (z : Option (ℕ × Sym)). IsBest t seen z) c.in-Some.is best)

pub returns-else-count-fewest : goal.returns-else-count-fewest
returns-else-count-fewest c = λ t seen at best.
    subst (λ (z : Option (ℕ × Sym)). IsBest t (seen ++ c.args.name ∷ []) z) (sym c.in-Some.is)
    (best_stays t seen c.args.name c.in-Some.field-0-1 c.args.count c.in-Some.fewest at c.if-count-fewest.false (subst (λ (z : Option (ℕ × Sym)). IsBest t seen z) c.in-Some.is best))
