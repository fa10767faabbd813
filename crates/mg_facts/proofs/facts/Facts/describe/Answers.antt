use Rattle.std.proofs.Common.{IfOk, MatchOption, subst}
use Rattle.mg_facts.specs.Meanings.{Clashes, IsDescriptionOf}
use Rattle.mg_facts.proofs.facts.Facts.describe.Goals as goal

pub returns : goal.returns
returns c = subst (λ v. IfOk c.describe.result (λ answer. MatchOption answer (Clashes v) (λ d. (Clashes v → ⊥) × IsDescriptionOf v d))) c.self.view_is c.describe.ensures
