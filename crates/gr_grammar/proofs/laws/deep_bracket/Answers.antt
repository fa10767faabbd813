use Rattle.std.proofs.Common.{◌∷◌, sym, subst}
use Rattle.gr_grammar.specs.Depths.{IsShallowFault}
use Rattle.gr_grammar.proofs.Deep.{at_depth}
use Rattle.gr_grammar.proofs.laws.deep_bracket.Goals as goal

pub returns : goal.returns
returns g c = λ S turn limit h ts part more t cut on. subst (λ z. IsShallowFault S turn limit h z (t ∷ more)) (sym cut.split) (at_depth S turn limit h part t more cut.shallow cut.here on)
