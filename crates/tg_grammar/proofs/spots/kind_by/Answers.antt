use Rattle.std.proofs.Common.{ap, ◌∙◌, subst, if◌then◌else◌, None}
use Rattle.tg_grammar.specs.Marks.{IsMarkOf}
use Rattle.tg_grammar.specs.declared.spots.Kind.TheVariants.{Site, Plain}
use Rattle.tg_grammar.proofs.SpotLemmas.{kind-by}
use Rattle.tg_grammar.proofs.spots.kind_by.Goals as goal

pub returns-in-None : goal.returns-in-None
returns-in-None c = λ n is has. c.free_kind-in-None.ensures ∙ ap (λ b. if b then Site else Plain) has ∙ kind-by n None (subst (IsMarkOf n) c.in-None.is is)
