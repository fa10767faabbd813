use Rattle.std.proofs.Common.{sym, subst, ap, if◌then◌else◌}
use Rattle.tg_grammar.specs.declared.marks.Mark.TheVariants as mark
use Rattle.tg_grammar.specs.Marks.{IsMarkOf}
use Rattle.tg_grammar.proofs.survey.tally.Goals as goal

pub returns-in-None-clause-anchors : goal.returns-in-None-clause-anchors
returns-in-None-clause-anchors c = λ n h. sym (ap (λ b. if b then 1 else 0) (subst (IsMarkOf n) c.in-None.is h mark.Anchor))

pub returns-in-None-clause-feet : goal.returns-in-None-clause-feet
returns-in-None-clause-feet c = λ n h. sym (ap (λ b. if b then 1 else 0) (subst (IsMarkOf n) c.in-None.is h mark.Foot))
