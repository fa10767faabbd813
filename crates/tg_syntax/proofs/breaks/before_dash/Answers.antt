use Rattle.tg_syntax.proofs.NameLemmas.{short_case, long_case}
use Rattle.tg_syntax.proofs.breaks.before_dash.Goals as goal

pub returns-then-text-rest : goal.returns-then-text-rest
returns-then-text-rest c = short_case _ _ c.requires c.if-text-rest.true

pub returns : goal.returns
returns c = (long_case c.args.text.now c.args.rest.now c.requires c.if-text-rest.false).1
