use Rattle.tg_grammar.proofs.NamedLemmas.{name-named, none-named, variable-named}
use Rattle.tg_grammar.proofs.named.is_named.Goals as goal

pub returns-in-Some-Var : goal.returns-in-Some-Var
returns-in-Some-Var c = variable-named c.args.node.now c.in-Some-Var.field-0 _ c.get.ensures.listed c.in-Some-Var.ensures.value c.in-Some-Var.field-0-is

pub returns-in-Some-Const : goal.returns-in-Some-Const
returns-in-Some-Const c = name-named c.args.node.now c.in-Some-Const.field-0 _ c.get.ensures.listed c.in-Some-Const.ensures.value c.in-Some-Const.field-0-is

pub returns-in-None : goal.returns-in-None
returns-in-None c = none-named c.args.node.now c.in-None.ensures.value
