use Rattle.std.proofs.Common.{ap, sym}
use Rattle.gr_terms.specs.Constants.{CAT}
use Rattle.tg_grammar.specs.Spots.{has_value}
use Rattle.tg_grammar.proofs.MarkLemmas.{value_of-among, value_of-lacks}
use Rattle.tg_grammar.proofs.spots.has_category.Goals as goal

pub returns-in-Some-Const : goal.returns-in-Some-Const
returns-in-Some-Const c =
    sym (ap has_value (value_of-among c.args.node.now.own (record { 0 = CAT }) c.in-Some-Const.field-0 c.get.ensures.listed c.in-Some-Const.ensures.value))

pub returns-in-Some-Var : goal.returns-in-Some-Var
returns-in-Some-Var c =
    sym (ap has_value (value_of-among c.args.node.now.own (record { 0 = CAT }) c.in-Some-Var.field-0 c.get.ensures.listed c.in-Some-Var.ensures.value))

pub returns-in-None : goal.returns-in-None
returns-in-None c = sym (ap has_value (value_of-lacks c.args.node.now.own (record { 0 = CAT }) c.in-None.ensures.value))
