use Rattle.std.proofs.Common.{ap, sym, ◌∙◌, Some}
use Rattle.gr_terms.specs.Views.{term_of}
use Rattle.tg_grammar.specs.Marks.{name_of}
use Rattle.tg_grammar.proofs.MarkLemmas.{value_of-among, value_of-lacks}
use Rattle.lx_anchor.proofs.coanchors.node_name.Goals as goal

pub returns-in-Some-Const : goal.returns-in-Some-Const
returns-in-Some-Const c =
    sym (ap name_of (value_of-among c.args.node.now.own (record { 0 = 2 }) c.in-Some-Const.field-0 c.get.ensures.listed c.in-Some-Const.ensures.value) ∙ ap (λ x. name_of (Some (term_of x))) c.in-Some-Const.field-0-is)

pub returns-in-Some-Var : goal.returns-in-Some-Var
returns-in-Some-Var c =
    sym (ap name_of (value_of-among c.args.node.now.own (record { 0 = 2 }) c.in-Some-Var.field-0 c.get.ensures.listed c.in-Some-Var.ensures.value) ∙ ap (λ x. name_of (Some (term_of x))) c.in-Some-Var.field-0-is)

pub returns-in-None : goal.returns-in-None
returns-in-None c = sym (ap name_of (value_of-lacks c.args.node.now.own (record { 0 = 2 }) c.in-None.ensures.value))
