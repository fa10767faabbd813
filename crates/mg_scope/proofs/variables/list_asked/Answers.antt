use Rattle.std.proofs.Common.{◌∙◌, ◌++◌, ap, map}
use Rattle.std.proofs.lemmas.List.{take_all}
use Rattle.mg_scope.specs.Variables.{variable_in}
use Rattle.mg_scope.proofs.NameLemmas.{mapped_more}
use Rattle.mg_scope.proofs.variables.list_asked.Goals as goal

pub loop-one-preserved : goal.loop-one-preserved
loop-one-preserved c =
    mapped_more variable_in c.args.uses.now c.loop-one.one-index _ c.args.exports.now c.loop-one.asked.items c.push.new.self.items c.printed.result c.loop-one-test.true c.loop-one.invariant
    c.in_ok-push.ensures.items c.printed.ensures

pub returns : goal.returns
returns c = c.loop-one.invariant ∙ ap (λ z. c.args.exports.now ++ map variable_in z) (take_all c.loop-one.one-index c.args.uses.now c.loop-one-test.false)
