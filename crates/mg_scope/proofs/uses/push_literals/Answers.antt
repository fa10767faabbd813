use Rattle.std.proofs.Common.{refl, sym, ap, ◌∙◌, ◌++◌}
use Rattle.mg_scope.specs.Uses.{literal_uses}
use Rattle.mg_scope.proofs.GatherLemmas.{grown_item, grown_all}
use Rattle.mg_scope.proofs.uses.push_literals.Goals as goal

pub loop-literal-preserved : goal.loop-literal-preserved
loop-literal-preserved c =
    grown_item literal_uses c.args.literals.now c.loop-literal.literal-index c.literal-item.result c.args.uses.now.items c.loop-literal.uses.items c.push_literal.new.uses.items
    c.loop-literal-test.true c.literal-item.is c.loop-literal.invariant c.in_ok-push_literal.ensures

pub returns : goal.returns
returns c =
    grown_all literal_uses c.args.literals.now c.args.literals.now c.loop-literal.literal-index c.args.uses.now.items c.loop-literal.uses.items
    c.loop-literal-test.false c.loop-literal.invariant refl
