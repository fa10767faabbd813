use Rattle.std.proofs.Common.{refl, sym, ap, ◌∙◌, ◌++◌}
use Rattle.mg_scope.specs.Uses.{statement_uses}
use Rattle.mg_scope.proofs.GatherLemmas.{grown_item, grown_all}
use Rattle.mg_scope.proofs.uses.push_statements.Goals as goal

pub loop-statement-preserved : goal.loop-statement-preserved
loop-statement-preserved c =
    grown_item statement_uses c.args.statements.now c.loop-statement.statement-index c.statement-item.result c.args.uses.now.items c.loop-statement.uses.items c.push_statement.new.uses.items
    c.loop-statement-test.true c.statement-item.is c.loop-statement.invariant c.in_ok-push_statement.ensures

pub returns : goal.returns
returns c =
    grown_all statement_uses c.args.statements.now c.args.statements.now c.loop-statement.statement-index c.args.uses.now.items c.loop-statement.uses.items
    c.loop-statement-test.false c.loop-statement.invariant refl
