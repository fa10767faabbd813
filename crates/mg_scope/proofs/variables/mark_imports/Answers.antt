use Rattle.std.proofs.Common.{take}
use Rattle.mg_scope.proofs.VariableLemmas.{imported_none, imports_next, imports_end}
use Rattle.mg_scope.proofs.variables.mark_imports.Goals as goal

pub loop-class-init : goal.loop-class-init
loop-class-init c = imported_none c.args.directory.now c.args.table.now c.args.asked.now c.args.imported.now c.requires

pub loop-class-preserved : goal.loop-class-preserved
loop-class-preserved c =
    imports_next c.args.directory.now c.args.table.now c.mark_once.new.table c.mark_once.new.imported c.args.classes.now c.args.asked.now c.loop-class.class-index _ c.loop-class-test.true
    (c.in_ok-mark_once.ensures c.args.table.now (take c.loop-class.class-index c.args.classes.now) c.loop-class.invariant)

pub returns : goal.returns
returns c =
    imports_end c.args.directory.now c.args.table.now c.loop-class.table c.loop-class.imported c.args.classes.now c.args.asked.now c.loop-class.class-index c.loop-class-test.false c.loop-class.invariant
