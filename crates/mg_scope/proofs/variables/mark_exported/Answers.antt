use Rattle.mg_scope.specs.Classes.{exports_of}
use Rattle.mg_scope.proofs.VariableLemmas.{asked_none, asked_more, asked_end}
use Rattle.mg_scope.proofs.variables.mark_exported.Goals as goal

pub loop-name-init : goal.loop-name-init
loop-name-init c = asked_none c.args.table.now (exports_of c.args.directory.now c.args.class)

pub loop-name-preserved : goal.loop-name-preserved
loop-name-preserved c =
    asked_more c.args.table.now c.loop-name.table c.mark_if_exported.new.table (exports_of c.args.directory.now c.args.class) c.args.names.now c.loop-name.name-index _ c.loop-name-test.true
    c.loop-name.invariant c.in_ok-mark_if_exported.ensures

pub returns : goal.returns
returns c = asked_end c.args.table.now c.loop-name.table (exports_of c.args.directory.now c.args.class) c.args.names.now c.loop-name.name-index c.loop-name-test.false c.loop-name.invariant
