use Rattle.std.proofs.Common.{sym}
use Rattle.mg_scope.proofs.VariableLemmas.{imported_again, imported_new}
use Rattle.mg_scope.proofs.variables.mark_once.Goals as goal

pub returns-in-Some : goal.returns-in-Some
returns-in-Some c = λ base done known.
    imported_again c.args.directory.now base c.args.asked.now c.args.table.now c.args.imported.now done c.args.class c.in-Some.field-0 (sym c.in-Some.ensures) known

pub returns-in_ok-mark_import-in-None : goal.returns-in_ok-mark_import-in-None
returns-in_ok-mark_import-in-None c = λ base done known.
    imported_new c.args.directory.now base c.args.asked.now c.args.table.now c.mark_import.new.table c.args.imported.now c.set.new.self done c.args.class 0
    c.in_ok-set-in-None.ensures.ok c.in_ok-mark_import-in-None.ensures known
