use Rattle.std.proofs.Common.{sym, ◌∙◌, true≢false}
use Rattle.mg_scope.specs.Classes.{exports_of}
use Rattle.mg_scope.proofs.LoopLemmas.{on_ok}
use Rattle.mg_scope.proofs.VariableLemmas.{asked_not, asked_put}
use Rattle.mg_scope.proofs.variables.mark_if_exported.Goals as goal

pub returns-then-not-does_export : goal.returns-then-not-does_export
returns-then-not-does_export c =
    asked_not c.args.table.now (exports_of c.args.directory.now c.args.class) c.args.name (λ i. true≢false (sym (c.does_export.ensures.1 i) ∙ c.if-not-does_export.true))

pub returns : goal.returns
returns c =
    on_ok c.set.result
    (λ put. asked_put c.args.table.now c.set.new.self (exports_of c.args.directory.now c.args.class) c.args.name 0 (c.does_export.ensures.0 c.if-not-does_export.false) put) c.set.ensures.ok
