use Rattle.std.proofs.Common.{subst, List}
use Rattle.gr_terms.specs.declared.Sym.{Sym}
use Rattle.mg_scope.specs.Variables.{MarksAsked}
use Rattle.mg_scope.proofs.LoopLemmas.{on_ok}
use Rattle.mg_scope.proofs.VariableLemmas.{asked_all}
use Rattle.mg_scope.proofs.variables.mark_import.Goals as goal

pub returns : goal.returns
returns c =
    on_ok c.mark.result
    (λ marks.
    subst (λ (z : List Sym). MarksAsked c.args.table.now c.mark.new.table z c.args.asked.now) c.exports-exports.ensures (asked_all c.args.table.now c.mark.new.table c.exports-exports.result.now c.args.asked.now marks))
    c.mark.ensures
