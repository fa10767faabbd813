use Rattle.std.proofs.Common.{subst, List, ap, map, ◌++◌, ◌∙◌}
use Rattle.mg_scope.specs.declared.uses.Use.{Use}
use Rattle.mg_scope.specs.Variables.{AreCalls, variable_in}
use Rattle.mg_scope.proofs.VariableLemmas.{marks_declared, marks_seen}
use Rattle.mg_scope.proofs.variables.Variables.read.Goals as goal

pub returns : goal.returns
returns c =
    let k = c.args.class.now in
    record {
      declared = marks_declared c.clear.new.self c.mark.new.table c.as_slice.result.now k.declares c.as_slice.ensures c.clear.ensures c.in_ok-mark.ensures;
      seen =
          marks_seen c.args.directory.now k c.clear-2.new.self c.mark-2.new.table c.mark_imports.new.table c.as_slice-2.result.now c.as_slice-4.result.now c.deref.result.now
          c.as_slice-2.ensures c.as_slice-4.ensures
          (c.deref.ensures.value ∙ c.in_ok-list_asked.ensures ∙ ap (λ z. z ++ map variable_in c.args.uses.now) c.as_slice-3.ensures ∙ ap (λ z. k.exports ++ map variable_in z) c.requires)
          c.clear-2.ensures c.in_ok-mark-2.ensures c.in_ok-mark_imports.ensures;
      calls = subst (λ (z : List Use). AreCalls c.count_calls.new.calls c.count_calls.new.statements z) c.requires c.in_ok-count_calls.ensures;
    }
