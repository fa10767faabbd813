use Rattle.std.proofs.Common.{subst, List}
use Rattle.std.proofs.lemmas.List.{take_all}
use Rattle.gr_terms.specs.declared.Sym.{Sym}
use Rattle.mg_scope.specs.Variables.{Marks}
use Rattle.mg_scope.proofs.VariableLemmas.{marks_none, marks_more}
use Rattle.mg_scope.proofs.variables.mark.Goals as goal

pub loop-name-init : goal.loop-name-init
loop-name-init c = marks_none c.args.table.now

pub loop-name-preserved : goal.loop-name-preserved
loop-name-preserved c =
    marks_more c.args.table.now c.loop-name.table c.set.new.self c.args.names.now c.loop-name.name-index _ 0 c.loop-name-test.true c.loop-name.invariant c.in_ok-set.ensures.ok

pub returns : goal.returns
returns c = subst (λ (z : List Sym). Marks c.args.table.now c.loop-name.table z) (take_all c.loop-name.name-index c.args.names.now c.loop-name-test.false) c.loop-name.invariant
