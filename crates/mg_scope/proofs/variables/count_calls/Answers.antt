use Rattle.std.proofs.Common.{subst, sym, List, [], take, arith, length}
use Rattle.std.proofs.lemmas.List.{take_all, take_more, length-take-le}
use Rattle.mg_scope.specs.declared.uses.Use.{Use}
use Rattle.mg_scope.specs.Variables.{AreCalls}
use Rattle.mg_scope.proofs.VariableLemmas.{calls_none}
use Rattle.mg_scope.proofs.variables.count_calls.Goals as goal

pub loop-place-init : goal.loop-place-init
loop-place-init c = calls_none c.args.calls.now c.args.statements.now [] c.requires.no_calls c.requires.no_statements

pub loop-place-preserved : goal.loop-place-preserved
loop-place-preserved c =
    subst (λ (z : List Use). AreCalls c.count_use.new.calls c.count_use.new.statements z) (sym (take_more c.args.uses.now c.loop-place.place _ c.loop-place-test.true))
    (c.in_ok-count_use.ensures (take c.loop-place.place c.args.uses.now) (length-take-le c.loop-place.place c.args.uses.now (omega (arith, c.loop-place-test.true))) c.loop-place.invariant)

pub returns : goal.returns
returns c = subst (λ (z : List Use). AreCalls c.loop-place.calls c.loop-place.statements z) (take_all c.loop-place.place c.args.uses.now c.loop-place-test.false) c.loop-place.invariant
