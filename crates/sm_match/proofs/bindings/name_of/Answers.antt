use Rattle.std.proofs.Common.{List, sym, ◌∙◌}
use Rattle.sm_match.specs.declared.bindings.Bound.{Bound}
use Rattle.sm_match.specs.Bindings.{name_of}
use Rattle.sm_match.proofs.BindingLemmas.{name_of-here, name_of-later}
use Rattle.std.proofs.lemmas.List.{at_drop_all}
use Rattle.sm_match.proofs.bindings.name_of.Goals as goal

pub returns-then-bound-var : goal.returns-then-bound-var
returns-then-bound-var c =
    sym (name_of-here c.args.bindings.now c.loop-bound.bound-index (record { var = 0; name = record { 0 = 0 } }) c.args.var c.loop-bound-test.true c.if-bound-var.true) ∙ c.loop-bound.invariant

pub returns : goal.returns
returns c = sym (at_drop_all (λ (bs : List Bound). name_of bs c.args.var) c.args.bindings.now c.loop-bound.bound-index c.loop-bound-test.false) ∙ c.loop-bound.invariant

pub loop-bound-preserved : goal.loop-bound-preserved
loop-bound-preserved c =
    name_of-later c.args.bindings.now c.loop-bound.bound-index (record { var = 0; name = record { 0 = 0 } }) c.args.var c.loop-bound-test.true c.if-bound-var.false ∙ c.loop-bound.invariant
