use Rattle.td_model.proofs.LoadSteps.{HasMoreVariables}
use Rattle.td_model.proofs.loading.make_variables.Given as goal

abbrev pub invariant-variables : goal.invariant-variables
invariant-variables l = HasMoreVariables l.fn.store l._made l.store
