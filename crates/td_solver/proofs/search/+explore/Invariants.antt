use Rattle.std.proofs.Common.{◌-◌, ◌≤◌}
use Rattle.td_canon.specs.CanonicalTexts.{text_in}
use Rattle.td_desc.specs.Descriptions.{description_of}
use Rattle.td_solver.specs.Solutions.{GainsSome}
use Rattle.td_solver.specs.Turns.{IsRestored}
use Rattle.td_solver.proofs.Looping.{Runs}
use Rattle.td_solver.proofs.search.+explore.Given as goal

abbrev pub decreases-explore : goal.decreases-explore
decreases-explore l = l.task.now.count - l.node

abbrev pub invariant-loop-at : goal.invariant-loop-at
invariant-loop-at l = record {
  same : IsRestored l.initial.state l.state;
  runs : Runs (text_in l.task.symbols.now) (description_of l.task.d.now) l.node l.task.count l.initial.state l.start l.at l.initial.budget.left l.budget.left l.out;
  some : GainsSome l.task.symbols.now (description_of l.task.d.now) l.fn.out l.out;
  falls : l.budget.left ≤ l.initial.budget.left;
}
