use Rattle.std.proofs.Common.{rules}
use Rattle.td_solver.proofs.Choosing.{reds_last}
use Rattle.td_solver.proofs.task.Task.new.Goals as goal

pub returns-clause-task : goal.returns-clause-task
returns-clause-task c = record {
  count = search rules;
  few = search rules;
  numbered = c.requires.numbered;
  named = c.requires.named;
  distinct = c.len-texts_that_differ.ensures.distinct;
  attributes = c.in_ok-attributes.ensures;
  first = c.blacks_first.ensures c.args.d.now c.requires.numbered;
  last = reds_last c.args.d.now.nodes (λ x y n m a b less. c.colours_stand_in_order.ensures c.args.d.now.nodes x y n m c.requires.numbered.order a b less);
  ties = rw c.as_slice.ensures at c.in_ok-ties.ensures;
  tight = rw c.as_slice-2.ensures at c.in_ok-tight.ensures;
  parents = rw c.as_slice-3.ensures at c.in_ok-parents.ensures;
  kids = rw c.as_slice-4.ensures at c.in_ok-kids.ensures;
}
