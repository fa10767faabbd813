use Rattle.std.proofs.Common.{string_bytes, subst}
use Rattle.td_canon.specs.TreeOrders.{HasTextAt, SplitsAt}
use Rattle.td_canon.proofs.SetLemmas.{Gains-middle, HasTextAt-among, SplitsAt-lacks}
use Rattle.td_canon.proofs.tree_set.TreeSet.add.Goals as goal

pub returns-in-Ok-clause-there : goal.returns-in-Ok-clause-there
returns-in-Ok-clause-there c = (
  string_bytes c.in_ok-text.text,
  c.in_ok-text.ensures,
  HasTextAt-among c.args.self.now c.in-Ok.field-0 (string_bytes c.in_ok-text.text) (subst (λ t. HasTextAt c.args.self.now c.in-Ok.field-0 t) c.as_str.ensures.value c.in-Ok.ensures),
)

pub returns-in_ok-insert-in-Err-clause-added : goal.returns-in_ok-insert-in-Err-clause-added
returns-in_ok-insert-in-Err-clause-added c = (
  string_bytes c.in_ok-text.text,
  c.in_ok-text.ensures,
  SplitsAt-lacks c.args.self.now c.in-Err.place (string_bytes c.in_ok-text.text) (subst (λ t. SplitsAt c.args.self.now c.in-Err.place t) c.as_str.ensures.value c.in-Err.ensures),
  Gains-middle c.args.self.now c.insert.new.self c.in-Err.place (record { tree = c.args.tree; text = c.in_ok-text.text }) c.in_ok-insert-in-Err.ensures.ok,
)
