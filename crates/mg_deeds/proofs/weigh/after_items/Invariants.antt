use Rattle.std.proofs.Common.{◌≡◌, ◌+◌, drop}
use Rattle.mg_deeds.specs.Weights.{total, syntax_weight}
use Rattle.mg_deeds.proofs.weigh.after_items.Given as goal

abbrev pub invariant-loop-item : goal.invariant-loop-item
invariant-loop-item l = l.left + total syntax_weight l.items ≡ l.room + total syntax_weight (drop l.item-index l.items)
