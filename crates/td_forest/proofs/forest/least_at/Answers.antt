use Rattle.td_forest.proofs.forest.least_at.Goals as goal

pub returns-then-first-y : goal.returns-then-first-y
returns-then-first-y c = record { there = c.if-here-y.true; at = c.if-first-y.true; least = c.loop-y.invariant }
