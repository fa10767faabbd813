use Rattle.std.proofs.Common.{◌+◌}
use Rattle.std.specs.Prelude.{None}
use Rattle.gr_base.proofs.Results.{IfOk-weaker}
use Rattle.td_desc.specs.Descriptions.{description_of}
use Rattle.td_forest.specs.Steps.{forest_of}
use Rattle.td_solver.specs.Candidates.{IsPushed, IsEnough, IsInsertBelow, IsUnderBelow}
use Rattle.td_solver.proofs.Listed.{roots_listed, roots_left_out}
use Rattle.td_solver.proofs.candidates.add_roots.Goals as goal

pub returns-then-is_told : goal.returns-then-is_told
returns-then-is_told c = roots_left_out (description_of c.args.task.now.d.now) c.args.node (forest_of c.args.forest.now) c.args.all.now.items c.requires.model c.if-is_told.ensures

pub returns : goal.returns
returns c =
    let d = description_of c.args.task.now.d.now in
    let m = c.args.node in
    let F = forest_of c.args.forest.now in
    let w = c.width.result in
    let old = c.args.all.now.items in
    let new = c.add_among.new.all.items in
    IfOk-weaker (λ x. IsPushed (IsInsertBelow None w (w + 1)) old new) (λ x. IsEnough d m F (IsUnderBelow F 0) old new) c.add_among.result
    (λ x p. roots_listed d m F w old new c.width.ensures.is p) c.add_among.ensures
