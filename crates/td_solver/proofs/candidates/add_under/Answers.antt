use Rattle.std.proofs.Common.{ℕ, ◌+◌, subst}
use Rattle.std.specs.Prelude.{Some}
use Rattle.gr_base.proofs.Results.{IfOk-weaker}
use Rattle.td_desc.specs.Descriptions.{description_of}
use Rattle.td_forest.specs.Steps.{forest_of, kids_of, width}
use Rattle.td_solver.specs.Candidates.{IsPushed, IsEnough, IsPlainBelow, IsInsertBelow}
use Rattle.td_solver.proofs.Listed.{enough_pushed, plain_enough}
use Rattle.td_solver.proofs.candidates.add_under.Goals as goal

pub returns-then-are_told : goal.returns-then-are_told
returns-then-are_told c =
    let d = description_of c.args.task.now.d.now in
    let m = c.args.node in
    let F = forest_of c.args.forest.now in
    let u = c.args.at in
    let w = c.width-width.result in
    let old = c.args.all.now.items in
    let new = c.add_plain.new.all.items in
    IfOk-weaker (λ x. IsPushed (IsPlainBelow (Some u) (w + 1)) old new) (λ x. IsEnough d m F (IsInsertBelow (Some u) (width (kids_of u F)) (width (kids_of u F) + 1)) old new) c.add_plain.result
    (λ x p. subst (λ (k : ℕ). IsEnough d m F (IsInsertBelow (Some u) k (k + 1)) old new) c.width-width.ensures.is
    (plain_enough d m F u w old new c.requires.model c.requires.at c.width-width.ensures.is c.if-are_told.ensures p)) c.add_plain.ensures

pub returns-else-are_told : goal.returns-else-are_told
returns-else-are_told c =
    let d = description_of c.args.task.now.d.now in
    let m = c.args.node in
    let F = forest_of c.args.forest.now in
    let u = c.args.at in
    let w = c.width-width.result in
    let old = c.args.all.now.items in
    let new = c.add_among.new.all.items in
    IfOk-weaker (λ x. IsPushed (IsInsertBelow (Some u) w (w + 1)) old new) (λ x. IsEnough d m F (IsInsertBelow (Some u) (width (kids_of u F)) (width (kids_of u F) + 1)) old new) c.add_among.result
    (λ x p. subst (λ (k : ℕ). IsEnough d m F (IsInsertBelow (Some u) k (k + 1)) old new) c.width-width.ensures.is
    (enough_pushed d m F (IsInsertBelow (Some u) w (w + 1)) old new p)) c.add_among.ensures
