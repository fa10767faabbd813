use Rattle.gr_base.proofs.Results.{IfOk-weaker}
use Rattle.td_desc.specs.Descriptions.{description_of}
use Rattle.td_forest.specs.Steps.{forest_of}
use Rattle.td_solver.specs.Candidates.{IsEnough, IsMergeBelow, IsUnderBelow}
use Rattle.td_solver.specs.Tasks.{IsCandidateOf}
use Rattle.td_solver.proofs.Choosing.{white_candidates, black_candidates, red_candidates}
use Rattle.td_solver.proofs.candidates.add_candidates.Goals as goal

pub returns-in-White : goal.returns-in-White
returns-in-White c =
    let dd = c.args.task.now.d.now in
    let m = c.args.node in
    let F = forest_of c.args.forest.now in
    let old = c.args.all.now.items in
    let new = c.add_merges.new.all.items in
    IfOk-weaker (λ u. IsEnough (description_of dd) m F (IsMergeBelow F m) old new) (λ u. IsEnough (description_of dd) m F (IsCandidateOf dd m F) old new) c.add_merges.result
    (λ u p. white_candidates dd m F c.requires.model.nodes c.node.result.now c.node.ensures c.in-White.is old new p) c.add_merges.ensures

pub returns-in-Black : goal.returns-in-Black
returns-in-Black c =
    let dd = c.args.task.now.d.now in
    let m = c.args.node in
    let F = forest_of c.args.forest.now in
    let old = c.args.all.now.items in
    let new = c.add_insertions.new.all.items in
    IfOk-weaker (λ u. IsEnough (description_of dd) m F (IsUnderBelow F m) old new) (λ u. IsEnough (description_of dd) m F (IsCandidateOf dd m F) old new) c.add_insertions.result
    (λ u p. black_candidates dd m F c.requires.model.nodes c.node.result.now c.node.ensures c.in-Black.is old new p) c.add_insertions.ensures

pub returns-in-Red : goal.returns-in-Red
returns-in-Red c =
    let dd = c.args.task.now.d.now in
    let m = c.args.node in
    let F = forest_of c.args.forest.now in
    let old = c.args.all.now.items in
    let new = c.add_insertions-in-Red.new.all.items in
    IfOk-weaker (λ u. IsEnough (description_of dd) m F (IsUnderBelow F m) old new) (λ u. IsEnough (description_of dd) m F (IsCandidateOf dd m F) old new) c.add_insertions-in-Red.result
    (λ u p. red_candidates dd m F c.requires.model.nodes c.node.result.now c.node.ensures c.in-Red.is old new p) c.add_insertions-in-Red.ensures
