use Rattle.std.proofs.Common.{◌∙◌}
use Rattle.td_solver.specs.Ties.{is_of}
use Rattle.td_solver.proofs.TieLemmas.{kept_within, kept_is}
use Rattle.td_solver.proofs.task.Task.ties.Goals as goal

pub get-requires : goal.get-requires
get-requires c = kept_within is_of c.args.self.now.d.now.relations c.args.self.now.ties c.args.node c.args.self.now.count c.requires.task.ties c.requires.node

pub returns : goal.returns
returns c =
    c.as_slice.ensures ∙ kept_is is_of c.args.self.now.d.now.relations c.args.self.now.ties c.args.node c.args.self.now.count c.get.result.now c.requires.task.ties c.requires.node c.get.ensures
