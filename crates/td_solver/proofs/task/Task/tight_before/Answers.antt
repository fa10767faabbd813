use Rattle.std.proofs.Common.{◌∙◌}
use Rattle.td_solver.specs.Ties.{is_tight_before}
use Rattle.td_solver.proofs.TieLemmas.{kept_within, kept_is}
use Rattle.td_solver.proofs.task.Task.tight_before.Goals as goal

pub get-requires : goal.get-requires
get-requires c = kept_within is_tight_before c.args.self.now.d.now.relations c.args.self.now.tight c.args.node c.args.self.now.count c.requires.task.tight c.requires.node

pub returns : goal.returns
returns c =
    c.as_slice.ensures ∙ kept_is is_tight_before c.args.self.now.d.now.relations c.args.self.now.tight c.args.node c.args.self.now.count c.get.result.now c.requires.task.tight c.requires.node c.get.ensures
