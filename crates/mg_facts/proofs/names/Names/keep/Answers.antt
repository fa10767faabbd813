use Rattle.std.proofs.Common.{sym, subst}
use Rattle.gr_base.specs.Lists.{NoneTwice}
use Rattle.mg_facts.proofs.StatedLemmas.{NoneTwice-take}
use Rattle.mg_facts.proofs.names.Names.keep.Goals as goal

pub invariant_of-self : goal.invariant_of-self
invariant_of-self c = subst NoneTwice (sym c.truncate.ensures.keys) (NoneTwice-take c.args.count c.self.inside.variables.keys c.self.invariant)
