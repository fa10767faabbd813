use Rattle.std.proofs.Common.{length}
use Rattle.gr_store.proofs.States.{joins_in, terms_in}
use Rattle.gr_store.proofs.kept.rewind_to.Goals as goal

pub rewind-requires : goal.rewind-requires
rewind-requires c = joins_in c.args.kept.now c.args.assertions _ (length c.args.nodes.now.1) c.if-assertions-kept.true c.requires.joins_rise

pub rewind-requires-then-assertions-kept : goal.rewind-requires-then-assertions-kept
rewind-requires-then-assertions-kept c = terms_in c.args.kept.now c.args.assertions _ (length c.args.terms.now.1) c.if-assertions-kept.true c.requires.terms_rise
