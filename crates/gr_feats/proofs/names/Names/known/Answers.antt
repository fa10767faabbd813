use Rattle.std.proofs.Common.{◌∙◌}
use Rattle.gr_feats.proofs.NumberingLemmas.{looked_up}
use Rattle.gr_feats.proofs.names.Names.known.Goals as goal

pub returns : goal.returns
returns c = rw (← c.self.view_is) (looked_up c.self.inside.numbers.entries _ _ (c.copied.ensures ∙ c.get.ensures.value))
