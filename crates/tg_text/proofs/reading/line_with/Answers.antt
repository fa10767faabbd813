use Rattle.std.proofs.Common.{ap}
use Rattle.gr_text.specs.declared.Place.{Place}
use Rattle.tg_text.proofs.reading.line_with.Goals as goal

pub returns : goal.returns
returns c = ap (λ (p : Place). p.line) c.place_with.ensures
