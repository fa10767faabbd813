use Rattle.std.proofs.Common.{ap, ◌∙◌}
use Rattle.std.specs.Prelude.{◌||◌, ◌==◌}
use Rattle.mg_reader.specs.Complaints.{among}
use Rattle.mg_reader.proofs.Keys.{known_in, inserted}
use Rattle.mg_reader.proofs.notes.Attributes.add.Goals as goal

pub returns-clause-known : goal.returns-clause-known
returns-clause-known c = known_in c.self.inside.numbers.keys c.args.name.0 c.in-Ok.ensures.added ∙ ap (λ z. among z c.args.name.0) c.self.view_is

pub returns-clause-added : goal.returns-clause-added
returns-clause-added c x = inserted c.self.inside.numbers.keys c.args.name.0 c.in-Ok.ensures.keys x ∙ ap (λ z. among z x || (x == c.args.name.0)) c.self.view_is
