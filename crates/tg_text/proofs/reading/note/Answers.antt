use Rattle.tg_text.proofs.Known.{noted}
use Rattle.tg_text.proofs.reading.note.Goals as goal

pub returns-clause-new : goal.returns-clause-new
returns-clause-new c = (noted c.args.known.now.keys c.insert.new.self.keys c.args.class.0 c.in_ok-insert.field-0 c.in_ok-insert.ensures.added c.in_ok-insert.ensures.keys).0

pub returns-clause-again : goal.returns-clause-again
returns-clause-again c = (noted c.args.known.now.keys c.insert.new.self.keys c.args.class.0 c.in_ok-insert.field-0 c.in_ok-insert.ensures.added c.in_ok-insert.ensures.keys).1
