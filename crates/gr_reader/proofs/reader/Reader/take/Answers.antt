use Rattle.std.proofs.Common.{sym}
use Rattle.gr_reader.proofs.Steps.{took_by}
use Rattle.gr_reader.proofs.reader.Reader.take.Goals as goal

pub returns : goal.returns
returns c = took_by c.self.inside.bytes.now c.self.inside.rest.now _ _ _ (sym c.self.view_is) c.in-Some.ensures
