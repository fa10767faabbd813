use Rattle.tg_syntax.proofs.Noting.{property_reads}
use Rattle.tg_syntax.proofs.reader.Reader.property.Goals as goal

pub returns : goal.returns
returns c = property_reads c.pair.new.self.rest.now c.pair.result c.pair.ensures c.noted-self.ensures
