use Rattle.gr_base.proofs.OrderedPairs.{InByteOrder-unique}
use Rattle.gr_base.proofs.laws.one_order.Goals as goal

pub returns : goal.returns
returns c = InByteOrder-unique
