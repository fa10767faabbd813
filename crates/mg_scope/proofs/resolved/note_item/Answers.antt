use Rattle.std.proofs.Common.{sym, ap}
use Rattle.mg_scope.specs.Classes.{valuation}
use Rattle.mg_scope.proofs.FirstLemmas.{firsts_same}
use Rattle.mg_scope.proofs.resolved.note_item.Goals as goal

pub returns-in_ok-note_name-in-Value : goal.returns-in_ok-note_name-in-Value
returns-in_ok-note_name-in-Value c = λ seen known. rw c.in-Value.is (c.in_ok-note_name-in-Value.ensures seen known)

pub returns-in-Class : goal.returns-in-Class
returns-in-Class c = λ seen known. firsts_same c.args.met.now c.args.names.now.items seen (valuation c.args.item.now) (ap valuation c.in-Class.is) known

pub returns-in-Header : goal.returns-in-Header
returns-in-Header c = λ seen known. firsts_same c.args.met.now c.args.names.now.items seen (valuation c.args.item.now) (ap valuation c.in-Header.is) known
