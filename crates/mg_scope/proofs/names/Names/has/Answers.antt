use Rattle.mg_scope.proofs.NameLemmas.{has_by_halves}
use Rattle.mg_scope.proofs.names.Names.has.Goals as goal

pub returns : goal.returns
returns c =
    has_by_halves c.self.inside.numbers.items c.deref.result.now c.args.self.now c.args.name.0 c.binary_search.result c.is_ok.result c.deref.ensures.value c.self.view_is
    c.binary_search.ensures.position c.self.invariant c.is_ok.ensures.value
