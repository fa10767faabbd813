use Rattle.mg_expand.proofs.WayLemmas.{one_expansion}
use Rattle.mg_expand.proofs.laws.each_class_has_an_expansion.Goals as goal

pub returns : goal.returns
returns c = λ m x k ws scoped at h. one_expansion m x k ws scoped at h
