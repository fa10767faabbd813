use Rattle.tg_grammar.proofs.ShapeLemmas.{good_shape, well_formed}
use Rattle.tg_grammar.proofs.laws.well_formed_trees_have_a_good_shape.Goals as goal

pub returns : goal.returns
returns c = record { good = good_shape; well_formed = well_formed }
