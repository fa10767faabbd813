use Rattle.td_colour.proofs.Ordering.{first_blacks}
use Rattle.td_colour.proofs.laws.blacks_first.Goals as goal

pub returns : goal.returns
returns c d h = first_blacks d.nodes (λ x y n m a b less. c.colours_stand_in_order.ensures d.nodes x y n m h.order a b less)
