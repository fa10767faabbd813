use Rattle.td_forest.specs.Steps.{forest_of}
use Rattle.td_desc.specs.Descriptions.{description_of}
use Rattle.td_colour.specs.Colours.{Together}
use Rattle.td_colour.proofs.Colouring.{Seen}
use Rattle.td_colour.proofs.allowed.Given as goal

abbrev pub invariant-loop-other : goal.invariant-loop-other
invariant-loop-other l = Together (description_of l.fn.d).nodes (Seen (forest_of l.fn.forest) l.fn.node l.other) l.colour
