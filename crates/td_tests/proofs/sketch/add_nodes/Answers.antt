use Rattle.td_tests.proofs.SketchLemmas.{adds_none, adds_one}
use Rattle.td_tests.proofs.sketch.add_nodes.Goals as goal

pub loop-one-init : goal.loop-one-init
loop-one-init c = adds_none c.args.colour c.args.nodes.now c.requires
