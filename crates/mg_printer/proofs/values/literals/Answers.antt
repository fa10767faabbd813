use Rattle.mg_printer.specs.Values.{literal_pieces}
use Rattle.mg_printer.proofs.Loops.{left_here, left_next}
use Rattle.mg_printer.proofs.values.literals.Goals as goal

pub literal-requires : goal.literal-requires
literal-requires c = left_here c.args.symbols.now literal_pieces c.as_slice-one-items.result.now c.loop-one.one-index c.one-item.result _ _ c.one-item.is c.loop-one-test.true c.loop-one.invariant

pub loop-one-preserved : goal.loop-one-preserved
loop-one-preserved c = left_next c.args.symbols.now literal_pieces c.as_slice-one-items.result.now c.loop-one.one-index c.one-item.result _ _ c.one-item.is c.loop-one-test.true c.loop-one.invariant _ c.in_ok-literal.ensures
