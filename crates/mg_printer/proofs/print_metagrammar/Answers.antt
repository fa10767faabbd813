use Rattle.std.proofs.Common.{◌++◌, ap, sym, subst}
use Rattle.mg_syntax.specs.Names.{HasTexts}
use Rattle.mg_printer.specs.Printing.{spelling}
use Rattle.mg_printer.proofs.Known.{writable}
use Rattle.mg_printer.proofs.Lines.{line_here, line_next}
use Rattle.mg_printer.proofs.print_metagrammar.Goals as goal

pub loop-one-init : goal.loop-one-init
loop-one-init c =
    let texts = c.args.symbols.now in
    let all = c.as_slice-one-items.result.now in
    record { known = writable texts all (subst (λ z. HasTexts texts z) (sym c.as_slice-one-items.ensures) c.requires); text = ap (λ z. z ++ spelling texts all) c.new-out.ensures }

pub item-requires : goal.item-requires
item-requires c = line_here c.args.symbols.now c.as_slice-one-items.result.now c.loop-one.one-index c.one-item.result _ c.one-item.is c.loop-one-test.true c.loop-one.invariant

pub loop-one-preserved : goal.loop-one-preserved
loop-one-preserved c = line_next c.args.symbols.now c.as_slice-one-items.result.now c.loop-one.one-index c.one-item.result _ c.one-item.is c.loop-one-test.true c.loop-one.invariant _ c.in_ok-item.ensures
