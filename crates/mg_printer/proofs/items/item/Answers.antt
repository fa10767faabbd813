use Rattle.std.proofs.Common.{◌∙◌, ap, ◌++◌}
use Rattle.std.proofs.lemmas.Result.{on_ok_weaker}
use Rattle.mg_printer.specs.Items.{item_key, item_behind}
use Rattle.mg_printer.proofs.Lines.{line_written}
use Rattle.mg_printer.proofs.items.item.Goals as goal

pub item_behind-requires : goal.item_behind-requires
item_behind-requires c = c.requires.1

pub returns : goal.returns
returns c = on_ok_weaker c.end.result (λ e. line_written c.args.symbols.now (item_key c.args.item.now) (item_behind c.args.item.now) c.args.out.now c.first.new.self c.item_behind.new.out c.end.new.self (c.in_ok-first.ensures.ok ∙ ap (λ z. c.args.out.now ++ z) c.item_key.ensures) c.in_ok-item_behind.ensures e) c.end.ensures.ok
