use Rattle.std.proofs.lemmas.Result.{on_ok_weaker}
use Rattle.std.proofs.Common.{◌∙◌, ap, ◌++◌, codes, false}
use Rattle.mg_printer.specs.Blocks.{colour_parts, property_parts}
use Rattle.mg_printer.proofs.Parts.{none_written, more_written, all_written, same_colour, same_closing}
use Rattle.mg_printer.proofs.blocks.all_properties.Goals as goal

pub returns : goal.returns
returns c =
    let texts = c.args.symbols.now in
    let old = c.args.out.now in
    let one = more_written texts (codes "(") old _ (colour_parts c.args.paint) _ c.colour.new.begun _ c.colour.new.out (none_written texts (codes "(") old)
    (c.in_ok-colour.ensures.text ∙ ap (λ z. old ++ z) (same_colour texts false c.args.paint)) c.in_ok-colour.ensures.begun
    in
    let two = more_written texts (codes "(") old (colour_parts c.args.paint) (property_parts c.args.own.now) _ c.properties.new.begun _ c.properties.new.out one c.in_ok-properties.ensures.text c.in_ok-properties.ensures.begun in
    on_ok_weaker c.after_parts.result (λ e. all_written texts (codes "(") (codes ")") old (colour_parts c.args.paint ++ property_parts c.args.own.now) c.properties.new.begun c.properties.new.out c.after_parts.new.out two
    (e ∙ ap (λ z. c.properties.new.out ++ z) (same_closing texts c.properties.new.begun (codes ")")))) c.after_parts.ensures
