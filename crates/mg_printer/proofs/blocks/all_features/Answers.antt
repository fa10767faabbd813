use Rattle.std.proofs.lemmas.Result.{on_ok_weaker}
use Rattle.std.proofs.Common.{◌∙◌, ap, ◌++◌, codes, length}
use Rattle.gr_base.specs.Lists.{Each}
use Rattle.gr_base.proofs.ListLemmas.{Each-left, Each-right}
use Rattle.mg_printer.specs.Pieces.{IsKnown}
use Rattle.mg_printer.specs.Blocks.{category_parts, feature_parts}
use Rattle.mg_printer.proofs.Parts.{none_written, more_written, all_written, same_closing}
use Rattle.mg_printer.proofs.blocks.all_features.Goals as goal

pub category-requires : goal.category-requires
category-requires c =
    let own = category_parts c.args.own.now in
    let top = feature_parts (codes "top") c.args.top.now in
    let known = Each (IsKnown (length c.args.symbols.now)) in
    Each-left known own top (Each-left known (own ++ top) (feature_parts (codes "bot") c.args.bot.now) c.requires)

pub feature-requires : goal.feature-requires
feature-requires c =
    let own = category_parts c.args.own.now in
    let top = feature_parts (codes "top") c.args.top.now in
    let known = Each (IsKnown (length c.args.symbols.now)) in
    Each-right known own top (Each-left known (own ++ top) (feature_parts (codes "bot") c.args.bot.now) c.requires)

pub feature-requires-2 : goal.feature-requires-2
feature-requires-2 c =
    let own = category_parts c.args.own.now in
    let top = feature_parts (codes "top") c.args.top.now in
    Each-right (Each (IsKnown (length c.args.symbols.now))) (own ++ top) (feature_parts (codes "bot") c.args.bot.now) c.requires

pub returns : goal.returns
returns c =
    let texts = c.args.symbols.now in
    let old = c.args.out.now in
    let own = category_parts c.args.own.now in
    let top = feature_parts (codes "top") c.args.top.now in
    let bot = feature_parts (codes "bot") c.args.bot.now in
    let one = more_written texts (codes "[") old _ own _ c.category.new.begun _ c.category.new.out (none_written texts (codes "[") old) c.in_ok-category.ensures.text c.in_ok-category.ensures.begun in
    let two = more_written texts (codes "[") old own top _ c.feature.new.begun _ c.feature.new.out one c.in_ok-feature.ensures.text c.in_ok-feature.ensures.begun in
    let three = more_written texts (codes "[") old (own ++ top) bot _ c.feature-2.new.begun _ c.feature-2.new.out two c.in_ok-feature-2.ensures.text c.in_ok-feature-2.ensures.begun in
    on_ok_weaker c.after_parts.result (λ e. all_written texts (codes "[") (codes "]") old (own ++ top ++ bot) c.feature-2.new.begun c.feature-2.new.out c.after_parts.new.out three
    (e ∙ ap (λ z. c.feature-2.new.out ++ z) (same_closing texts c.feature-2.new.begun (codes "]")))) c.after_parts.ensures
