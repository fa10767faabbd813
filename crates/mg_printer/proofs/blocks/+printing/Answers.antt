use Rattle.std.proofs.Common.{rules, ◌∙◌, ap, sym, subst, ◌++◌, ◌∷◌, codes, length}
use Rattle.std.proofs.lemmas.Result.{on_ok_weaker}
use Rattle.gr_base.specs.Lists.{Each}
use Rattle.gr_base.proofs.ListLemmas.{Each-right}
use Rattle.mg_syntax.specs.declared.block.NodeBlock.{out-NodeBlock, the_lemmas as block_lemmas}
use Rattle.mg_syntax.specs.declared.block.Kid.{out-Kid, the_lemmas as kid_lemmas}
use Rattle.mg_printer.specs.Pieces.{IsKnown, a_key}
use Rattle.mg_printer.specs.Printing.{spelled}
use Rattle.mg_printer.specs.Blocks.{name_pieces, colour_parts, property_parts, category_parts, feature_parts, loose_pieces, down_pieces, braced, block_pieces, kid_pieces}
use Rattle.mg_printer.proofs.Loops.{then, left_here, left_next}
use Rattle.mg_printer.proofs.Parts.{enclosed-known}
use Rattle.mg_printer.proofs.Folds.{block-out, kid-out, property_list, feature_list, head_of, kids_known, features_known, properties_known, name_known, same_marks}
use Rattle.mg_printer.proofs.blocks.+printing.Goals as goal

pub block-node_name-requires : goal.block-node_name-requires
block-node_name-requires t c = name_known (IsKnown (length c.args.symbols.now)) c.args.block.now c.requires

pub block-all_properties-requires : goal.block-all_properties-requires
block-all_properties-requires t c =
    let P = IsKnown (length c.args.symbols.now) in
    let b = out-NodeBlock c.args.block.now in
    Each-right (Each P) (colour_parts b.colour) (property_parts b.own) (enclosed-known P (codes "(") (codes ")") (colour_parts b.colour ++ property_parts b.own) (properties_known P c.args.block.now c.requires))

pub block-all_features-requires : goal.block-all_features-requires
block-all_features-requires t c =
    let P = IsKnown (length c.args.symbols.now) in
    let b = out-NodeBlock c.args.block.now in
    enclosed-known P (codes "[") (codes "]") (category_parts b.own ++ feature_parts (codes "top") b.top ++ feature_parts (codes "bot") b.bot) (features_known P c.args.block.now c.requires)

pub block-kids-requires : goal.block-kids-requires
block-kids-requires t c =
    let P = IsKnown (length c.args.symbols.now) in
    (search (rules, block_lemmas, kid_lemmas), subst (λ z. Each P (braced kid_pieces z)) (sym c.as_slice.ensures) (kids_known P c.args.block.now c.requires))

pub block-returns : goal.block-returns
block-returns t c =
    let texts = c.args.symbols.now in
    let old = c.args.out.now in
    let b = out-NodeBlock c.args.block.now in
    let named = a_key (codes "node") ∷ name_pieces b.name in
    let two = then texts named (property_list b) old c.node_name.new.out c.all_properties.new.out c.in_ok-node_name.ensures c.in_ok-all_properties.ensures in
    let three = then texts (named ++ property_list b) (feature_list b) old c.all_properties.new.out c.all_features.new.out two c.in_ok-all_features.ensures in
    on_ok_weaker c.kids.result (λ e. then texts (head_of b) (braced kid_pieces b.kids) old c.all_features.new.out c.kids.new.out three
    (e ∙ ap (λ z. c.all_features.new.out ++ spelled texts (braced kid_pieces z)) c.as_slice.ensures) ∙ ap (λ z. old ++ spelled texts z) (sym (block-out c.args.block.now))) c.kids.ensures

pub kid-block-requires : goal.kid-block-requires
kid-block-requires t c =
    let P = IsKnown (length c.args.symbols.now) in
    let k = out-Kid c.args.kid.now in
    (search (rules, block_lemmas, kid_lemmas), Each-right P (loose_pieces k.loose ++ down_pieces k.down) (block_pieces k.node) (subst (λ z. Each P z) (kid-out c.args.kid.now) c.requires))

pub kid-returns : goal.kid-returns
kid-returns t c =
    let texts = c.args.symbols.now in
    let old = c.args.out.now in
    let k = out-Kid c.args.kid.now in
    on_ok_weaker c.block.result (λ e. then texts (loose_pieces k.loose ++ down_pieces k.down) (block_pieces k.node) old c.kid_marks.new.out c.block.new.out
    (c.in_ok-kid_marks.ensures ∙ ap (λ z. old ++ z) (same_marks texts k.loose k.down)) e ∙ ap (λ z. old ++ spelled texts z) (sym (kid-out c.args.kid.now))) c.block.ensures

pub kids_in_row-kid-requires : goal.kids_in_row-kid-requires
kids_in_row-kid-requires t c =
    (search (rules, block_lemmas, kid_lemmas), left_here c.args.symbols.now kid_pieces c.args.kids.now c.loop-one.one-index c.one-item.result _ _ c.one-item.is c.loop-one-test.true c.loop-one.invariant)

pub kids_in_row-loop-one-preserved : goal.kids_in_row-loop-one-preserved
kids_in_row-loop-one-preserved t c = left_next c.args.symbols.now kid_pieces c.args.kids.now c.loop-one.one-index c.one-item.result _ _ c.one-item.is c.loop-one-test.true c.loop-one.invariant _ c.in_ok-kid.ensures
