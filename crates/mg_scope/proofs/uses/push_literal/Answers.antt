use Rattle.std.proofs.Common.{ap, ◌∙◌, ◌++◌}
use Rattle.gr_base.specs.Lists.{gathered}
use Rattle.mg_scope.specs.Uses.{side_uses, handle_uses}
use Rattle.mg_scope.proofs.UseLemmas.{three_in_turn}
use Rattle.mg_scope.proofs.uses.push_literal.Goals as goal

pub returns : goal.returns
returns c =
    let l = c.args.literal.now in
    three_in_turn c.args.uses.now.items (handle_uses l.handle) (side_uses l.pred) (gathered side_uses l.args)
    c.push_handle.new.uses.items c.push_side.new.uses.items c.push_sides.new.uses.items c.in_ok-push_handle.ensures c.in_ok-push_side.ensures
    (c.in_ok-push_sides.ensures ∙ ap (λ z. c.push_side.new.uses.items ++ gathered side_uses z) c.as_slice.ensures)
