use Rattle.std.proofs.Common.{refl, sym, ap, ◌∙◌, ◌++◌}
use Rattle.gr_base.specs.Lists.{gathered}
use Rattle.mg_scope.specs.Uses.{statement_uses}
use Rattle.mg_scope.proofs.GatherLemmas.{grown_item, grown_all}
use Rattle.mg_scope.proofs.uses.push_body.Goals as goal

pub loop-alternative-preserved : goal.loop-alternative-preserved
loop-alternative-preserved c =
    grown_item (gathered statement_uses) c.as_slice-alternative-items.result.now c.loop-alternative.alternative-index c.alternative-item.result c.args.uses.now.items c.loop-alternative.uses.items c.push_statements.new.uses.items
    c.loop-alternative-test.true c.alternative-item.is c.loop-alternative.invariant (c.in_ok-push_statements.ensures ∙ ap (λ z. c.loop-alternative.uses.items ++ gathered statement_uses z) c.as_slice.ensures)

pub returns : goal.returns
returns c =
    grown_all (gathered statement_uses) c.as_slice-alternative-items.result.now c.args.body.now c.loop-alternative.alternative-index c.args.uses.now.items c.loop-alternative.uses.items
    c.loop-alternative-test.false c.loop-alternative.invariant c.as_slice-alternative-items.ensures
