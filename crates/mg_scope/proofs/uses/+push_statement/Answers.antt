-- The two loops go through the alternatives of a group.
use Rattle.std.proofs.Common.{ap, sym, ◌∙◌, ◌++◌}
use Rattle.gr_base.specs.Lists.{gathered}
use Rattle.mg_scope.specs.Uses.{statement_uses}
use Rattle.mg_scope.proofs.UseLemmas.{group_uses}
use Rattle.mg_scope.proofs.GatherLemmas.{grown_item, grown_all}
use Rattle.mg_scope.proofs.uses.+push_statement.Goals as goal

pub loop-inner-preserved : goal.loop-inner-preserved
loop-inner-preserved t c =
    grown_item statement_uses c.as_slice-inner-items.result.now c.loop-inner.inner-index c.inner-item.result c.loop-alternative.uses.items c.loop-inner.uses.items c.push_statement.new.uses.items
    c.loop-inner-test.true c.inner-item.is c.loop-inner.invariant c.in_ok-push_statement-in-Group.ensures

pub loop-alternative-preserved : goal.loop-alternative-preserved
loop-alternative-preserved t c =
    grown_item (gathered statement_uses) c.as_slice-alternative-items.result.now c.loop-alternative.alternative-index c.alternative-item.result c.args.uses.now.items c.loop-alternative.uses.items c.loop-inner.uses.items
    c.loop-alternative-test.true c.alternative-item.is c.loop-alternative.invariant
    (grown_all statement_uses c.as_slice-inner-items.result.now c.alternative-item.result c.loop-inner.inner-index c.loop-alternative.uses.items c.loop-inner.uses.items c.loop-inner-test.false c.loop-inner.invariant c.as_slice-inner-items.ensures)

pub returns-after-loop-alternative : goal.returns-after-loop-alternative
returns-after-loop-alternative t c =
    grown_all (gathered statement_uses) c.as_slice-alternative-items.result.now c.in-Group.body c.loop-alternative.alternative-index c.args.uses.now.items c.loop-alternative.uses.items
    c.loop-alternative-test.false c.loop-alternative.invariant c.as_slice-alternative-items.ensures
    ∙ ap (λ z. c.args.uses.now.items ++ z) (sym (group_uses c.in-Group.body) ∙ ap statement_uses (sym c.in-Group.is))
