use Rattle.gr_base.specs.Lists.{gathered}
use Rattle.td_canon.specs.Renaming.{rename_literal}
use Rattle.tg_model.specs.DenseTrees.{literal_terms}
use Rattle.lx_anchor.proofs.NumberingLemmas.{gathered-push, numbered-push}
use Rattle.lx_anchor.proofs.numbering.Numbering.literals.Goals as goal

pub literals-preserved : goal.literals-preserved
literals-preserved c =
    numbered-push (gathered literal_terms) rename_literal c.args.literals.now c.literals.place c.get.result.now (literal_terms c.get.result.now) c.args.self.now c.literals.self c.literal.new.self c.literals.numbered.items c.push.new.self.items
    c.in_ok-literal.field-0 c.get.ensures (gathered-push literal_terms c.get.result.now) c.literals.invariant c.in_ok-literal.ensures c.in_ok-push.ensures.items
