use Rattle.std.proofs.Common.{[], ◌∷◌, refl}
use Rattle.td_canon.specs.Renaming.{rename_term}
use Rattle.lx_anchor.proofs.NumberingLemmas.{numbered-push}
use Rattle.lx_anchor.proofs.numbering.Numbering.terms.Goals as goal

pub terms-preserved : goal.terms-preserved
terms-preserved c =
    numbered-push (λ ts. ts) rename_term c.args.terms.now c.terms.place c.get.result.now (c.get.result.now ∷ []) c.args.self.now c.terms.self c.term.new.self c.terms.numbered.items c.push.new.self.items c.in_ok-term.field-0 c.get.ensures
    (λ ys. refl) c.terms.invariant c.in_ok-term.ensures c.in_ok-push.ensures.items
