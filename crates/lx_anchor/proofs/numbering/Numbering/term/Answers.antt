use Rattle.std.proofs.Common.{[], ◌∷◌, subst, sym}
use Rattle.gr_terms.specs.declared.Term.TheVariants.{Var}
use Rattle.td_canon.specs.Renaming.{rename_term}
use Rattle.lx_anchor.specs.Numberings.{IsNumbered}
use Rattle.lx_anchor.proofs.NumberingLemmas.{numbered-var}
use Rattle.lx_anchor.proofs.numbering.Numbering.term.Goals as goal

pub returns-in_ok-number-in-Var : goal.returns-in_ok-number-in-Var
returns-in_ok-number-in-Var c =
    subst (λ t. IsNumbered c.args.self.now c.number.new.self (t ∷ []) (λ f. rename_term f t) (Var c.in_ok-number-in-Var.field-0)) (sym c.in-Var.is)
    (numbered-var c.args.self.now c.number.new.self c.in-Var.variable c.in_ok-number-in-Var.field-0 c.in_ok-number-in-Var.ensures.met c.in_ok-number-in-Var.ensures.number)
