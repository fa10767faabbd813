use Rattle.std.proofs.Common.{length, Some, None, true, false, ap, sym, ◌∙◌, subst}
use Rattle.gr_terms.specs.declared.Term.{Term}
use Rattle.sm_match.specs.Index.{wanted_name, suiting, AreRows}
use Rattle.sm_match.proofs.IndexLemmas.{suits_named, suits_any}
use Rattle.sm_match.proofs.index.Index.places.Goals as goal

pub returns-in-Const : goal.returns-in-Const
returns-in-Const c = λ input is.
    c.places_in.ensures false input (subst (λ rs. AreRows false input input rs) (sym c.as_slice.ensures.value) is.named) (λ g. suits_named c.in-Const.name c.len.result g)
    ∙ ap (λ n. suiting 0 (Some c.in-Const.name) n input) c.len.ensures
    ∙ ap (λ (x : Term). suiting 0 (wanted_name x) (length c.args.literal.now.args) input) (sym c.in-Const.is)

pub returns-in-Var : goal.returns-in-Var
returns-in-Var c = λ input is.
    c.places_in-in-Var.ensures true input (subst (λ rs. AreRows true input input rs) (sym c.as_slice-in-Var.ensures.value) is.any) (λ g. suits_any c.len-in-Var.result g)
    ∙ ap (λ n. suiting 0 None n input) c.len-in-Var.ensures
    ∙ ap (λ (x : Term). suiting 0 (wanted_name x) (length c.args.literal.now.args) input) (sym c.in-Var.is)
