use Rattle.std.proofs.Common.{[], ◌∷◌, refl, sym, subst}
use Rattle.gr_terms.specs.Networks.{name, equate as equation}
use Rattle.gr_terms.specs.Views.{term_of}
use Rattle.std.specs.Result.{IfOk}
use Rattle.sm_match.specs.Bindings.{Equates}
use Rattle.sm_match.proofs.BindingLemmas.{equates_name}
use Rattle.sm_match.proofs.bindings.equate_name.Goals as goal

pub returns-in-Const : goal.returns-in-Const
returns-in-Const c =
    subst (λ t. Equates (equation (term_of t) (name c.args.name.0) ∷ []) c.args.bindings.now.items c.args.bindings.now.items c.eq.result) (sym c.in-Const.is)
    (equates_name c.args.bindings.now.items (name c.in-Const.own.0) c.in-Const.own.0 c.args.name.0 c.eq.result refl c.eq.ensures)

pub returns-in-Var : goal.returns-in-Var
returns-in-Var c =
    subst (λ t. IfOk c.bind.result (Equates (equation (term_of t) (name c.args.name.0) ∷ []) c.args.bindings.now.items c.bind.new.bindings.items)) (sym c.in-Var.is) c.bind.ensures
