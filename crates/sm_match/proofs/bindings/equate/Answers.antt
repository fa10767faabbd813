use Rattle.std.proofs.Common.{[], ◌∷◌, sym, subst}
use Rattle.std.specs.Result.{IfOk}
use Rattle.gr_terms.specs.Networks.{equate as equation}
use Rattle.gr_terms.specs.Views.{term_of}
use Rattle.sm_match.specs.Bindings.{Equates}
use Rattle.sm_match.proofs.bindings.equate.Goals as goal

pub returns : goal.returns
returns c =
    subst (λ t. IfOk c.equate_name.result (Equates (equation (term_of c.args.term) (term_of t) ∷ []) c.args.bindings.now.items c.equate_name.new.bindings.items)) (sym c.own_name.ensures) c.equate_name.ensures
