use Rattle.std.proofs.Common.{ap, sym, ◌∙◌}
use Rattle.sm_match.specs.Bindings.{name_of}
use Rattle.sm_match.proofs.BindingLemmas.{equates_bound, equates_new}
use Rattle.sm_match.proofs.bindings.bind.Goals as goal

pub returns-in-Some : goal.returns-in-Some
returns-in-Some c =
    equates_bound c.args.bindings.now.items c.args.var c.in-Some.known c.args.name c.eq.result
    (ap (λ bs. name_of bs c.args.var) (sym c.as_slice.ensures.value) ∙ sym c.name_of.ensures ∙ c.in-Some.is) c.eq.ensures

pub returns-in_ok-push-in-None : goal.returns-in_ok-push-in-None
returns-in_ok-push-in-None c =
    equates_new c.args.bindings.now.items c.push.new.self.items c.args.var c.args.name
    (ap (λ bs. name_of bs c.args.var) (sym c.as_slice.ensures.value) ∙ sym c.name_of.ensures ∙ c.in-None.is) (c.in_ok-push-in-None.ensures.items)
