use Rattle.std.proofs.Common.{take, refl, sym, ◌∙◌, arith}
use Rattle.std.proofs.lemmas.List.{length-map, length-take-le}
use Rattle.gr_store.proofs.States.{IsEarlier-now, state_entries}
use Rattle.gr_store.proofs.Solutions.{agrees_solved}
use Rattle.gr_store.proofs.History.{solves_now}
use Rattle.gr_store.proofs.store.Store.mark.Goals as goal

pub returns-clause-earlier : goal.returns-clause-earlier
returns-clause-earlier c =
    let s = c.self.inside in
    let past = take s.used.assertions s.kept.items in
    let len = length-map past (λ e. e.assertion) ∙ length-take-le s.used.assertions s.kept.items (omega (arith, c.self.invariant.kept_room)) in
    rw (← c.self.view_is) (IsEarlier-now _ s.used refl refl (sym len) (state_entries _ _ _ _ _ _ _ c.self.invariant) c.self.invariant.mentions)

pub returns-clause-agrees : goal.returns-clause-agrees
returns-clause-agrees c =
    let s = c.self.inside in
    rw (← c.self.view_is) (agrees_solved _ _ _ _ (solves_now s.base (take s.used.assertions s.kept.items) s.terms.1 s.nodes.1 c.self.invariant.history))
