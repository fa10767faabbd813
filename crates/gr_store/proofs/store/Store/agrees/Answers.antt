use Rattle.std.proofs.Common.{take, ◌∙◌, arith}
use Rattle.std.proofs.lemmas.List.{length-map, length-take-le}
use Rattle.gr_store.proofs.States.{state_entries}
use Rattle.gr_store.proofs.Solutions.{agrees_solved}
use Rattle.gr_store.proofs.History.{solves_now}
use Rattle.gr_store.proofs.store.Store.agrees.Goals as goal

pub returns-clause-agrees : goal.returns-clause-agrees
returns-clause-agrees c =
    let s = c.self.inside in
    rw (← c.self.view_is) (agrees_solved _ _ _ _ (solves_now s.base (take s.used.assertions s.kept.items) s.terms.1 s.nodes.1 c.self.invariant.history))

pub returns-clause-mentions : goal.returns-clause-mentions
returns-clause-mentions c = rw (← c.self.view_is) c.self.invariant.mentions

pub returns-clause-fits : goal.returns-clause-fits
returns-clause-fits c =
    let s = c.self.inside in
    let i = c.self.invariant in
    let past = take s.used.assertions s.kept.items in
    let len = length-map past (λ e. e.assertion) ∙ length-take-le s.used.assertions s.kept.items (omega (arith, i.kept_room)) in
    rw (← c.self.view_is) (record {
      vars = omega (arith, i.var_room, i.vars_fit);
      slots = omega (arith, i.slot_room, i.node_room, i.nodes_fit);
      entries = omega (arith, state_entries _ _ _ _ _ _ _ i, i.entry_room, i.entries_fit);
      assertions = omega (arith, len, i.kept_room, i.node_room, i.nodes_fit);
    })
