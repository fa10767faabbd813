use Rattle.std.proofs.Common.{take, arith}
use Rattle.gr_terms.specs.declared.Term.TheVariants.{Var}
use Rattle.gr_store.specs.State.{assertions_of}
use Rattle.gr_store.specs.Roots.{root_by, slot_root}
use Rattle.gr_store.proofs.History.{solves_now}
use Rattle.gr_store.proofs.States.{state_indexed, entry_answer}
use Rattle.gr_store.proofs.Members.{unmade_value}
use Rattle.gr_store.proofs.store.Store.entry.Goals as goal

pub first_entry-requires-clause-indexed : goal.first_entry-requires-clause-indexed
first_entry-requires-clause-indexed c = rw c.deref.ensures.value (state_indexed _ _ _ _ _ _ _ c.self.invariant)

pub returns : goal.returns
returns c =
    let s = c.self.inside in
    let past = take s.used.assertions s.kept.items in
    let solved = solves_now s.base past s.terms.1 s.nodes.1 c.self.invariant.history in
    let below = (state_indexed _ _ _ _ _ _ _ c.self.invariant).below in
    rw (← c.self.view_is) (entry_answer s.base (assertions_of past) (root_by s.terms.1) (slot_root s.nodes.1) c.args.slot c.args.attr (Var c.root-root.result) solved c.root-root.ensures.value
    c.first_entry.result (omega (arith, c.if-self-slot.false, c.self.invariant.slot_room)) below (rw c.deref.ensures.value at c.first_entry.ensures))

pub returns-then-self-slot : goal.returns-then-self-slot
returns-then-self-slot c =
    let s = c.self.inside in
    rw (← c.self.view_is) (λ x h. unmade_value s.used.vars s.used.slots (assertions_of (take s.used.assertions s.kept.items)) c.self.invariant.mentions c.args.slot.0 c.args.attr.0 x c.if-self-slot.true h)
