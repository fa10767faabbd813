use Rattle.std.proofs.Common.{◌≡◌, length, take, ◌∙◌, arith}
use Rattle.std.proofs.lemmas.List.{length-map, length-take-le}
use Rattle.gr_store.specs.State.{assertions_of}
use Rattle.gr_store.proofs.States.{IsState-undo, state_entries, entry_count-take, first_of_past}
use Rattle.gr_store.proofs.store.Store.undo.Goals as goal

pub overflow_sub-self-3 : goal.overflow_sub-self-3
overflow_sub-self-3 c =
    let s = c.self.inside in
    let earlier = rw (← c.self.view_is) at c.requires in
    omega (arith, earlier.entries, entry_count-take c.args.mark.assertions (assertions_of (take s.used.assertions s.kept.items)), state_entries _ _ _ _ _ _ _ c.self.invariant)

pub invariant_of-self : goal.invariant_of-self
invariant_of-self c =
    let s = c.self.inside in
    let past = take s.used.assertions s.kept.items in
    let earlier = rw (← c.self.view_is) at c.requires in
    let len : length (assertions_of past) ≡ s.used.assertions =
    length-map past (λ e. e.assertion) ∙ length-take-le s.used.assertions s.kept.items (omega (arith, c.self.invariant.kept_room)) in
    IsState-undo s.terms s.nodes _ _ s.base s.kept.items s.attributes.items s.used s.spare c.args.mark c.self.invariant
    earlier.vars earlier.slots (omega (arith, len, earlier.assertions))
    (omega (arith, earlier.entries, entry_count-take c.args.mark.assertions (assertions_of past), state_entries _ _ _ _ _ _ _ c.self.invariant))
    earlier.entries earlier.mentions (rw c.deref.ensures.value at c.rewind_to.ensures.terms) (rw c.deref.ensures.value at c.rewind_to.ensures.nodes)

pub returns : goal.returns
returns c =
    let s = c.self.inside in
    let past = take s.used.assertions s.kept.items in
    let earlier = rw (← c.self.view_is) at c.requires in
    let len : length (assertions_of past) ≡ s.used.assertions =
    length-map past (λ e. e.assertion) ∙ length-take-le s.used.assertions s.kept.items (omega (arith, c.self.invariant.kept_room)) in
    rw (← c.self.view_is) (rw (len, ← state_entries _ _ _ _ _ _ _ c.self.invariant, first_of_past s.kept.items s.used.assertions c.args.mark.assertions (omega (arith, len, earlier.assertions))))
