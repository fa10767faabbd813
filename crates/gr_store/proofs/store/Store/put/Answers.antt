use Rattle.std.proofs.Common.{take, refl, sym, arith}
use Rattle.std.proofs.lemmas.List.{length-set, take_more_set}
use Rattle.gr_base.proofs.Booleans.{iff_true, iff_false}
use Rattle.gr_terms.specs.declared.Assertion.TheVariants.{Entry}
use Rattle.gr_store.proofs.Solutions.{agrees_solved}
use Rattle.gr_store.proofs.History.{solves_now}
use Rattle.gr_store.proofs.States.{IsState-accept, accepted_more, state_indexed, values_below}
use Rattle.gr_store.proofs.Growth.{Grows-refl, Grows-same, Grows-accepting}
use Rattle.gr_store.specs.Contents.{accepting}
use Rattle.gr_store.proofs.store.Store.put.Goals as goal

pub put_entry-requires-clause-indexed : goal.put_entry-requires-clause-indexed
put_entry-requires-clause-indexed c = rw c.deref.ensures.value (state_indexed _ _ _ _ _ _ _ c.self.invariant)

pub put_entry-requires-clause-values : goal.put_entry-requires-clause-values
put_entry-requires-clause-values c = rw c.deref.ensures.value (values_below _ _ _ _ c.self.invariant.mentions (omega (arith, c.self.invariant.var_room)))

pub returns-then-not-put_entry-clause-agrees : goal.returns-then-not-put_entry-clause-agrees
returns-then-not-put_entry-clause-agrees c =
    let s = c.self.inside in
    let past = take s.used.assertions s.kept.items in
    let solved = solves_now s.base past s.terms.1 s.nodes.1 c.self.invariant.history in
    let clash = rw c.deref.ensures.value at c.if-not-put_entry.ensures.clash in
    rw (← c.self.view_is) (iff_false (clash solved))

pub invariant_of-self-2 : goal.invariant_of-self-2
invariant_of-self-2 c =
    let s = c.self.inside in
    let past = take s.used.assertions s.kept.items in
    let solved = solves_now s.base past s.terms.1 s.nodes.1 c.self.invariant.history in
    let step = rw c.deref.ensures.value at c.if-not-put_entry.ensures.solved in
    let index = rw c.deref.ensures.value at c.if-not-put_entry.ensures.index in
    let slot_made = rw (← c.self.view_is) at c.requires.slot_made in
    let value_made = rw (← c.self.view_is) at c.requires.value_made in
    let room = rw (← c.self.view_is) at c.requires.room in
    let entry_room = rw (← c.self.view_is) at c.requires.entry_room in
    IsState-accept s.terms s.nodes c.put_entry.new.terms c.put_entry.new.nodes s.base s.kept.items s.attributes.items _ s.used _ s.spare _ (Entry c.args.slot c.args.attr c.args.value) _ _
    c.self.invariant c.if-not-put_entry.ensures.size c.if-not-put_entry.ensures.nodes_size c.if-not-put_entry.ensures.extends c.if-not-put_entry.ensures.extends_nodes
    (step solved) index
    (slot_made, value_made) c.len-terms.ensures c.len-joins.ensures
    (record {
      vars = refl;
      slots = refl;
      entries = omega arith;
      assertions = refl;
      spare_vars = refl;
      spare_slots = refl;
      spare_entries = omega arith;
      spare_assertions = omega arith;
      attribute_room = length-set _ _ _;
      attribute_list = take_more_set s.attributes.items s.used.entries c.args.attr (omega (arith, c.self.invariant.entry_room, entry_room));
    })

pub returns-clause-agrees : goal.returns-clause-agrees
returns-clause-agrees c =
    let s = c.self.inside in
    let past = take s.used.assertions s.kept.items in
    let solved = solves_now s.base past s.terms.1 s.nodes.1 c.self.invariant.history in
    let step = rw c.deref.ensures.value at c.if-not-put_entry.ensures.solved in
    rw (← c.self.view_is) (iff_true (agrees_solved _ _ _ _ (step solved)))

pub returns-then-not-put_entry-clause-grows : goal.returns-then-not-put_entry-clause-grows
returns-then-not-put_entry-clause-grows c = Grows-same c.args.self.now c.args.self.now _ (Grows-refl c.args.self.now) (sym c.self.view_is)

pub returns-clause-grows : goal.returns-clause-grows
returns-clause-grows c =
    let s = c.self.inside in
    let room = rw (← c.self.view_is) at c.requires.room in
    let more = accepted_more s.kept.items s.used.assertions (Entry c.args.slot c.args.attr c.args.value) c.len-terms.result c.len-joins.result (omega (arith, room, c.self.invariant.kept_room)) in
    rw (← c.self.view_is) (Grows-same _ (accepting _ (Entry c.args.slot c.args.attr c.args.value)) _ (Grows-accepting _ (Entry c.args.slot c.args.attr c.args.value) room (rw (← c.self.view_is) at c.requires.entry_room)) (rw more refl))
