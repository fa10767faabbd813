use Rattle.std.proofs.Common.{take, refl, sym, append-nil, arith}
use Rattle.gr_base.proofs.Booleans.{iff_true, iff_false}
use Rattle.gr_terms.specs.declared.Assertion.TheVariants.{Link}
use Rattle.gr_store.proofs.Solutions.{agrees_solved}
use Rattle.gr_store.proofs.History.{solves_now}
use Rattle.gr_store.proofs.States.{IsState-accept, accepted_more, state_indexed, values_below}
use Rattle.gr_store.proofs.Growth.{Grows-refl, Grows-same, Grows-accepting}
use Rattle.gr_store.specs.Contents.{accepting}
use Rattle.gr_store.proofs.store.Store.link.Goals as goal

pub link_slots-requires-clause-indexed : goal.link_slots-requires-clause-indexed
link_slots-requires-clause-indexed c = rw c.deref.ensures.value (state_indexed _ _ _ _ _ _ _ c.self.invariant)

pub link_slots-requires-clause-values : goal.link_slots-requires-clause-values
link_slots-requires-clause-values c = rw c.deref.ensures.value (values_below _ _ _ _ c.self.invariant.mentions (omega (arith, c.self.invariant.var_room)))

pub returns-then-not-link_slots-clause-agrees : goal.returns-then-not-link_slots-clause-agrees
returns-then-not-link_slots-clause-agrees c =
    let s = c.self.inside in
    let past = take s.used.assertions s.kept.items in
    let solved = solves_now s.base past s.terms.1 s.nodes.1 c.self.invariant.history in
    let clash = rw c.deref.ensures.value at c.if-not-link_slots.ensures.clash in
    rw (← c.self.view_is) (iff_false (clash solved))

pub invariant_of-self-2 : goal.invariant_of-self-2
invariant_of-self-2 c =
    let s = c.self.inside in
    let past = take s.used.assertions s.kept.items in
    let solved = solves_now s.base past s.terms.1 s.nodes.1 c.self.invariant.history in
    let step = rw c.deref.ensures.value at c.if-not-link_slots.ensures.solved in
    let index = rw c.deref.ensures.value at c.if-not-link_slots.ensures.index in
    let a_made = rw (← c.self.view_is) at c.requires.a_made in
    let b_made = rw (← c.self.view_is) at c.requires.b_made in
    let room = rw (← c.self.view_is) at c.requires.room in
    IsState-accept s.terms s.nodes c.link_slots.new.terms c.link_slots.new.nodes s.base s.kept.items s.attributes.items _ s.used _ s.spare _ (Link c.args.a c.args.b) _ _
    c.self.invariant c.if-not-link_slots.ensures.size c.if-not-link_slots.ensures.nodes_size c.if-not-link_slots.ensures.extends c.if-not-link_slots.ensures.extends_nodes
    (step solved) index
    (a_made, b_made) c.len-terms.ensures c.len-joins.ensures
    (record {
      vars = refl;
      slots = refl;
      entries = omega arith;
      assertions = refl;
      spare_vars = refl;
      spare_slots = refl;
      spare_entries = omega arith;
      spare_assertions = omega arith;
      attribute_room = refl;
      attribute_list = sym (append-nil _);
    })

pub returns-clause-agrees : goal.returns-clause-agrees
returns-clause-agrees c =
    let s = c.self.inside in
    let past = take s.used.assertions s.kept.items in
    let solved = solves_now s.base past s.terms.1 s.nodes.1 c.self.invariant.history in
    let step = rw c.deref.ensures.value at c.if-not-link_slots.ensures.solved in
    rw (← c.self.view_is) (iff_true (agrees_solved _ _ _ _ (step solved)))

pub returns-then-not-link_slots-clause-grows : goal.returns-then-not-link_slots-clause-grows
returns-then-not-link_slots-clause-grows c = Grows-same c.args.self.now c.args.self.now _ (Grows-refl c.args.self.now) (sym c.self.view_is)

pub returns-clause-grows : goal.returns-clause-grows
returns-clause-grows c =
    let s = c.self.inside in
    let room = rw (← c.self.view_is) at c.requires.room in
    let more = accepted_more s.kept.items s.used.assertions (Link c.args.a c.args.b) c.len-terms.result c.len-joins.result (omega (arith, room, c.self.invariant.kept_room)) in
    rw (← c.self.view_is) (Grows-same _ (accepting _ (Link c.args.a c.args.b)) _ (Grows-accepting _ (Link c.args.a c.args.b) room (omega arith)) (rw more refl))
