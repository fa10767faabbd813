use Rattle.std.proofs.Common.{take, refl, sym, append-nil, arith}
use Rattle.gr_base.proofs.Booleans.{iff_true, iff_false}
use Rattle.gr_terms.specs.declared.Assertion.TheVariants.{Equate}
use Rattle.gr_store.specs.State.{assertions_of}
use Rattle.gr_store.specs.Roots.{root_by, slot_root}
use Rattle.gr_store.proofs.Trails.{root_by-name, Extends-refl}
use Rattle.gr_store.proofs.IndexLemmas.{IsIndex-skip}
use Rattle.gr_store.proofs.Solutions.{agrees_solved, Solves-equate}
use Rattle.gr_store.proofs.History.{solves_now, index_now}
use Rattle.gr_store.proofs.States.{IsState-accept, accepted_more, equate_clash}
use Rattle.gr_store.proofs.Growth.{Grows-refl, Grows-same, Grows-accepting}
use Rattle.gr_store.specs.Contents.{accepting}
use Rattle.gr_store.proofs.store.Store.equate.Goals as goal

pub returns-then-not-unify-clause-agrees : goal.returns-then-not-unify-clause-agrees
returns-then-not-unify-clause-agrees c =
    let s = c.self.inside in
    let past = take s.used.assertions s.kept.items in
    let solved = solves_now s.base past s.terms.1 s.nodes.1 c.self.invariant.history in
    rw (← c.self.view_is) (iff_false (equate_clash s.base (assertions_of past) s.terms.1 s.nodes.1 c.args.a c.args.b solved c.if-not-unify.ensures.clash.1))

pub invariant_of-self-2 : goal.invariant_of-self-2
invariant_of-self-2 c =
    let s = c.self.inside in
    let past = take s.used.assertions s.kept.items in
    let solved = solves_now s.base past s.terms.1 s.nodes.1 c.self.invariant.history in
    let a_made = rw (← c.self.view_is) at c.requires.a_made in
    let b_made = rw (← c.self.view_is) at c.requires.b_made in
    let room = rw (← c.self.view_is) at c.requires.room in
    IsState-accept s.terms s.nodes c.unify.new.self s.nodes s.base s.kept.items s.attributes.items _ s.used _ s.spare _ (Equate c.args.a c.args.b) _ _
    c.self.invariant c.if-not-unify.ensures.size refl c.if-not-unify.ensures.extends (Extends-refl s.nodes.1)
    (Solves-equate s.base (assertions_of past) (root_by s.terms.1) (root_by c.unify.new.self.1) (slot_root s.nodes.1) c.args.a c.args.b solved c.if-not-unify.ensures.joined (root_by-name c.unify.new.self.1))
    (IsIndex-skip s.base (assertions_of past) (Equate c.args.a c.args.b) s.nodes.1 (λ t attr x same. cc) (index_now s.base past s.terms.1 s.nodes.1 c.self.invariant.history))
    (a_made, b_made) c.len-terms.ensures c.len-joins.ensures
    (record { vars = refl; slots = refl; entries = omega arith; assertions = refl; spare_vars = refl; spare_slots = refl; spare_entries = omega arith; spare_assertions = omega arith; attribute_room = refl; attribute_list = sym (append-nil _) })

pub returns-clause-agrees : goal.returns-clause-agrees
returns-clause-agrees c =
    let s = c.self.inside in
    let past = take s.used.assertions s.kept.items in
    let solved = solves_now s.base past s.terms.1 s.nodes.1 c.self.invariant.history in
    let now = Solves-equate s.base (assertions_of past) (root_by s.terms.1) (root_by c.unify.new.self.1) (slot_root s.nodes.1) c.args.a c.args.b solved c.if-not-unify.ensures.joined (root_by-name c.unify.new.self.1) in
    rw (← c.self.view_is) (iff_true (agrees_solved _ _ _ _ now))

pub returns-then-not-unify-clause-grows : goal.returns-then-not-unify-clause-grows
returns-then-not-unify-clause-grows c = Grows-same c.args.self.now c.args.self.now _ (Grows-refl c.args.self.now) (sym c.self.view_is)

pub returns-clause-grows : goal.returns-clause-grows
returns-clause-grows c =
    let s = c.self.inside in
    let room = rw (← c.self.view_is) at c.requires.room in
    let more = accepted_more s.kept.items s.used.assertions (Equate c.args.a c.args.b) c.len-terms.result c.len-joins.result (omega (arith, room, c.self.invariant.kept_room)) in
    rw (← c.self.view_is) (Grows-same _ (accepting _ (Equate c.args.a c.args.b)) _ (Grows-accepting _ (Equate c.args.a c.args.b) room (omega arith)) (rw more refl))
