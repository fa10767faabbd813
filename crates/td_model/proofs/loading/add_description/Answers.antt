use Rattle.std.proofs.Common.{◌+◌, ◌-◌, ◌∙◌, ap, refl, sym, subst}
use Rattle.std.proofs.lemmas.Bool.{false≢true}
use Rattle.gr_store.specs.Contents.{Contents, Mentions}
use Rattle.gr_store.proofs.Growth.{Grows-trans}
use Rattle.td_model.proofs.LoadSteps.{IsAdded-more, IsAdded-none, counted_fits, counted_is, next_entry_room, next_mentions, part_refuses}
use Rattle.td_model.proofs.loading.add_description.Goals as goal

pub network-init : goal.network-init
network-init c =
    IsAdded-none c.args.store.now c.make_slots.new.store c.args.d.now
    (c.make_slots.ensures.made ∙ ap (λ (s : Contents). record s { slots = s.slots + c.args.d.now.slots; spare = record s.spare { slots = s.spare.slots - c.args.d.now.slots } }) c.make_variables.ensures.made)
    c.mark-before.ensures.agrees
    (Grows-trans c.args.store.now c.make_variables.new.store c.make_slots.new.store c.make_variables.ensures.grows c.make_slots.ensures.grows)

pub counted-assertion-requires : goal.counted-assertion-requires
counted-assertion-requires c =
    counted_fits c.args.store.now c.make_slots.new.store c.args.d.now c.network.place c.at.result.now c.mark-before.result c.requires.numbered c.at.ensures c.mark-before.ensures.numbers
    (ap (λ (s : Contents). s.vars) c.make_slots.ensures.made ∙ ap (λ (s : Contents). s.vars) c.make_variables.ensures.made)
    (ap (λ (s : Contents). s.slots) c.make_slots.ensures.made ∙ ap (λ (s : Contents). s.slots + c.args.d.now.slots) c.make_variables.ensures.made)
    c.agrees.ensures.fits

pub accept-requires-clause-made : goal.accept-requires-clause-made
accept-requires-clause-made c =
    let is = counted_is c.args.store.now c.mark-before.result c.at.result.now c.counted-assertion.result c.mark-before.ensures.numbers c.counted-assertion.ensures in
    subst (λ r. Mentions c.network.store.vars c.network.store.slots r) (sym is) (next_mentions c.args.store.now c.args.d.now c.network.place c.at.result.now c.network.store c.at.ensures c.network.invariant c.requires.numbered)

pub accept-requires-clause-entry_room : goal.accept-requires-clause-entry_room
accept-requires-clause-entry_room c =
    let is = counted_is c.args.store.now c.mark-before.result c.at.result.now c.counted-assertion.result c.mark-before.ensures.numbers c.counted-assertion.ensures in
    rw is (next_entry_room c.args.store.now c.args.d.now c.network.place c.at.result.now c.network.store c.at.ensures c.network.invariant c.requires.room)

pub returns-then-not-accept-clause-agrees : goal.returns-then-not-accept-clause-agrees
returns-then-not-accept-clause-agrees c =
    let is = counted_is c.args.store.now c.mark-before.result c.at.result.now c.counted-assertion.result c.mark-before.ensures.numbers c.counted-assertion.ensures in
    let refused = rw is at c.if-not-accept.ensures.agrees in
    (λ no. absurd (false≢true no), λ all. refused.1 (part_refuses c.args.store.now c.args.d.now c.network.place c.at.result.now c.network.store c.at.ensures c.network.invariant all))

pub network-preserved : goal.network-preserved
network-preserved c =
    let is = counted_is c.args.store.now c.mark-before.result c.at.result.now c.counted-assertion.result c.mark-before.ensures.numbers c.counted-assertion.ensures in
    let agrees = rw is at c.if-not-accept.ensures.agrees in
    let accepted = rw is at c.if-not-accept.ensures.accepted in
    IsAdded-more c.args.store.now c.args.d.now c.network.place c.at.result.now c.network.store c.at.ensures c.network.invariant c.accept.new.store accepted c.if-not-accept.ensures.grows (agrees.0 refl)
