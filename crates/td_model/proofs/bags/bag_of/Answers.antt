use Rattle.std.proofs.Common.{◌≡◌, subst, take, arith}
use Rattle.std.proofs.lemmas.List.{take_all}
use Rattle.gr_base.proofs.ListLemmas.{take-one_more}
use Rattle.gr_terms.specs.Views.{network_of}
use Rattle.gr_feats.proofs.CanonicalLemmas.{IsCollected}
use Rattle.td_model.proofs.ReadingLemmas.{bag_all, bag_skip, bag_step}
use Rattle.td_model.proofs.bags.bag_of.Goals as goal
use Rattle.td_model.proofs.bags.bag_of.Goals.{in-Some+in_ok-_added, in_default}

pub attributes-preserved : goal.attributes-preserved
attributes-preserved c =
    let N = network_of c.args.store.now.accepted in
    let so_far = take c.attributes.place c.args.attributes.now in
    let attr = c.get-attr.result.now in
    rw (take-one_more c.args.attributes.now c.attributes.place attr c.get-attr.ensures)
    (elim c.match-entry.branch [
      | in-Some+in_ok-_added w ↦
          rw w.bag-is
          (bag_step N c.args.slot so_far attr c.attributes.bag _ w.in-Some.value w.least.result w.in_ok-_added._added c.attributes.invariant w.in-Some.ensures w.least.ensures.is_linked w.least.ensures.least
          w.in_ok-_added.ensures.absent w.in_ok-_added.ensures.added w.in_ok-_added.ensures.there w.in_ok-_added.ensures.same w.in_ok-_added.ensures.listed)
      | in_default w ↦ rw w.bag-is (bag_skip N c.args.slot so_far attr c.attributes.bag c.attributes.invariant w.in_default.ensures)
    ])

pub returns : goal.returns
returns c =
    let list = c.args.store.now.accepted in
    let all : take c.attributes.place c.args.attributes.now ≡ c.args.attributes.now = take_all c.attributes.place c.args.attributes.now (omega (arith, c.attributes-test.false, c.len-place-end.ensures)) in
    bag_all list c.args.slot.0 c.args.attributes.now c.attributes.bag c.requires.agrees c.requires.attributes
    (subst (λ ks. IsCollected (network_of list) c.args.slot.0 ks c.attributes.bag) all c.attributes.invariant)
