use Rattle.std.proofs.Common.{◌+◌}
use Rattle.gr_terms.specs.Networks.{put_assertion}
use Rattle.gr_terms.specs.Views.{assertion_of}
use Rattle.gr_terms.specs.declared.Assertion.TheVariants.{Entry, Equate, Link}
use Rattle.td_check.specs.Shifts.{later_var, later_slot}
use Rattle.td_check.proofs.Gaining.{agrees_one, counted_entry, counted_equate, counted_link}
use Rattle.td_check.proofs.load.assert_counted.Goals as goal

pub returns-in-Entry-clause-agrees : goal.returns-in-Entry-clause-agrees
returns-in-Entry-clause-agrees c =
    let vars = c.args.vars in
    let slots = c.args.slots in
    agrees_one c.args.store.now.accepted (Entry (record { 0 = slots + c.in-Entry.slot.0 }) c.in-Entry.attr c.counted.result) (put_assertion (later_var vars) (later_slot slots) (assertion_of c.args.assertion)) c.put.result
    (counted_entry vars slots c.args.assertion c.in-Entry.slot c.in-Entry.attr c.in-Entry.value c.counted.result c.in-Entry.is c.counted.ensures) c.put.ensures.agrees

pub returns-in-Equate-clause-agrees : goal.returns-in-Equate-clause-agrees
returns-in-Equate-clause-agrees c =
    let vars = c.args.vars in
    let slots = c.args.slots in
    agrees_one c.args.store.now.accepted (Equate c.counted-in-Equate.result c.counted-in-Equate-2.result) (put_assertion (later_var vars) (later_slot slots) (assertion_of c.args.assertion)) c.equate.result
    (counted_equate vars slots c.args.assertion c.in-Equate.one c.in-Equate.other c.counted-in-Equate.result c.counted-in-Equate-2.result c.in-Equate.is c.counted-in-Equate.ensures c.counted-in-Equate-2.ensures) c.equate.ensures.agrees

pub returns-in-Link-clause-agrees : goal.returns-in-Link-clause-agrees
returns-in-Link-clause-agrees c =
    let vars = c.args.vars in
    let slots = c.args.slots in
    agrees_one c.args.store.now.accepted (Link (record { 0 = slots + c.in-Link.one.0 }) (record { 0 = slots + c.in-Link.other.0 })) (put_assertion (later_var vars) (later_slot slots) (assertion_of c.args.assertion)) c.link.result
    (counted_link vars slots c.args.assertion c.in-Link.one c.in-Link.other c.in-Link.is) c.link.ensures.agrees
