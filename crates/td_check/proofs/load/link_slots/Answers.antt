use Rattle.std.proofs.Common.{◌+◌, refl}
use Rattle.gr_terms.specs.Networks.{link}
use Rattle.gr_terms.specs.declared.Assertion.TheVariants.{Link}
use Rattle.td_check.proofs.Gaining.{agrees_one}
use Rattle.td_check.proofs.load.link_slots.Goals as goal

pub returns-clause-agrees : goal.returns-clause-agrees
returns-clause-agrees c =
    let slots = c.args.slots in
    agrees_one c.args.store.now.accepted (Link (record { 0 = slots + c.args.one.0 }) (record { 0 = slots + c.args.other.0 })) (link (slots + c.args.one.0) (slots + c.args.other.0)) c.link.result refl c.link.ensures.agrees
