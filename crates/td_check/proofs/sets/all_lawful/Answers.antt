use Rattle.std.proofs.Common.{ℕ, ◌<◌, arith}
use Rattle.td_desc.specs.Descriptions.{description_of}
use Rattle.td_colour.specs.Colours.{IsLawful}
use Rattle.td_check.specs.Sets.{sent_to}
use Rattle.td_check.proofs.Heads.{yes_to, no_to}
use Rattle.td_check.proofs.Gaining.{is_not}
use Rattle.td_check.proofs.Lawfulness.{lawful_more}
use Rattle.td_check.proofs.sets.all_lawful.Goals as goal

pub is_lawful-requires-clause-first : goal.is_lawful-requires-clause-first
is_lawful-requires-clause-first c = c.requires.heads c.loop-to.to c.loop-to-test.true

pub loop-to-preserved : goal.loop-to-preserved
loop-to-preserved c = lawful_more (description_of c.args.d.now).nodes c.args.map.now c.loop-to.to c.loop-to.invariant (c.is_lawful.ensures.0 c.if-not-is_lawful.false)

pub returns-then-not-is_lawful : goal.returns-then-not-is_lawful
returns-then-not-is_lawful c =
    let nodes = (description_of c.args.d.now).nodes in
    no_to ((t : ℕ) → t < c.args.count → IsLawful nodes (sent_to c.args.map.now t))
    (λ all. is_not c.is_lawful.result (IsLawful nodes (sent_to c.args.map.now c.loop-to.to)) c.is_lawful.ensures c.if-not-is_lawful.true (all c.loop-to.to c.loop-to-test.true))

pub returns : goal.returns
returns c =
    let nodes = (description_of c.args.d.now).nodes in
    yes_to ((t : ℕ) → t < c.args.count → IsLawful nodes (sent_to c.args.map.now t)) (λ t l. c.loop-to.invariant t (omega (arith, c.loop-to-test.false, l)))
