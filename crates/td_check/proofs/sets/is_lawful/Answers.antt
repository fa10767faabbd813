use Rattle.std.proofs.Common.{◌≡◌, rules, arith, true, false, sym, ◌∙◌}
use Rattle.std.proofs.lemmas.Bool.{false≢true}
use Rattle.std.proofs.lemmas.Option.{slice_get_within}
use Rattle.td_desc.specs.declared.Colour.TheVariants.{White}
use Rattle.td_desc.specs.Descriptions.{description_of}
use Rattle.td_colour.specs.Colours.{IsLawful}
use Rattle.td_colour.proofs.Colouring.{colour_of}
use Rattle.td_check.specs.Sets.{sent_to}
use Rattle.td_check.specs.Places.{GoesWith}
use Rattle.td_check.proofs.Heads.{yes_to, no_to}
use Rattle.td_check.proofs.Gaining.{is_not}
use Rattle.td_check.proofs.Lawfulness.{go_more, lawful_by, lawful_head, lawful_goes, of_colour}
use Rattle.td_check.proofs.sets.is_lawful.Goals as goal

pub returns-then-eq : goal.returns-then-eq
returns-then-eq c =
    let nodes = (description_of c.args.d.now).nodes in
    let is : c.get.result.now.colour ≡ White = search rules in
    no_to (IsLawful nodes (sent_to c.args.map.now c.args.to))
    (λ l. lawful_head nodes c.args.map.now c.args.to c.args.head c.requires.first (c.blacks_first.ensures c.args.d.now c.requires.numbered) l
    (of_colour c.args.d.now.nodes c.args.head c.get.result.now White c.get.ensures is))

pub goes_with-requires-clause-head_within : goal.goes_with-requires-clause-head_within
goes_with-requires-clause-head_within c = slice_get_within c.args.map.now c.args.head c.args.to c.requires.first.sent

pub loop-node-preserved : goal.loop-node-preserved
loop-node-preserved c =
    go_more (description_of c.args.d.now).nodes c.args.map.now c.args.to c.args.head c.loop-node.node c.loop-node.invariant (c.goes_with.ensures.0 c.if-not-goes_with.false)

pub returns-then-not-goes_with : goal.returns-then-not-goes_with
returns-then-not-goes_with c =
    let nodes = (description_of c.args.d.now).nodes in
    no_to (IsLawful nodes (sent_to c.args.map.now c.args.to))
    (λ l. is_not c.goes_with.result (GoesWith nodes c.args.map.now c.args.to c.args.head c.loop-node.node) c.goes_with.ensures c.if-not-goes_with.true
    (lawful_goes nodes c.args.map.now c.args.to c.args.head c.requires.first (c.blacks_first.ensures c.args.d.now c.requires.numbered) l c.loop-node.node))

pub returns : goal.returns
returns c =
    let nodes = (description_of c.args.d.now).nodes in
    let back : c.get.result.now.colour ≡ White → c.eq.result ≡ true = λ e. search rules in
    yes_to (IsLawful nodes (sent_to c.args.map.now c.args.to))
    (lawful_by nodes c.args.map.now c.args.to c.args.head c.requires.first c.get.result.now.colour (colour_of c.args.d.now.nodes c.args.head c.get.result.now c.get.ensures)
    (λ e. false≢true (sym c.if-eq.false ∙ back e)) (λ x l. c.loop-node.invariant x (omega (arith, c.loop-node-test.false, l))))
