use Rattle.std.proofs.Common.{arith, ◌+◌}
use Rattle.gr_terms.specs.Views.{term_of}
use Rattle.td_check.specs.Sides.{network_in, Fits}
use Rattle.td_check.specs.Places.{PassesPair, PassesBag}
use Rattle.td_check.proofs.Passing.{first_none, first_more, first_all, yes_to, no_to, is_not}
use Rattle.td_check.proofs.sides.Sides.beside_bag.Goals as goal

pub loop-place-init : goal.loop-place-init
loop-place-init c = first_none c.args.bag.now (λ k p. PassesPair (network_in c.args.self.now) (Fits c.args.self.now (term_of c.args.value) (term_of c.args.term)) (c.args.self.now.slots + c.args.slot.0) p)

pub loop-place-preserved : goal.loop-place-preserved
loop-place-preserved c =
    first_more c.args.bag.now (λ k p. PassesPair (network_in c.args.self.now) (Fits c.args.self.now (term_of c.args.value) (term_of c.args.term)) (c.args.self.now.slots + c.args.slot.0) p) c.loop-place.place c.at.result.now
    c.loop-place.invariant c.at.ensures.pair (c.beside_pair.ensures.0 c.if-not-beside_pair.false)

pub returns-then-not-beside_pair : goal.returns-then-not-beside_pair
returns-then-not-beside_pair c =
    let Q = PassesPair (network_in c.args.self.now) (Fits c.args.self.now (term_of c.args.value) (term_of c.args.term)) (c.args.self.now.slots + c.args.slot.0) in
    no_to (PassesBag (network_in c.args.self.now) (Fits c.args.self.now (term_of c.args.value) (term_of c.args.term)) (c.args.self.now.slots + c.args.slot.0) c.args.bag.now)
    (λ all. is_not c.beside_pair.result (Q c.at.result.now) c.beside_pair.ensures c.if-not-beside_pair.true (all c.loop-place.place c.at.result.now c.at.ensures.pair))

pub returns : goal.returns
returns c =
    yes_to (PassesBag (network_in c.args.self.now) (Fits c.args.self.now (term_of c.args.value) (term_of c.args.term)) (c.args.self.now.slots + c.args.slot.0) c.args.bag.now)
    (first_all c.args.bag.now (λ k p. PassesPair (network_in c.args.self.now) (Fits c.args.self.now (term_of c.args.value) (term_of c.args.term)) (c.args.self.now.slots + c.args.slot.0) p) c.loop-place.place (omega (arith, c.len-place-end.ensures.number, c.loop-place-test.false)) c.loop-place.invariant)
