use Rattle.std.proofs.Common.{[], sym, subst}
use Rattle.sm_match.specs.Listings.{Finds}
use Rattle.sm_match.specs.Tasks.{IsBegun, GoesOnFrom}
use Rattle.sm_match.proofs.ListingLemmas.{adds_none}
use Rattle.sm_match.proofs.PlaceLemmas.{begun_nothing}
use Rattle.sm_match.proofs.matching.select_tree.Goals as goal

pub returns-then-not-has_places-clause-finds : goal.returns-then-not-has_places-clause-finds
returns-then-not-has_places-clause-finds c =
    adds_none (GoesOnFrom c.args.input.now c.args.tree.now c.args.number []) c.args.state.now.found (λ i h. c.if-not-has_places.ensures i.places h.stands)

pub extend-requires-clause-begun : goal.extend-requires-clause-begun
extend-requires-clause-begun c =
    subst (λ qs. IsBegun c.args.input.now c.args.tree.now.sem qs c.args.state.now.bindings.items) (sym c.requires.places)
    (subst (λ bs. IsBegun c.args.input.now c.args.tree.now.sem [] bs) (sym c.requires.bindings) (begun_nothing c.args.input.now c.args.tree.now.sem))

pub returns-clause-finds : goal.returns-clause-finds
returns-clause-finds c =
    subst (λ n. Finds (GoesOnFrom c.args.input.now c.args.tree.now n []) c.args.state.now.found c.extend.new.state.found c.extend.result) c.in-Ok.ensures.1
    (subst (λ qs. Finds (GoesOnFrom c.args.input.now c.args.tree.now c.in-Ok.number qs) c.args.state.now.found c.extend.new.state.found c.extend.result) c.requires.places c.extend.ensures.finds)
