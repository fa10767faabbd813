use Rattle.std.proofs.Common.{arith}
use Rattle.lx_anchor.proofs.NumberingLemmas.{place-beyond, place-found_at, place-other}
use Rattle.lx_anchor.proofs.numbering.place_in.Goals as goal
use Rattle.lx_anchor.proofs.numbering.place_in.Goals.{else-place-met-via-then-place-met+else-met-place, else-place-met-via-else-place-met}

pub returns-then-met-place : goal.returns-then-met-place
returns-then-met-place c = place-found_at c.args.places.now c.args.met.now c.requires c.args.variable c.if-place-met.true c.if-met-place.true

pub returns-else-place-met : goal.returns-else-place-met
returns-else-place-met c =
    elim c.else-place-met.branch [
      | else-place-met-via-then-place-met+else-met-place w ↦ place-other c.args.places.now c.args.met.now c.requires c.args.variable (λ lt e. w.if-met-place.false e)
      | else-place-met-via-else-place-met w ↦ place-other c.args.places.now c.args.met.now c.requires c.args.variable (λ lt e. omega (arith, lt, w.if-place-met.false))
    ]

pub returns-else-slot-places : goal.returns-else-slot-places
returns-else-slot-places c = place-beyond c.args.places.now c.args.met.now c.requires c.args.variable (omega (arith, c.if-slot-places.false))
