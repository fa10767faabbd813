use Rattle.std.proofs.Common.{rules, ◌≡◌, ℕ, ◌+◌, ◌<◌, ◌≤◌, true, false, subst, sym, ◌∙◌, arith, refl}
use Rattle.td_forest.specs.Nodes.{IsIn}
use Rattle.td_forest.specs.Steps.{forest_of}
use Rattle.td_desc.specs.declared.Colour.{Colour}
use Rattle.td_desc.specs.Descriptions.{description_of}
use Rattle.td_colour.specs.Colours.{IsAllowed, Together, IsBeside, both}
use Rattle.td_colour.proofs.Colouring.{colour_of, seen_none, seen_skip, seen_both, seen_refused, seen_allowed, seen_white, Seen, HasNode, never, one_more, one_stop, decided}
use Rattle.td_colour.proofs.allowed.Goals.{then-shares+in-Some, else-shares}
use Rattle.td_colour.proofs.allowed.Goals as goal

pub loop-other-init : goal.loop-other-init
loop-other-init c =
    seen_none (forest_of c.args.forest.now) c.above-other-end.ensures.forest c.args.node c.requires.here (description_of c.args.d.now).nodes c.get.result.now.colour
    (colour_of c.args.d.now.nodes c.args.node c.get.result.now c.get.ensures)

pub returns-in-None : goal.returns-in-None
returns-in-None c =
    let F = forest_of c.args.forest.now in
    let nodes = (description_of c.args.d.now).nodes in
    let beside : IsBeside F c.args.node c.loop-other.other = c.shares.ensures.0 c.if-shares.true in
    let out = seen_both F c.above-other-end.ensures.forest c.args.node c.requires.here nodes c.loop-other.other c.loop-other.colour c.get-then-shares.result.now.colour beside
    (colour_of c.args.d.now.nodes c.loop-other.other c.get-then-shares.result.now c.get-then-shares.ensures) c.loop-other.invariant in
    let none = one_stop nodes (Seen F c.args.node (c.loop-other.other + 1)) (HasNode F c.args.node) (both c.loop-other.colour c.get-then-shares.result.now.colour) c.merged.result out c.merged.ensures c.in-None.is in
    never false (IsAllowed nodes F c.args.node) refl (seen_refused F c.above-other-end.ensures.forest c.args.node c.requires.here nodes (c.loop-other.other + 1) none)

pub loop-other-preserved : goal.loop-other-preserved
loop-other-preserved c =
    let F = forest_of c.args.forest.now in
    let nodes = (description_of c.args.d.now).nodes in
    elim c.if-shares.branch [
      | then-shares+in-Some w ↦
          let beside : IsBeside F c.args.node c.loop-other.other = c.shares.ensures.0 w.if-shares.true in
          let out = seen_both F c.above-other-end.ensures.forest c.args.node c.requires.here nodes c.loop-other.other c.loop-other.colour w.get-then-shares.result.now.colour beside
          (colour_of c.args.d.now.nodes c.loop-other.other w.get-then-shares.result.now w.get-then-shares.ensures) c.loop-other.invariant in
          subst (λ (z : Colour). Together nodes (Seen F c.args.node (c.loop-other.other + 1)) z) (sym w.colour-is)
          (one_more nodes (Seen F c.args.node (c.loop-other.other + 1)) (HasNode F c.args.node) (both c.loop-other.colour w.get-then-shares.result.now.colour) w.merged.result w.in-Some.together out w.merged.ensures w.in-Some.is)
      | else-shares w ↦
          let none : IsBeside F c.args.node c.loop-other.other → ⊥ = λ b. (
          let t : c.shares.result ≡ true = c.shares.ensures.1 b in
          let f : c.shares.result ≡ false = w.if-shares.false in
          let bad : false ≡ true = sym f ∙ t in cc) in
          subst (λ (z : Colour). Together nodes (Seen F c.args.node (c.loop-other.other + 1)) z) (sym w.colour-is)
          (seen_skip F c.above-other-end.ensures.forest c.args.node c.requires.here nodes c.loop-other.other c.loop-other.colour none c.loop-other.invariant)
    ]

pub returns : goal.returns
returns c =
    let F = forest_of c.args.forest.now in
    let nodes = (description_of c.args.d.now).nodes in
    let high : (y : ℕ) → IsIn F y → y < c.loop-other.other = λ y i. (let h : y < c.above-other-end.result = c.above-other-end.ensures.above y i in let e : c.above-other-end.result ≤ c.loop-other.other = c.loop-other-test.false in omega arith) in
    decided c.ne.result c.loop-other.colour (IsAllowed nodes F c.args.node) (λ t e. search rules) (λ ne. search rules)
    (seen_allowed F c.above-other-end.ensures.forest c.args.node c.requires.here nodes c.loop-other.other c.loop-other.colour high c.loop-other.invariant)
    (seen_white F c.above-other-end.ensures.forest c.args.node c.requires.here nodes c.loop-other.other c.loop-other.colour high c.loop-other.invariant)
