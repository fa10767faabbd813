use Rattle.std.proofs.Common.{◌≡◌, ℕ, ◌+◌, ◌<◌, List, length, arith, get_or, subst, sym, ◌∙◌, ap}
use Rattle.std.proofs.lemmas.List.{length-set}
use Rattle.td_forest.specs.Spans.{AreEnds}
use Rattle.td_forest.proofs.Kept.{ends_skip, ends_more}
use Rattle.td_forest.proofs.forest.ends.Goals.{then-here-y, else-here-y}
use Rattle.td_forest.proofs.forest.ends.Goals as goal

pub loop-y-preserved : goal.loop-y-preserved
loop-y-preserved c =
    let here = c.args.here.now in
    let first = c.args.first.now in
    let behind = c.args.behind.now in
    let y = c.loop-y.y in
    let cells : length c.loop-y.ends ≡ 24 = c.loop-y.invariant.cells in
    elim c.if-here-y.branch [
      | then-here-y w ↦
          let low : get_or first y 0 < 24 = c.requires y w.if-here-y.true in
          record {
            ends = subst (λ (e : List ℕ). AreEnds here first behind (y + 1) e) (sym w.ends-is) (ends_more here first behind c.loop-y.ends y w.if-here-y.true (omega arith) c.loop-y.invariant.ends);
            cells = ap (λ (e : List ℕ). length e) w.ends-is ∙ length-set c.loop-y.ends (get_or first y 0) (get_or behind y 0) ∙ cells;
          }
      | else-here-y w ↦ record {
        ends = subst (λ (e : List ℕ). AreEnds here first behind (y + 1) e) (sym w.ends-is) (ends_skip here first behind c.loop-y.ends y w.if-here-y.false c.loop-y.invariant.ends);
        cells = ap (λ (e : List ℕ). length e) w.ends-is ∙ cells;
      }
    ]

pub returns : goal.returns
returns c =
    let e : c.loop-y.y ≡ 24 = omega arith in
    subst (λ (k : ℕ). AreEnds c.args.here.now c.args.first.now c.args.behind.now k c.loop-y.ends) e c.loop-y.invariant.ends
