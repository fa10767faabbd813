use Rattle.std.proofs.Common.{◌≡◌, ◌+◌, ◌<◌, length, take, get_or, subst, sym, ap, ◌∙◌, arith}
use Rattle.std.specs.Prelude.{set}
use Rattle.std.proofs.lemmas.List.{length-set}
use Rattle.gr_base.specs.Lists.{Each}
use Rattle.gr_base.proofs.ListLemmas.{Each-at, IsAmong-get_or}
use Rattle.mg_facts.specs.Classes.{root}
use Rattle.mg_facts.proofs.LoopLemmas.{AreStanding, place_more, taken_all}
use Rattle.mg_facts.proofs.classes.places.Goals as goal

pub loop-x-preserved : goal.loop-x-preserved
loop-x-preserved c =
    let h = c.loop-x-test.true in
    let l : root c.args.roots.now (get_or c.args.nodes.now c.loop-x.x-index 0) < length c.loop-x.places.items =
    subst (λ n. root c.args.roots.now (get_or c.args.nodes.now c.loop-x.x-index 0) < n) (sym c.loop-x.invariant.size)
    (c.requires.range _ (Each-at (λ x. x < length c.args.roots.now) c.args.nodes.now _ c.requires.below (IsAmong-get_or c.args.nodes.now c.loop-x.x-index 0 h)))
    in
    record {
      place = c.in-Some.ensures.1 ∙ ap (λ n. n + 1) c.loop-x.invariant.place;
      size = length-set c.loop-x.places.items (root c.args.roots.now (get_or c.args.nodes.now c.loop-x.x-index 0)) c.loop-x.place ∙ c.loop-x.invariant.size;
      stand = subst (λ k. AreStanding c.args.roots.now c.args.nodes.now (set c.loop-x.places.items (root c.args.roots.now (get_or c.args.nodes.now c.loop-x.x-index 0)) k) (take (c.loop-x.x-index + 1) c.args.nodes.now))
          (sym c.loop-x.invariant.place) (place_more c.args.roots.now c.args.nodes.now c.loop-x.places.items c.loop-x.x-index 0 h l c.loop-x.invariant.stand);
    }

pub returns : goal.returns
returns c = record {
  size = c.loop-x.invariant.size;
  stand = subst (λ z. AreStanding c.args.roots.now c.args.nodes.now c.loop-x.places.items z) (taken_all c.args.nodes.now c.loop-x.x-index c.loop-x-test.false) c.loop-x.invariant.stand;
}
