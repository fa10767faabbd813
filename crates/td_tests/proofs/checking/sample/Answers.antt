use Rattle.std.proofs.Common.{◌≡◌, [], ◌∷◌, length, subst, sym, ap, arith}
use Rattle.td_desc.specs.Conditions.{InSearchOrder, AreSlotsBelow, ArePlacesBelow, Mentions, IsTermBelow, SaysOf}
use Rattle.td_tests.proofs.CheckLemmas.{in_order, pushed_three, each_none, each_pushed}
use Rattle.td_tests.proofs.checking.sample.Goals as goal

pub returns-clause-numbered : goal.returns-clause-numbered
returns-clause-numbered c =
    let a = c.described.result in
    let b = c.described-2.result in
    let d = c.described-3.result in
    let nodes : c.push-3.new.self ≡ a ∷ b ∷ d ∷ [] =
    pushed_three c.new-nodes.result c.push.new.self c.push-2.new.self c.push-3.new.self a b d c.new-nodes.ensures c.in_ok-push.ensures.ok c.in_ok-push-2.ensures.ok c.in_ok-push-3.ensures.ok in
    let three : length c.push-3.new.self ≡ 3 = ap length nodes in
    let P = AreSlotsBelow 10 in
    let R = ArePlacesBelow (length c.push-3.new.self) in
    let M = Mentions 3 10 in
    record {
      order = subst InSearchOrder (sym nodes) (in_order a b d c.described.ensures.colour c.described-2.ensures.colour);
      nodes =
          each_pushed P _ _ _ c.in_ok-push-3.ensures.ok
          (each_pushed P _ _ _ c.in_ok-push-2.ensures.ok
          (each_pushed P _ _ _ c.in_ok-push.ensures.ok (each_none P _ c.new-nodes.ensures)
          (omega (arith, c.described.ensures.own), omega (arith, c.described.ensures.top), omega (arith, c.described.ensures.bot)))
          (omega (arith, c.described-2.ensures.own), omega (arith, c.described-2.ensures.top), omega (arith, c.described-2.ensures.bot)))
          (omega (arith, c.described-3.ensures.own), omega (arith, c.described-3.ensures.top), omega (arith, c.described-3.ensures.bot));
      relations =
          each_pushed R _ _ _ c.in_ok-push-5.ensures.ok
          (each_pushed R _ _ _ c.in_ok-push-4.ensures.ok (each_none R _ c.new-relations.ensures) (omega (arith, three), omega (arith, three))) (omega (arith, three), omega (arith, three));
      network =
          each_pushed M _ _ _ c.in_ok-push-11.ensures.ok
          (each_pushed M _ _ _ c.in_ok-push-10.ensures.ok
          (each_pushed M _ _ _ c.in_ok-push-9.ensures.ok
          (each_pushed M _ _ _ c.in_ok-push-8.ensures.ok
          (each_pushed M _ _ _ c.in_ok-push-7.ensures.ok
          (each_pushed M _ _ _ c.in_ok-push-6.ensures.ok (each_none M _ c.new-network.ensures) (omega arith, tt))
          (omega arith, omega arith))
          (omega arith, tt))
          (omega arith, tt))
          (omega arith, omega arith))
          (omega arith, omega arith);
      interface = omega arith;
      literals =
          each_pushed (SaysOf 3) _ _ _ c.in_ok-push-13.ensures.ok (each_none (SaysOf 3) _ c.new-sem.ensures)
          (omega arith, tt, each_pushed (IsTermBelow 3) _ _ _ c.in_ok-push-12.ensures.ok (each_none (IsTermBelow 3) _ c.new-args.ensures) (omega arith));
    }
