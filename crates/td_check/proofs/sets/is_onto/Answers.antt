use Rattle.std.proofs.Common.{◌≡◌, ℕ, ◌<◌, IsTrue, ◌&&◌, length, arith}
use Rattle.gr_base.specs.Lists.{IsAmong, Each}
use Rattle.td_check.specs.Sets.{IsOnto}
use Rattle.td_check.proofs.Passing.{two_true, through}
use Rattle.td_check.proofs.sets.is_onto.Goals as goal

pub returns : goal.returns
returns c =
    let map = c.args.map.now in
    let A = Each (λ t. t < c.args.count) map in
    let B = (t : ℕ) → t < c.args.count → IsAmong map t in
    let within = c.all_within-within.result in
    let met = c.meets_all-met.result in
    let number : length map ≡ c.args.nodes = omega arith in
    through (IsTrue (within && met)) (A × B) (IsOnto map c.args.nodes c.args.count) (two_true within met A B c.all_within-within.ensures c.meets_all-met.ensures)
    (λ h. record { number = number; within = h.0; met = h.1 }) (λ o. (o.within, o.met))
