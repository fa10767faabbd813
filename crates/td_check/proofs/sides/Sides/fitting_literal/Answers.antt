use Rattle.std.proofs.Common.{◌≡◌, IsTrue, ◌&&◌, length, arith}
use Rattle.td_check.specs.Sides.{IsFitting}
use Rattle.td_check.specs.Places.{PassesTerm, PassesLiteral, AtBoth}
use Rattle.td_check.proofs.Passing.{three_true, through}
use Rattle.td_check.proofs.sides.Sides.fitting_literal.Goals as goal

pub returns : goal.returns
returns c =
    let P = IsFitting c.args.self.now in
    let vars = c.args.self.now.vars in
    let k = c.args.found.now in
    let l = c.args.literal.now in
    let A = PassesTerm P vars k.handle l.handle in
    let B = PassesTerm P vars k.pred l.pred in
    let C = AtBoth k.args l.args (PassesTerm P vars) in
    let handle = c.fitting_term-handle.result in
    let pred = c.fitting_term-pred.result in
    let args = c.fitting_args-args.result in
    let number : length k.args ≡ length l.args = omega (arith, c.len.ensures, c.len-2.ensures, c.if-len.false) in
    through (IsTrue (handle && pred && args)) (A × B × C) (PassesLiteral P vars k l)
    (three_true handle pred args A B C c.fitting_term-handle.ensures c.fitting_term-pred.ensures c.fitting_args-args.ensures)
    (λ h. record { number = number; handle = h.0; pred = h.1; args = h.2 }) (λ h. (h.handle, h.pred, h.args))
