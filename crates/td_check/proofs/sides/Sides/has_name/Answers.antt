use Rattle.std.proofs.Common.{◌≡◌, ◌↔◌, ℕ, IsTrue, nat_eq, false, subst, sym, ap, arith}
use Rattle.std.proofs.lemmas.Bool.Decides.{nat_tests}
use Rattle.gr_terms.specs.Networks.{name}
use Rattle.gr_terms.specs.Networks as net
use Rattle.gr_terms.specs.Views.{term_of}
use Rattle.td_check.specs.Sides.{network_in}
use Rattle.td_check.specs.Places.{FitsNames}
use Rattle.td_check.proofs.Passing.{is_name, no_name, same_numbers}
use Rattle.td_check.proofs.sides.Sides.has_name.Goals as goal

pub returns-in-Some : goal.returns-in-Some
returns-in-Some c =
    let N = network_in c.args.self.now in
    let x = term_of c.args.term in
    let b = nat_eq c.in-Const.name.0 c.in-Some.other.0 in
    let named : term_of c.args.value ≡ name c.in-Const.name.0 = ap term_of c.in-Const.is in
    subst (λ (w : net.Term ℕ). IsTrue b ↔ FitsNames N w x) (sym named)
    (is_name N c.in-Const.name.0 c.in-Some.other.0 x b c.in-Some.ensures.one c.in-Some.ensures.linked
    ((same_numbers c.in-Const.name.0 c.in-Some.other.0).0) ((same_numbers c.in-Const.name.0 c.in-Some.other.0).1))

pub returns-in-None : goal.returns-in-None
returns-in-None c =
    let N = network_in c.args.self.now in
    let x = term_of c.args.term in
    let named : term_of c.args.value ≡ name c.in-Const.name.0 = ap term_of c.in-Const.is in
    subst (λ (w : net.Term ℕ). IsTrue false ↔ FitsNames N w x) (sym named) (no_name N c.in-Const.name.0 x c.in-None.ensures.linked)
