use Rattle.std.proofs.Common.{inl}
use Rattle.mg_compile.proofs.Searching.{searched_all, searched_some}
use Rattle.mg_compile.proofs.found.search.Goals as goal

pub returns-in-All-clause-searched : goal.returns-in-All-clause-searched
returns-in-All-clause-searched c =
    inl (searched_all c.args.symbols.now c.args.d.now c.args.found.now c.pay.new.found c.solve.new.budget c.solve.new.out c.if-not-pay.ensures.paid c.in_ok-solve.ensures.some
    (c.in_ok-solve.ensures.all c.in-All.is) (c.in_ok-solve.ensures.spent c.in-All.is) c.in_ok-solve.ensures.falls)

pub returns-in-Cut-clause-searched : goal.returns-in-Cut-clause-searched
returns-in-Cut-clause-searched c =
    inl (searched_some c.args.symbols.now c.args.d.now c.args.found.now c.pay.new.found c.solve.new.budget c.solve.new.out c.if-not-pay.ensures.paid c.in_ok-solve.ensures.some
    (c.in_ok-solve.ensures.cut c.in-Cut.is) (c.in_ok-solve.ensures.none_left c.in-Cut.is))
