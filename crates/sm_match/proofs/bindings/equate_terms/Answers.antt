use Rattle.std.proofs.Common.{◌<◌, ◌≤◌, length, arith, true, false}
use Rattle.gr_terms.specs.declared.Term.TheVariants.{Const}
use Rattle.sm_match.proofs.BindingLemmas.{terms_clash, terms_more, terms_end}
use Rattle.sm_match.proofs.bindings.equate_terms.Goals as goal

pub returns-then-not-branch : goal.returns-then-not-branch
returns-then-not-branch c =
    let x_in : c.loop-at.at < length c.args.terms.now = omega arith in
    c.loop-at.invariant false c.equate.new.bindings.items
    (terms_clash c.args.terms.now c.args.others.now c.loop-at.at (Const (record { 0 = 0 })) x_in c.loop-at-test.true c.loop-at.bindings.items c.equate.new.bindings.items c.in_ok-equate.field-0 c.if-not-branch.true
    c.in_ok-equate.ensures)

pub loop-at-preserved : goal.loop-at-preserved
loop-at-preserved c = λ r new rest.
    let x_in : c.loop-at.at < length c.args.terms.now = omega arith in
    c.loop-at.invariant r new
    (terms_more c.args.terms.now c.args.others.now c.loop-at.at (Const (record { 0 = 0 })) x_in c.loop-at-test.true c.loop-at.bindings.items c.equate.new.bindings.items c.in_ok-equate.field-0 c.if-not-branch.false
    c.in_ok-equate.ensures r new rest)

pub returns : goal.returns
returns c =
    let far : length c.args.terms.now ≤ c.loop-at.at = omega arith in
    c.loop-at.invariant true c.loop-at.bindings.items (terms_end c.args.terms.now c.args.others.now c.loop-at.at c.loop-at.bindings.items far)
