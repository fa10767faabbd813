use Rattle.std.proofs.Common.{subst, arith}
use Rattle.gr_store.specs.Index.{IsLeastNode}
use Rattle.gr_store.specs.State.{assertions_of}
use Rattle.gr_store.proofs.IndexLemmas.{least_skip, least_kept, least_new}
use Rattle.gr_store.proofs.entries.earlier.Goals as goal

pub returns-in-None-default : goal.returns-in-None-default
returns-in-None-default c = λ seen l.
    least_skip c.args.base (assertions_of c.args.kept.now) c.args.attr seen c.args.at c.args.found (rw c.in-None-default.is-0 at c.value_at.ensures) l

pub returns-in-Some-None : goal.returns-in-Some-None
returns-in-Some-None c = λ seen l.
    let none = subst (IsLeastNode c.args.base (assertions_of c.args.kept.now) c.args.attr seen) c.in-Some-None.is-1 l in
    least_new c.args.base (assertions_of c.args.kept.now) c.args.attr seen c.args.at c.in-Some-None.value c.in-Some-None.ensures (λ x w among e. absurd (none x w among e))

pub returns-then-at-node : goal.returns-then-at-node
returns-then-at-node c = λ seen l.
    let some = subst (IsLeastNode c.args.base (assertions_of c.args.kept.now) c.args.attr seen) c.in-Some-Some.is-1 l in
    least_new c.args.base (assertions_of c.args.kept.now) c.args.attr seen c.args.at c.in-Some-Some.value c.in-Some-Some.ensures
    (λ x w among e. omega (arith, some.2 x w among e, c.if-at-node.true))

pub returns-else-at-node : goal.returns-else-at-node
returns-else-at-node c = λ seen l.
    let some = subst (IsLeastNode c.args.base (assertions_of c.args.kept.now) c.args.attr seen) c.in-Some-Some.is-1 l in
    rw c.in-Some-Some.is-1 (least_kept c.args.base (assertions_of c.args.kept.now) c.args.attr seen c.args.at (c.in-Some-Some.node, c.in-Some-Some.field-0-1-1)
    (omega (arith, c.if-at-node.false)) some)
