use Rattle.std.proofs.Common.{◌+◌, refl, arith}
use Rattle.mg_expand.specs.declared.walker.Walker.{Walker}
use Rattle.mg_expand.specs.Walks.{called}
use Rattle.mg_expand.proofs.WalkerLemmas.{stepped-plain, stepped-call_over}
use Rattle.mg_expand.proofs.walker.Walker.call.Goals as goal

pub returns-then-there-ge-LIMIT : goal.returns-then-there-ge-LIMIT
returns-then-there-ge-LIMIT c = λ m x at. stepped-call_over m c.args.self.now c.args.self.now c.args.then called x (omega (arith, c.if-there-ge-LIMIT.true))

pub returns : goal.returns
returns c =
    let mid : Walker = record c.args.self.now { items = c.args.self.now.items + 1 } in
    λ m x at. stepped-plain m c.args.self.now mid c.enter.new.self c.args.then c.in_ok-next.next x c.args.class.now at
    (omega (arith, c.if-there-ge-LIMIT.false))
    (record { as_kept = refl; as_said = refl; as_forks = refl; as_items = refl })
    c.in_ok-next.ensures
