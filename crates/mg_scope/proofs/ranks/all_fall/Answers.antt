use Rattle.std.proofs.Common.{subst, ◌<◌, ◌≤◌, ℕ, List, length, arith}
use Rattle.mg_scope.specs.Classes.{mentioned}
use Rattle.mg_scope.proofs.CheckLemmas.{item_exists}
use Rattle.mg_scope.proofs.RankLemmas.{ranks_none, ranks_more, ranks_all}
use Rattle.mg_scope.proofs.ranks.all_fall.Goals as goal

pub loop-place-init : goal.loop-place-init
loop-place-init c = ranks_none (mentioned c.args.directory.now) c.args.ranks.now

pub loop-place-preserved : goal.loop-place-preserved
loop-place-preserved c =
    let m = c.args.directory.now in
    let within : c.loop-place.place < length m = rw c.items-place-end.ensures at c.loop-place-test.true in
    let i = item_exists m c.loop-place.place within in
    ranks_more (mentioned m) c.args.ranks.now m c.loop-place.place i.0 i.1 within c.loop-place.invariant (c.falls_at.ensures c.if-not-falls_at.false)

pub returns : goal.returns
returns c = λ _. ranks_all c.args.directory.now c.args.ranks.now c.loop-place.place (rw c.items-place-end.ensures at c.loop-place-test.false) c.loop-place.invariant
