use Rattle.gr_feats.proofs.GatherLemmas.{Gathers-new, Gathers-again}
use Rattle.gr_feats.proofs.gathered.Gathered.add.Goals as goal

pub returns-then-added-clause-ok : goal.returns-then-added-clause-ok
returns-then-added-clause-ok c =
    let lacks = rw c.if-added.true at c.in_ok-added.ensures.absent in
    let puts = rw c.if-added.true at c.in_ok-added.ensures.added in
    λ pairs gathers. Gathers-new pairs c.args.pair c.args.self.now c.add.new.self gathers lacks puts c.in_ok-added.ensures.listed

pub returns-clause-ok : goal.returns-clause-ok
returns-clause-ok c =
    let has = rw c.if-added.false at c.in_ok-added.ensures.there in
    let same = rw c.if-added.false at c.in_ok-added.ensures.same in
    λ pairs gathers. rw c.unwrap_or.ensures (Gathers-again pairs c.args.pair c.args.self.now c.add.new.self gathers has same)
