use Rattle.gr_store.specs.State.{assertions_of}
use Rattle.gr_store.proofs.Keeping.{LinksClasses-back, shares_back, clash_back}
use Rattle.gr_store.proofs.pool.pool_classes.Goals as goal

pub returns-else-is_no_larger-clause-is_linked : goal.returns-else-is_no_larger-clause-is_linked
returns-else-is_no_larger-clause-is_linked c = λ whole inside links.
    c.pool-else-is_no_larger.ensures.is_linked whole inside (LinksClasses-back c.args.base whole c.args.nodes.now.1 c.args.from c.args.into links)

pub returns-else-is_no_larger-clause-shares : goal.returns-else-is_no_larger-clause-shares
returns-else-is_no_larger-clause-shares c =
    shares_back (assertions_of c.args.kept.now) c.args.terms.now.1 c.pool-else-is_no_larger.new.terms.1 c.args.nodes.now.1 c.args.into c.args.from
    c.pool-else-is_no_larger.result c.pool-else-is_no_larger.ensures.shares

pub returns-else-is_no_larger-clause-clash : goal.returns-else-is_no_larger-clause-clash
returns-else-is_no_larger-clause-clash c =
    clash_back c.args.base (assertions_of c.args.kept.now) c.args.terms.now.1 c.args.nodes.now.1 c.args.into c.args.from
    c.pool-else-is_no_larger.result c.pool-else-is_no_larger.ensures.clash
