use Rattle.std.proofs.Common.{◌≡◌, Err, rules}
use Rattle.sm_input.proofs.BagLemmas.{as_start}
use Rattle.sm_input.proofs.inputs.start_bag.Goals as goal

pub returns-in_err-inner-clause-reads : goal.returns-in_err-inner-clause-reads
returns-in_err-inner-clause-reads c =
    let e : c.from_residual.result ≡ Err c.in_err-inner.field-0.0 = search rules in
    rw e c.in_err-inner.ensures.reads

pub returns-clause-reads : goal.returns-clause-reads
returns-clause-reads c = (c.in_ok-inner.ensures.reads.0, λ later g. as_start later _ _ _ _ c.new-names.ensures (c.in_ok-inner.ensures.reads.1 later g))

pub returns-clause-table : goal.returns-clause-table
returns-clause-table c = c.in_ok-inner.ensures.table
