use Rattle.std.proofs.Common.{◌≡◌, Err, refl, rules}
use Rattle.gr_reader.specs.declared.reader.Stop.TheVariants.{Memory as NoMemory}
use Rattle.gr_reader.proofs.Steps.{memory_stops}
use Rattle.gr_feats.proofs.ReadingLemmas.{side_term}
use Rattle.gr_feats.proofs.terms.term.Goals as goal

pub returns-in_err-term-clause-reads : goal.returns-in_err-term-clause-reads
returns-in_err-term-clause-reads c =
    let e : c.from_residual-in_err-term.result ≡ Err NoMemory = search rules in
    rw e (memory_stops refl)

pub returns-clause-reads : goal.returns-clause-reads
returns-clause-reads c = (c.in_ok-side.ensures.reads.0, λ later g. side_term later _ _ _ _ _ (c.in_ok-side.ensures.reads.1 later g) c.in_ok-term.ensures.ok)
