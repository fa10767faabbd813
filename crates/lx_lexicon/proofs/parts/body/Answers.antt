use Rattle.std.proofs.Common.{◌≡◌, Err, rules}
use Rattle.gr_symbols.proofs.NumberLemmas.{Grows-trans}
use Rattle.gr_grammar.specs.Grammars.{run_both}
use Rattle.gr_reader.proofs.Steps.{first_stops, then_stops}
use Rattle.gr_feats.proofs.TableLemmas.{puts_both}
use Rattle.lx_lexicon.proofs.parts.body.Goals as goal

pub returns-in_err-iface-clause-reads : goal.returns-in_err-iface-clause-reads
returns-in_err-iface-clause-reads c =
    let e : c.from_residual.result ≡ Err c.in_err-iface.field-0.0 = search rules in
    rw e (first_stops c.in_err-iface.ensures.reads)

pub returns-in_err-anchor-clause-reads : goal.returns-in_err-anchor-clause-reads
returns-in_err-anchor-clause-reads c =
    let e : c.from_residual-in_err-anchor.result ≡ Err c.in_err-anchor.field-0.0 = search rules in
    rw e (then_stops c.in_ok-iface.ensures.reads.0 (first_stops c.in_err-anchor.ensures.reads))

pub returns-in_err-coanchors-clause-reads : goal.returns-in_err-coanchors-clause-reads
returns-in_err-coanchors-clause-reads c =
    let e : c.from_residual-in_err-coanchors.result ≡ Err c.in_err-coanchors.field-0.0 = search rules in
    rw e (then_stops c.in_ok-iface.ensures.reads.0 (then_stops c.in_ok-anchor.ensures.reads.0 (first_stops c.in_err-coanchors.ensures.reads)))

pub returns-in_err-sem-clause-reads : goal.returns-in_err-sem-clause-reads
returns-in_err-sem-clause-reads c =
    let e : c.from_residual-in_err-sem.result ≡ Err c.in_err-sem.field-0.0 = search rules in
    rw e (then_stops c.in_ok-iface.ensures.reads.0 (then_stops c.in_ok-anchor.ensures.reads.0 (then_stops c.in_ok-coanchors.ensures.reads.0 c.in_err-sem.ensures.reads)))

pub returns-clause-reads : goal.returns-clause-reads
returns-clause-reads c = (
  run_both c.in_ok-iface.ensures.reads.0 (run_both c.in_ok-anchor.ensures.reads.0 (run_both c.in_ok-coanchors.ensures.reads.0 c.in_ok-sem.ensures.reads.0)),
  λ later g.
      let behind_coanchors = Grows-trans _ _ later c.in_ok-sem.ensures.passes.texts.grows g in
      let behind_anchor = Grows-trans _ _ later c.in_ok-coanchors.ensures.passes.grows behind_coanchors in
      let behind_iface = Grows-trans _ _ later c.in_ok-anchor.ensures.passes.texts.grows behind_anchor in
      record {
        behind_iface = _;
        behind_anchor = _;
        behind_all = _;
        iface = rw c.new-names.ensures at (c.in_ok-iface.ensures.reads.1 later behind_iface);
        anchor = c.in_ok-anchor.ensures.reads.1 later behind_anchor;
        coanchors = c.in_ok-coanchors.ensures.reads.1 later behind_coanchors;
        literals = c.in_ok-sem.ensures.reads.1 later g;
      },
)

pub returns-clause-table : goal.returns-clause-table
returns-clause-table c = puts_both c.in_ok-iface.ensures.table (puts_both c.in_ok-anchor.ensures.table (puts_both c.in_ok-coanchors.ensures.table c.in_ok-sem.ensures.table))
