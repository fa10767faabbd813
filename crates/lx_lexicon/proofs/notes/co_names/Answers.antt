use Rattle.std.proofs.lemmas.List.{take_more}
use Rattle.lx_lexicon.proofs.NoteLemmas.{noted_none, noted_one}
use Rattle.lx_lexicon.proofs.notes.co_names.Goals as goal

pub row-init : goal.row-init
row-init c = noted_none c.args.symbols.now c.args.complaints.now _ _ c.new-names.ensures c.new-met.ensures

pub row-preserved : goal.row-preserved
row-preserved c = noted_one c.args.symbols.now c.args.complaints.now _ _ _ _ _ _ _ _ _ c.row.invariant (take_more c.args.coanchors.now c.row.coanchor-index _ c.row-test.true) c.in_ok-_pushed.ensures.ok c.in_ok-_noted.ensures.noted c.in_ok-_noted.ensures.met
