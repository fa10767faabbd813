use Rattle.std.proofs.Common.{drop}
use Rattle.std.proofs.lemmas.Result.{on_ok_weaker}
use Rattle.gr_terms.specs.BagViews.{pairs_of}
use Rattle.td_canon.specs.CanonicalTexts.{text_in}
use Rattle.td_canon.specs.Writing.{in_order, seen_pairs}
use Rattle.td_canon.proofs.NodeLemmas.{WritesPairs-by_text}
use Rattle.td_canon.proofs.pairs.push_bag.Goals as goal

pub returns-clause-writes : goal.returns-clause-writes
returns-clause-writes c =
    on_ok_weaker c.push_pairs.result
    (WritesPairs-by_text (text_in c.args.symbols.now) c.args.opening.now c.args.closing.now (seen_pairs c.in_ok-pairs.pairs.items)
    (in_order (text_in c.args.symbols.now) (pairs_of (drop c.args.from c.args.bag.now))) c.args.draft.now c.push_pairs.new.draft c.in_ok-pairs.ensures.pairs)
    (rw c.deref.ensures.value at c.push_pairs.ensures)
