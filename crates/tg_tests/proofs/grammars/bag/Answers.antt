use Rattle.std.proofs.Common.{length}
use Rattle.gr_symbols.proofs.NumberLemmas.{Names-within}
use Rattle.td_canon.proofs.TestLemmas.{named_put}
use Rattle.tg_tests.proofs.grammars.bag.Goals as goal

pub loop-pair-preserved : goal.loop-pair-preserved
loop-pair-preserved c =
    named_put (length c.args.symbols.now) c.in_ok-add.field-0 c.loop-pair.bag c.add.new.self c.in-Some-find.attribute c.in_ok-value.field-0
    (Names-within c.args.symbols.now c.in-Some-find.attribute.0 c.in-Some-split_once.attribute.now c.in-Some-find.ensures) c.in_ok-value.ensures c.loop-pair.invariant c.in_ok-add.ensures.added c.in_ok-add.ensures.same
