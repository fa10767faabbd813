use Rattle.std.proofs.Common.{rules, arith}
use Rattle.td_canon.proofs.PairLemmas.{WrittenPairs-next, WrittenPairs-empty, WrittenPairs-end}
use Rattle.td_canon.proofs.pairs.push_pairs.Goals as goal

pub loop-pair-preserved : goal.loop-pair-preserved
loop-pair-preserved c = record {
  utf8 = search rules;
  written = WrittenPairs-next c.args.symbols.now c.args.opening.now c.args.pairs.now c.loop-pair.pair-index _ c.args.draft.now c.loop-pair.draft c.push.new.self c.push-in-loop-pair.new.self c.push-in-loop-pair-2.new.self c.push_value.new.self c.loop-pair.separator.now
      (omega arith) c.in_ok-push.ensures c.in_ok-push-2.ensures c.in_ok-push-3.ensures c.in_ok-push_value.ensures c.loop-pair.invariant.written;
}

pub returns-in_ok-push-4 : goal.returns-in_ok-push-4
returns-in_ok-push-4 c =
    WrittenPairs-end c.args.symbols.now c.args.opening.now c.args.closing.now c.args.pairs.now c.loop-pair.pair-index c.args.draft.now c.loop-pair.draft c.push-then-not-is_empty.new.self c.loop-pair.separator.now
    (grind (arith, c.is_empty.ensures, c.if-not-is_empty.true)) (omega arith) c.in_ok-push-4.ensures c.loop-pair.invariant.written

pub returns-else-not-is_empty : goal.returns-else-not-is_empty
returns-else-not-is_empty c =
    WrittenPairs-empty c.args.symbols.now c.args.opening.now c.args.closing.now c.args.pairs.now c.loop-pair.pair-index c.args.draft.now c.loop-pair.draft c.loop-pair.separator.now (grind (arith, c.is_empty.ensures, c.if-not-is_empty.false)) c.loop-pair.invariant.written
