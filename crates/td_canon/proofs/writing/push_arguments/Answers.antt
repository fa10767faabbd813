use Rattle.std.proofs.Common.{arith, rules}
use Rattle.std.proofs.lemmas.Result.{on_ok_weaker}
use Rattle.td_canon.specs.CanonicalTexts.{text_in}
use Rattle.td_canon.proofs.LiteralLemmas.{WrittenArguments-none, WrittenArguments-next, WrittenArguments-end}
use Rattle.td_canon.proofs.writing.push_arguments.Goals as goal

pub loop-argument-init : goal.loop-argument-init
loop-argument-init c = record { utf8 = search rules; written = WrittenArguments-none (text_in c.args.symbols.now) c.args.arguments.now c.push.new.self }

pub loop-argument-preserved : goal.loop-argument-preserved
loop-argument-preserved c = record {
  utf8 = search rules;
  written = WrittenArguments-next (text_in c.args.symbols.now) c.args.arguments.now c.loop-argument.argument-index _ c.push.new.self c.loop-argument.draft c.push-in-loop-argument.new.self c.push_value.new.self c.loop-argument.separator.now
      (omega arith) c.in_ok-push-2.ensures c.in_ok-push_value.ensures c.loop-argument.invariant.written;
}

pub returns : goal.returns
returns c =
    on_ok_weaker c.push-2.result
    (WrittenArguments-end (text_in c.args.symbols.now) c.args.arguments.now c.loop-argument.argument-index c.args.draft.now c.push.new.self c.loop-argument.draft c.push-2.new.self c.loop-argument.separator.now
    (omega arith) c.in_ok-push.ensures c.loop-argument.invariant.written)
    c.push-2.ensures
