use Rattle.std.proofs.Common.{arith}
use Rattle.gr_feats.specs.Grammars.{closed_literals_text}
use Rattle.gr_feats.proofs.ReadingLemmas.{closed_literals_are_clear}
use Rattle.gr_symbols.proofs.NumberLemmas.{Grows-refl}
use Rattle.gr_feats.proofs.AnswerLemmas.{literals_there, refused_there, some_passed, table_there}
use Rattle.gr_feats.proofs.read.read_literals.Goals as goal

pub returns-in-Ok-clause-answer : goal.returns-in-Ok-clause-answer
returns-in-Ok-clause-answer c =
    let reads = rw c.between-reader.ensures at c.in-Ok.ensures.reads in
    let some = some_passed c.args.bytes.now c.args.tokens.now c.args.at c.closed_literals.new.reader c.requires.at reads.0 in
    let table = rw c.between-reader.ensures at c.in-Ok.ensures.table in (
      literals_there c.args.bytes.now c.args.tokens.now c.args.at _ _ _ c.closed_literals.new.reader c.in-Ok.literals _ c.requires.at reads.0
          (reads.1 c.closed_literals.new.symbols (Grows-refl c.closed_literals.new.symbols)) (omega (arith, c.left.ensures)),
      table_there closed_literals_text c.args.bytes.now c.args.tokens.now c.args.at _ _ c.closed_literals.new.reader table,
    )

pub overflow_sub-result : goal.overflow_sub-result
overflow_sub-result c =
    let reads = rw c.between-reader.ensures at c.in-Ok.ensures.reads in
    let some = some_passed c.args.bytes.now c.args.tokens.now c.args.at c.closed_literals.new.reader c.requires.at reads.0 in
    omega (arith, c.left.ensures)

pub returns-in-Err-clause-answer : goal.returns-in-Err-clause-answer
returns-in-Err-clause-answer c =
    let stops = rw c.between-reader.ensures at c.in-Err.ensures.reads in
    let syntax = rw c.left-in-Err.ensures at c.refusal.ensures.syntax in
    refused_there closed_literals_text closed_literals_are_clear c.args.bytes.now c.args.tokens.now c.args.at c.closed_literals.new.reader c.in-Err.stop c.refusal.result c.requires.at stops syntax c.refusal.ensures.memory
