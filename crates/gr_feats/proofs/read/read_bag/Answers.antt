use Rattle.gr_feats.specs.Grammars.{bag_text}
use Rattle.gr_feats.proofs.ReadingLemmas.{bag_is_clear}
use Rattle.gr_symbols.proofs.NumberLemmas.{Grows-refl}
use Rattle.gr_feats.proofs.AnswerLemmas.{bag_there, refused_there, table_there}
use Rattle.gr_feats.proofs.read.read_bag.Goals as goal

pub returns-in-Ok-clause-answer : goal.returns-in-Ok-clause-answer
returns-in-Ok-clause-answer c =
    let reads = rw c.between-reader.ensures at c.in-Ok.ensures.reads in
    let table = rw c.between-reader.ensures at c.in-Ok.ensures.table in (
      rw c.left.ensures (bag_there c.args.bytes.now c.args.tokens.now c.args.at _ _ _ c.bag.new.reader c.in-Ok.gathered _ c.requires.at reads.0 (reads.1 c.bag.new.symbols (Grows-refl c.bag.new.symbols)) c.place_where_left-second.ensures),
      table_there bag_text c.args.bytes.now c.args.tokens.now c.args.at _ _ c.bag.new.reader table,
    )

pub returns-in-Err-clause-answer : goal.returns-in-Err-clause-answer
returns-in-Err-clause-answer c =
    let stops = rw c.between-reader.ensures at c.in-Err.ensures.reads in
    let syntax = rw c.left-in-Err.ensures at c.refusal.ensures.syntax in
    refused_there bag_text bag_is_clear c.args.bytes.now c.args.tokens.now c.args.at c.bag.new.reader c.in-Err.stop c.refusal.result c.requires.at stops syntax c.refusal.ensures.memory
