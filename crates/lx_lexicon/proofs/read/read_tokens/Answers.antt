use Rattle.lx_lexicon.proofs.FileLemmas.{tokens_answer, tokens_table}
use Rattle.lx_lexicon.proofs.read.read_tokens.Goals as goal

pub returns-clause-answer : goal.returns-clause-answer
returns-clause-answer c =
    tokens_answer c.args.bytes.now c.args.tokens.now c.args.symbols.now c.entries-read.new.symbols _ _ _ _ c.entries-read.result c.whole_file.result c.between-reader.ensures c.new-complaints.ensures c.entries-read.ensures.reads c.entries-read.ensures.table c.whole_file.ensures

pub returns-clause-table : goal.returns-clause-table
returns-clause-table c =
    tokens_table c.args.bytes.now c.args.tokens.now c.args.symbols.now c.entries-read.new.symbols _ _ _ _ c.entries-read.result c.whole_file.result c.between-reader.ensures c.new-complaints.ensures c.entries-read.ensures.reads c.entries-read.ensures.table c.whole_file.ensures
