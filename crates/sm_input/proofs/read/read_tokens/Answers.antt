use Rattle.sm_input.proofs.Finish.{tokens_answer, tokens_table}
use Rattle.sm_input.proofs.read.read_tokens.Goals as goal

pub returns-clause-answer : goal.returns-clause-answer
returns-clause-answer c =
    tokens_answer c.args.bytes.now c.args.tokens.now c.args.symbols.now c.inputs-read.new.symbols c.are_apart.ensures _ _ _ c.new-complaints.ensures (c.complain_of_variables.ensures c.args.bytes.now)
    _ _ c.inputs-read.result c.whole_file.result c.between-reader.ensures c.inputs-read.ensures.reads c.inputs-read.ensures.table c.whole_file.ensures

pub returns-clause-table : goal.returns-clause-table
returns-clause-table c =
    tokens_table c.args.bytes.now c.args.tokens.now c.args.symbols.now c.inputs-read.new.symbols c.are_apart.ensures _ _ _ c.new-complaints.ensures (c.complain_of_variables.ensures c.args.bytes.now)
    _ _ c.inputs-read.result c.whole_file.result c.between-reader.ensures c.inputs-read.ensures.reads c.inputs-read.ensures.table c.whole_file.ensures
