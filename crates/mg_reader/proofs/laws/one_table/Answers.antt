use Rattle.mg_reader.proofs.Numbering.{some_table, one_table, table_apart}
use Rattle.mg_reader.proofs.laws.one_table.Goals as goal

pub returns-clause-some : goal.returns-clause-some
returns-clause-some c = some_table

pub returns-clause-one : goal.returns-clause-one
returns-clause-one c = one_table

pub returns-clause-apart : goal.returns-clause-apart
returns-clause-apart c = table_apart
