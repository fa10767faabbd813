-- Decimals and what `{}` writes of their numbers.
use Rattle.gr_text.proofs.DecimalLemmas.{IsDecimal-decimal, decimal-value, IsDecimal-small, IsDecimal-written}
use Rattle.gr_text.proofs.laws.decimals_are_numbers_written.Goals as goal

pub returns-clause-read : goal.returns-clause-read
returns-clause-read c = λ n small. (IsDecimal-decimal n small, decimal-value n small)

pub returns-clause-small : goal.returns-clause-small
returns-clause-small c = IsDecimal-small

pub returns-clause-written : goal.returns-clause-written
returns-clause-written c = IsDecimal-written
