-- The numbers of exit statuses.
use Rattle.std.specs.Prelude.{ℕ}
use Rattle.rl_top.specs.declared.status.Status.{Status}
use Rattle.rl_top.specs.declared.status.Status.TheVariants.{Done, Shortened, WordsRefused, Refused, ReadFault, WriteFault, Memory}

abbrev pub number_of : Status → ℕ
number_of Done = 0
number_of Shortened = 1
number_of WordsRefused = 2
number_of Refused = 3
number_of ReadFault = 4
number_of WriteFault = 5
number_of Memory = 6
