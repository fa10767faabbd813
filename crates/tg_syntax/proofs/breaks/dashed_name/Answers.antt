use Rattle.std.proofs.Common.{rules, ◌≡◌}
use Rattle.std.specs.Prelude.{None}
use Rattle.tg_syntax.proofs.NameLemmas.{word_stop, no_dash, no_front}
use Rattle.tg_syntax.proofs.breaks.dashed_name.Goals as goal

pub returns-in-Ok : goal.returns-in-Ok
returns-in-Ok c = no_dash c.in-Ok.ensures

pub before_dash-requires : goal.before_dash-requires
before_dash-requires c = word_stop c.in-Err.ensures

pub returns-in_err-name-in-Err : goal.returns-in_err-name-in-Err
returns-in_err-name-in-Err c = let e : c.from_residual.result ≡ None = search rules in rw e (no_front c.in-Err.ensures c.in_err-name-in-Err.ensures)
