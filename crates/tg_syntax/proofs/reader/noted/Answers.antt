use Rattle.tg_syntax.proofs.Noting.{kept_note, new_note}
use Rattle.tg_syntax.proofs.reader.noted.Goals as goal

pub returns-in-Some : goal.returns-in-Some
returns-in-Some c = kept_note _ c.in-Some.is

pub returns-in-None : goal.returns-in-None
returns-in-None c = new_note c.args.property.now c.args.before c.break_in.result c.in-None.is c.break_in.ensures
