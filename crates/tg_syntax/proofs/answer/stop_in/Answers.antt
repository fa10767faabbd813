use Rattle.tg_syntax.proofs.Stops.{stops_by_name, stops_behind, stops_there, whole_file}
use Rattle.tg_syntax.proofs.answer.stop_in.Goals as goal

pub returns-in-Some : goal.returns-in-Some
returns-in-Some c = stops_by_name c.file-outcome.new.self.scanner.rest.now c.file-outcome.result _ c.in-Some.is c.file-outcome.ensures

pub returns-then-reader-eq0 : goal.returns-then-reader-eq0
returns-then-reader-eq0 c = whole_file c.in_default.is c.if-reader-eq0.true c.in-Ok.ensures

pub returns-else-reader-eq0 : goal.returns-else-reader-eq0
returns-else-reader-eq0 c = stops_behind c.in_default.is c.if-reader-eq0.false c.in-Ok.ensures

pub returns-in-Err : goal.returns-in-Err
returns-in-Err c = stops_there c.in_default.is c.in-Err.ensures
