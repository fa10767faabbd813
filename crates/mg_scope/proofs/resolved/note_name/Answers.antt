use Rattle.std.proofs.Common.{sym}
use Rattle.mg_scope.proofs.FirstLemmas.{first_again, first_new}
use Rattle.mg_scope.proofs.resolved.note_name.Goals as goal

pub returns-in-Some : goal.returns-in-Some
returns-in-Some c = λ seen known. first_again c.args.met.now c.args.names.now.items seen c.args.name c.in-Some.field-0 (sym c.in-Some.ensures) known

pub returns-in_ok-set-in-None : goal.returns-in_ok-set-in-None
returns-in_ok-set-in-None c = λ seen known.
    first_new c.args.met.now c.set.new.self c.args.names.now.items c.push.new.self.items seen c.args.name 0 (sym c.in-None.ensures) c.in_ok-set-in-None.ensures.ok c.in_ok-push-in-None.ensures.items known
