use Rattle.std.proofs.Common.{sym, ap, ◌∙◌}
use Rattle.mg_scope.specs.Classes.{binding}
use Rattle.mg_scope.specs.Variables.{bound_variables, occurrences}
use Rattle.mg_scope.proofs.VariableLemmas.{calls_same, calls_more}
use Rattle.mg_scope.proofs.variables.count_use.Goals as goal

pub returns-in_ok-set-in-Bound : goal.returns-in_ok-set-in-Bound
returns-in_ok-set-in-Bound c = λ before here known.
    let x = c.in-Bound.variable in
    let counts = c.in_ok-count_call-in-Bound.ensures (occurrences (bound_variables before) x) (known.count x) in
    rw c.in-Bound.is
    (calls_more c.args.calls.now c.args.statements.now before c.count_call.new.calls c.set.new.self x c.in-Bound.field-1 c.args.place counts.0 here known counts.2 counts.1 c.in_ok-set-in-Bound.ensures.ok)

pub returns-in-Alone : goal.returns-in-Alone
returns-in-Alone c = λ before here known. calls_same c.args.calls.now c.args.statements.now before c.args.one (ap binding c.in-Alone.is) known

pub returns-in-Called : goal.returns-in-Called
returns-in-Called c = λ before here known. calls_same c.args.calls.now c.args.statements.now before c.args.one (ap binding c.in-Called.is) known

pub returns-in-Dotted : goal.returns-in-Dotted
returns-in-Dotted c = λ before here known. calls_same c.args.calls.now c.args.statements.now before c.args.one (ap binding c.in-Dotted.is) known
