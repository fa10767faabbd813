use Rattle.std.proofs.Common.{subst, sym, List, Some}
use Rattle.gr_base.specs.Lists.{Each}
use Rattle.gr_terms.specs.declared.Sym.{Sym}
use Rattle.mg_scope.specs.declared.uses.Use.{Use}
use Rattle.mg_scope.specs.Faults.{IsRightUse, IsRightExport, IsRightDot, IsFirstWithout, IsDotOf}
use Rattle.mg_scope.specs.Variables.{IsFirstWrongUse}
use Rattle.mg_scope.proofs.CheckLemmas.{variable_fault, export_fault, dot_fault}
use Rattle.mg_scope.proofs.check.check_variables.Goals as goal

pub returns-in-Some-clause-err : goal.returns-in-Some-clause-err
returns-in-Some-clause-err c = λ done names _.
    let m = c.args.directory.now in
    let k = c.args.class.now in
    variable_fault m done k c.in-Some.name names (subst (λ (z : List Use). IsFirstWrongUse m k z c.in-Some.name) c.requires (c.in-Some.ensures m k c.in_ok-read.ensures c.requires))

pub returns-in-Some-first_wrong_export-clause-err : goal.returns-in-Some-first_wrong_export-clause-err
returns-in-Some-first_wrong_export-clause-err c = λ done names _.
    let m = c.args.directory.now in
    let k = c.args.class.now in
    let name = c.in-Some-first_wrong_export.name in
    export_fault m done k name names (subst (Each (IsRightUse m k)) c.requires (c.in_default.ensures m k c.in_ok-read.ensures c.requires))
    (subst (λ (z : List Sym). IsFirstWithout (IsRightExport m k) z name) c.as_slice.ensures (c.in-Some-first_wrong_export.ensures m k c.in_ok-read.ensures c.as_slice.ensures))

pub returns-in-Some-first_wrong_dot-clause-err : goal.returns-in-Some-first_wrong_dot-clause-err
returns-in-Some-first_wrong_dot-clause-err c = λ done names _.
    let m = c.args.directory.now in
    let k = c.args.class.now in
    let x = c.in-Some-first_wrong_dot.variable in
    let y = c.in-Some-first_wrong_dot.name in
    let uses = c.in_default.ensures m k c.in_ok-read.ensures c.requires in
    dot_fault m done k x y names (subst (Each (IsRightUse m k)) c.requires uses)
    (subst (Each (IsRightExport m k)) c.as_slice.ensures (c.in_default-first_wrong_export.ensures m k c.in_ok-read.ensures c.as_slice.ensures))
    (subst (λ (z : List Use). (u : Use) × IsDotOf u (record { of = Some x; name = y }) × IsFirstWithout (IsRightDot m k) z u) c.requires
    (c.in-Some-first_wrong_dot.ensures k c.in_ok-read.ensures c.requires uses))

pub returns-clause-ok : goal.returns-clause-ok
returns-clause-ok c =
    let m = c.args.directory.now in
    let k = c.args.class.now in
    let uses = c.in_default.ensures m k c.in_ok-read.ensures c.requires in
    record {
      uses = subst (Each (IsRightUse m k)) c.requires uses;
      exports = subst (Each (IsRightExport m k)) c.as_slice.ensures (c.in_default-first_wrong_export.ensures m k c.in_ok-read.ensures c.as_slice.ensures);
      dots = subst (Each (IsRightDot m k)) c.requires (c.in_default-first_wrong_dot.ensures k c.in_ok-read.ensures c.requires uses);
    }
