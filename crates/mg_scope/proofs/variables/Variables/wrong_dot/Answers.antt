use Rattle.std.proofs.Common.{sym, ◌∙◌, true≢false, refl, subst, Some}
use Rattle.mg_scope.specs.declared.uses.Use.{Use}
use Rattle.mg_scope.specs.Faults.{IsDotOf}
use Rattle.mg_scope.proofs.VariableLemmas.{dot_at}
use Rattle.mg_scope.proofs.variables.Variables.wrong_dot.Goals as goal

pub returns-then-is_exported : goal.returns-then-is_exported
returns-then-is_exported c = λ k vs is right among.
    (dot_at c.args.directory.now k c.args.self.now c.args.uses.now c.in-Dotted.variable c.in-Dotted.name c.args.one c.is_exported.result vs is right c.in-Dotted.is among c.is_exported.ensures).0 c.if-is_exported.true

pub returns-else-is_exported : goal.returns-else-is_exported
returns-else-is_exported c = λ k vs is right among.
    let dot = dot_at c.args.directory.now k c.args.self.now c.args.uses.now c.in-Dotted.variable c.in-Dotted.name c.args.one c.is_exported.result vs is right c.in-Dotted.is among c.is_exported.ensures in
    (subst (λ (u : Use). IsDotOf u (record { of = Some c.in-Dotted.variable; name = c.in-Dotted.name })) (sym c.in-Dotted.is) refl, (λ r. true≢false (sym (dot.1 r) ∙ c.if-is_exported.false)))
