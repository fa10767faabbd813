use Rattle.std.proofs.Common.{sym, refl}
use Rattle.mg_scope.proofs.VariableLemmas.{exported_some, exported_none, place_within}
use Rattle.mg_scope.proofs.variables.Variables.is_exported.Goals as goal

pub returns-in-Some : goal.returns-in-Some
returns-in-Some c =
    exported_some c.args.directory.now c.args.self.now.statements c.args.uses.now c.args.variable c.args.name c.in-Some.place _ c.does_export.result c.requires (sym c.in-Some.ensures) c.does_export.ensures

pub returns-in-None : goal.returns-in-None
returns-in-None c = ((λ _. exported_none c.args.directory.now c.args.self.now.statements c.args.uses.now c.args.variable c.args.name (sym c.in-None.ensures)), (λ _. refl))
