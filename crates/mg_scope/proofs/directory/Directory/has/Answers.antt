use Rattle.std.proofs.Common.{refl, sym, ◌∙◌}
use Rattle.std.proofs.lemmas.Bool.{false≢true}
use Rattle.std.proofs.lemmas.Option.{none-some}
use Rattle.mg_scope.proofs.ClassLemmas.{place_found, class_of-none}
use Rattle.mg_scope.proofs.directory.Directory.has.Goals as goal

pub returns-in-Some : goal.returns-in-Some
returns-in-Some c = let f = place_found c.args.self.now c.args.name c.in-Some.field-0 c.in-Some.ensures in ((λ _. (f.found, f.first)), (λ _. refl))

pub returns-in-None : goal.returns-in-None
returns-in-None c = ((λ h. absurd (false≢true h)), (λ there. absurd (none-some there.0 (sym (class_of-none c.args.self.now c.args.name c.in-None.ensures) ∙ there.1))))
