-- Which refusal of a run stands for one of the reader, of the rules of scope, or of compiling a class.
use Rattle.std.specs.Prelude.{◌≡◌}
use Rattle.gr_tokens.specs.declared.ReadRefusal.{ReadRefusal}
use Rattle.gr_tokens.specs.declared.ReadRefusal.TheVariants as reading
use Rattle.mg_scope.specs.declared.refusal.ScopeRefusal.{ScopeRefusal}
use Rattle.mg_scope.specs.declared.refusal.ScopeRefusal.TheVariants as scope
use Rattle.mg_compile.specs.declared.refusal.CompileRefusal.{CompileRefusal}
use Rattle.mg_compile.specs.declared.refusal.CompileRefusal.TheVariants as compiling
use Rattle.rl_refusals.specs.declared.refusal.Refusal.{Refusal}
use Rattle.rl_refusals.specs.declared.refusal.Refusal.TheVariants as refusal
use Rattle.rl_refusals.specs.declared.refusal.Role.TheVariants.{Metagrammar}

-- codes 10, 11, 18 and 21; what a reader of another kind of file may answer stands for nothing
abbrev pub IsOfReading : ReadRefusal → Refusal → Type 0
IsOfReading (reading.Syntax place) r = r ≡ refusal.Syntax Metagrammar place
IsOfReading (reading.NotUtf8 offset) r = r ≡ refusal.NotUtf8 Metagrammar offset
IsOfReading (reading.Duplicate place) r = r ≡ refusal.DuplicateAttribute Metagrammar place
IsOfReading (reading.TooManyClasses place) r = r ≡ refusal.TooManyClasses Metagrammar
IsOfReading _ r = ⊥

-- codes 13 to 17
abbrev pub IsOfScope : ScopeRefusal → Refusal → Type 0
IsOfScope (scope.UnknownClass c) r = r ≡ refusal.UnknownClass c
IsOfScope (scope.ClassCycle names) r = r ≡ refusal.ClassCycle names
IsOfScope (scope.DuplicateClass c) r = r ≡ refusal.DuplicateClass c
IsOfScope (scope.UndeclaredVariable c x) r = r ≡ refusal.UndeclaredVariable c x
IsOfScope (scope.NotExported c x) r = r ≡ refusal.NotExported c x
IsOfScope scope.Memory r = ⊥

-- codes 20 and 24
abbrev pub IsOfCompiling : CompileRefusal → Refusal → Type 0
IsOfCompiling (compiling.TooManyNodes c) r = r ≡ refusal.TooManyNodes c
IsOfCompiling (compiling.TooLarge c) r = r ≡ refusal.TooLarge c
IsOfCompiling compiling.Memory r = ⊥
