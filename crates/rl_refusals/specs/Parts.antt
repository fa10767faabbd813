-- What the code's parts are, and what appending them does.
use Rattle.std.specs.Prelude.{◌≡◌, ℕ, List, ◌++◌}
use Rattle.rl_refusals.specs.Lines.{Part, number, word, a_name, a_variable, ArePartTexts}
use Rattle.rl_refusals.specs.Roles.{role_text}
use Rattle.rl_refusals.specs.declared.line.Part as code
use Rattle.rl_refusals.specs.declared.line.Part.TheVariants as part

abbrev pub part_of : code.Part → Part
part_of (part.Number n) = number n
part_of (part.Word role) = word (role_text role)
part_of (part.Name s) = a_name s.0
part_of (part.Variable r) = a_variable r

-- the texts of the parts were appended, each behind a space
abbrev pub Says : List (List ℕ) → List Part → List ℕ → List ℕ → Type 0
Says texts ps old new = (bytes : List ℕ) × ArePartTexts texts ps bytes × (new ≡ old ++ bytes)
