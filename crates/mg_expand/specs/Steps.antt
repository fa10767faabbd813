-- What an expander answers.
use Rattle.std.specs.Prelude.{◌≡◌, ℕ, suc, ◌<◌, ◌≤◌, List, length, Bool, true, false, Some, slice_get}
use Rattle.mg_syntax.specs.declared.item.Item.{Item}
use Rattle.mg_expand.specs.declared.step.Step.{Step}
use Rattle.mg_expand.specs.declared.step.Step.TheVariants as step
use Rattle.mg_expand.specs.Progress.{Progress}
use Rattle.mg_expand.specs.Walks.{Walk}
use Rattle.mg_facts.specs.Meanings.{Clashes, IsDescriptionOf}
use Rattle.mg_expand.specs.Items.{expansion_said, expansion_weight}

-- more calls and items than the limit
abbrev pub IsTooLarge : List Item → Walk → Type 0
IsTooLarge m w = 4096 < expansion_weight m w

-- the step tells what the expansion is: too large, else clashing, else its description
abbrev pub Tells : List Item → Walk → Step → Type 0
Tells m w (step.Description d) = (IsTooLarge m w → ⊥) × (Clashes (expansion_said m w) → ⊥) × IsDescriptionOf (expansion_said m w) d
Tells m w step.Clash = (IsTooLarge m w → ⊥) × Clashes (expansion_said m w)
Tells m w step.TooLarge = IsTooLarge m w
Tells m w step.End = ⊥
Tells m w step.Cut = ⊥

abbrev pub is_too_large : Step → Bool
is_too_large (step.Description d) = false
is_too_large step.Clash = false
is_too_large step.TooLarge = true
is_too_large step.End = false
is_too_large step.Cut = false

-- one unit of the budget is spent for the next expansion, and the step tells what it is
pub record Gives (ws : List Walk) (old new : Progress) (left left_over : ℕ) (s : Step) : Type 0 where
  pub walk : Walk
  pub next : slice_get ws old.given ≡ Some walk
  pub tells : Tells old.metagrammar walk s
  pub spent : left ≡ suc left_over
  pub after : new ≡ record old { given = suc old.given; too_large = is_too_large s }

-- the answer of an expander none of whose expansions was too large, where ws are all expansions of its class:
-- `End` where all were given, `Cut` where another one is left and the budget is 0, else the next one
abbrev pub Answers : List Walk → Progress → Progress → ℕ → ℕ → Step → Type 0
Answers ws old new left left_over (step.Description d) = Gives ws old new left left_over (step.Description d)
Answers ws old new left left_over step.Clash = Gives ws old new left left_over step.Clash
Answers ws old new left left_over step.TooLarge = Gives ws old new left left_over step.TooLarge
Answers ws old new left left_over step.End = (old.given ≡ length ws) × (left_over ≡ left) × (new ≡ old)
Answers ws old new left left_over step.Cut = (old.given < length ws) × (left ≡ 0) × (left_over ≡ left) × (new ≡ old)

-- one whose expansion was too large answers so again, and spends nothing
abbrev pub StaysTooLarge : Progress → Progress → ℕ → ℕ → Step → Type 0
StaysTooLarge old new left left_over s = (s ≡ step.TooLarge) × (left_over ≡ left) × (new ≡ old)

abbrev pub AnswersIf : Bool → List Walk → Progress → Progress → ℕ → ℕ → Step → Type 0
AnswersIf true ws old new left left_over s = StaysTooLarge old new left left_over s
AnswersIf false ws old new left left_over s = Answers ws old new left left_over s

-- the answer of any expander, where ws are all expansions of its class; memory was never wanting before
abbrev pub Steps : List Walk → Progress → Progress → ℕ → ℕ → Step → Type 0
Steps ws old new left left_over s = (old.failed ≡ false) × AnswersIf old.too_large ws old new left left_over s

-- want of memory
abbrev pub Fails : Progress → Progress → ℕ → ℕ → Type 0
Fails old new left left_over = (new ≡ record old { failed = true }) × (left_over ≤ left)
