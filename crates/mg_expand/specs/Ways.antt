-- Where an expander stands between two expansions.
use Rattle.std.specs.Prelude.{◌≡◌, ℕ, ◌<◌, List, ◌∷◌, ◌++◌, map, length, Bool, false}
use Rattle.gr_terms.specs.declared.Sym.{Sym}
use Rattle.mg_syntax.specs.declared.item.Item.{Item}
use Rattle.mg_facts.specs.Meanings.{Clashes, IsDescriptionOf}
use Rattle.mg_expand.specs.declared.step.Step.{Step}
use Rattle.mg_expand.specs.declared.step.Step.TheVariants as step
use Rattle.mg_expand.specs.declared.walker.Walker.{Walker}
use Rattle.mg_expand.specs.Walks.{Walk, AreExpansions}
use Rattle.mg_expand.specs.Routes.{Outcome, outcome}
use Rattle.mg_expand.specs.Errands.{AreLinked, Forking, IsNextTooLarge}

-- the forks lead to these outcomes
pub record Stands (m : List Item) (w : Walker) (outs : List Outcome) : Type 0 where
  pub linked : AreLinked w.kept.items
  pub forking : Forking m w.kept.items w.facts w.forks.items outs

-- the next outcome, and what comes then
pub record IsNext (m : List Item) (w : Walker) (outs : List Outcome) (o : Outcome) : Type 0 where
  pub later : List Outcome
  pub whole : outs ≡ o ∷ later
  pub stands : Stands m w later

-- what a step tells of the next outcome
abbrev pub Gave : List Item → Walker → List Outcome → Step → Type 0
Gave m w outs (step.Description d) = (o : Outcome) × IsNext m w outs o × (4096 < o.weight → ⊥) × (Clashes o.said → ⊥) × IsDescriptionOf o.said d
Gave m w outs step.Clash = (o : Outcome) × IsNext m w outs o × (4096 < o.weight → ⊥) × Clashes o.said
Gave m w outs step.TooLarge = IsNextTooLarge outs
Gave m w outs step.End = ⊥
Gave m w outs step.Cut = ⊥

-- so many expansions of the class were given, and the forks lead to the others
pub record Underway (m : List Item) (c : Sym) (given : ℕ) (w : Walker) : Type 0 where
  pub before : List Outcome
  pub outs : List Outcome
  pub stands : Stands m w outs
  pub count : length before ≡ given
  pub all : (ws : List Walk) → AreExpansions m c ws → map (outcome m) ws ≡ before ++ outs

-- unless memory was wanting or an expansion too large
abbrev pub IsUnderway : List Item → Sym → ℕ → Bool → Bool → Walker → Type 0
IsUnderway m c given too_large failed w = too_large ≡ false → failed ≡ false → Underway m c given w
