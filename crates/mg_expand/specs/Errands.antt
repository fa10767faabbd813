-- Where an expander stands: what kept errands and forks stand for.
use Rattle.std.specs.Prelude.{◌≡◌, ℕ, zero, suc, ◌+◌, ◌-◌, ◌*◌, ◌<◌, ◌≤◌, List, [], ◌∷◌, ◌++◌, map, length, take, Some, None, slice_get}
use Rattle.mg_syntax.specs.declared.item.Item.{Item}
use Rattle.mg_expand.specs.declared.errand.Work.{Work}
use Rattle.mg_expand.specs.declared.errand.Work.TheVariants.{Imports, Choice, Statements}
use Rattle.mg_expand.specs.declared.errand.Errand.{Errand}
use Rattle.mg_expand.specs.declared.errand.Fork.{Fork}
use Rattle.mg_expand.specs.Walks.{Task, a_call, a_choice, task_of, imported}
use Rattle.mg_facts.specs.Said.{Said}
use Rattle.mg_expand.specs.Sizes.{tasks_size, whole_size}
use Rattle.mg_expand.specs.Routes.{Due, dues, Outcome, LeadsOn}

abbrev pub work_tasks : Work → List Task
work_tasks (Imports names body) = map (a_call imported) names.now ++ a_choice body.now ∷ []
work_tasks (Choice body) = a_choice body.now ∷ []
work_tasks (Statements list) = map task_of list.now

-- The errands that come one behind the other from the one that is kept before the place n on. Each stands before the one
-- that it is behind, so there are at most n.
abbrev pub chain : ℕ → List Errand → ℕ → List Errand
chain zero kept n = []
chain (suc most) kept zero = []
chain (suc most) kept (suc n) = elim (slice_get kept n) [ None ↦ [] | Some e ↦ e ∷ chain most kept e.behind ]

abbrev pub all_dues : List Errand → List Due
all_dues [] = []
all_dues (e ∷ es) = dues e.here (work_tasks e.work) ++ all_dues es

-- these tasks of a call, and then what stands behind
abbrev pub dues_from : List Errand → ℕ → List Task → ℕ → List Due
dues_from kept here ts next = dues here ts ++ all_dues (chain next kept next)

-- what comes behind a kept errand stands before it
abbrev pub AreLinked : List Errand → Type 0
AreLinked kept = (n : ℕ) (e : Errand) → slice_get kept n ≡ Some e → e.behind ≤ n

-- Where the forks lead, the last one first. At a fork, as many errands were kept and as many facts stated as it says.
pub data Forking (m : List Item) : List Errand → List Said → List Fork → List Outcome → Type 0 where
  no_fork : (kept : List Errand) (said : List Said) → Forking m kept said [] []
  a_fork : (kept : List Errand) (said : List Said) (before all : List Fork) (f : Fork) (first later outs : List Outcome) →
      all ≡ before ++ f ∷ [] → outs ≡ first ++ later → f.kept ≤ length kept → f.said ≤ length said → f.items ≤ 4096 → f.errand.behind ≤ f.kept →
      LeadsOn m (dues_from (take f.kept kept) f.errand.here (work_tasks f.errand.work) f.errand.behind) f.items (take f.said said) first →
      Forking m (take f.kept kept) (take f.said said) before later → Forking m kept said all outs

-- Where tasks of the call lead with what is behind them, and then the forks.
pub record Leads (m : List Item) (kept : List Errand) (said : List Said) (forks : List Fork) (items call : ℕ) (ts : List Task) (next : ℕ) (outs : List Outcome) : Type 0 where
  pub linked : AreLinked kept
  pub behind : next ≤ length kept
  pub few : items ≤ 4096
  pub first : List Outcome
  pub later : List Outcome
  pub leads : LeadsOn m (dues_from kept call ts next) items said first
  pub forking : Forking m kept said forks later
  pub whole : outs ≡ first ++ later

-- a bound for how many steps are left until the next end or fork
abbrev pub all_size : List Errand → ℕ
all_size [] = 0
all_size (e ∷ es) = 1 + 2 * tasks_size (work_tasks e.work) + all_size es

abbrev pub steps_left : List Item → List Errand → ℕ → List Task → ℕ → ℕ
steps_left m kept items ts next = (4097 - items) * (2 + 2 * whole_size m) + (1 + 2 * tasks_size ts + all_size (chain next kept next))

-- At an end, what was said and counted is the next outcome.
abbrev pub Arrives : List Item → List Errand → List Said → List Fork → ℕ → List Outcome → Type 0
Arrives m kept said forks items outs = (later : List Outcome) × AreLinked kept × Forking m kept said forks later × (outs ≡ record { said = said; weight = items } ∷ later) × (items ≤ 4096)

-- The next outcome is too large.
abbrev pub IsNextTooLarge : List Outcome → Type 0
IsNextTooLarge outs = (o : Outcome) × (later : List Outcome) × (outs ≡ o ∷ later) × (4096 < o.weight)
