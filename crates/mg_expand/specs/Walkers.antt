-- Where a walker stands.
use Rattle.std.specs.Prelude.{◌≡◌, ℕ, suc, ◌+◌, ◌<◌, ◌≤◌, List, [], ◌∷◌, ◌++◌, length, Bool, true, false}
use Rattle.mg_syntax.specs.declared.item.Class.{Class}
use Rattle.mg_syntax.specs.declared.item.Item.{Item}
use Rattle.mg_expand.specs.declared.errand.Errand.{Errand}
use Rattle.mg_expand.specs.declared.errand.Next.{Next}
use Rattle.mg_expand.specs.declared.errand.Next.TheVariants.{On, Done, TooLarge}
use Rattle.mg_expand.specs.declared.walker.Walker.{Walker}
use Rattle.mg_expand.specs.Walks.{Task, tasks_of}
use Rattle.mg_expand.specs.Routes.{Outcome}
use Rattle.mg_expand.specs.Errands.{work_tasks, Leads, Arrives, IsNextTooLarge, steps_left}

-- tasks of the call, with what is behind them, lead there
abbrev pub LeadsFrom : List Item → Walker → ℕ → List Task → ℕ → List Outcome → Type 0
LeadsFrom m w here ts next outs = Leads m w.kept.items w.facts w.forks.items w.items here ts next outs

abbrev pub left_of : List Item → Walker → List Task → ℕ → ℕ
left_of m w ts next = steps_left m w.kept.items w.items ts next

-- the same of an errand
abbrev pub Goes : List Item → Walker → Errand → List Outcome → Type 0
Goes m w e outs = LeadsFrom m w e.here (work_tasks e.work) e.behind outs

abbrev pub CanGo : List Item → Walker → Errand → Type 0
CanGo m w e = (outs : List Outcome) × Goes m w e outs

abbrev pub left_for : List Item → Walker → Errand → ℕ
left_for m w e = left_of m w (work_tasks e.work) e.behind

-- where a walk came to its end, and where it stopped before
abbrev pub Ends : List Item → Walker → Bool → List Outcome → Type 0
Ends m w true outs = Arrives m w.kept.items w.facts w.forks.items w.items outs
Ends m w false outs = IsNextTooLarge outs

-- where a step from there led: to an errand that leads on and is nearer to an end, to an end, or past the limit
abbrev pub LedTo : List Item → Walker → List Task → ℕ → List Outcome → Walker → Next → Type 0
LedTo m old ts next outs new (On e) = Goes m new e outs × (left_for m new e < left_of m old ts next)
LedTo m old ts next outs new Done = Ends m new true outs
LedTo m old ts next outs new TooLarge = Ends m new false outs

abbrev pub Stepped : List Item → Walker → ℕ → List Task → ℕ → Walker → Next → Type 0
Stepped m old here ts next new n = (outs : List Outcome) → LeadsFrom m old here ts next outs → LedTo m old ts next outs new n

-- a step of an errand, and one that does a task in front of it
abbrev pub StepsOn : List Item → Walker → Errand → Walker → Next → Type 0
StepsOn m old e new n = Stepped m old e.here (work_tasks e.work) e.behind new n

abbrev pub DoesTask : List Item → Walker → Task → Errand → Walker → Next → Type 0
DoesTask m old t e new n = Stepped m old e.here (t ∷ work_tasks e.work) e.behind new n

-- An alternative was taken: the errand leads where the choice led, and is nearer to an end by two steps at least.
abbrev pub Chose : List Item → Walker → ℕ → List Task → ℕ → Walker → Errand → Type 0
Chose m old here ts next new e = (outs : List Outcome) → LeadsFrom m old here ts next outs → Goes m new e outs × (2 + left_for m new e ≤ left_of m old ts next)

-- one more errand is kept
pub record Keeps (old new : Walker) (e : Errand) (n : ℕ) : Type 0 where
  pub kept : new.kept.items ≡ old.kept.items ++ e ∷ []
  pub number : n ≡ suc (length old.kept.items)
  pub forks : new.forks.items ≡ old.forks.items
  pub facts : new.facts ≡ old.facts
  pub items : new.items ≡ old.items

-- the errand is the call of the class, which is named by `there`
pub record IsCall (e : Errand) (there : ℕ) (k : Class) (next : ℕ) : Type 0 where
  pub here : e.here ≡ there
  pub tasks : work_tasks e.work ≡ tasks_of k
  pub behind : e.behind ≡ next

-- the call of the class is begun, with the errand kept behind it
abbrev pub Enters : Walker → Walker → Errand → ℕ → Class → Errand → Type 0
Enters old new then there k e = (n : ℕ) × Keeps old new then n × IsCall e there k n
