-- What tasks that are left lead to: the ends of all walks through them, in the order of the choices.
use Rattle.std.specs.Prelude.{◌≡◌, ℕ, ◌+◌, List, [], ◌∷◌, ◌++◌, map, Some}
use Rattle.gr_terms.specs.declared.Sym.{Sym}
use Rattle.mg_syntax.specs.declared.body.Statement.{Statement}
use Rattle.mg_syntax.specs.declared.item.Class.{Class}
use Rattle.mg_syntax.specs.declared.item.Item.{Item}
use Rattle.mg_scope.specs.Classes.{class_of}
use Rattle.mg_deeds.specs.Deeds.{Deed}
use Rattle.mg_expand.specs.Walks.{How, Walk, Task, a_call, a_choice, a_deed, task_of, tasks_of}
use Rattle.mg_deeds.specs.Weights.{deed_weight}
use Rattle.mg_facts.specs.Said.{Said}
use Rattle.mg_deeds.specs.Sayings.{deed_said}
use Rattle.mg_expand.specs.Items.{call_weight, call_said, expansion_said, expansion_weight}

-- a task of the call that is named by `here`
pub record Due : Type 0 where
  pub here : ℕ
  pub task : Task

abbrev pub due : ℕ → Task → Due
due here t = record { here = here; task = t }

abbrev pub dues : ℕ → List Task → List Due
dues here ts = map (due here) ts

-- what was said when nothing is left, and how many items were counted
pub record Outcome : Type 0 where
  pub said : List Said
  pub weight : ℕ

abbrev pub outcome : List Item → Walk → Outcome
outcome m w = record { said = expansion_said m w; weight = expansion_weight m w }

-- All walks through the tasks that are due end so, in the order of their choices, where n items were counted and `said` was
-- said before. The number of an alternative is of no account here, so a choice is one among those that are left.
pub data LeadsOn (m : List Item) : List Due → ℕ → List Said → List Outcome → Type 0 where
  arrives : (n : ℕ) (said : List Said) → LeadsOn m [] n said (record { said = said; weight = n } ∷ [])
  by_deed : (here : ℕ) (d : Deed) (rest : List Due) (n : ℕ) (said : List Said) (outs : List Outcome) →
      LeadsOn m rest (n + deed_weight d) (said ++ deed_said here n d) outs → LeadsOn m (due here (a_deed d) ∷ rest) n said outs
  by_call : (here : ℕ) (how : How) (c : Sym) (k : Class) (rest : List Due) (n : ℕ) (said : List Said) (outs : List Outcome) →
      class_of m c ≡ Some k → LeadsOn m (dues n (tasks_of k) ++ rest) (n + call_weight m how c) (said ++ call_said m how here n c) outs →
      LeadsOn m (due here (a_call how c) ∷ rest) n said outs
  by_none : (here : ℕ) (rest : List Due) (n : ℕ) (said : List Said) (outs : List Outcome) →
      LeadsOn m rest n said outs → LeadsOn m (due here (a_choice []) ∷ rest) n said outs
  by_last : (here : ℕ) (s : List Statement) (rest : List Due) (n : ℕ) (said : List Said) (outs : List Outcome) →
      LeadsOn m (dues here (map task_of s) ++ rest) n said outs → LeadsOn m (due here (a_choice (s ∷ [])) ∷ rest) n said outs
  by_first : (here : ℕ) (s t : List Statement) (b : List (List Statement)) (rest : List Due) (n : ℕ) (said : List Said) (outs later : List Outcome) →
      LeadsOn m (dues here (map task_of s) ++ rest) n said outs → LeadsOn m (due here (a_choice (t ∷ b)) ∷ rest) n said later →
      LeadsOn m (due here (a_choice (s ∷ t ∷ b)) ∷ rest) n said (outs ++ later)
