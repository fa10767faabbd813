-- How much is before a walk, calls apart: a bound for its steps.
use Rattle.std.specs.Prelude.{ℕ, ◌+◌, List, [], ◌∷◌}
use Rattle.mg_syntax.specs.declared.body.Statement.{Statement, fold-Statement}
use Rattle.mg_syntax.specs.declared.body.Statement.TheOpen as open_statement
use Rattle.mg_syntax.specs.declared.body.Statement.TheOpen.{Statement-F}
use Rattle.mg_syntax.specs.declared.item.Item.{Item}
use Rattle.mg_syntax.specs.declared.item.Item.TheVariants as item
use Rattle.mg_expand.specs.Walks.{Task, a_call, a_choice, a_deed, tasks_of}

abbrev pub sum_of : {A : Type 0} → (A → ℕ) → List A → ℕ
sum_of f [] = 0
sum_of f (x ∷ xs) = f x + sum_of f xs

abbrev pub size_step : Statement-F ℕ → ℕ
size_step (open_statement.Group b) = 1 + sum_of (sum_of (λ n. n)) b
size_step (open_statement.Call c) = 1
size_step (open_statement.Bind x c) = 1
size_step (open_statement.Equation r s) = 1
size_step (open_statement.Syn items) = 1
size_step (open_statement.Sem literals) = 1
size_step (open_statement.Iface bag) = 1

abbrev pub statement_size : Statement → ℕ
statement_size = fold-Statement ℕ size_step

abbrev pub task_size : Task → ℕ
task_size (a_call how c) = 1
task_size (a_choice b) = 1 + sum_of (sum_of statement_size) b
task_size (a_deed d) = 1

abbrev pub tasks_size : List Task → ℕ
tasks_size ts = sum_of task_size ts

-- what all classes have before them
abbrev pub item_size : Item → ℕ
item_size (item.Class k) = tasks_size (tasks_of k)
item_size (item.Value v) = 0
item_size (item.Header h) = 0

abbrev pub whole_size : List Item → ℕ
whole_size m = sum_of item_size m
