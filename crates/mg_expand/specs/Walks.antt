-- Expansions: which alternatives are taken and which calls are made, in the order of the walk.
use Rattle.std.specs.Prelude.{◌≡◌, ℕ, List, [], ◌∷◌, ◌++◌, map, Some, ⊤, slice_get}
use Rattle.gr_base.specs.Lists.{Each, IsListing}
use Rattle.gr_base.specs.Forests.{IsLeftOf}
use Rattle.gr_terms.specs.declared.Sym.{Sym}
use Rattle.mg_syntax.specs.declared.body.Statement.{Statement, out-Statement}
use Rattle.mg_syntax.specs.declared.body.Statement.TheOpen as statement
use Rattle.mg_syntax.specs.declared.body.Statement.TheOpen.{Statement-F}
use Rattle.mg_syntax.specs.declared.item.Class.{Class}
use Rattle.mg_syntax.specs.declared.item.Item.{Item}
use Rattle.mg_scope.specs.Classes.{class_of}
use Rattle.mg_deeds.specs.Deeds.{Deed, equation, syntax_items, semantics, interface}

-- a call is an import, a plain call, or bound to a variable
pub data How : Type 0 where
  imported : How
  called : How
  bound_to : Sym → How

-- what a call does, in order: it takes an alternative, does a deed, or calls a class, which does its own walk
pub data Walk : Type 0 where
  end : Walk
  choose : ℕ → Walk → Walk
  perform : Deed → Walk → Walk
  enter : How → Sym → Walk → Walk → Walk

-- what a call has before it: a call of another class, the choice of an alternative, and a deed
pub data Task : Type 0 where
  a_call : How → Sym → Task
  a_choice : List (List Statement) → Task
  a_deed : Deed → Task

-- a group takes an alternative of its own
abbrev pub task_in : Statement-F Statement → Task
task_in (statement.Group b) = a_choice b
task_in (statement.Call c) = a_call called c
task_in (statement.Bind x c) = a_call (bound_to x) c
task_in (statement.Equation r s) = a_deed (equation r s)
task_in (statement.Syn items) = a_deed (syntax_items items)
task_in (statement.Sem literals) = a_deed (semantics literals)
task_in (statement.Iface bag) = a_deed (interface bag)

abbrev pub task_of : Statement → Task
task_of s = task_in (out-Statement s)

-- a call of a class first calls its imports, and then takes one alternative of the body
abbrev pub tasks_of : Class → List Task
tasks_of k = map (a_call imported) k.imports ++ a_choice k.body ∷ []

-- an empty body has one alternative without statements
abbrev pub IsAlternative : List (List Statement) → ℕ → List Statement → Type 0
IsAlternative [] i s = (i ≡ 0) × (s ≡ [])
IsAlternative (a ∷ b) i s = slice_get (a ∷ b) i ≡ Some s

-- the walk does the tasks in order
pub data Does (m : List Item) : List Task → Walk → Type 0 where
  done : Does m [] end
  takes : {rest : List Task} {w : Walk} (b : List (List Statement)) (i : ℕ) (s : List Statement) →
      IsAlternative b i s → Does m (map task_of s ++ rest) w → Does m (a_choice b ∷ rest) (choose i w)
  performs : {rest : List Task} {w : Walk} (d : Deed) → Does m rest w → Does m (a_deed d ∷ rest) (perform d w)
  enters : {rest : List Task} {inside after : Walk} (how : How) (c : Sym) (k : Class) →
      class_of m c ≡ Some k → Does m (tasks_of k) inside → Does m rest after → Does m (a_call how c ∷ rest) (enter how c inside after)

-- the walk is an expansion of the class
abbrev pub IsExpansion : List Item → Sym → Walk → Type 0
IsExpansion m c w = (k : Class) × (class_of m c ≡ Some k) × Does m (tasks_of k) w

-- the alternatives that are taken, by number, in the order in which they are met
abbrev pub choices : Walk → List ℕ
choices end = []
choices (choose i w) = i ∷ choices w
choices (perform d w) = choices w
choices (enter how c inside after) = choices inside ++ choices after

-- the first walk takes an earlier alternative where the two first differ
abbrev pub IsEarlier : Walk → Walk → Type 0
IsEarlier w v = IsLeftOf (choices w) (choices v)

-- the walks stand in the order of their choices, so that the choice that is met last varies fastest
abbrev pub InChoiceOrder : List Walk → Type 0
InChoiceOrder [] = ⊤
InChoiceOrder (w ∷ ws) = Each (IsEarlier w) ws × InChoiceOrder ws

-- all expansions of the class, each once, in order
pub record AreExpansions (m : List Item) (c : Sym) (ws : List Walk) : Type 0 where
  pub all : IsListing (IsExpansion m c) ws
  pub order : InChoiceOrder ws
