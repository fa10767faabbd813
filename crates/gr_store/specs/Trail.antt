-- How the table of bindings stands to the trail.
use Rattle.std.specs.Prelude.{◌≡◌, ℕ, ◌+◌, ◌<◌, ◌≤◌, List, [], ◌∷◌, ◌⊎◌, Bool, false, nat_eq, if◌then◌else◌, get_or, set, length, take, map}
use Rattle.std.specs.List.{range_with_len}
use Rattle.gr_terms.specs.declared.Term.{Term}
use Rattle.gr_terms.specs.declared.Term.TheVariants.{Const, Var}
use Rattle.gr_store.specs.declared.bindings.Bound.{Bound}
use Rattle.gr_store.specs.Contents.{rank}
use Rattle.gr_store.specs.Roots.{root_by}

-- what the table has for a variable
abbrev pub bound_to : List Term → ℕ → Term
bound_to to i = get_or to i (Var i)

-- n free variables
abbrev pub all_free : ℕ → List Term
all_free n = map (λ i. Var i) (range_with_len 0 n)

-- the table after the bindings
abbrev pub table : List Bound → List Term → List Term
table [] to = to
table (e ∷ trail) to = table trail (set to e.var e.to)

-- whether the term is the variable i
abbrev pub is_variable : ℕ → Term → Bool
is_variable i (Const s) = false
is_variable i (Var j) = nat_eq j i

-- how many variables are free, in a table of those from i on
abbrev pub free_count : ℕ → List Term → ℕ
free_count i [] = 0
free_count i (x ∷ to) = (if is_variable i x then 1 else 0) + free_count (i + 1) to

-- a walk through the table ends at what the bindings make of its start
pub record Leads (trail : List Bound) (to : List Term) : Type 0 where
  pub leads : (i : ℕ) → root_by trail (Var i) ≡ root_by trail (bound_to to i)
  pub stays : (i : ℕ) → bound_to to i ≡ Var i → root_by trail (Var i) ≡ Var i
  pub is_free : (i : ℕ) → root_by trail (Var i) ≡ Var i → bound_to to i ≡ Var i
  pub falls : (i : ℕ) → (bound_to to i ≡ Var i) ⊎ (rank (bound_to to i) ≤ i)

-- a variable that is free in the table is bound to a term that ranks lower
pub record BindsFree (to : List Term) (e : Bound) : Type 0 where
  pub in_range : e.var < length to
  pub free : bound_to to e.var ≡ Var e.var
  pub lower : rank e.to ≤ e.var

-- the table is that of the first bindings of the trail, and each of these bound a free variable
pub record IsTrail (to : List Term) (trail : List Bound) (used : ℕ) : Type 0 where
  pub within : used ≤ length trail
  pub is_table : to ≡ table (take used trail) (all_free (length to))
  pub always : (k : ℕ) → k ≤ used → Leads (take k trail) (table (take k trail) (all_free (length to)))
  pub steps : (k : ℕ) (d : Bound) → k < used → BindsFree (table (take k trail) (all_free (length to))) (get_or trail k d)
  pub room : used + free_count 0 to ≤ length trail
