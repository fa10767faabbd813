-- What an expansion says, and how many items it has.
-- A call, a node block and a literal are named by how many items are counted before them.
use Rattle.std.specs.Prelude.{ℕ, ◌+◌, List, [], ◌++◌, map, length}
use Rattle.gr_terms.specs.declared.Sym.{Sym}
use Rattle.mg_syntax.specs.declared.item.Item.{Item}
use Rattle.mg_scope.specs.Classes.{exports_of, firsts}
use Rattle.mg_facts.specs.Said.{Said}
use Rattle.mg_deeds.specs.Weights.{deed_weight}
use Rattle.mg_deeds.specs.Sayings.{deed_said, import_said, dot_said}
use Rattle.mg_expand.specs.Walks.{How, imported, called, bound_to, Walk, end, choose, perform, enter}

module _ (m : List Item) where
  -- the call, and each name that an import identifies
  abbrev pub call_weight : How → Sym → ℕ
  call_weight imported c = 1 + length (firsts (exports_of m c))
  call_weight called c = 1
  call_weight (bound_to x) c = 1

  abbrev pub walk_weight : Walk → ℕ
  walk_weight end = 0
  walk_weight (choose i w) = walk_weight w
  walk_weight (perform d w) = deed_weight d + walk_weight w
  walk_weight (enter how c inside after) = call_weight how c + walk_weight inside + walk_weight after

  abbrev pub call_said : How → ℕ → ℕ → Sym → List Said
  call_said imported here there c = map (import_said here there) (firsts (exports_of m c))
  call_said called here there c = []
  call_said (bound_to x) here there c = map (dot_said x here there) (firsts (exports_of m c))

  -- what a walk says in its order, from the place n on, in the call that is named by `here`
  abbrev pub walk_said : ℕ → ℕ → Walk → List Said
  walk_said here n end = []
  walk_said here n (choose i w) = walk_said here n w
  walk_said here n (perform d w) = deed_said here n d ++ walk_said here (n + deed_weight d) w
  walk_said here n (enter how c inside after) =
      let first = n + call_weight how c in
      call_said how here n c ++ walk_said n first inside ++ walk_said here (first + walk_weight inside) after

  -- all that an expansion says; the root's call is named by 0
  abbrev pub expansion_said : Walk → List Said
  expansion_said w = walk_said 0 1 w

  -- all items of an expansion, the root's call too
  abbrev pub expansion_weight : Walk → ℕ
  expansion_weight w = 1 + walk_weight w
