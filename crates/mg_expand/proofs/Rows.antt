-- Worked examples: the expansions of a class with two choices, and a class at the limit.
use Rattle.std.specs.Prelude.{◌≡◌, ℕ, zero, suc, ◌+◌, List, [], ◌∷◌, ◌++◌, None, refl}
use Rattle.std.proofs.Common.{ap, ap₂, sym, ◌∙◌, subst, arith}
use Rattle.gr_terms.specs.declared.Sym.{Sym}
use Rattle.gr_terms.specs.Networks.{name, variable}
use Rattle.mg_syntax.specs.declared.body.Side.TheVariants as side
use Rattle.mg_syntax.specs.declared.body.Literal.{Literal}
use Rattle.mg_syntax.specs.declared.body.Statement.{Statement, out-Statement, out-roll-Statement}
use Rattle.mg_syntax.specs.declared.body.Statement.TheVariants as statement
use Rattle.mg_syntax.specs.declared.body.Statement.TheOpen as open_statement
use Rattle.mg_syntax.specs.declared.block.NodeBlock.{NodeBlock, NodeBlock-F, roll-NodeBlock, fold-roll-NodeBlock}
use Rattle.mg_syntax.specs.declared.block.Kid.{Kid}
use Rattle.mg_deeds.specs.Blocks.{Block, KidBlock, kid_step, block_step, block_of}
use Rattle.gr_base.specs.Forests.{empty}
use Rattle.mg_syntax.specs.declared.block.SynItem.{SynItem}
use Rattle.mg_syntax.specs.declared.block.SynItem.TheVariants as item
use Rattle.mg_syntax.specs.declared.item.Class.{Class}
use Rattle.mg_syntax.specs.declared.item.Item.{Item}
use Rattle.mg_syntax.specs.declared.item.Item.TheVariants as entry
use Rattle.mg_facts.specs.declared.variable.Local.TheVariants.{Own}
use Rattle.mg_expand.specs.Steps.{IsTooLarge}
use Rattle.mg_deeds.specs.Deeds.{syntax_items, semantics}
use Rattle.mg_expand.specs.Walks.{Walk, end, choose, perform, a_choice, a_deed, task_in, task_of, Does, done, takes, performs, IsExpansion, choices}
use Rattle.mg_facts.specs.Said.{own_of, block, paired, says}
use Rattle.mg_deeds.specs.Weights.{total, block_weight, literal_weight}
use Rattle.mg_deeds.specs.Sayings.{block_said, literal_said}
use Rattle.mg_expand.specs.Items.{expansion_said, expansion_weight}

abbrev sym_of : ℕ → Sym
sym_of n = record { 0 = n }

-- the tasks of statements
group_task : (b : List (List Statement)) → task_of (statement.Group b) ≡ a_choice b
group_task b = ap task_in (ap out-Statement (sym (statement.rolls-Group b)) ∙ out-roll-Statement (open_statement.Group b))

-- node [cat=a]
abbrev layer : ℕ → NodeBlock-F Kid NodeBlock
layer a = record { name = None; colour = None; own = (sym_of 0, side.Name (sym_of a)) ∷ []; top = []; bot = []; kids = [] }

abbrev block_node : ℕ → NodeBlock
block_node a = roll-NodeBlock (layer a)

abbrev node_of : ℕ → SynItem
node_of a = item.Node (block_node a)

abbrev literal_of : ℕ → Literal
literal_of p = record { handle = None; pred = side.Name (sym_of p); args = side.Name (sym_of 20) ∷ [] }

abbrev nodes : List (List Statement)
nodes = (statement.Syn (node_of 10 ∷ []) ∷ []) ∷ (statement.Syn (node_of 11 ∷ []) ∷ []) ∷ []

abbrev meanings : List (List Statement)
meanings = (statement.Sem (literal_of 12 ∷ []) ∷ []) ∷ (statement.Sem (literal_of 13 ∷ []) ∷ []) ∷ []

-- class A { { <syn>{ node [cat=a] } | <syn>{ node [cat=b] } }; { <sem>{ p(x) } | <sem>{ q(x) } } }
abbrev class_a : Class
class_a = record { name = sym_of 30; imports = []; exports = []; declares = []; body = (statement.Group nodes ∷ statement.Group meanings ∷ []) ∷ [] }

abbrev m : List Item
m = entry.Class class_a ∷ entry.Value (sym_of 30) ∷ []

abbrev walk : ℕ → ℕ → ℕ → ℕ → Walk
walk i a j p = choose 0 (choose i (perform (syntax_items (node_of a ∷ [])) (choose j (perform (semantics (literal_of p ∷ [])) end))))

syntax_task : (xs : List SynItem) → task_of (statement.Syn xs) ≡ a_deed (syntax_items xs)
syntax_task xs = ap task_in (ap out-Statement (sym (statement.rolls-Syn xs)) ∙ out-roll-Statement (open_statement.Syn xs))

meaning_task : (xs : List Literal) → task_of (statement.Sem xs) ≡ a_deed (semantics xs)
meaning_task xs = ap task_in (ap out-Statement (sym (statement.rolls-Sem xs)) ∙ out-roll-Statement (open_statement.Sem xs))

-- the block as a tree
abbrev tree_of : ℕ → Block
tree_of a = record { head = record { name = None; colour = None; own = (sym_of 0, side.Name (sym_of a)) ∷ []; top = []; bottom = [] }; kids = empty }

is_tree : (a : ℕ) → block_of (block_node a) ≡ tree_of a
is_tree a = fold-roll-NodeBlock KidBlock Block kid_step block_step (layer a)

-- a with q is an expansion
is_expansion : IsExpansion m (sym_of 30) (walk 0 10 1 13)
is_expansion = (
  class_a,
  refl,
  takes (body_of class_a) 0 (statement.Group nodes ∷ statement.Group meanings ∷ []) refl
      (subst (λ ts. Does m ts (choose 0 (perform (syntax_items (node_of 10 ∷ [])) (choose 1 (perform (semantics (literal_of 13 ∷ [])) end))))) (sym outer)
      (takes nodes 0 (statement.Syn (node_of 10 ∷ []) ∷ []) refl
      (subst (λ t. Does m (t ∷ a_choice meanings ∷ []) (perform (syntax_items (node_of 10 ∷ [])) (choose 1 (perform (semantics (literal_of 13 ∷ [])) end)))) (sym (syntax_task (node_of 10 ∷ [])))
      (performs (syntax_items (node_of 10 ∷ []))
      (takes meanings 1 (statement.Sem (literal_of 13 ∷ []) ∷ []) refl
      (subst (λ t. Does m (t ∷ []) (perform (semantics (literal_of 13 ∷ [])) end)) (sym (meaning_task (literal_of 13 ∷ [])))
      (performs (semantics (literal_of 13 ∷ [])) done))))))),
)
  where
    body_of : Class → List (List Statement)
    body_of k = k.body

    outer : task_of (statement.Group nodes) ∷ task_of (statement.Group meanings) ∷ [] ≡ a_choice nodes ∷ a_choice meanings ∷ []
    outer = ap₂ (λ s t. s ∷ t ∷ []) (group_task nodes) (group_task meanings)

its_choices : choices (walk 0 10 1 13) ≡ 0 ∷ 0 ∷ 1 ∷ []
its_choices = refl

its_weight : expansion_weight m (walk 0 10 1 13) ≡ 5
its_weight = ap (λ b. 1 + (block_weight b + 0 + (literal_weight (literal_of 13) + 0 + 0))) (is_tree 10)

its_items : expansion_said m (walk 0 10 1 13)
    ≡ block (record { at = 1; local = Own }) ∷ paired (own_of (record { at = 1; local = Own })) 0 (name 10)
    ∷ says (record { handle = variable (record { at = 3; local = Own }); pred = name 13; args = name 20 ∷ [] }) ∷ []
its_items = ap (λ b. (block_said 0 1 b ++ []) ++ ((literal_said 0 (1 + (block_weight b + 0)) (literal_of 13) ++ []) ++ [])) (is_tree 10)

-- a literal without arguments, and so many of them
abbrev pub bare : Literal
bare = record { handle = None; pred = side.Name (sym_of 12); args = [] }

abbrev so_many : ℕ → List Literal
so_many zero = []
so_many (suc n) = bare ∷ so_many n

so_many_count : (n : ℕ) → total literal_weight (so_many n) ≡ n
so_many_count zero = refl
so_many_count (suc n) = let e : total literal_weight (so_many n) ≡ n = so_many_count n in omega arith

abbrev bare_walk : ℕ → Walk
bare_walk n = choose 0 (perform (semantics (so_many n)) end)

-- 4,096 of them are too many, as the root's call is counted too, and 4,095 are not
too_many : IsTooLarge m (bare_walk 4096)
too_many = let e : total literal_weight (so_many 4096) ≡ 4096 = so_many_count 4096 in omega arith

not_too_many : IsTooLarge m (bare_walk 4095) → ⊥
not_too_many h = let e : total literal_weight (so_many 4095) ≡ 4095 = so_many_count 4095 in omega arith
