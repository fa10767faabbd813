-- What bags and literals that are written are read as: names by the numbers of their texts, and variables numbered by first meeting.
use Rattle.std.specs.Prelude.{◌≡◌, ℕ, List, [], ◌∷◌, ◌++◌, map, Option, Some, None, ◌↔◌}
use Rattle.gr_base.specs.Lists.{IsAmong, Each, NoneTwice}
use Rattle.gr_terms.specs.declared.Sym.{Sym}
use Rattle.gr_terms.specs.declared.Term.{Term}
use Rattle.gr_terms.specs.declared.Term.TheVariants.{Const, Var}
use Rattle.gr_terms.specs.declared.Literal.{Literal}
use Rattle.gr_terms.specs.Bags.{IsListed}
use Rattle.gr_symbols.specs.Numbers.{Names}
use Rattle.gr_store.specs.Contents.{IsMade}
use Rattle.gr_feats.specs.declared.gathered.Pair.{Pair}
use Rattle.gr_feats.specs.declared.gathered.Gathered.{Gathered}
use Rattle.gr_feats.specs.Grammars.{Written, a_name, a_variable, WrittenPair, WrittenLiteral}
use Rattle.gr_feats.specs.Numberings.{Numbering, Meets, with_own}

-- a name is read as its number, and a variable as its own number by first meeting
abbrev pub IsTerm : List (List ℕ) → Numbering → Written → Term → Numbering → Type 0
IsTerm texts before (a_name t) (Const name) after = Names texts name.0 t × (after ≡ before)
IsTerm texts before (a_name t) (Var k) after = ⊥
IsTerm texts before (a_variable t) (Const name) after = ⊥
IsTerm texts before (a_variable t) (Var k) after = (name : ℕ) × Names texts name t × Meets before name k after

-- what is written in a row is read one after another
abbrev pub InTurn : {W X : Type 0} → (Numbering → W → X → Numbering → Type 0) → Numbering → List W → List X → Numbering → Type 0
InTurn R before [] [] after = after ≡ before
InTurn R before [] (x ∷ xs) after = ⊥
InTurn R before (w ∷ ws) [] after = ⊥
InTurn R before (w ∷ ws) (x ∷ xs) after = (mid : Numbering) × R before w x mid × InTurn R mid ws xs after

-- a pair is read as the number of its attribute and its value
pub record IsPair (texts : List (List ℕ)) (before : Numbering) (w : WrittenPair) (x : Pair) (after : Numbering) : Type 0 where
  pub attr : Names texts x.attr.0 w.attr
  pub value : IsTerm texts before w.value x.value after
  pub left : x.left ≡ w.left

-- the attributes of pairs, in order
abbrev pub attributes : List Pair → List Sym
attributes pairs = map (λ p. p.attr) pairs

-- the attribute stands first in a pair with this value
abbrev pub IsFirst : List Pair → Sym → Term → Type 0
IsFirst pairs attr value =
    (before : List Pair) × (pair : Pair) × (after : List Pair)
    × (pairs ≡ before ++ pair ∷ after) × (IsAmong (attributes before) attr → ⊥) × (pair.attr ≡ attr) × (pair.value ≡ value)

-- where an attribute first stands a second time this many lexemes are left; or none stands twice
abbrev pub IsAgain : List Pair → Option ℕ → Type 0
IsAgain pairs None = NoneTwice (attributes pairs)
IsAgain pairs (Some left) =
    (before : List Pair) × (pair : Pair) × (after : List Pair)
    × (pairs ≡ before ++ pair ∷ after) × NoneTwice (attributes before) × IsAmong (attributes before) pair.attr × (left ≡ pair.left)

-- of each attribute the bag has the first pair
pub record Gathers (pairs : List Pair) (g : Gathered) : Type 0 where
  pub listed : IsListed g.bag
  pub firsts : (attr : Sym) (value : Term) → IsAmong g.bag (attr, value) ↔ IsFirst pairs attr value
  pub again : IsAgain pairs g.again

-- a bag is read as the first pairs of its attributes
pub record IsBag (texts : List (List ℕ)) (before : Numbering) (ws : List WrittenPair) (g : Gathered) (after : Numbering) : Type 0 where
  pub pairs : List Pair
  pub read : InTurn (IsPair texts) before ws pairs after
  pub gathers : Gathers pairs g

-- a handle that is left out is the next variable, one without a name
abbrev pub IsHandle : List (List ℕ) → Numbering → Option Written → Term → Numbering → Type 0
IsHandle texts before None x after = (x ≡ Var before.given) × (after ≡ with_own before)
IsHandle texts before (Some w) x after = IsTerm texts before w x after

-- a literal is read as its handle, its predicate and its arguments, in this order
pub record IsLiteral (texts : List (List ℕ)) (before : Numbering) (w : WrittenLiteral) (x : Literal) (after : Numbering) : Type 0 where
  pub behind_handle : Numbering
  pub behind_pred : Numbering
  pub handle : IsHandle texts before w.handle x.handle behind_handle
  pub pred : IsTerm texts behind_handle w.pred x.pred behind_pred
  pub args : InTurn (IsTerm texts) behind_pred w.args x.args after

abbrev pub AreLiterals : List (List ℕ) → Numbering → List WrittenLiteral → List Literal → Numbering → Type 0
AreLiterals texts before ws xs after = InTurn (IsLiteral texts) before ws xs after

-- the terms of the literal are names or some of the first variables
pub record AreMade (vars : ℕ) (x : Literal) : Type 0 where
  pub handle : IsMade vars x.handle
  pub pred : IsMade vars x.pred
  pub args : Each (IsMade vars) x.args
