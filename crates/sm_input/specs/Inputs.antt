-- Which input a written one is, by a table of texts.
use Rattle.std.specs.Prelude.{ℕ, suc, ◌≤◌, List, [], ◌∷◌, length, Option, Some, None, ⊤}
use Rattle.std.specs.Fmt.{decimal}
use Rattle.std.specs.List.{AllZip}
use Rattle.gr_base.specs.Lists.{Each, NoneTwice}
use Rattle.gr_terms.specs.declared.Term.{Term}
use Rattle.gr_terms.specs.declared.Term.TheVariants.{Const, Var}
use Rattle.gr_terms.specs.declared.Literal.{Literal}
use Rattle.gr_terms.specs.LiteralViews.{IsConst, AreConst}
use Rattle.gr_symbols.specs.Numbers.{Names}
use Rattle.gr_feats.specs.Grammars.{Written, a_name, a_variable, WrittenLiteral}
use Rattle.gr_feats.specs.Numberings.{none_met}
use Rattle.gr_feats.specs.Readings.{IsBag}
use Rattle.sm_input.specs.declared.input.Input.{Input}
use Rattle.sm_input.specs.Grammars.{WrittenInput}
use Rattle.sm_input.specs.Firsts.{firsts}

-- a name is its number; a variable is none
abbrev pub IsName : List (List ℕ) → Written → Term → Type 0
IsName texts (a_name t) (Const s) = Names texts s.0 t
IsName texts (a_name t) (Var k) = ⊥
IsName texts (a_variable t) x = ⊥

-- the name of a handle that was left out: LF and the literal's number
abbrev pub own_name : ℕ → List ℕ
own_name number = 10 ∷ decimal number

-- the handle of the literal with this number
abbrev pub IsHandle : List (List ℕ) → ℕ → Option Written → Term → Type 0
IsHandle texts number None (Const s) = Names texts s.0 (own_name number)
IsHandle texts number None (Var k) = ⊥
IsHandle texts number (Some w) x = IsName texts w x

pub record IsLiteral (texts : List (List ℕ)) (number : ℕ) (w : WrittenLiteral) (x : Literal) : Type 0 where
  pub handle : IsHandle texts number w.handle x.handle
  pub pred : IsName texts w.pred x.pred
  pub args : AllZip (IsName texts) w.args x.args

-- literals are numbered one after another
abbrev pub AreNumbered : List (List ℕ) → ℕ → List WrittenLiteral → List Literal → Type 0
AreNumbered texts number [] [] = ⊤
AreNumbered texts number [] (x ∷ xs) = ⊥
AreNumbered texts number (w ∷ ws) [] = ⊥
AreNumbered texts number (w ∷ ws) (x ∷ xs) = IsLiteral texts number w x × AreNumbered texts (suc number) ws xs

-- The name is the number of its text. The start features are those of the bag, in which no attribute stands twice and no variable is met. The literals are those that no equal one stands before, numbered from 1.
pub record IsInput (texts : List (List ℕ)) (w : WrittenInput) (i : Input) : Type 0 where
  pub name : Names texts i.name.0 w.name
  pub start : IsBag texts none_met w.start (record { bag = i.start; again = None }) none_met
  pub literals : AreNumbered texts 1 (firsts [] w.literals) i.literals

abbrev pub AreInputs : List (List ℕ) → List WrittenInput → List Input → Type 0
AreInputs texts ws is = AllZip (IsInput texts) ws is

-- what matching can rely on: no variable stands in the input, its literals are different, and they are few
pub record IsGround (i : Input) : Type 0 where
  pub start : Each (λ p. IsConst p.1) i.start
  pub literals : Each AreConst i.literals
  pub different : NoneTwice i.literals
  pub few : length i.literals ≤ 24
