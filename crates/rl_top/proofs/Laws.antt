-- What the laws of the crates below say, and what those of this one do.
use Rattle.std.specs.Prelude.{◌≡◌, ◌≢◌, ◌↔◌, ℕ, ◌<◌, ◌≤◌, List, Bool, true, false, Some, Result}
use Rattle.gr_base.specs.Lists.{NoneTwice}
use Rattle.gr_tokens.specs.declared.ReadRefusal.{ReadRefusal}
use Rattle.mg_syntax.specs.declared.item.Class.{Class}
use Rattle.mg_syntax.specs.declared.item.Item.{Item}
use Rattle.mg_scope.specs.Classes.{class_of}
use Rattle.mg_scope.specs.Faults.{IsScoped}
use Rattle.mg_reader.specs.Answers.{IsRight}
use Rattle.mg_reader.specs.Tables.{IsTable}
use Rattle.gr_terms.specs.declared.Sym.{Sym}
use Rattle.mg_compile.specs.Compiled.{IsCompiledList, IsModelSteps, IsRightList, IsClassFault}
use Rattle.mg_compile.specs.declared.refusal.CompileRefusal.{CompileRefusal}
use Rattle.rl_refusals.specs.Lines.{IsRefusalLine}
use Rattle.rl_refusals.specs.declared.refusal.Refusal.{Refusal}
use Rattle.rl_top.specs.Outcomes.{IsOutcome, IsEnough}
use Rattle.rl_top.specs.declared.status.Status.{Status}
use Rattle.rl_top.specs.declared.status.Status.TheVariants.{Shortened}

-- a text and a table have one answer
abbrev pub OneAnswer : Type 0
OneAnswer = (bytes : List ℕ) (texts : List (List ℕ)) (a b : Result (List Item) ReadRefusal) → NoneTwice texts → IsRight bytes texts a → IsRight bytes texts b → a ≡ b

-- a text has one table behind another one
abbrev pub OneTable : Type 0
OneTable = (bytes : List ℕ) (old a b : List (List ℕ)) → IsTable bytes old a → IsTable bytes old b → a ≡ b

-- no text stands in it twice
abbrev pub TextsApart : Type 0
TextsApart = (bytes : List ℕ) (old new : List (List ℕ)) → NoneTwice old → IsTable bytes old new → NoneTwice new

-- a refusal has one line
abbrev pub OneLine : Type 0
OneLine = (texts : List (List ℕ)) (r : Refusal) (a b : List ℕ) → IsRefusalLine texts r a → IsRefusalLine texts r b → a ≡ b

-- a class has one fault under a budget
abbrev pub OneFault : Type 0
OneFault = (m : List Item) (c : Sym) (budget : ℕ) (e f : CompileRefusal) → IsClassFault m c budget e → IsClassFault m c budget f → e ≡ f

-- where the budget is at least its steps, the list isn't cut
abbrev pub WholeList : Type 0
WholeList = (text : ℕ → List ℕ) (m : List Item) (c : Sym) (budget steps : ℕ) (texts : List (List ℕ)) (cut : Bool) → IsModelSteps m c steps → steps ≤ budget → 0 < budget → IsRightList text m c budget texts cut
    → (cut ≡ false) × IsCompiledList text m c texts

-- each class of a metagrammar that keeps the rules of scope has a number of steps
abbrev pub HaveSteps : Type 0
HaveSteps = (m : List Item) (c : Sym) (k : Class) → IsScoped m → class_of m c ≡ Some k → (steps : ℕ) × IsModelSteps m c steps

-- a right list is cut exactly where the budget is less than the steps
abbrev pub CutBelow : Type 0
CutBelow = (text : ℕ → List ℕ) (m : List Item) (c : Sym) (budget steps : ℕ) (texts : List (List ℕ)) (cut : Bool) → IsModelSteps m c steps → IsRightList text m c budget texts cut → (cut ≡ true) ↔ (budget < steps)

-- a class has one compiled list
abbrev pub OneList : Type 0
OneList = (text : ℕ → List ℕ) (m : List Item) (c : Sym) (xs ys : List (List ℕ)) → IsCompiledList text m c xs → IsCompiledList text m c ys → xs ≡ ys

-- all of them
pub record BelowLaws : Type 0 where
  pub one_answer : OneAnswer
  pub one_table : OneTable
  pub apart : TextsApart
  pub one_line : OneLine
  pub one_fault : OneFault
  pub whole_list : WholeList
  pub one_list : OneList
  pub have_steps : HaveSteps
  pub cut_below : CutBelow

-- a budget that is enough shortens nothing
abbrev pub NotShortened : Type 0
NotShortened = (bytes text : List ℕ) (models : ℕ) (s : Status) → IsEnough bytes models → IsOutcome bytes models s text → s ≢ Shortened
