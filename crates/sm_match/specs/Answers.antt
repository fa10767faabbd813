-- Which answers are right for lexical trees and the literals of an input.
use Rattle.std.specs.Prelude.{◌≡◌, ◌<◌, ◌≤◌, ⊤, List, length, Result, Ok, Err}
use Rattle.gr_base.specs.Lists.{Each, NoneTwice}
use Rattle.gr_terms.specs.declared.Literal.{Literal}
use Rattle.tg_model.specs.declared.instance.Instance.{Instance}
use Rattle.tg_model.specs.declared.instance.Selection.{Selection}
use Rattle.tg_model.specs.declared.lexical.LexicalTree.{LexicalTree}
use Rattle.tg_model.specs.Instances.{IsInstance, AreInstances}
use Rattle.sm_match.specs.declared.refusal.SelectRefusal.{SelectRefusal}
use Rattle.sm_match.specs.declared.refusal.SelectRefusal.TheVariants.{Over, Memory}

-- the literals are the input's, and the instances are just those over them, in order; they are at most 4,096
pub record IsSelection (trees : List LexicalTree) (input : List Literal) (s : Selection) : Type 0 where
  pub literals : s.literals ≡ input
  pub instances : AreInstances trees input s.instances
  pub few : length s.instances ≤ 4096

-- there are more than 4,096 instances: so many different ones can be listed
abbrev pub HasTooMany : List LexicalTree → List Literal → Type 0
HasTooMany trees input = (is : List Instance) × (4096 < length is) × NoneTwice is × Each (IsInstance trees input) is

-- the right answer: all instances, or that they are too many; want of memory may stand in its place
abbrev pub IsAnswer : List LexicalTree → List Literal → Result Selection SelectRefusal → Type 0
IsAnswer trees input (Ok s) = IsSelection trees input s
IsAnswer trees input (Err Over) = HasTooMany trees input
IsAnswer trees input (Err Memory) = ⊤
