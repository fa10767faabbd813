-- What the code has of a class that was compiled, and of a file that was refused.
use Rattle.std.specs.Prelude.{◌≡◌, ℕ, List}
use Rattle.gr_terms.specs.declared.Sym.{Sym}
use Rattle.mg_syntax.specs.declared.item.Item.{Item}
use Rattle.td_canon.specs.declared.tree_set.ClassTrees.{ClassTrees}
use Rattle.tg_text.specs.GrammarText.{class_text_of}
use Rattle.rl_refusals.specs.Lines.{HasTexts}
use Rattle.rl_refusals.specs.declared.refusal.Refusal.{Refusal}
use Rattle.rl_top.specs.Outcomes.{HasNoFault, IsNumbering, IsFirstRefusal, IsClassText}

-- the class has no fault, and these are trees of it whose texts may be written
pub record IsCompiled (texts : List (List ℕ)) (m : List Item) (models : ℕ) (c : Sym) (t : ClassTrees) : Type 0 where
  pub class : t.class ≡ c
  pub faultless : HasNoFault m models c
  pub written : IsClassText texts m models c (class_text_of texts t)

-- this is the first refusal of the bytes, and its names have texts in their numbering
pub record IsRefusedFile (bytes : List ℕ) (models : ℕ) (texts : List (List ℕ)) (r : Refusal) : Type 0 where
  pub numbered : IsNumbering bytes texts
  pub first : IsFirstRefusal bytes models texts r
  pub named : HasTexts texts r
