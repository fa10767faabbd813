-- How far the lines of a text can be read, and what was read of a class.
use Rattle.std.specs.Fmt.{decimal}
use Rattle.std.specs.Prelude.{◌≡◌, ◌≢◌, ℕ, suc, List, [], ◌++◌, length, map, codes, Result, Ok, Err, ⊤}
use Rattle.gr_base.specs.Lists.{Each, IsBefore, NoneTwice, gathered, joined}
use Rattle.gr_tokens.specs.declared.ReadRefusal.{ReadRefusal}
use Rattle.gr_tokens.specs.declared.ReadRefusal.TheVariants as refusal
use Rattle.td_canon.specs.CanonicalTexts.{text_in}
use Rattle.td_canon.specs.TreeSets.{Entry, IsWhole, texts_of, trees_of}
use Rattle.td_canon.specs.declared.tree_set.ClassTrees.{ClassTrees}
use Rattle.tg_text.specs.GrammarText.{class_text, class_text_of, closing_word, ended, tree_line, tree_lines}
use Rattle.tg_text.specs.Lines.{Standing, over, Leads}
use Rattle.tg_text.specs.Answers.{AreReadClasses, BreaksOff, Classes, IsFirstBadLine, IsReadClass}
use Rattle.tg_text.specs.declared.reading.Stop.{Stop}
use Rattle.tg_text.specs.declared.reading.Stop.TheVariants.{Line, Memory}
use Rattle.tg_reader.specs.Writable.{IsTreeText, IsWord, IsWritableTree}

-- from a standing on, the lines in front of the rest follow one another, and none that may stand there follows them
pub record IsBadLine (from : Standing) (text rest : List ℕ) : Type 0 where
  pub before : List (List ℕ)
  pub standing : Standing
  pub leads : Leads from before standing
  pub split : text ≡ joined before ++ rest
  pub unfinished : standing ≡ over → rest ≢ []
  pub here : BreaksOff standing rest

-- the first line that may not stand there is the one where this many bytes are left
abbrev pub StopsAt : Standing → List ℕ → Stop → Type 0
StopsAt from text Memory = ⊤
StopsAt from text (Line left) = (rest : List ℕ) × IsBadLine from text rest × (left ≡ length rest)

-- no line of one more tree comes next behind trees with these texts
abbrev pub NoTreeNext : List (List ℕ) → List ℕ → Type 0
NoTreeNext trees rest = (t more : List ℕ) → IsTreeText t → Each (λ u. IsBefore u t) trees → rest ≡ tree_line (suc (length trees)) t ++ more → ⊥

-- trees that can be written, beside their texts by this table
pub record AreReadTrees (texts : List (List ℕ)) (set : List Entry) : Type 0 where
  pub whole : IsWhole texts set
  pub writable : Each (IsWritableTree texts) (trees_of set)

-- the lines of these trees stand in front of the rest, and no more of them
pub record HasTrees (texts : List (List ℕ)) (set : List Entry) (text rest : List ℕ) : Type 0 where
  pub read : AreReadTrees texts set
  pub split : text ≡ tree_lines 1 (texts_of set) ++ rest
  pub last : NoTreeNext (texts_of set) rest

-- the lines of the trees and the closing line of the class stand in front of the rest
pub record HasBody (texts : List (List ℕ)) (c : ClassTrees) (text rest : List ℕ) : Type 0 where
  pub read : AreReadTrees texts c.trees
  pub split : text ≡ (tree_lines 1 (texts_of c.trees) ++ ended (closing_word c.cut ++ decimal (length (texts_of c.trees)))) ++ rest

-- the lines of these classes stand in front of the rest
pub record HasClasses (texts : List (List ℕ)) (classes : List ClassTrees) (text rest : List ℕ) : Type 0 where
  pub each : Each (IsReadClass texts) classes
  pub once : NoneTwice (map (λ c. c.class) classes)
  pub split : text ≡ gathered class_text (map (class_text_of texts) classes) ++ rest

-- no first line of a class comes next
abbrev pub NoClassNext : List ℕ → Type 0
NoClassNext rest = (name more : List ℕ) → IsWord name → rest ≡ ended (codes "class " ++ name) ++ more → ⊥

-- the right answer for the lines of a text
abbrev pub IsLinesAnswer : List ℕ → List (List ℕ) → Result Classes ReadRefusal → Type 0
IsLinesAnswer text texts (Ok classes) = AreReadClasses texts text classes.items
IsLinesAnswer text texts (Err (refusal.NotCanonical line)) = IsFirstBadLine text line
IsLinesAnswer text texts (Err refusal.Memory) = ⊤
IsLinesAnswer text texts (Err _) = ⊥

-- the names of classes
abbrev pub names_of : List (List ℕ) → List ClassTrees → List (List ℕ)
names_of texts classes = map (λ c. text_in texts c.class.0) classes
