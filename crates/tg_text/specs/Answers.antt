-- Which answer is right for the bytes of a grammar text.
use Rattle.std.specs.Prelude.{◌≡◌, ◌≢◌, ℕ, suc, ◌<◌, ◌^◌, List, [], ◌∷◌, ◌++◌, length, map, codes, Result, Ok, Err, IfOk, Vec, ⊤}
use Rattle.std.specs.declared.alloc.Global.{Global}
use Rattle.std.specs.Fmt.{decimal}
use Rattle.std.specs.Str.{IsUtf8, IsValidUpTo}
use Rattle.gr_base.specs.Lists.{Each, NoneTwice, joined}
use Rattle.gr_tokens.specs.declared.ReadRefusal.{ReadRefusal}
use Rattle.gr_tokens.specs.declared.ReadRefusal.TheVariants as refusal
use Rattle.td_canon.specs.CanonicalTexts.{text_in}
use Rattle.td_canon.specs.TreeSets.{IsWhole, trees_of}
use Rattle.td_canon.specs.declared.tree_set.ClassTrees.{ClassTrees}
use Rattle.tg_syntax.specs.Answers.{IsGrammarFile, IsSyntaxAnswer}
use Rattle.tg_text.specs.Naming.{PutsClasses}
use Rattle.tg_text.specs.GrammarText.{class_text_of, grammar_text}
use Rattle.tg_text.specs.Lines.{Standing, begins, over, Follows, Leads}
use Rattle.tg_reader.specs.Writable.{IsWord, IsWritableTree}

-- the bytes begin with a line that says this version
abbrev pub SaysVersion : List ℕ → ℕ → Type 0
SaysVersion bytes n = (n < 10 ^ 9) × ((rest : List ℕ) × (bytes ≡ codes "grammar " ++ decimal n ++ 10 ∷ rest))

-- the bytes are of version 1, or say none
abbrev pub IsOfVersionOne : List ℕ → Type 0
IsOfVersionOne bytes = (n : ℕ) → SaysVersion bytes n → n ≡ 1

-- no line that may stand here comes next
abbrev pub BreaksOff : Standing → List ℕ → Type 0
BreaksOff s rest = (line more : List ℕ) (after : Standing) → rest ≡ line ++ more → Follows s line after → ⊥

-- the lines before the one with this number, counted from 1, follow one another, and it doesn't follow them
pub record IsFirstBadLine (bytes : List ℕ) (number : ℕ) : Type 0 where
  pub before : List (List ℕ)
  pub standing : Standing
  pub leads : Leads begins before standing
  pub rest : List ℕ
  pub split : bytes ≡ joined before ++ rest
  pub unfinished : standing ≡ over → rest ≢ []
  pub here : BreaksOff standing rest
  pub counted : number ≡ suc (length before)

-- by a table of texts: the class has a name that is a word, and its trees can be written and stand beside their canonical texts
pub record IsReadClass (texts : List (List ℕ)) (c : ClassTrees) : Type 0 where
  pub named : c.class.0 < length texts
  pub word : IsWord (text_in texts c.class.0)
  pub whole : IsWhole texts c.trees
  pub writable : Each (IsWritableTree texts) (trees_of c.trees)

-- the bytes are what is written of these classes, no two of which have one name
pub record AreReadClasses (texts : List (List ℕ)) (bytes : List ℕ) (classes : List ClassTrees) : Type 0 where
  pub each : Each (IsReadClass texts) classes
  pub once : NoneTwice (map (λ c. c.class) classes)
  pub written : bytes ≡ grammar_text (map (class_text_of texts) classes)

-- classes as a text has them, in its order
abbrev pub Classes : Type 0
Classes = Vec ClassTrees Global

-- What is right of an answer for bytes by one table of texts, that behind the reading. Version comes before syntax, and syntax before the question whether the lines are those that are written. Want of memory says nothing
abbrev pub IsGrammarReading : List ℕ → List (List ℕ) → Result Classes ReadRefusal → Type 0
IsGrammarReading bytes texts (Ok classes) = IsUtf8 bytes × IsGrammarFile bytes × AreReadClasses texts bytes classes.items
IsGrammarReading bytes texts (Err refusal.Memory) = ⊤
IsGrammarReading bytes texts (Err (refusal.NotUtf8 n)) = (IsUtf8 bytes → ⊥) × IsValidUpTo bytes n
IsGrammarReading bytes texts (Err (refusal.Version n)) = IsUtf8 bytes × SaysVersion bytes n × (n ≢ 1)
IsGrammarReading bytes texts (Err (refusal.Syntax place)) = IsUtf8 bytes × IsOfVersionOne bytes × IsSyntaxAnswer {A = Classes} bytes (Err place)
IsGrammarReading bytes texts (Err (refusal.NotCanonical line)) = IsUtf8 bytes × IsGrammarFile bytes × IsFirstBadLine bytes line
IsGrammarReading bytes texts (Err _) = ⊥

-- The right answer for bytes, by the tables of texts before the reading and behind it: behind classes that were read the old table has got their names and what their trees name, in the order of the text, and nothing else
pub record IsGrammarAnswer (bytes : List ℕ) (old new : List (List ℕ)) (answer : Result Classes ReadRefusal) : Type 0 where
  pub reading : IsGrammarReading bytes new answer
  pub table : IfOk answer (λ classes. PutsClasses (map (class_text_of new) classes.items) old new)
