-- Which status and which text are right for a run, from the bytes of its file on.
use Rattle.std.specs.Prelude.{◌≡◌, ℕ, ◌<◌, ◌≤◌, List, [], ◌∷◌, ◌++◌, length, true, false, Option, Some, None, ⊤}
use Rattle.std.specs.List.{AllZip}
use Rattle.gr_base.specs.Lists.{IsAmong, Each}
use Rattle.gr_io.specs.Outside.{appended}
use Rattle.gr_symbols.specs.Numbers.{Names, first_texts}
use Rattle.gr_terms.specs.declared.Sym.{Sym}
use Rattle.gr_text.specs.Limits.{IsShort, byte_limit}
use Rattle.gr_tokens.specs.declared.ReadRefusal.{ReadRefusal}
use Rattle.mg_syntax.specs.declared.item.Item.{Item}
use Rattle.mg_reader.specs.Answers.{IsMetagrammar, IsRefusal}
use Rattle.mg_reader.specs.Tables.{IsTable}
use Rattle.mg_scope.specs.Classes.{valued_classes}
use Rattle.mg_scope.specs.Faults.{IsScoped, IsFirstFault}
use Rattle.mg_scope.specs.declared.refusal.ScopeRefusal.{ScopeRefusal}
use Rattle.td_canon.specs.CanonicalTexts.{text_in}
use Rattle.mg_compile.specs.Compiled.{IsRightList, IsClassFault, IsModelSteps}
use Rattle.mg_compile.specs.declared.refusal.CompileRefusal.{CompileRefusal}
use Rattle.tg_text.specs.GrammarText.{ClassText, grammar_text}
use Rattle.rl_words.specs.Requests.{AsksCompile}
use Rattle.rl_refusals.specs.Lines.{IsRefusalLine}
use Rattle.rl_refusals.specs.declared.refusal.Refusal.{Refusal}
use Rattle.rl_refusals.specs.declared.refusal.Refusal.TheVariants as refusal
use Rattle.rl_refusals.specs.declared.refusal.Role.TheVariants.{Metagrammar}
use Rattle.rl_top.specs.Refusals.{IsOfReading, IsOfScope, IsOfCompiling}
use Rattle.rl_top.specs.declared.status.Status.{Status}
use Rattle.rl_top.specs.declared.status.Status.TheVariants as status

-- the file has more bytes than are read
abbrev pub IsTooLong : List ℕ → Type 0
IsTooLong bytes = byte_limit < length bytes

-- The numbering of names: the first texts, and then the names of the file by their first places. A file that is too long isn't looked at.
pub record IsNumbering (bytes : List ℕ) (texts : List (List ℕ)) : Type 0 where
  pub short : IsShort bytes → IsTable bytes first_texts texts
  pub long : IsTooLong bytes → texts ≡ first_texts

-- the bytes are read as this metagrammar, which keeps the rules of scope
pub record IsGood (bytes : List ℕ) (texts : List (List ℕ)) (m : List Item) : Type 0 where
  pub short : IsShort bytes
  pub spelled : IsMetagrammar bytes texts m
  pub scoped : IsScoped m

-- no expansion of the class is refused, among as many as the budget
abbrev pub HasNoFault : List Item → ℕ → Sym → Type 0
HasNoFault m models c = (e : CompileRefusal) → IsClassFault m c models e → ⊥

-- the fault of the first valued class that has one
pub record IsFirstClassFault (m : List Item) (models : ℕ) (e : CompileRefusal) : Type 0 where
  pub before : List Sym
  pub class : Sym
  pub after : List Sym
  pub valued : valued_classes m ≡ before ++ class ∷ after
  pub faultless : Each (HasNoFault m models) before
  pub fault : IsClassFault m class models e

-- The first refusal, in this order: the file is too long; it can't be read; the metagrammar breaks a rule of scope; a valued class has an
-- expansion that is refused.
pub data IsFirstRefusal (bytes : List ℕ) (models : ℕ) (texts : List (List ℕ)) (r : Refusal) : Type 0 where
  too_long : IsTooLong bytes → r ≡ refusal.TooLong Metagrammar → IsFirstRefusal bytes models texts r
  unread : (e : ReadRefusal) → IsShort bytes → IsRefusal bytes texts e → IsOfReading e r → IsFirstRefusal bytes models texts r
  unscoped : (m : List Item) (e : ScopeRefusal) → IsShort bytes → IsMetagrammar bytes texts m → IsFirstFault m e → IsOfScope e r
      → IsFirstRefusal bytes models texts r
  uncompiled : (m : List Item) (e : CompileRefusal) → IsGood bytes texts m → IsFirstClassFault m models e → IsOfCompiling e r
      → IsFirstRefusal bytes models texts r

-- what is written of a class: its name, and a list of its trees that is right for the budget
pub record IsClassText (texts : List (List ℕ)) (m : List Item) (models : ℕ) (c : Sym) (t : ClassText) : Type 0 where
  pub name : Names texts c.0 t.name
  pub list : IsRightList (text_in texts) m c models t.trees t.cut

-- the metagrammar has no refusal, and this is written of its valued classes, in the order of their first valuations
pub record AreClassTexts (texts : List (List ℕ)) (m : List Item) (models : ℕ) (classes : List ClassText) : Type 0 where
  pub faultless : Each (HasNoFault m models) (valued_classes m)
  pub written : AllZip (IsClassText texts m models) (valued_classes m) classes

-- a run that writes this of its classes is done where each list is whole, and shortened where one was cut
pub data IsEnding (classes : List ClassText) (s : Status) : Type 0 where
  whole : Each (λ t. t.cut ≡ false) classes → s ≡ status.Done → IsEnding classes s
  shorter : (t : ClassText) → IsAmong classes t → t.cut ≡ true → s ≡ status.Shortened → IsEnding classes s

-- The right status and text for a metagrammar of these bytes, under a budget for each class: the line of the first refusal, or else the
-- grammar of all its valued classes.
pub data IsOutcome (bytes : List ℕ) (models : ℕ) (s : Status) (text : List ℕ) : Type 0 where
  refused : (texts : List (List ℕ)) (r : Refusal) → IsNumbering bytes texts → IsFirstRefusal bytes models texts r
      → IsRefusalLine texts r text → s ≡ status.Refused → IsOutcome bytes models s text
  compiled : (texts : List (List ℕ)) (m : List Item) (classes : List ClassText) → IsNumbering bytes texts → IsGood bytes texts m
      → AreClassTexts texts m models classes → text ≡ grammar_text classes → IsEnding classes s → IsOutcome bytes models s text

-- the budget is at least 1 and at least the steps of the class
pub record IsEnoughFor (m : List Item) (models : ℕ) (c : Sym) : Type 0 where
  pub some : 0 < models
  pub steps : ℕ
  pub counted : IsModelSteps m c steps
  pub most : steps ≤ models

-- the bytes are a metagrammar, and the budget is enough for each of its valued classes
pub record IsEnough (bytes : List ℕ) (models : ℕ) : Type 0 where
  pub texts : List (List ℕ)
  pub m : List Item
  pub numbered : IsNumbering bytes texts
  pub good : IsGood bytes texts m
  pub each : Each (IsEnoughFor m models) (valued_classes m)

-- the shelf's file of this name has these bytes; where the shelf doesn't tell, any bytes may be its
abbrev pub Holds : Option (List ℕ → Option (List ℕ)) → List ℕ → List ℕ → Type 0
Holds None name bytes = ⊤
Holds (Some files) name bytes = files name ≡ Some bytes

-- the shelf tells that its file of this name has these bytes
abbrev pub Tells : Option (List ℕ → Option (List ℕ)) → List ℕ → List ℕ → Type 0
Tells None name bytes = ⊥
Tells (Some files) name bytes = files name ≡ Some bytes

-- the file and the budget that the words ask for, the file's bytes, and the right status and text for them
pub record IsRight (files : Option (List ℕ → Option (List ℕ))) (words : List (List ℕ)) (s : Status) (text : List ℕ) : Type 0 where
  pub file : List ℕ
  pub models : ℕ
  pub bytes : List ℕ
  pub asked : AsksCompile words file models
  pub held : Holds files file bytes
  pub outcome : IsOutcome bytes models s text

-- the whole of a right text was written
abbrev pub WritesWhole : Option (List ℕ → Option (List ℕ)) → List (List ℕ) → Status → Option (List ℕ) → Option (List ℕ) → Type 0
WritesWhole files words s before after = (text : List ℕ) × IsRight files words s text × (after ≡ appended before text)

-- a front of a right text was written, and not the whole of it
abbrev pub WritesFront : Option (List ℕ → Option (List ℕ)) → List (List ℕ) → Option (List ℕ) → Option (List ℕ) → Type 0
WritesFront files words before after =
    (s : Status) × (front : List ℕ) × (rest : List ℕ) × IsRight files words s (front ++ rest) × (rest ≡ [] → ⊥) × (after ≡ appended before front)
