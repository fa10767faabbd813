-- The line of a refusal.
use Rattle.std.specs.Prelude.{◌≡◌, ℕ, ◌<◌, length, ⊤, List, [], ◌∷◌, ◌++◌, map, codes, Some, None}
use Rattle.std.specs.Fmt.{decimal}
use Rattle.std.specs.List.{AllZip}
use Rattle.gr_base.specs.Lists.{Each, gathered}
use Rattle.gr_text.specs.Words.{Spells}
use Rattle.gr_symbols.specs.Numbers.{Names}
use Rattle.gr_terms.specs.declared.Sym.{Sym}
use Rattle.mg_syntax.specs.declared.body.Ref.{Ref}
use Rattle.rl_refusals.specs.Roles.{role_text}
use Rattle.rl_refusals.specs.declared.refusal.Refusal.{Refusal}
use Rattle.rl_refusals.specs.declared.refusal.Refusal.TheVariants as refusal

-- what stands in a line behind its first word
pub data Part : Type 0 where
  number : ℕ → Part
  word : List ℕ → Part
  a_name : ℕ → Part
  a_variable : Ref → Part

abbrev pub name_part : Sym → Part
name_part s = a_name s.0

-- the code and the parts of a refusal
abbrev pub parts_of : Refusal → List Part
parts_of (refusal.Syntax role place) = number 10 ∷ word (role_text role) ∷ number place.line ∷ number place.column ∷ []
parts_of (refusal.NotUtf8 role offset) = number 11 ∷ word (role_text role) ∷ number offset ∷ []
parts_of (refusal.TooLong role) = number 12 ∷ word (role_text role) ∷ []
parts_of (refusal.UnknownClass class) = number 13 ∷ name_part class ∷ []
parts_of (refusal.ClassCycle classes) = number 14 ∷ map name_part classes
parts_of (refusal.DuplicateClass class) = number 15 ∷ name_part class ∷ []
parts_of (refusal.UndeclaredVariable class variable) = number 16 ∷ name_part class ∷ a_variable variable ∷ []
parts_of (refusal.NotExported class variable) = number 17 ∷ name_part class ∷ a_variable variable ∷ []
parts_of (refusal.DuplicateAttribute role place) = number 18 ∷ word (role_text role) ∷ number place.line ∷ number place.column ∷ []
parts_of (refusal.TooManyNodes class) = number 20 ∷ name_part class ∷ []
parts_of (refusal.TooManyClasses role) = number 21 ∷ word (role_text role) ∷ []
parts_of (refusal.TooLarge class) = number 24 ∷ name_part class ∷ []

module _ (texts : List (List ℕ)) where
  -- `?x`, or `?x.?y` for a variable of the call that is bound to ?x
  abbrev pub IsVariableText : Ref → List ℕ → Type 0
  IsVariableText r bytes = elim r.of [
    | None ↦ (y : List ℕ) × Names texts r.name.0 y × (bytes ≡ 63 ∷ y)
    | Some x ↦ (u y : List ℕ) × Names texts x.0 u × Names texts r.name.0 y × (bytes ≡ 63 ∷ u ++ codes ".?" ++ y)
  ]

  abbrev pub IsPartText : Part → List ℕ → Type 0
  IsPartText (number n) bytes = bytes ≡ decimal n
  IsPartText (word w) bytes = bytes ≡ w
  IsPartText (a_name a) bytes = (t : List ℕ) × Names texts a t × Spells bytes t
  IsPartText (a_variable r) bytes = IsVariableText r bytes

  -- the bytes are those of the parts, each behind a space
  abbrev pub ArePartTexts : List Part → List ℕ → Type 0
  ArePartTexts ps bytes = (ts : List (List ℕ)) × AllZip IsPartText ps ts × (bytes ≡ gathered (λ t. 32 ∷ t) ts)

  -- the bytes are the line of the refusal
  abbrev pub IsRefusalLine : Refusal → List ℕ → Type 0
  IsRefusalLine r bytes = (parts : List ℕ) × ArePartTexts (parts_of r) parts × (bytes ≡ codes "refused" ++ parts ++ 10 ∷ [])

  -- each name of the part has a text
  abbrev pub HasText : ℕ → Type 0
  HasText a = a < length texts

  abbrev pub HasVariableText : Ref → Type 0
  HasVariableText r = elim r.of [ None ↦ HasText r.name.0 | Some x ↦ HasText x.0 × HasText r.name.0 ]

  abbrev pub HasPartText : Part → Type 0
  HasPartText (number n) = ⊤
  HasPartText (word w) = ⊤
  HasPartText (a_name a) = HasText a
  HasPartText (a_variable r) = HasVariableText r

  -- each name of the refusal has a text
  abbrev pub HasTexts : Refusal → Type 0
  HasTexts r = Each HasPartText (parts_of r)
