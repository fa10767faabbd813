-- Facts in numbers: how they are read, and what they give to a network, to classes of variables, and to a description.
use Rattle.std.specs.Prelude.{◌≡◌, ℕ, zero, suc, ◌+◌, ◌*◌, ◌/◌, ◌%◌, ◌<◌, ◌≤◌, List, [], ◌∷◌, ◌++◌, map, length, take, get_or, min, ◌⊎◌, ⊤}
use Rattle.gr_base.specs.Lists.{IsAmong, Each, gathered}
use Rattle.gr_terms.specs.declared.Sym.{Sym}
use Rattle.gr_terms.specs.declared.SlotId.{SlotId}
use Rattle.gr_terms.specs.declared.Term.{Term}
use Rattle.gr_terms.specs.declared.Term.TheVariants.{Const, Var}
use Rattle.gr_terms.specs.declared.Literal.{Literal}
use Rattle.gr_terms.specs.declared.Assertion.{Assertion}
use Rattle.gr_terms.specs.declared.Assertion.TheVariants.{Entry, Equate, Link}
use Rattle.gr_terms.specs.Networks as net
use Rattle.gr_terms.specs.Networks.{put_term}
use Rattle.gr_terms.specs.Canonical as canonical
use Rattle.gr_terms.specs.Canonical.{map_literal}
use Rattle.gr_terms.specs.Views.{term_of, network_of}
use Rattle.gr_terms.specs.LiteralViews.{literal_of}
use Rattle.gr_store.specs.Contents.{entry_count}
use Rattle.td_desc.specs.declared.Colour.{Colour}
use Rattle.td_desc.specs.declared.Dominance.{Dominance}
use Rattle.td_desc.specs.Conditions.{IsTermBelow, SaysOf}
use Rattle.mg_facts.specs.declared.variable.Variable.{Variable}
use Rattle.mg_facts.specs.declared.variable.Local.TheVariants.{Own}
use Rattle.mg_facts.specs.declared.fact.Fact.{Fact}
use Rattle.mg_facts.specs.declared.fact.Fact.TheVariants as fact
use Rattle.mg_facts.specs.Said.{Slot, own_of, top_of, bottom_of, the_interface, Said, block, related, one_node, identified, is_name, coloured, paired, says}

-- the variables with their numbers, the facts in numbers, and how many of the first variables are those of the facts
pub record Numbered : Type 0 where
  pub names : List Variable
  pub facts : List Fact
  pub used : ℕ

-- the new list is the old one, or has one more at the end
abbrev pub GoesOn : List Variable → List Variable → Variable → Type 0
GoesOn old new x = (new ≡ old) ⊎ (new ≡ old ++ x ∷ [])

-- a variable for the numbers that are not given
abbrev pub anyone : Variable
anyone = record { at = 0; local = Own }

-- the slot of x that is the first, second or third one
abbrev pub slot_number : ℕ → Variable → Slot
slot_number zero x = own_of x
slot_number (suc zero) x = top_of x
slot_number (suc (suc k)) x = bottom_of x

-- READING NUMBERS

module _ (names : List Variable) where
  abbrev pub named : ℕ → Variable
  named i = get_or names i anyone

  abbrev pub named_term : ℕ → net.Term Variable
  named_term i = net.variable (named i)

  -- slot 0 is that of the interface, and each variable has three
  abbrev pub named_slot : ℕ → Slot
  named_slot zero = the_interface
  named_slot (suc k) = slot_number (k % 3) (named (k / 3))

  abbrev pub read_term : Term → net.Term Variable
  read_term t = put_term named_term (term_of t)

  abbrev pub read_terms : List Term → List (net.Term Variable)
  read_terms ts = map (put_term named_term) (map term_of ts)

  abbrev pub said_of : Fact → Said
  said_of (fact.Block x) = block (named x)
  said_of (fact.Related x how y) = related (named x) how (named y)
  said_of (fact.OneNode x y) = one_node (named x) (named y)
  said_of (fact.Identified x y) = identified (named x) (named y)
  said_of (fact.IsName x a) = is_name (named x) a.0
  said_of (fact.Coloured x c) = coloured (named x) c
  said_of (fact.Paired s a t) = paired (named_slot s.0) a.0 (read_term t)
  said_of (fact.Says l) = says (map_literal (put_term named_term) (literal_of l))

  abbrev pub all_said : List Fact → List Said
  all_said facts = map said_of facts

-- the variables keep their numbers, and the facts are the same and are read as before
pub record Keeps (old new : Numbered) : Type 0 where
  pub more : List Variable
  pub names : new.names ≡ old.names ++ more
  pub facts : new.facts ≡ old.facts
  pub used : new.used ≡ old.used
  pub reads : all_said new.names new.facts ≡ all_said old.names old.facts

-- one fact more was said behind the others, and nothing more was said
abbrev pub States : Numbered → Numbered → Said → Type 0
States old new fact = all_said new.names new.facts ≡ all_said old.names old.facts ++ fact ∷ []

abbrev pub StatesNothing : Numbered → Numbered → Type 0
StatesNothing old new = all_said new.names new.facts ≡ all_said old.names old.facts

-- the variables and slots of the fact are among the first so many
abbrev pub IsBelow : ℕ → Fact → Type 0
IsBelow n (fact.Block x) = x < n
IsBelow n (fact.Related x how y) = (x < n) × (y < n)
IsBelow n (fact.OneNode x y) = (x < n) × (y < n)
IsBelow n (fact.Identified x y) = (x < n) × (y < n)
IsBelow n (fact.IsName x a) = x < n
IsBelow n (fact.Coloured x c) = x < n
IsBelow n (fact.Paired s a t) = (s.0 < 3 * n + 1) × IsTermBelow n t
IsBelow n (fact.Says l) = SaysOf n l

-- WHAT A FACT GIVES

abbrev pub slot_id : ℕ → SlotId
slot_id k = record { 0 = k }

abbrev pub one_of : ℕ → ℕ → List Assertion
one_of x y = Equate (Var x) (Var y) ∷ Link (slot_id (3 * x + 1)) (slot_id (3 * y + 1)) ∷ Link (slot_id (3 * x + 2)) (slot_id (3 * y + 2)) ∷ Link (slot_id (3 * x + 3)) (slot_id (3 * y + 3)) ∷ []

-- to the network
abbrev pub asserted : Fact → List Assertion
asserted (fact.Block x) = []
asserted (fact.Related x how y) = []
asserted (fact.OneNode x y) = one_of x y
asserted (fact.Identified x y) = one_of x y
asserted (fact.IsName x a) = Equate (Var x) (Const a) ∷ []
asserted (fact.Coloured x c) = []
asserted (fact.Paired s a t) = Entry s a t ∷ []
asserted (fact.Says l) = []

abbrev pub all_asserted : List Fact → List Assertion
all_asserted facts = gathered asserted facts

-- to the classes of variables that are one
abbrev pub joined_by : Fact → List Assertion
joined_by (fact.Block x) = []
joined_by (fact.Related x how y) = []
joined_by (fact.OneNode x y) = Equate (Var x) (Var y) ∷ []
joined_by (fact.Identified x y) = Equate (Var x) (Var y) ∷ []
joined_by (fact.IsName x a) = []
joined_by (fact.Coloured x c) = []
joined_by (fact.Paired s a t) = []
joined_by (fact.Says l) = []

abbrev pub all_joined : List Fact → List Assertion
all_joined facts = gathered joined_by facts

-- the variables that stand as node variables
abbrev pub stand_in : Fact → List ℕ
stand_in (fact.Block x) = x ∷ []
stand_in (fact.Related x how y) = x ∷ y ∷ []
stand_in (fact.OneNode x y) = x ∷ y ∷ []
stand_in (fact.Identified x y) = []
stand_in (fact.IsName x a) = []
stand_in (fact.Coloured x c) = []
stand_in (fact.Paired s a t) = []
stand_in (fact.Says l) = []

-- the variables that stand as values
abbrev pub variable_in : Term → List ℕ
variable_in (Const a) = []
variable_in (Var x) = x ∷ []

abbrev pub terms_in : Literal → List Term
terms_in l = l.handle ∷ l.pred ∷ l.args

-- the variables that stand in a fact
abbrev pub slot_variable : ℕ → List ℕ
slot_variable zero = []
slot_variable (suc k) = k / 3 ∷ []

abbrev pub variables_in : Fact → List ℕ
variables_in (fact.Block x) = x ∷ []
variables_in (fact.Related x how y) = x ∷ y ∷ []
variables_in (fact.OneNode x y) = x ∷ y ∷ []
variables_in (fact.Identified x y) = x ∷ y ∷ []
variables_in (fact.IsName x a) = x ∷ []
variables_in (fact.Coloured x c) = x ∷ []
variables_in (fact.Paired s a t) = slot_variable s.0 ++ variable_in t
variables_in (fact.Says l) = gathered variable_in (terms_in l)

-- each variable that got a number is one of these
abbrev pub IsFresh : Numbered → Numbered → List ℕ → Type 0
IsFresh old new xs = (i : ℕ) → length old.names ≤ i → i < length new.names → IsAmong xs i

-- the first variables are those of the facts
abbrev pub AreMet : ℕ → List Fact → Type 0
AreMet n facts = (i : ℕ) → i < n → IsAmong (gathered variables_in facts) i

abbrev pub values_in : Fact → List ℕ
values_in (fact.Block x) = []
values_in (fact.Related x how y) = []
values_in (fact.OneNode x y) = []
values_in (fact.Identified x y) = []
values_in (fact.IsName x a) = x ∷ []
values_in (fact.Coloured x c) = []
values_in (fact.Paired s a t) = variable_in t
values_in (fact.Says l) = gathered variable_in (terms_in l)

-- the variables with a colour
abbrev pub colours_in : Fact → List (ℕ × Colour)
colours_in (fact.Block x) = []
colours_in (fact.Related x how y) = []
colours_in (fact.OneNode x y) = []
colours_in (fact.Identified x y) = []
colours_in (fact.IsName x a) = []
colours_in (fact.Coloured x c) = (x, c) ∷ []
colours_in (fact.Paired s a t) = []
colours_in (fact.Says l) = []

-- the relations and the literals
abbrev pub relations_in : Fact → List (ℕ × Dominance × ℕ)
relations_in (fact.Block x) = []
relations_in (fact.Related x how y) = (x, how, y) ∷ []
relations_in (fact.OneNode x y) = []
relations_in (fact.Identified x y) = []
relations_in (fact.IsName x a) = []
relations_in (fact.Coloured x c) = []
relations_in (fact.Paired s a t) = []
relations_in (fact.Says l) = []

abbrev pub literals_in : Fact → List Literal
literals_in (fact.Block x) = []
literals_in (fact.Related x how y) = []
literals_in (fact.OneNode x y) = []
literals_in (fact.Identified x y) = []
literals_in (fact.IsName x a) = []
literals_in (fact.Coloured x c) = []
literals_in (fact.Paired s a t) = []
literals_in (fact.Says l) = l ∷ []
