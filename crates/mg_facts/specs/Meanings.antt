-- What follows from what an expansion says: which variables are one, its network, when it clashes, its nodes in search order,
-- and its description.
use Rattle.std.specs.Prelude.{◌≡◌, ℕ, ◌+◌, ◌*◌, ◌≤◌, List, [], ◌∷◌, ◌++◌, length, Some, ◌⊎◌, slice_get}
use Rattle.std.specs.List.{AllZip}
use Rattle.gr_base.specs.Lists.{IsAmong, IsWithin, NoneTwice, Each, IsSublist, gathered}
use Rattle.gr_terms.specs.declared.Term as code_term
use Rattle.gr_terms.specs.declared.Term.TheVariants.{Const, Var}
use Rattle.gr_terms.specs.declared.Assertion as code_assertion
use Rattle.gr_terms.specs.declared.Assertion.TheVariants.{Entry, Equate, Link}
use Rattle.gr_terms.specs.declared.Literal as code_literal
use Rattle.gr_terms.specs.Networks.{Term, name, variable, Assertion, entry, equate, link, Agrees}
use Rattle.gr_terms.specs.Canonical.{Literal, literal_terms}
use Rattle.td_desc.specs.declared.Colour.{Colour}
use Rattle.td_desc.specs.declared.Colour.TheVariants.{Black, White, Red}
use Rattle.td_desc.specs.declared.Dominance.{Dominance}
use Rattle.td_desc.specs.declared.Related.{Related}
use Rattle.td_desc.specs.declared.Description as code
use Rattle.td_desc.specs.Descriptions.{Description, DescribedNode, description_of}
use Rattle.td_desc.specs.Conditions.{IsNumbered}
use Rattle.td_desc.specs.Likeness.{SayTheSame}
use Rattle.mg_facts.specs.declared.variable.Variable.{Variable}
use Rattle.mg_facts.specs.Said.{Slot, own_of, top_of, bottom_of, the_interface, Said, block, related, one_node, identified, is_name, coloured, paired, says}

-- x and y are said to be one
abbrev pub IsSaidOne : List Said → Variable → Variable → Type 0
IsSaidOne all x y = IsAmong all (identified x y) ⊎ IsAmong all (one_node x y)

-- the least equivalence that has each pair of variables that are said to be one
pub data AreIdentified (all : List Said) : Variable → Variable → Type 0 where
  said_one : (x y : Variable) → IsSaidOne all x y → AreIdentified all x y
  itself : (x : Variable) → AreIdentified all x x
  backwards : (x y : Variable) → AreIdentified all x y → AreIdentified all y x
  onwards : (x y z : Variable) → AreIdentified all x y → AreIdentified all y z → AreIdentified all x z

-- variables that are one are equal and share the entries of their slots
abbrev pub one_assertions : Variable → Variable → List (Assertion Variable Slot)
one_assertions x y = equate (variable x) (variable y) ∷ link (own_of x) (own_of y) ∷ link (top_of x) (top_of y) ∷ link (bottom_of x) (bottom_of y) ∷ []

abbrev pub assertions : Said → List (Assertion Variable Slot)
assertions (block x) = []
assertions (related x how y) = []
assertions (one_node x y) = one_assertions x y
assertions (identified x y) = one_assertions x y
assertions (is_name x a) = equate (variable x) (name a) ∷ []
assertions (coloured x c) = []
assertions (paired s a t) = entry s a t ∷ []
assertions (says l) = []

abbrev pub network : List Said → List (Assertion Variable Slot)
network all = gathered assertions all

-- the variables that stand as node variables: as a block's name, beside a relation, or in an equation of nodes
abbrev pub stands : Said → List Variable
stands (block x) = x ∷ []
stands (related x how y) = x ∷ y ∷ []
stands (one_node x y) = x ∷ y ∷ []
stands (identified x y) = []
stands (is_name x a) = []
stands (coloured x c) = []
stands (paired s a t) = []
stands (says l) = []

abbrev pub standing : List Said → List Variable
standing all = gathered stands all

-- the variable stands as a value, or is said to be a name
abbrev pub IsValueIn : Said → Variable → Type 0
IsValueIn (block y) x = ⊥
IsValueIn (related y how z) x = ⊥
IsValueIn (one_node y z) x = ⊥
IsValueIn (identified y z) x = ⊥
IsValueIn (is_name y a) x = x ≡ y
IsValueIn (coloured y c) x = ⊥
IsValueIn (paired s a t) x = t ≡ variable x
IsValueIn (says l) x = IsAmong (literal_terms l) (variable x)

-- the relations and the literals, in order
abbrev pub relation_of : Said → List (Variable × Dominance × Variable)
relation_of (block x) = []
relation_of (related x how y) = (x, how, y) ∷ []
relation_of (one_node x y) = []
relation_of (identified x y) = []
relation_of (is_name x a) = []
relation_of (coloured x c) = []
relation_of (paired s a t) = []
relation_of (says l) = []

abbrev pub literal_of : Said → List (Literal (Term Variable))
literal_of (block x) = []
literal_of (related x how y) = []
literal_of (one_node x y) = []
literal_of (identified x y) = []
literal_of (is_name x a) = []
literal_of (coloured x c) = []
literal_of (paired s a t) = []
literal_of (says l) = l ∷ []

-- the variables that stand in a fact
abbrev pub slot_variables : Slot → List Variable
slot_variables (own_of x) = x ∷ []
slot_variables (top_of x) = x ∷ []
slot_variables (bottom_of x) = x ∷ []
slot_variables the_interface = []

abbrev pub term_variables : Term Variable → List Variable
term_variables (name a) = []
term_variables (variable x) = x ∷ []

abbrev pub variables_said : Said → List Variable
variables_said (block x) = x ∷ []
variables_said (related x how y) = x ∷ y ∷ []
variables_said (one_node x y) = x ∷ y ∷ []
variables_said (identified x y) = x ∷ y ∷ []
variables_said (is_name x a) = x ∷ []
variables_said (coloured x c) = x ∷ []
variables_said (paired s a t) = slot_variables s ++ term_variables t
variables_said (says l) = gathered term_variables (literal_terms l)

-- the names and attributes that are said
abbrev pub term_names : Term Variable → List ℕ
term_names (name a) = a ∷ []
term_names (variable x) = []

abbrev pub names_in : Said → List ℕ
names_in (block x) = []
names_in (related x how y) = []
names_in (one_node x y) = []
names_in (identified x y) = []
names_in (is_name x a) = a ∷ []
names_in (coloured x c) = []
names_in (paired s a t) = a ∷ term_names t
names_in (says l) = gathered term_names (literal_terms l)

-- the names and attributes of a description
abbrev pub names_of : code_term.Term → List ℕ
names_of (Const a) = a.0 ∷ []
names_of (Var x) = []

abbrev pub assertion_names : code_assertion.Assertion → List ℕ
assertion_names (Entry s a t) = a.0 ∷ names_of t
assertion_names (Equate t u) = names_of t ++ names_of u
assertion_names (Link s t) = []

abbrev pub literal_names : code_literal.Literal → List ℕ
literal_names l = gathered names_of (l.handle ∷ l.pred ∷ l.args)

abbrev pub description_names : code.Description → List ℕ
description_names d = gathered assertion_names d.network ++ gathered literal_names d.sem

module _ (all : List Said) where
  -- x is one with a node variable; with a variable that stands as a value; with one that has the colour
  abbrev pub IsNodeVariable : Variable → Type 0
  IsNodeVariable x = (y : Variable) × IsAmong (standing all) y × AreIdentified all x y

  abbrev pub IsValueVariable : Variable → Type 0
  IsValueVariable x = (y : Variable) × ((s : Said) × IsAmong all s × IsValueIn s y) × AreIdentified all x y

  abbrev pub HasColour : Variable → Colour → Type 0
  HasColour x c = (y : Variable) × IsAmong all (coloured y c) × AreIdentified all x y

  -- two different names are linked; one node has two different colours; a node is a value
  pub data Clashes : Type 0 where
    by_names : (Agrees (network all) → ⊥) → Clashes
    by_colours : (x : Variable) (c d : Colour) → HasColour x c → HasColour x d → (c ≡ d → ⊥) → Clashes
    by_value : (x : Variable) → IsNodeVariable x → IsValueVariable x → Clashes

  -- the colour of a node: one that is given to a variable of it, else red
  abbrev pub IsColour : Variable → Colour → Type 0
  IsColour x c = HasColour x c ⊎ ((c ≡ Red) × ((d : Colour) → HasColour x d → ⊥))

  -- of the variables, those that are not one with an earlier one, where `seen` stand before
  abbrev pub AreFirsts : List Variable → List Variable → List Variable → Type 0
  AreFirsts seen [] firsts = firsts ≡ []
  AreFirsts seen (x ∷ xs) firsts =
      (((y : Variable) × IsAmong seen y × AreIdentified all x y) × AreFirsts seen xs firsts)
      ⊎ (((y : Variable) → IsAmong seen y → AreIdentified all x y → ⊥) × ((rest : List Variable) × (firsts ≡ x ∷ rest) × AreFirsts (x ∷ seen) xs rest))

  -- the part of the list that has the colour, in its order
  pub record IsPartOfColour (c : Colour) (xs part : List Variable) : Type 0 where
    pub order : IsSublist part xs
    pub only : Each (λ x. IsColour x c) part
    pub whole : (x : Variable) → IsAmong xs x → IsColour x c → IsAmong part x

  -- a variable for each node, in search order: blacks, whites, reds, each in the order in which its nodes first stand
  pub record AreNodes (nodes : List Variable) : Type 0 where
    pub firsts : List Variable
    pub blacks : List Variable
    pub whites : List Variable
    pub reds : List Variable
    pub are_firsts : AreFirsts [] (standing all) firsts
    pub are_black : IsPartOfColour Black firsts blacks
    pub are_white : IsPartOfColour White firsts whites
    pub are_red : IsPartOfColour Red firsts reds
    pub parts : nodes ≡ blacks ++ whites ++ reds

  -- the node at the place is the variable's
  abbrev pub IsPlaceOf : List Variable → ℕ → Variable → Type 0
  IsPlaceOf nodes n x = (y : Variable) × (slice_get nodes n ≡ Some y) × AreIdentified all x y

  abbrev pub IsRelation : List Variable → Variable × Dominance × Variable → Related → Type 0
  IsRelation nodes said r = IsPlaceOf nodes r.from said.0 × (r.how ≡ said.1) × IsPlaceOf nodes r.to said.2

  abbrev pub IsNode : Variable → DescribedNode Slot → Type 0
  IsNode x n = IsColour x n.colour × (n.slots ≡ record { own = own_of x; top = top_of x; bottom = bottom_of x })

  -- the description over the variables
  pub record IsDescribed (d : Description Variable Slot) : Type 0 where
    pub variables : List Variable
    pub are_nodes : AreNodes variables
    pub nodes : AllZip IsNode variables d.nodes
    pub relations : AllZip (IsRelation variables) (gathered relation_of all) d.relations
    pub network : d.network ≡ network all
    pub interface : d.interface ≡ the_interface
    pub literals : d.literals ≡ gathered literal_of all

  -- there are no more variables than the facts have, and three slots for each and one for the interface
  pub record IsSized (d : code.Description) : Type 0 where
    pub variables : List Variable
    pub once : NoneTwice variables
    pub said : IsWithin variables (gathered variables_said all)
    pub vars : d.vars ≤ length variables
    pub slots : d.slots ≤ 3 * length variables + 1

  -- d, in numbers, says what is said, of no other names, and in no more numbers than needed
  pub record IsDescriptionOf (d : code.Description) : Type 0 where
    pub numbered : IsNumbered d
    pub described : Description Variable Slot
    pub is_described : IsDescribed described
    pub same : SayTheSame described (description_of d)
    pub names : IsWithin (description_names d) (gathered names_in all)
    pub sized : IsSized d
