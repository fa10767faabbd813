-- Classes of numbered variables that are one, their colours, and the nodes in order.
use Rattle.std.specs.Prelude.{◌≡◌, ℕ, ◌<◌, ◌≤◌, ◌+◌, ◌*◌, List, [], ◌∷◌, ◌++◌, length, get_or, slice_get, slice_set, map, Bool, true, false, Option, Some, None, ◌⊎◌, ⊤}
use Rattle.gr_base.specs.Lists.{Each, IsAmong, IsSublist, gathered}
use Rattle.gr_terms.specs.Networks.{AreLinked, variable}
use Rattle.gr_terms.specs.Views.{network_of}
use Rattle.gr_terms.specs.declared.Term.{Term}
use Rattle.gr_terms.specs.declared.Term.TheVariants.{Const, Var}
use Rattle.gr_terms.specs.declared.Assertion.{Assertion}
use Rattle.gr_terms.specs.declared.Assertion.TheVariants.{Entry, Equate, Link}
use Rattle.td_desc.specs.declared.Colour.{Colour}
use Rattle.td_desc.specs.declared.Colour.TheVariants.{Black, White, Red}
use Rattle.td_desc.specs.declared.Dominance.{Dominance}
use Rattle.td_desc.specs.declared.DescribedNode.{DescribedNode}
use Rattle.td_desc.specs.declared.Related.{Related}
use Rattle.mg_facts.specs.declared.fact.Fact.{Fact}
use Rattle.mg_facts.specs.Numbered.{all_joined, slot_id}

-- an equation of two variables
abbrev pub IsJoin : Assertion → Type 0
IsJoin (Entry s a t) = ⊥
IsJoin (Equate (Const a) t) = ⊥
IsJoin (Equate (Var x) (Const a)) = ⊥
IsJoin (Equate (Var x) (Var y)) = ⊤
IsJoin (Link s t) = ⊥

abbrev pub AreJoins : List Assertion → Type 0
AreJoins list = Each IsJoin list

-- the variables are said to be one, at once or through others
abbrev pub AreOne : List Fact → ℕ → ℕ → Type 0
AreOne facts x y = AreLinked (network_of (all_joined facts)) (variable x) (variable y)

-- the first of the variables that are one with x
pub record IsRoot (facts : List Fact) (x root : ℕ) : Type 0 where
  pub is_one : AreOne facts x root
  pub least : (y : ℕ) → AreOne facts x y → root ≤ y

-- the root of each variable
pub record AreRoots (facts : List Fact) (count : ℕ) (roots : List ℕ) : Type 0 where
  pub size : length roots ≡ count
  pub each : (x : ℕ) → x < count → IsRoot facts x (get_or roots x 0)

-- over a list of the roots
module _ (roots : List ℕ) where
  abbrev pub root : ℕ → ℕ
  root x = get_or roots x 0

  -- each root is a variable
  abbrev pub InRange : Type 0
  InRange = (x : ℕ) → x < length roots → root x < length roots

  -- two variables with one root have different colours
  pub record HasTwoColours (painted : List (ℕ × Colour)) : Type 0 where
    pub x : ℕ
    pub y : ℕ
    pub c : Colour
    pub d : Colour
    pub first : IsAmong painted (x, c)
    pub second : IsAmong painted (y, d)
    pub one : root x ≡ root y
    pub differ : c ≡ d → ⊥

  -- the table has the colour of each root
  pub record AreColours (painted : List (ℕ × Colour)) (table : List (Option Colour)) : Type 0 where
    pub size : length table ≡ length roots
    pub all : (x : ℕ) (c : Colour) → IsAmong painted (x, c) → get_or table (root x) None ≡ Some c
    pub only : (r : ℕ) (c : Colour) → get_or table r None ≡ Some c → (x : ℕ) × IsAmong painted (x, c) × (root x ≡ r)

  -- the colours are put into the table, where their roots had no other ones
  abbrev pub IsPainted : List (ℕ × Colour) → List (Option Colour) → List (Option Colour) → Type 0
  IsPainted [] old new = new ≡ old
  IsPainted (p ∷ ps) old new =
      (middle : List (Option Colour)) × (middle ≡ slice_set old (root p.0) (Some p.1))
      × ((d : Colour) → get_or old (root p.0) None ≡ Some d → d ≡ p.1) × IsPainted ps middle new

  -- one of the variables has a root with another colour
  abbrev pub IsOther : List (ℕ × Colour) → List (Option Colour) → Type 0
  IsOther painted table = (x : ℕ) × (c d : Colour) × IsAmong painted (x, c) × (get_or table (root x) None ≡ Some d) × (c ≡ d → ⊥)

  -- the table tells which roots the variables have
  pub record AreMarked (xs : List ℕ) (table : List Bool) : Type 0 where
    pub size : length table ≡ length roots
    pub all : (x : ℕ) → IsAmong xs x → get_or table (root x) false ≡ true
    pub only : (r : ℕ) → get_or table r false ≡ true → (x : ℕ) × IsAmong xs x × (root x ≡ r)

  -- of the variables, those whose root is that of none before, where `seen` stand before
  abbrev pub AreFirstOnes : List ℕ → List ℕ → List ℕ → Type 0
  AreFirstOnes seen [] firsts = firsts ≡ []
  AreFirstOnes seen (x ∷ xs) firsts =
      (((y : ℕ) × IsAmong seen y × (root x ≡ root y)) × AreFirstOnes seen xs firsts)
      ⊎ (((y : ℕ) → IsAmong seen y → root x ≡ root y → ⊥) × ((rest : List ℕ) × (firsts ≡ x ∷ rest) × AreFirstOnes (x ∷ seen) xs rest))

  -- one of the variables has a marked root
  abbrev pub HasMarked : List Bool → List ℕ → Type 0
  HasMarked table xs = (x : ℕ) × IsAmong xs x × (get_or table (root x) false ≡ true)

  module _ (colours : List (Option Colour)) where
    -- the colour of a root, or red
    abbrev pub or_red : Option Colour → Colour
    or_red None = Red
    or_red (Some c) = c

    abbrev pub shown : ℕ → Colour
    shown x = or_red (get_or colours (root x) None)

    -- the part of the list that shows the colour, in its order
    pub record IsShownPart (c : Colour) (xs part : List ℕ) : Type 0 where
      pub order : IsSublist part xs
      pub only : Each (λ x. shown x ≡ c) part
      pub whole : (x : ℕ) → IsAmong xs x → shown x ≡ c → IsAmong part x

    -- blacks, whites and reds, each in the order of the list
    pub record InOrder (firsts nodes : List ℕ) : Type 0 where
      pub blacks : List ℕ
      pub whites : List ℕ
      pub reds : List ℕ
      pub are_black : IsShownPart Black firsts blacks
      pub are_white : IsShownPart White firsts whites
      pub are_red : IsShownPart Red firsts reds
      pub parts : nodes ≡ blacks ++ whites ++ reds

    abbrev pub node_at : ℕ → DescribedNode
    node_at x = record { colour = shown x; own = slot_id (3 * x + 1); top = slot_id (3 * x + 2); bot = slot_id (3 * x + 3) }

  -- a node with this root stands at the place
  abbrev pub StandsAt : List ℕ → ℕ → ℕ → Type 0
  StandsAt nodes place r = (y : ℕ) × (slice_get nodes place ≡ Some y) × (root y ≡ r)

  -- the table has a place of each root of a node
  pub record ArePlaces (nodes places : List ℕ) : Type 0 where
    pub size : length places ≡ length roots
    pub stand : (x : ℕ) → IsAmong nodes x → StandsAt nodes (get_or places (root x) 0) (root x)

  abbrev pub relation_at : List ℕ → ℕ × Dominance × ℕ → Related
  relation_at places r = record { from = get_or places (root r.0) 0; how = r.1; to = get_or places (root r.2) 0 }
