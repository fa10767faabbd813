-- What each description keeps: search order, and numbers below their bounds.
use Rattle.std.specs.Prelude.{◌≡◌, ℕ, ◌<◌, List, ◌++◌, length, ⊤}
use Rattle.gr_base.specs.Lists.{Each}
use Rattle.gr_terms.specs.declared.Term.{Term}
use Rattle.gr_terms.specs.declared.Term.TheVariants.{Const, Var}
use Rattle.gr_terms.specs.declared.Assertion.{Assertion}
use Rattle.gr_terms.specs.declared.Assertion.TheVariants.{Entry, Equate, Link}
use Rattle.gr_terms.specs.declared.Literal.{Literal}
use Rattle.td_desc.specs.declared.Colour.{Colour}
use Rattle.td_desc.specs.declared.Colour.TheVariants.{Black, White, Red}
use Rattle.td_desc.specs.declared.DescribedNode.{DescribedNode}
use Rattle.td_desc.specs.declared.Related.{Related}
use Rattle.td_desc.specs.declared.Description.{Description}

-- which colour comes first in search order
abbrev pub colour_rank : Colour → ℕ
colour_rank Black = 0
colour_rank White = 1
colour_rank Red = 2

abbrev pub AreOfColour : Colour → List DescribedNode → Type 0
AreOfColour c nodes = Each (λ (n : DescribedNode). n.colour ≡ c) nodes

-- blacks first, then whites, then reds
pub record InSearchOrder (nodes : List DescribedNode) : Type 0 where
  pub blacks : List DescribedNode
  pub whites : List DescribedNode
  pub reds : List DescribedNode
  pub parts : nodes ≡ blacks ++ whites ++ reds
  pub are_black : AreOfColour Black blacks
  pub are_white : AreOfColour White whites
  pub are_red : AreOfColour Red reds

-- a name, or a variable of those that there are
abbrev pub IsTermBelow : ℕ → Term → Type 0
IsTermBelow vars (Const p) = ⊤
IsTermBelow vars (Var v) = v < vars

-- an assertion of terms and slots that there are
abbrev pub Mentions : ℕ → ℕ → Assertion → Type 0
Mentions vars slots (Entry s attr x) = (s.0 < slots) × IsTermBelow vars x
Mentions vars slots (Equate x y) = IsTermBelow vars x × IsTermBelow vars y
Mentions vars slots (Link s t) = (s.0 < slots) × (t.0 < slots)

-- a literal of terms that there are
abbrev pub SaysOf : ℕ → Literal → Type 0
SaysOf vars l = IsTermBelow vars l.handle × IsTermBelow vars l.pred × Each (IsTermBelow vars) l.args

-- a node of slots that there are
abbrev pub AreSlotsBelow : ℕ → DescribedNode → Type 0
AreSlotsBelow slots n = (n.own.0 < slots) × (n.top.0 < slots) × (n.bot.0 < slots)

-- a relation between nodes that there are
abbrev pub ArePlacesBelow : ℕ → Related → Type 0
ArePlacesBelow count r = (r.from < count) × (r.to < count)

-- what each description keeps
pub record IsNumbered (d : Description) : Type 0 where
  pub order : InSearchOrder d.nodes
  pub nodes : Each (AreSlotsBelow d.slots) d.nodes
  pub relations : Each (ArePlacesBelow (length d.nodes)) d.relations
  pub network : Each (Mentions d.vars d.slots) d.network
  pub interface : d.iface.0 < d.slots
  pub literals : Each (SaysOf d.vars) d.sem
