-- When two descriptions, which may name their variables and slots differently, say the same.
use Rattle.std.specs.Prelude.{◌≡◌, List}
use Rattle.std.specs.List.{AllZip}
use Rattle.gr_base.specs.Lists.{IsWithin}
use Rattle.gr_terms.specs.Networks.{Term, Assertion, AreLinked, AreLinkedSlots, put_term}
use Rattle.gr_terms.specs.Canonical.{Node, Literal, literal_terms}
use Rattle.gr_terms.specs.Interpretations.{Interprets}
use Rattle.td_desc.specs.Descriptions.{Description, DescribedNode}

-- each of two networks is interpreted in the other: a term for each variable and a slot for each slot send each assertion to a consequence
pub record AreInterpreted {V W S R : Type 0} (N : List (Assertion V S)) (M : List (Assertion W R)) : Type 0 where
  pub forth : V → Term W
  pub forth_slot : S → R
  pub back_again : W → Term V
  pub back_slot_again : R → S
  pub there : Interprets forth forth_slot N M
  pub home : Interprets back_again back_slot_again M N

-- the slot and the term answer each other, forth and back
pub record AreSlotsOf {V W S R : Type 0} (N : List (Assertion V S)) (M : List (Assertion W R)) (e : AreInterpreted N M) (s : S) (r : R) : Type 0 where
  pub there : AreLinkedSlots M (e.forth_slot s) r
  pub home : AreLinkedSlots N (e.back_slot_again r) s

pub record AreTermsOf {V W S R : Type 0} (N : List (Assertion V S)) (M : List (Assertion W R)) (e : AreInterpreted N M) (x : Term V) (y : Term W) : Type 0 where
  pub there : AreLinked M (put_term e.forth x) y
  pub home : AreLinked N (put_term e.back_again y) x

module _ {V W S R : Type 0} (N : List (Assertion V S)) (M : List (Assertion W R)) (e : AreInterpreted N M) where
  pub record AreNodesOf (n : DescribedNode S) (p : DescribedNode R) : Type 0 where
    pub colour : n.colour ≡ p.colour
    pub own : AreSlotsOf N M e n.slots.own p.slots.own
    pub top : AreSlotsOf N M e n.slots.top p.slots.top
    pub bottom : AreSlotsOf N M e n.slots.bottom p.slots.bottom

  abbrev pub AreLiteralsOf : Literal (Term V) → Literal (Term W) → Type 0
  AreLiteralsOf l k = AllZip (AreTermsOf N M e) (literal_terms l) (literal_terms k)

-- The descriptions say the same: their networks are interpreted in each other, so that nodes, the interface and literals
-- answer each other in order; colours are the same, and so are the relations, whose order and repetition say nothing.
pub record SayTheSame {V W S R : Type 0} (a : Description V S) (b : Description W R) : Type 0 where
  pub networks : AreInterpreted a.network b.network
  pub nodes : AllZip (AreNodesOf a.network b.network networks) a.nodes b.nodes
  pub relations : IsWithin a.relations b.relations × IsWithin b.relations a.relations
  pub interface : AreSlotsOf a.network b.network networks a.interface b.interface
  pub literals : AllZip (AreLiteralsOf a.network b.network networks) a.literals b.literals
