-- When a tree over one network has each canonical form that a tree over another one has.
use Rattle.std.specs.Prelude.{ℕ, List, ◌↔◌}
use Rattle.std.specs.List.{AllZip}
use Rattle.gr_base.specs.Forests.{AreAlike}
use Rattle.gr_terms.specs.Canonical.{Decorated, Literal, Node, IsMet}
use Rattle.gr_terms.specs.Networks.{Term, Assertion, name, AreLinked, HasValue}

module _ {V S W R : Type 0} (N : List (Assertion V S)) (M : List (Assertion W R)) (there : Term V → Term W) where
  -- the slots have the same attributes, with values that answer each other
  pub record HaveSameValues (s : S) (r : R) : Type 0 where
    pub forth : (a : ℕ) (x : Term V) → HasValue N s a x → (y : Term W) × HasValue M r a y × AreLinked M (there x) y
    pub back : (a : ℕ) (y : Term W) → HasValue M r a y → (x : Term V) × HasValue N s a x × AreLinked M (there x) y

  pub record AreSameNodes (n : Node S) (p : Node R) : Type 0 where
    pub own : HaveSameValues n.own p.own
    pub top : HaveSameValues n.top p.top
    pub bottom : HaveSameValues n.bottom p.bottom

  pub record AreSameLiterals (l : Literal (Term V)) (k : Literal (Term W)) : Type 0 where
    pub handle : AreLinked M (there l.handle) k.handle
    pub pred : AreLinked M (there l.pred) k.pred
    pub args : AllZip (λ x y. AreLinked M (there x) y) l.args k.args

  -- the trees answer each other place by place, and so do the classes of the values that are met
  pub record AreSameTrees (t : Decorated S (Term V)) (u : Decorated R (Term W)) : Type 0 where
    pub is_linked : (x y : Term V) → AreLinked N x y → AreLinked M (there x) (there y)
    pub classes : (x y : Term V) → IsMet N t x → IsMet N t y → AreLinked M (there x) (there y) → AreLinked N x y
    pub names : (x : Term V) (a : ℕ) → IsMet N t x → AreLinked M (there x) (name a) ↔ AreLinked N x (name a)
    pub nodes : AreAlike AreSameNodes t.nodes u.nodes
    pub interface : HaveSameValues t.interface u.interface
    pub literals : AllZip AreSameLiterals t.literals u.literals
