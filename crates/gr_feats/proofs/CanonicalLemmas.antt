-- A canonical bag, collected attribute by attribute.
use Rattle.std.proofs.Common.{◌≡◌, ℕ, ◌+◌, ◌≤◌, List, [], ◌∷◌, ◌++◌, inl, inr, sym, ap, subst, arith}
use Rattle.std.specs.Prelude.{Bool, true, false}
use Rattle.std.specs.Bool.{OnTrue, OnFalse}
use Rattle.gr_base.specs.Lists.{IsAmong}
use Rattle.gr_base.proofs.ListLemmas.{IsAmong-one_more}
use Rattle.gr_terms.specs.declared.Sym.{Sym}
use Rattle.gr_terms.specs.declared.Term.{Term}
use Rattle.gr_terms.specs.declared.Term.TheVariants.{Const, Var}
use Rattle.gr_terms.specs.declared.Assertion.{Assertion}
use Rattle.gr_terms.specs.declared.Assertion.TheVariants.{Entry, Equate, Link}
use Rattle.gr_terms.specs.Networks as net
use Rattle.gr_terms.specs.Networks.{name, variable, Agrees, AreLinked, AreLinkedSlots, HasValue, shared, same, back, next, back_slot, next_slot}
use Rattle.gr_terms.specs.Views.{term_of, network_of}
use Rattle.gr_terms.specs.Bags.{IsListed, HasAttribute, LacksAttribute, Puts}
use Rattle.gr_terms.proofs.BagLemmas.{IsAmong-puts, IsAmong-puts_new, IsAmong-puts_old, IsListed-unique}
use Rattle.gr_store.specs.Contents.{entry_attributes, rank}
use Rattle.gr_feats.specs.CanonicalBags.{StandsFor, IsCanonicalBag, IsDone, IsMissing}

-- The bag is listed, its pairs stand for values of the slot, and it has each of these attributes that the slot has.
pub record IsCollected (N : List (net.Assertion ℕ ℕ)) (slot : ℕ) (attrs : List Sym) (bag : List (Sym × Term)) : Type 0 where
  pub listed : IsListed bag
  pub only : (attr : Sym) (value : Term) → IsAmong bag (attr, value) → (x : net.Term ℕ) × HasValue N slot attr.0 x × StandsFor N x value
  pub all : (attr : Sym) → IsAmong attrs attr → IsDone N slot attr bag

-- two values of one attribute at one slot are linked
pub values_linked : (N : List (net.Assertion ℕ ℕ)) (s a : ℕ) (x y : net.Term ℕ) → HasValue N s a x → HasValue N s a y → AreLinked N x y
values_linked N s a x y h k = shared h.0 k.0 a x y (next_slot h.0 s k.0 (back_slot s h.0 h.1) k.1) h.2 k.2

-- linked values have one that stands for them
pub stands_one : (N : List (net.Assertion ℕ ℕ)) (x y : net.Term ℕ) (v w : Term) → Agrees N → AreLinked N x y → StandsFor N x v → StandsFor N y w → v ≡ w
stands_one N x y (Const p) (Const q) agrees l h k =
    let e : p.0 ≡ q.0 = agrees p.0 q.0 (next (name p.0) x (name q.0) (back x (name p.0) h) (next x y (name q.0) l k)) in
    λ i. Const (record { 0 = e i })
stands_one N x y (Const p) (Var j) agrees l h k = absurd (k.0 p.0 (next y x (name p.0) (back x y l) h))
stands_one N x y (Var i) (Const q) agrees l h k = absurd (h.0 q.0 (next x y (name q.0) l k))
stands_one N x y (Var i) (Var j) agrees l h k =
    let e : i ≡ j = omega (arith, h.1.1 j (next x y (variable j) l k.1.0), k.1.1 i (next y x (variable i) (back x y l) h.1.0)) in
    ap Var e

-- the least of a class stands for it
pub least_stands : (N : List (net.Assertion ℕ ℕ)) (x : net.Term ℕ) (value : Term) → AreLinked N x (term_of value) → ((u : Term) → AreLinked N x (term_of u) → rank value ≤ rank u) → StandsFor N x value
least_stands N x (Const p) l least = l
least_stands N x (Var v) l least = (
  λ a h. let low : v + 1 ≤ 0 = least (Const (record { 0 = a })) h in omega arith,
  (l, λ w h. let low : v + 1 ≤ w + 1 = least (Var w) h in omega arith),
)

-- an entry of the network has its attribute among the attributes of the entries
pub entry_attribute : (list : List Assertion) (s a : ℕ) (x : net.Term ℕ) → IsAmong (network_of list) (net.entry s a x) → IsAmong (entry_attributes list) (record { 0 = a })
entry_attribute [] s a x i = i
entry_attribute (Entry t b y ∷ list) s a x (inl e) =
    let same_attr : a ≡ b.0 = cc in
    inl (λ k. record { 0 = same_attr k })
entry_attribute (Entry t b y ∷ list) s a x (inr i) = inr (entry_attribute list s a x i)
entry_attribute (Equate y z ∷ list) s a x (inl e) = absurd cc
entry_attribute (Equate y z ∷ list) s a x (inr i) = entry_attribute list s a x i
entry_attribute (Link t u ∷ list) s a x (inl e) = absurd cc
entry_attribute (Link t u ∷ list) s a x (inr i) = entry_attribute list s a x i

-- nothing collected yet
pub IsCollected-none : (N : List (net.Assertion ℕ ℕ)) (slot : ℕ) → IsCollected N slot [] []
IsCollected-none N slot = record { listed = tt; only = λ attr value i. absurd i; all = λ attr i. absurd i }

-- one attribute more, of which the bag has what the slot has
pub IsCollected-done : (N : List (net.Assertion ℕ ℕ)) (slot : ℕ) (attrs : List Sym) (attr : Sym) (bag : List (Sym × Term))
    → IsCollected N slot attrs bag → IsDone N slot attr bag → IsCollected N slot (attrs ++ attr ∷ []) bag
IsCollected-done N slot attrs attr bag so_far done = record {
  listed = so_far.listed;
  only = so_far.only;
  all = λ b i. elim (IsAmong-one_more attrs attr b i) [
    | inl j ↦ so_far.all b j
    | inr e ↦ subst (λ a. IsDone N slot a bag) (sym e) done
  ];
}

-- one attribute more, which is put in
pub IsCollected-missing : (N : List (net.Assertion ℕ ℕ)) (slot : ℕ) (attrs : List Sym) (attr : Sym) (old new : List (Sym × Term)) (value : Term)
    → IsCollected N slot attrs old → IsMissing N slot attr old value → Puts old new (attr, value) → IsListed new → IsCollected N slot (attrs ++ attr ∷ []) new
IsCollected-missing N slot attrs attr old new value so_far missing puts listed =
    let grown : (b : Sym) → IsDone N slot b old → IsDone N slot b new =
    λ b done x has. let found = done x has in (found.0, IsAmong-puts_old old new (attr, value) puts (b, found.0) found.1) in
    let put : IsDone N slot attr new = λ x has. (value, IsAmong-puts_new old new (attr, value) puts) in
    record {
      listed = listed;
      only = λ b v i. elim (IsAmong-puts old new (attr, value) puts (b, v) i) [
        | inl e ↦ (missing.of, subst (λ p. HasValue N slot p.0.0 missing.of) (sym e) missing.has, subst (λ p. StandsFor N missing.of p.1) (sym e) missing.stands)
        | inr j ↦ so_far.only b v j
      ];
      all = λ b i. elim (IsAmong-one_more attrs attr b i) [
        | inl j ↦ grown b (so_far.all b j)
        | inr e ↦ subst (λ a. IsDone N slot a new) (sym e) put
      ];
    }

-- all attributes collected
pub IsCollected-all : (list : List Assertion) (slot : ℕ) (bag : List (Sym × Term)) → Agrees (network_of list)
    → IsCollected (network_of list) slot (entry_attributes list) bag → IsCanonicalBag (network_of list) slot bag
IsCollected-all list slot bag agrees collected = record {
  listed = collected.listed;
  pairs = λ attr value. (collected.only attr value, λ found. has attr value found.0 found.1 found.2);
}
  where
    has : (attr : Sym) (value : Term) (x : net.Term ℕ) → HasValue (network_of list) slot attr.0 x → StandsFor (network_of list) x value → IsAmong bag (attr, value)
    has attr value x h stands =
        let there = collected.all attr (entry_attribute list h.0 attr.0 x h.2) x h in
        let from = collected.only attr there.0 there.1 in
        let same_value : there.0 ≡ value =
        stands_one (network_of list) from.0 x there.0 value agrees (values_linked (network_of list) slot attr.0 from.0 x from.1 h) from.2 stands in
        subst (λ v. IsAmong bag (attr, v)) same_value there.1

-- two canonical bags of one slot are equal
pub one_canonical_bag : (N : List (net.Assertion ℕ ℕ)) (slot : ℕ) (bag other : List (Sym × Term)) → IsCanonicalBag N slot bag → IsCanonicalBag N slot other → bag ≡ other
one_canonical_bag N slot bag other h k =
    IsListed-unique bag other h.listed k.listed
    (λ p i. (k.pairs p.0 p.1).1 ((h.pairs p.0 p.1).0 i))
    (λ p i. (h.pairs p.0 p.1).1 ((k.pairs p.0 p.1).0 i))

-- a pair of an attribute that the bag lacks is put in
pub was_added : {P : Type 0} (added : Bool) (bag : List (Sym × Term)) (attr : Sym) → LacksAttribute bag attr → OnTrue added P → OnFalse added (HasAttribute bag attr) → P
was_added true bag attr lacks put there = put
was_added false bag attr lacks put there = absurd (lacks there.0 there.1)
