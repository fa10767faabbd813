-- Equations that are put into a store one by one.
use Rattle.std.specs.Prelude.{◌≡◌, ℕ, ◌+◌, ◌^◌, ◌<◌, ◌≤◌, List, [], ◌∷◌, ◌++◌, length, take, Some, slice_get, ◌↔◌, Bool, true, false, IsTrue, refl}
use Rattle.std.specs.Bool.{OnTrue, OnFalse}
use Rattle.std.proofs.Common.{inl, inr, ap, append_assoc, subst, sym, ◌∙◌, arith}
use Rattle.std.proofs.lemmas.Bool.{false≢true}
use Rattle.std.proofs.lemmas.List.{append-nil, take_all}
use Rattle.std.proofs.lemmas.Option.{same_Some}
use Rattle.gr_base.specs.Lists.{IsAmong, IsWithin, Each}
use Rattle.gr_base.proofs.ListLemmas.{Each-append, Each-at, Each-map, Each-members, IsAmong-append, IsAmong-append_left, IsAmong-append_right, IsAmong-slice_get, take-one_more, slice_get-mapped, IsWithin-take}
use Rattle.gr_terms.specs.Bags.{IsListed, LacksAttribute}
use Rattle.gr_terms.specs.Networks.{Agrees}
use Rattle.gr_terms.specs.Views.{network_of}
use Rattle.gr_terms.specs.declared.Assertion.{Assertion}
use Rattle.gr_terms.specs.declared.Assertion.TheVariants.{Equate}
use Rattle.gr_terms.specs.declared.Sym.{Sym}
use Rattle.gr_terms.specs.declared.Term.{Term}
use Rattle.gr_terms.proofs.BagLemmas.{IsListed-value}
use Rattle.gr_store.specs.Contents.{Contents, Grows, IsMade, accepting}
use Rattle.gr_feats.specs.Loading.{counted_from}
use Rattle.gr_feats.proofs.LoadLemmas.{bag_counted}
use Rattle.td_tree.specs.Trees.{BagPairs}
use Rattle.td_tree.specs.declared.Tree.{Tree}
use Rattle.td_tree.specs.declared.TreeNode.{TreeNode}
use Rattle.lx_lexicon.specs.declared.entry.Entry.{Entry}
use Rattle.lx_anchor.specs.Counts.{IsBagBelow, IsNodeBelow}
use Rattle.lx_anchor.specs.Sharing.{AreEquations, HasClash, HasRoom, IsClashing, IsEquation, IsShared, IsSharing, counted_pairs}
use Rattle.lx_anchor.proofs.CountLemmas.{bag-grows, term-grows}
use Rattle.lx_anchor.proofs.WritingLemmas.{counted-length}

-- ---- more equations

wider : (bag xs ys : BagPairs) → IsWithin xs ys → (a : Assertion) → IsShared bag xs a → IsShared bag ys a
wider bag xs ys within a h = record { attr = h.attr; x = h.x; y = h.y; in_bag = h.in_bag; in_added = within (h.attr, h.y) h.in_added; is = h.is }

each-wider : (bag xs ys : BagPairs) → IsWithin xs ys → (es : List Assertion) → Each (IsShared bag xs) es → Each (IsShared bag ys) es
each-wider bag xs ys within es h = Each-members (IsShared bag ys) es (λ a i. wider bag xs ys within a (Each-at (IsShared bag xs) es a h i))

pub clash-wider : (bag xs ys : BagPairs) → IsWithin xs ys → (old : Contents) → IsClashing bag xs old → IsClashing bag ys old
clash-wider bag xs ys within old h = record { equations = h.equations; only = each-wider bag xs ys within h.equations h.only; clash = h.clash }

pub sharing-none : (bag : BagPairs) (old : Contents) → IsSharing bag [] 0 old old
sharing-none bag old = record { equations = []; accepted = sym (append-nil old.accepted); only = tt; all = λ attr x y i j. absurd j; few = omega arith }

pub sharing-then : (bag xs ys : BagPairs) (m n : ℕ) (old mid new : Contents) → IsSharing bag xs m old mid → IsSharing bag ys n mid new → IsSharing bag (xs ++ ys) (m + n) old new
sharing-then bag xs ys m n old mid new h k = record {
  equations = h.equations ++ k.equations;
  accepted = k.accepted ∙ ap (λ es. es ++ k.equations) h.accepted ∙ append_assoc old.accepted h.equations k.equations;
  only = Each-append (IsShared bag (xs ++ ys)) h.equations k.equations
      (each-wider bag xs (xs ++ ys) (λ p i. IsAmong-append_left xs ys p i) h.equations h.only) (each-wider bag ys (xs ++ ys) (λ p i. IsAmong-append_right xs ys p i) k.equations k.only);
  all = λ attr x y i j. elim (IsAmong-append xs ys (attr, y) j) [
    | inl l ↦ IsAmong-append_left h.equations k.equations (Equate x y) (h.all attr x y i l)
    | inr l ↦ IsAmong-append_right h.equations k.equations (Equate x y) (k.all attr x y i l)
  ];
  few = let a = h.few in let b = k.few in omega arith;
}

pub clash-then : (bag xs ys : BagPairs) (m : ℕ) (old mid : Contents) → IsSharing bag xs m old mid → IsClashing bag ys mid → IsClashing bag (xs ++ ys) old
clash-then bag xs ys m old mid h k = record {
  equations = h.equations ++ k.equations;
  only = Each-append (IsShared bag (xs ++ ys)) h.equations k.equations
      (each-wider bag xs (xs ++ ys) (λ p i. IsAmong-append_left xs ys p i) h.equations h.only) (each-wider bag ys (xs ++ ys) (λ p i. IsAmong-append_right xs ys p i) k.equations k.only);
  clash = λ agrees. k.clash (subst (λ es. Agrees (network_of es)) (sym (append_assoc old.accepted h.equations k.equations) ∙ ap (λ es. es ++ k.equations) (sym h.accepted)) agrees);
}

-- ---- one value

one-shared : (bag : BagPairs) (attr : Sym) (x y : Term) → IsAmong bag (attr, x) → Each (IsShared bag ((attr, y) ∷ [])) (Equate x y ∷ [])
one-shared bag attr x y i = (record { attr = attr; x = x; y = y; in_bag = i; in_added = inl refl; is = refl }, tt)

pub value-shared : (bag : BagPairs) (attr : Sym) (x y : Term) (old new : Contents) → IsListed bag → IsAmong bag (attr, x) → 0 < old.spare.assertions → new ≡ accepting old (Equate x y) → IsSharing bag ((attr, y) ∷ []) 1 old new
value-shared bag attr x y old new listed i room is = record {
  equations = Equate x y ∷ [];
  accepted = ap (λ (c : Contents). c.accepted) is;
  only = one-shared bag attr x y i;
  all = λ other u v j k. elim k [
    | inl e ↦
        let same-attr : attr ≡ other = ap (λ (q : Sym × Term). q.0) (sym e) in
        let value : v ≡ y = ap (λ (q : Sym × Term). q.1) e in
        let one : u ≡ x = IsListed-value bag attr u x listed (subst (λ a. IsAmong bag (a, u)) (sym same-attr) j) i in
        inl (λ n. Equate (one n) (value n))
    | inr l ↦ absurd l
  ];
  few = subst (λ (c : Contents). old.spare.assertions ≤ c.spare.assertions + 1) (sym is) (omega arith);
}

pub value-clashes : (bag : BagPairs) (attr : Sym) (x y : Term) (old : Contents) → IsAmong bag (attr, x) → (Agrees (network_of (old.accepted ++ Equate x y ∷ [])) → ⊥) → IsClashing bag ((attr, y) ∷ []) old
value-clashes bag attr x y old i clash = record { equations = Equate x y ∷ []; only = one-shared bag attr x y i; clash = clash }

pub value-absent : (bag : BagPairs) (attr : Sym) (y : Term) (old : Contents) → LacksAttribute bag attr → IsSharing bag ((attr, y) ∷ []) 1 old old
value-absent bag attr y old lacks = record {
  equations = [];
  accepted = sym (append-nil old.accepted);
  only = tt;
  all = λ other u v j k. elim k [
    | inl e ↦ absurd (lacks u (subst (λ a. IsAmong bag (a, u)) (ap (λ (q : Sym × Term). q.0) e) j))
    | inr l ↦ absurd l
  ];
  few = omega arith;
}

-- ---- the pairs of a bag

module _ (bag added : BagPairs) (first : ℕ) (old : Contents) where
  abbrev counted : Sym × Term → Sym × Term
  counted p = (p.0, counted_from first p.1)

  -- the first pairs are shared
  pub record HasCome (place : ℕ) (now : Contents) : Type 0 where
    pub sharing : IsSharing bag (take place (counted_pairs first added)) place old now
    pub grows : Grows old now

  pub come-more : (place : ℕ) (now new : Contents) (p : Sym × Term) → slice_get added place ≡ Some p → HasCome place now → IsSharing bag (counted p ∷ []) 1 now new → Grows old new → HasCome (place + 1) new
  come-more place now new p at h k grows = record {
    sharing =
        subst (λ ps. IsSharing bag ps (place + 1) old new) (sym (take-one_more (counted_pairs first added) place (counted p) (slice_get-mapped counted added place p at)))
        (sharing-then bag (take place (counted_pairs first added)) (counted p ∷ []) place 1 old now new h.sharing k);
    grows = grows;
  }

  pub come-clash : (place : ℕ) (now : Contents) (p : Sym × Term) → slice_get added place ≡ Some p → HasCome place now → IsClashing bag (counted p ∷ []) now → IsClashing bag (counted_pairs first added) old
  come-clash place now p at h k =
      clash-wider bag (take place (counted_pairs first added) ++ counted p ∷ []) (counted_pairs first added)
      (λ q i. elim (IsAmong-append (take place (counted_pairs first added)) (counted p ∷ []) q i) [
        | inl j ↦ IsWithin-take place (counted_pairs first added) q j
        | inr j ↦ elim j [
          | inl e ↦ subst (λ r. IsAmong (counted_pairs first added) r) (sym e) (IsAmong-slice_get (counted_pairs first added) place (counted p) (slice_get-mapped counted added place p at))
          | inr l ↦ absurd l
        ]
      ]) old (clash-then bag (take place (counted_pairs first added)) (counted p ∷ []) place old now h.sharing k)

  pub come-all : (place count : ℕ) (now : Contents) → length added ≤ place → place ≤ count → HasCome place now → IsSharing bag (counted_pairs first added) count old now
  come-all place count now le up h =
      let all = subst (λ ps. IsSharing bag ps place old now) (take_all place (counted_pairs first added) (omega (arith, counted-length first added, le))) h.sharing in
      record { equations = all.equations; accepted = all.accepted; only = all.only; all = all.all; few = let f = all.few in omega arith }

-- ---- the tree and the entry

below-counted : (count first vars : ℕ) (bag : BagPairs) → first + count ≤ vars → IsBagBelow count bag → IsBagBelow vars (counted_pairs first bag)
below-counted count first vars bag le h = Each-map (λ (p : Sym × Term). (p.0, counted_from first p.1)) (λ (p : Sym × Term). IsMade vars p.1) bag (bag_counted count first vars bag le h)

module _ (t : Tree) (e : Entry) (first anchor : ℕ) (old : Contents) (room : HasRoom t e first old) where
  pub iface-made : IsBagBelow old.vars t.iface
  iface-made = let le = room.serves.made in bag-grows first old.vars t.iface (omega arith) room.tree.iface

  pub iface-added : IsBagBelow old.vars (counted_pairs first e.iface)
  iface-added = below-counted room.serves.count first old.vars e.iface room.serves.made room.serves.entry.iface

  pub bottom-made : (mid : Contents) (x : TreeNode) → old.vars ≤ mid.vars → slice_get t.nodes anchor ≡ Some x → IsBagBelow mid.vars x.bot
  bottom-made mid x le at =
      let node = Each-at (IsNodeBelow first) t.nodes x room.tree.nodes (IsAmong-slice_get t.nodes anchor x at) in
      let more = room.serves.made in
      bag-grows first mid.vars x.bot (omega arith) node.bot

  pub anchor-added : (mid : Contents) → old.vars ≤ mid.vars → IsBagBelow mid.vars (counted_pairs first e.anchor)
  anchor-added mid le = let more = room.serves.made in below-counted room.serves.count first mid.vars e.anchor (omega arith) room.serves.entry.anchor

  interface-equation : (es : List Assertion) → Each (IsShared t.iface (counted_pairs first e.iface)) es → Each (IsEquation t e first anchor) es
  interface-equation es h = Each-members (IsEquation t e first anchor) es (λ a i. inl (Each-at (IsShared t.iface (counted_pairs first e.iface)) es a h i))

  bottom-equation : (x : TreeNode) → slice_get t.nodes anchor ≡ Some x → (es : List Assertion) → Each (IsShared x.bot (counted_pairs first e.anchor)) es → Each (IsEquation t e first anchor) es
  bottom-equation x at es h = Each-members (IsEquation t e first anchor) es (λ a i. inr (x, at, Each-at (IsShared x.bot (counted_pairs first e.anchor)) es a h i))

  pub interface-clash : IsClashing t.iface (counted_pairs first e.iface) old → HasClash t e first anchor
  interface-clash h = record { equations = h.equations; only = interface-equation h.equations h.only; clash = subst (λ es. Agrees (network_of (es ++ h.equations)) → ⊥) room.serves.none h.clash }

  module _ (x : TreeNode) (at : slice_get t.nodes anchor ≡ Some x) (count : ℕ) (mid : Contents) (one : IsSharing t.iface (counted_pairs first e.iface) count old mid) where
    accepted-first : mid.accepted ≡ one.equations
    accepted-first = one.accepted ∙ ap (λ es. es ++ one.equations) room.serves.none

    pub bottom-clash : IsClashing x.bot (counted_pairs first e.anchor) mid → HasClash t e first anchor
    bottom-clash h = record {
      equations = one.equations ++ h.equations;
      only = Each-append (IsEquation t e first anchor) one.equations h.equations (interface-equation one.equations one.only) (bottom-equation x at h.equations h.only);
      clash = subst (λ es. Agrees (network_of (es ++ h.equations)) → ⊥) accepted-first h.clash;
    }

    pub both-shared : (more : ℕ) (new : Contents) → IsSharing x.bot (counted_pairs first e.anchor) more mid new → AreEquations t e first anchor new.accepted
    both-shared more new two =
        let are : new.accepted ≡ one.equations ++ two.equations = two.accepted ∙ ap (λ es. es ++ two.equations) accepted-first in
        subst (λ es. AreEquations t e first anchor es) (sym are) (record {
          only = Each-append (IsEquation t e first anchor) one.equations two.equations (interface-equation one.equations one.only) (bottom-equation x at two.equations two.only);
          interface = λ attr u v i j. IsAmong-append_left one.equations two.equations (Equate u v) (one.all attr u v i j);
          bottom = λ y there attr u v i j.
              let same-node : y ≡ x = same_Some y x (sym there ∙ at) in
              IsAmong-append_right one.equations two.equations (Equate u v) (two.all attr u v (subst (λ n. IsAmong n.bot (attr, u)) same-node i) j);
        })

-- what is made in a store has a number that fits
pub made-fits : (old : Contents) (x : Term) → old.vars < 2 ^ 32 → IsMade old.vars x → IsMade 4294967295 x
made-fits old x fits h = term-grows old.vars 4294967295 x (omega arith) h

-- the first outcomes of one value
pub value-found : (bag : BagPairs) (attr : Sym) (x y : Term) (old new : Contents) (answer : Bool) → IsListed bag → IsAmong bag (attr, x) → 0 < old.spare.assertions
    → OnTrue answer (new ≡ accepting old (Equate x y)) → OnTrue answer (IsSharing bag ((attr, y) ∷ []) 1 old new)
value-found bag attr x y old new true listed i room is = value-shared bag attr x y old new listed i room is
value-found bag attr x y old new false listed i room is = tt

pub value-refused : (bag : BagPairs) (attr : Sym) (x y : Term) (old : Contents) (answer : Bool) → IsAmong bag (attr, x) → (IsTrue answer ↔ Agrees (network_of (old.accepted ++ Equate x y ∷ []))) → OnFalse answer (IsClashing bag ((attr, y) ∷ []) old)
value-refused bag attr x y old true i agrees = tt
value-refused bag attr x y old false i agrees = value-clashes bag attr x y old i (λ h. false≢true (agrees.1 h))

pub all-shared : (t : Tree) (e : Entry) (first anchor : ℕ) (old : Contents) (room : HasRoom t e first old) (x : TreeNode) → slice_get t.nodes anchor ≡ Some x → (mid new : Contents) (count more : ℕ) (answer : Bool)
    → IsSharing t.iface (counted_pairs first e.iface) count old mid → OnTrue answer (IsSharing x.bot (counted_pairs first e.anchor) more mid new) → OnTrue answer (AreEquations t e first anchor new.accepted)
all-shared t e first anchor old room x at mid new count more true one two = both-shared t e first anchor old room x at count mid one more new two
all-shared t e first anchor old room x at mid new count more false one two = tt

pub all-refused : (t : Tree) (e : Entry) (first anchor : ℕ) (old : Contents) (room : HasRoom t e first old) (x : TreeNode) → slice_get t.nodes anchor ≡ Some x → (mid : Contents) (count : ℕ) (answer : Bool)
    → IsSharing t.iface (counted_pairs first e.iface) count old mid → OnFalse answer (IsClashing x.bot (counted_pairs first e.anchor) mid) → OnFalse answer (HasClash t e first anchor)
all-refused t e first anchor old room x at mid count true one two = tt
all-refused t e first anchor old room x at mid count false one two = bottom-clash t e first anchor old room x at count mid one two
