-- Bags, nodes and literals that are written one by one.
use Rattle.std.specs.Prelude.{◌≡◌, ℕ, zero, suc, ◌+◌, ◌<◌, ◌≤◌, List, [], ◌∷◌, ◌++◌, map, length, take, Some, slice_get, ◌⊎◌, ◌↔◌, Bool, true, false, refl}
use Rattle.std.specs.Bool.{OnTrue, OnFalse}
use Rattle.std.specs.List.{AllZip}
use Rattle.std.proofs.Common.{inl, inr, ap, ap₂, append_assoc, subst, sym, ◌∙◌, arith}
use Rattle.std.proofs.lemmas.Bool.Decides.{eqb_tells}
use Rattle.std.proofs.lemmas.List.{append-nil, length_push, take_all, map-append}
use Rattle.std.proofs.lemmas.Option.{none-some}
use Rattle.gr_base.specs.Lists.{IsAmong, Each, IsRising}
use Rattle.gr_base.proofs.ListLemmas.{Each-at, IsAmong-map, IsAmong-one_more, IsAmong-new_one, IsWithin-one_more, IsAmong-slice_get, take-one_more, slice_get-mapped, slice_get-push_cases}
use Rattle.gr_base.proofs.Zips.{AllZip-append}
use Rattle.gr_terms.specs.Bags.{HasAttribute, IsListed, LacksAttribute, Puts}
use Rattle.gr_terms.specs.LiteralViews.{literal_of, literals_of}
use Rattle.gr_terms.specs.Networks as net
use Rattle.gr_terms.specs.Networks.{Agrees, same}
use Rattle.gr_terms.specs.Views.{term_of}
use Rattle.gr_terms.specs.declared.Literal.{Literal}
use Rattle.gr_terms.specs.declared.Sym.{Sym}
use Rattle.gr_terms.specs.declared.Term.{Term}
use Rattle.gr_terms.specs.declared.Term.TheVariants.{Const, Var}
use Rattle.gr_terms.proofs.BagLemmas.{IsAmong-puts, IsAmong-puts_new, IsAmong-puts_old}
use Rattle.gr_feats.specs.CanonicalBags.{StandsFor}
use Rattle.gr_feats.specs.Loading.{counted_from}
use Rattle.gr_feats.proofs.CanonicalLemmas.{stands_one}
use Rattle.td_tree.specs.Trees.{BagPairs}
use Rattle.td_tree.specs.declared.TreeNode.{TreeNode}
use Rattle.td_model.specs.CanonicalTrees.{StandsForLiteral}
use Rattle.td_model.proofs.ReadingLemmas.{zip_push}
use Rattle.lx_anchor.specs.Sharing.{counted_pairs}
use Rattle.lx_anchor.specs.Writings.{AreJoined, AreJointNodes, HasMore, IsJoint, IsJointNode, Writes, counted_literal, counted_literals, added_at}

-- ---- counted from nothing, and counted lists

pub counted-none : (x : Term) → counted_from 0 x ≡ x
counted-none (Const p) = refl
counted-none (Var v) = ap Var (omega arith)

pub pairs-none : (bag : BagPairs) → counted_pairs 0 bag ≡ bag
pairs-none [] = refl
pairs-none (p ∷ ps) = let e = counted-none p.1 in let f = pairs-none ps in λ i. (p.0, e i) ∷ f i

args-none : (xs : List Term) → map (counted_from 0) xs ≡ xs
args-none [] = refl
args-none (x ∷ xs) = ap₂ (λ y ys. y ∷ ys) (counted-none x) (args-none xs)

pub literals-none : (ls : List Literal) → counted_literals 0 ls ≡ ls
literals-none [] = refl
literals-none (l ∷ ls) =
    let a = counted-none l.handle in
    let b = counted-none l.pred in
    let c = args-none l.args in
    let d = literals-none ls in
    λ i. record { handle = a i; pred = b i; args = c i } ∷ d i

pub mapped-at : {A B : Type 0} (f : A → B) (P : B → Type 0) (xs : List A) (i : ℕ) (x : A) → Each P (map f xs) → slice_get xs i ≡ Some x → P (f x)
mapped-at f P xs i x each at = Each-at P (map f xs) (f x) each (IsAmong-slice_get (map f xs) i (f x) (slice_get-mapped f xs i x at))

attributes-counted : (first : ℕ) (bag : BagPairs) → map (λ p. p.0.0) bag ≡ map (λ p. p.0.0) (counted_pairs first bag)
attributes-counted first [] = refl
attributes-counted first (p ∷ ps) = ap (λ ks. p.0.0 ∷ ks) (attributes-counted first ps)

pub listed-counted : (first : ℕ) (bag : BagPairs) → IsListed bag → IsListed (counted_pairs first bag)
listed-counted first bag h = subst IsRising (attributes-counted first bag) h

-- the attribute of a pair doesn't stand before it
attribute-once : (bag : BagPairs) (i : ℕ) (attr : Sym) (x y : Term) → IsListed bag → slice_get bag i ≡ Some (attr, x) → IsAmong (take i bag) (attr, y) → ⊥
attribute-once [] i attr x y listed at j = none-some (attr, x) at
attribute-once (p ∷ ps) zero attr x y listed at j = j
attribute-once (p ∷ ps) (suc i) attr x y listed at (inl e) =
    let above : p.0.0 < attr.0 = Each-at (λ k. p.0.0 < k) (map (λ q. q.0.0) ps) attr.0 listed.0 (IsAmong-map (λ (q : Sym × Term). q.0.0) ps (attr, x) (IsAmong-slice_get ps i (attr, x) at)) in
    let number : attr.0 ≡ p.0.0 = ap (λ (q : Sym × Term). q.0.0) e in
    absurd (omega arith)
attribute-once (p ∷ ps) (suc i) attr x y listed at (inr j) = attribute-once ps i attr x y listed.1 at j

pub has-or-lacks : (bag : BagPairs) (attr : Sym) → HasAttribute bag attr ⊎ LacksAttribute bag attr
has-or-lacks [] attr = inr (λ v i. i)
has-or-lacks (p ∷ ps) attr = elim (eqb_tells attr.0 p.0.0) [
  | inl h ↦ inl (p.1, inl (λ i. (record { 0 = h.1 i }, p.1)))
  | inr h ↦ elim (has-or-lacks ps attr) [
    | inl k ↦ inl (k.0, inr k.1)
    | inr k ↦ inr (λ v i. elim i [ inl e ↦ h.1 (ap (λ (q : Sym × Term). q.0.0) e) | inr j ↦ k v j ])
  ]
]

module _ (N : List (net.Assertion ℕ ℕ)) where
  -- ---- pairs that are put in

  -- the bag has the first pairs, where it lacked the attribute
  pub record IsPut (put old now : BagPairs) : Type 0 where
    pub listed : IsListed now
    pub pairs : (attr : Sym) (v : Term) → IsAmong now (attr, v) ↔ (IsAmong old (attr, v) ⊎ (LacksAttribute old attr × Writes N put attr v))

  pub put-none : (old : BagPairs) → IsListed old → IsPut [] old old
  put-none old listed = record { listed = listed; pairs = λ attr v. (λ i. inl i, λ h. elim h [ inl i ↦ i | inr w ↦ absurd w.1.1 ]) }

  writes-more : (put : BagPairs) (p : Sym × Term) (attr : Sym) (v : Term) → Writes N put attr v → Writes N (put ++ p ∷ []) attr v
  writes-more put p attr v w = (w.0, IsWithin-one_more put p (attr, w.0) w.1, w.2)

  module _ (agrees : Agrees N) (bag old now new : BagPairs) (place : ℕ) (attr : Sym) (x v : Term) (listed : IsListed bag) (at : slice_get bag place ≡ Some (attr, x)) (stands : StandsFor N (term_of x) v) (so_far : IsPut (take place bag) old now) where
    abbrev taken : BagPairs
    taken = take place bag

    lacked : (other : Sym) → LacksAttribute now other → LacksAttribute old other
    lacked other lacks w i = lacks w ((so_far.pairs other w).1 (inl i))

    -- the pair is put in
    put-in : LacksAttribute now attr → Puts now new (attr, v) → IsListed new → IsPut (taken ++ (attr, x) ∷ []) old new
    put-in lacks puts new_listed = record {
      listed = new_listed;
      pairs = λ other w. (
        λ i. elim (IsAmong-puts now new (attr, v) puts (other, w) i) [
          | inl e ↦
              let is : attr ≡ other = ap (λ (q : Sym × Term). q.0) (sym e) in
              let value : v ≡ w = ap (λ (q : Sym × Term). q.1) (sym e) in
              subst (λ a. IsAmong old (a, w) ⊎ (LacksAttribute old a × Writes N (taken ++ (attr, x) ∷ []) a w)) is
              (subst (λ k. IsAmong old (attr, k) ⊎ (LacksAttribute old attr × Writes N (taken ++ (attr, x) ∷ []) attr k)) value
              (inr (lacked attr lacks, (x, IsAmong-new_one taken (attr, x), stands))))
          | inr j ↦ elim ((so_far.pairs other w).0 j) [
            | inl k ↦ inl k
            | inr k ↦ inr (k.0, writes-more taken (attr, x) other w k.1)
          ]
        ],
        λ h. elim h [
          | inl i ↦ IsAmong-puts_old now new (attr, v) puts (other, w) ((so_far.pairs other w).1 (inl i))
          | inr (none, (y, i, s)) ↦ elim (IsAmong-one_more taken (attr, x) (other, y) i) [
            | inl j ↦ IsAmong-puts_old now new (attr, v) puts (other, w) ((so_far.pairs other w).1 (inr (none, (y, j, s))))
            | inr e ↦
                let is : attr ≡ other = ap (λ (q : Sym × Term). q.0) (sym e) in
                let value : y ≡ x = ap (λ (q : Sym × Term). q.1) e in
                let one : v ≡ w = stands_one N (term_of x) (term_of x) v w agrees (same (term_of x)) stands (subst (λ k. StandsFor N (term_of k) w) value s) in
                subst (λ a. IsAmong new (a, w)) is (subst (λ k. IsAmong new (attr, k)) one (IsAmong-puts_new now new (attr, v) puts))
          ]
        ],
      );
    }

    -- the attribute is there, so nothing changes
    put-not : HasAttribute now attr → new ≡ now → IsPut (taken ++ (attr, x) ∷ []) old new
    put-not has is = subst (λ b. IsPut (taken ++ (attr, x) ∷ []) old b) (sym is) (record {
      listed = so_far.listed;
      pairs = λ other w. (
        λ i. elim ((so_far.pairs other w).0 i) [
          | inl k ↦ inl k
          | inr k ↦ inr (k.0, writes-more taken (attr, x) other w k.1)
        ],
        λ h. elim h [
          | inl i ↦ (so_far.pairs other w).1 (inl i)
          | inr (none, (y, i, s)) ↦ elim (IsAmong-one_more taken (attr, x) (other, y) i) [
            | inl j ↦ (so_far.pairs other w).1 (inr (none, (y, j, s)))
            | inr e ↦
                let is-attr : attr ≡ other = ap (λ (q : Sym × Term). q.0) (sym e) in
                absurd (elim ((so_far.pairs attr has.0).0 has.1) [
                  | inl k ↦ none has.0 (subst (λ a. IsAmong old (a, has.0)) is-attr k)
                  | inr k ↦ attribute-once bag place attr x k.1.0 listed at k.1.1
                ])
          ]
        ],
      );
    })

    pub put-more : (added : Bool) → OnTrue added (LacksAttribute now attr) → OnTrue added (Puts now new (attr, v)) → OnFalse added (HasAttribute now attr) → OnFalse added (new ≡ now) → IsListed new → IsPut (take (place + 1) bag) old new
    put-more true absent puts there same_bag new_listed = subst (λ ps. IsPut ps old new) (sym (take-one_more bag place (attr, x) at)) (put-in absent puts new_listed)
    put-more false absent puts there same_bag new_listed = subst (λ ps. IsPut ps old new) (sym (take-one_more bag place (attr, x) at)) (put-not there same_bag)

  pub put-all : (bag old now : BagPairs) (place : ℕ) → length bag ≤ place → IsListed bag → IsPut (take place bag) old now → HasMore N bag old now
  put-all bag old now place le listed h =
      let all = subst (λ ps. IsPut ps old now) (take_all place bag le) h in
      record { put_listed = listed; listed = all.listed; pairs = all.pairs }

  -- ---- the bag of two bags

  pub joined : Agrees N → (bag added mid joint : BagPairs) → AreJoined N bag added → HasMore N bag [] mid → HasMore N added mid joint → IsJoint N bag added joint
  joined agrees bag added mid joint linked first second = record {
    bag_listed = first.put_listed;
    added_listed = second.put_listed;
    listed = second.listed;
    pairs = λ attr v. (
      λ i. elim ((second.pairs attr v).0 i) [
        | inl j ↦ elim ((first.pairs attr v).0 j) [ inl k ↦ absurd k | inr k ↦ inl k.1 ]
        | inr j ↦ inr j.1
      ],
      λ h. elim h [
        | inl w ↦ (second.pairs attr v).1 (inl ((first.pairs attr v).1 (inr (λ u i. i, w))))
        | inr w ↦ elim (has-or-lacks mid attr) [
          | inl has ↦
              elim ((first.pairs attr has.0).0 has.1) [
                | inl k ↦ absurd k
                | inr k ↦
                    let one : has.0 ≡ v = stands_one N (term_of k.1.0) (term_of w.0) has.0 v agrees (linked attr k.1.0 w.0 k.1.1 w.1) k.1.2 w.2 in
                    (second.pairs attr v).1 (inl (subst (λ u. IsAmong mid (attr, u)) one has.1))
              ]
          | inr lacks ↦ (second.pairs attr v).1 (inr (lacks, w))
        ]
      ],
    );
  }

  -- ---- nodes

  pub nodes-none : (old : List TreeNode) (anchor : ℕ) (added : BagPairs) → AreJointNodes N old anchor added 0 []
  nodes-none old anchor added = record { as_many = refl; each = λ n x y at there. absurd (none-some y there) }

  pub nodes-push : (old : List TreeNode) (anchor : ℕ) (added : BagPairs) (count : ℕ) (now new : List TreeNode) (y : TreeNode) → AreJointNodes N old anchor added count now
      → ((x : TreeNode) → slice_get old count ≡ Some x → IsJointNode N x (added_at anchor count added) y) → new ≡ now ++ y ∷ [] → AreJointNodes N old anchor added (count + 1) new
  nodes-push old anchor added count now new y so_far here is = subst (λ ns. AreJointNodes N old anchor added (count + 1) ns) (sym is) (record {
    as_many = length_push now y ∙ ap (λ k. k + 1) so_far.as_many;
    each = λ n x z at there. elim (slice_get-push_cases now y n z there) [
      | inl k ↦ so_far.each n x z at k
      | inr k ↦
          let number : count ≡ n = sym so_far.as_many ∙ sym k.0 in
          subst (λ w. IsJointNode N x (added_at anchor n added) w) (sym k.1) (subst (λ m. IsJointNode N x (added_at anchor m added) y) number (here x (subst (λ m. slice_get old m ≡ Some x) (sym number) at)))
    ];
  })

-- ---- lists of what stands for terms

pub map-both : {A B C : Type 0} (f : A → B) (g : B → C) (xs : List A) → map g (map f xs) ≡ map (λ x. g (f x)) xs
map-both f g [] = refl
map-both f g (x ∷ xs) = ap (λ ys. g (f x) ∷ ys) (map-both f g xs)

pub counted-length : (first : ℕ) (bag : BagPairs) → length (counted_pairs first bag) ≡ length bag
counted-length first [] = refl
counted-length first (p ∷ ps) = ap suc (counted-length first ps)

-- the literals appended one by one
pub record HasAppended (N : List (net.Assertion ℕ ℕ)) (first : ℕ) (literals : List Literal) (old now : List Literal) : Type 0 where
  pub more : List Literal
  pub are : now ≡ old ++ more
  pub stand : AllZip (StandsForLiteral N) (map (λ x. literal_of (counted_literal first x)) literals) more

pub appended-none : (N : List (net.Assertion ℕ ℕ)) (first : ℕ) (old : List Literal) → HasAppended N first [] old old
appended-none N first old = record { more = []; are = sym (append-nil old); stand = tt }

pub appended-more : (N : List (net.Assertion ℕ ℕ)) (first : ℕ) (literals old now new : List Literal) (place : ℕ) (x y : Literal) → slice_get literals place ≡ Some x → HasAppended N first (take place literals) old now
    → StandsForLiteral N (literal_of (counted_literal first x)) y → new ≡ now ++ y ∷ [] → HasAppended N first (take (place + 1) literals) old new
appended-more N first literals old now new place x y at h here is = record {
  more = h.more ++ y ∷ [];
  are = is ∙ ap (λ ls. ls ++ y ∷ []) h.are ∙ append_assoc old h.more (y ∷ []);
  stand = zip_push (StandsForLiteral N) (λ z. literal_of (counted_literal first z)) literals place x h.more (h.more ++ y ∷ []) y at h.stand here refl;
}

pub appended-all : (N : List (net.Assertion ℕ ℕ)) (first : ℕ) (literals old now : List Literal) (place : ℕ) → length literals ≤ place → HasAppended N first (take place literals) old now
    → (more : List Literal) × (now ≡ old ++ more) × AllZip (StandsForLiteral N) (literals_of (counted_literals first literals)) more
appended-all N first literals old now place le h =
    let all = subst (λ ls. HasAppended N first ls old now) (take_all place literals le) h in
    (all.more, all.are, subst (λ ls. AllZip (StandsForLiteral N) ls all.more) (sym (map-both (counted_literal first) literal_of literals)) all.stand)

pub literals-joined : (N : List (net.Assertion ℕ ℕ)) (first : ℕ) (tree entry none mid new : List Literal) → none ≡ []
    → ((more : List Literal) × (mid ≡ none ++ more) × AllZip (StandsForLiteral N) (literals_of (counted_literals 0 tree)) more)
    → ((more : List Literal) × (new ≡ mid ++ more) × AllZip (StandsForLiteral N) (literals_of (counted_literals first entry)) more)
    → AllZip (StandsForLiteral N) (literals_of (tree ++ counted_literals first entry)) new
literals-joined N first tree entry none mid new empty one two =
    let front : mid ≡ one.0 = one.1 ∙ ap (λ ls. ls ++ one.0) empty in
    let are : new ≡ one.0 ++ two.0 = two.1 ∙ ap (λ ls. ls ++ two.0) front in
    let left : AllZip (StandsForLiteral N) (literals_of tree) one.0 = subst (λ ls. AllZip (StandsForLiteral N) (literals_of ls) one.0) (literals-none tree) one.2 in
    subst (λ ls. AllZip (StandsForLiteral N) (literals_of (tree ++ counted_literals first entry)) ls) (sym are)
    (subst (λ ls. AllZip (StandsForLiteral N) ls (one.0 ++ two.0)) (sym (map-append literal_of tree (counted_literals first entry)))
    (AllZip-append (StandsForLiteral N) (literals_of tree) (literals_of (counted_literals first entry)) one.0 two.0 left two.2))
