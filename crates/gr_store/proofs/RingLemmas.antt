-- Rings after one more binding, and with the last one taken back.
use Rattle.std.proofs.Common.{◌≡◌, ◌≢◌, ℕ, suc, ◌+◌, ◌<◌, ◌≤◌, ◌⊎◌, inl, inr, List, [], ◌∷◌, ◌++◌, length, get_or, take, set, refl, sym, ◌∙◌, ap, subst, arith}
use Rattle.std.proofs.lemmas.Bool.{cases_eq, cases_lt}
use Rattle.std.proofs.lemmas.Bool.Decides.{nat_tests}
use Rattle.std.proofs.lemmas.List.{length-set, get_or-set_same, get_or-set_other, ext_get_or, take-append-le, take_all, length-append, map-id, get_or_append_left, get_or_at}
use Rattle.std.proofs.lemmas.List.Edits.{swap_is, length-swap}
use Rattle.std.proofs.lemmas.List.FromFn.{length-range_with_len, get_or-range_with_len, map-range_with_len_more}
use Rattle.std.specs.List.{range_with_len, swap}
use Rattle.gr_base.specs.Lists.{IsAmong, IsWithin, NoneTwice}
use Rattle.gr_base.proofs.ListLemmas.{IsAmong-append, IsAmong-append_left, IsAmong-append_right}
use Rattle.gr_base.proofs.Counting.{length-within}
use Rattle.gr_base.proofs.OrderedPairs.{IsAmong-Contains}
use Rattle.gr_terms.specs.declared.Term.{Term}
use Rattle.gr_terms.specs.declared.Term.TheVariants.{Var}
use Rattle.gr_store.specs.declared.bindings.Bound.{Bound}
use Rattle.gr_store.specs.Roots.{bound_by, root_by}
use Rattle.gr_store.specs.Rings.{node_of, turned, next_of, joined_rings, rings_by, ring_of, IsWalk, IsRing, HasRing, BindsNode, AreRings}
use Rattle.gr_store.proofs.Trails.{root_by-push, bound_by-same, bound_by-other, bound_cases}

turned-push : (trail : List Bound) (e : Bound) (next : List ℕ) → turned (trail ++ e ∷ []) next ≡ swap (turned trail next) e.var (node_of e.to)
turned-push [] e next = refl
turned-push (d ∷ trail) e next = turned-push trail e (swap next d.var (node_of d.to))

length-turned : (trail : List Bound) (next : List ℕ) → length (turned trail next) ≡ length next
length-turned [] next = refl
length-turned (e ∷ trail) next = length-turned trail (swap next e.var (node_of e.to)) ∙ length-swap next e.var (node_of e.to)

pub length-next_of : (nodes : ℕ × List Bound) → length (next_of nodes) ≡ nodes.0
length-next_of nodes = length-turned nodes.1 (range_with_len 0 nodes.0) ∙ length-range_with_len 0 nodes.0

rings_by-push : (trail : List Bound) (e : Bound) (rings : ℕ → List ℕ) (x : ℕ) → rings_by (trail ++ e ∷ []) rings x ≡ joined_rings e (rings_by trail rings) x
rings_by-push [] e rings x = refl
rings_by-push (d ∷ trail) e rings x = rings_by-push trail e (joined_rings d rings) x

joined_rings-same : (e : Bound) (rings : ℕ → List ℕ) (x : ℕ) → x ≡ node_of e.to → joined_rings e rings x ≡ rings e.var ++ e.var ∷ rings x
joined_rings-same e rings x same = grind (arith, nat_tests)

joined_rings-other : (e : Bound) (rings : ℕ → List ℕ) (x : ℕ) → x ≢ node_of e.to → joined_rings e rings x ≡ rings x
joined_rings-other e rings x other = grind (arith, nat_tests)

-- two elements are exchanged, and the others are as they were
record IsSwapped (xs ys : List ℕ) (i j : ℕ) : Type 0 where
  pub first : get_or ys i 0 ≡ get_or xs j 0
  pub second : get_or ys j 0 ≡ get_or xs i 0
  pub others : (k : ℕ) → k ≢ i → k ≢ j → get_or ys k 0 ≡ get_or xs k 0

swapped : (xs : List ℕ) (i j : ℕ) → i < length xs → j < length xs → j < i → IsSwapped xs (swap xs i j) i j
swapped xs i j i_in j_in lower =
    let once : List ℕ = set xs i (get_or xs j 0) in
    let is : set once j (get_or xs i 0) ≡ swap xs i j = swap_is xs i j 0 i_in j_in in
    let differ : i ≢ j = omega arith in
    let j_once : j < length once = omega (arith, length-set xs i (get_or xs j 0)) in
    rw (← is) (record {
      first = get_or-set_other once j i (get_or xs i 0) 0 differ ∙ get_or-set_same xs i (get_or xs j 0) 0 i_in;
      second = get_or-set_same once j (get_or xs i 0) 0 j_once;
      others = λ k not_i not_j. get_or-set_other once j k (get_or xs i 0) 0 not_j ∙ get_or-set_other xs i k (get_or xs j 0) 0 not_i;
    })

-- exchanging twice changes nothing
swap-swap : (xs : List ℕ) (i j : ℕ) → i < length xs → j < length xs → j < i → swap (swap xs i j) i j ≡ xs
swap-swap xs i j i_in j_in lower =
    let len : length (swap xs i j) ≡ length xs = length-swap xs i j in
    let one = swapped xs i j i_in j_in lower in
    let two = swapped (swap xs i j) i j (omega (arith, len)) (omega (arith, len)) lower in
    ext_get_or 0 (swap (swap xs i j) i j) xs (length-swap (swap xs i j) i j ∙ len) (λ k k_in.
    elim (cases_eq k i) [
      | inl same ↦ rw same (two.first ∙ one.second)
      | inr not_i ↦ elim (cases_eq k j) [
        | inl same ↦ rw same (two.second ∙ one.first)
        | inr not_j ↦ two.others k not_i not_j ∙ one.others k not_i not_j
      ]
    ])

-- a walk depends on where its start leads, and on the nodes on the way
IsWalk-moved : (next next' : List ℕ) (x x' : ℕ) (xs : List ℕ) (y : ℕ) → get_or next' x' 0 ≡ get_or next x 0
    → ((z : ℕ) → IsAmong xs z → get_or next' z 0 ≡ get_or next z 0) → IsWalk next x xs y → IsWalk next' x' xs y
IsWalk-moved next next' x x' [] y start way walk = start ∙ walk
IsWalk-moved next next' x x' (z ∷ zs) y start way walk =
    (start ∙ walk.0, IsWalk-moved next next' z z zs y (way z (inl refl)) (λ k i. way k (inr i)) walk.1)

IsWalk-append : (next : List ℕ) (x : ℕ) (xs : List ℕ) (v : ℕ) (ys : List ℕ) (y : ℕ) → IsWalk next x xs v → IsWalk next v ys y → IsWalk next x (xs ++ v ∷ ys) y
IsWalk-append next x [] v ys y one two = (one, two)
IsWalk-append next x (z ∷ zs) v ys y one two = (one.0, IsWalk-append next z zs v ys y one.1 two)

NoneTwice-append : (xs ys : List ℕ) → NoneTwice xs → NoneTwice ys → ((z : ℕ) → IsAmong xs z → IsAmong ys z → ⊥) → NoneTwice (xs ++ ys)
NoneTwice-append [] ys one two apart = two
NoneTwice-append (x ∷ xs) ys one two apart = (
  λ i. elim (IsAmong-append xs ys x i) [ inl j ↦ one.0 j | inr j ↦ apart x (inl refl) j ],
  NoneTwice-append xs ys one.1 two (λ z i j. apart z (inr i) j),
)

-- a term is one variable at most
one_variable : (t : Term) (a b : ℕ) → t ≡ Var a → t ≡ Var b → a ≡ b
one_variable t a b h k = let same : Var a ≡ Var b = sym h ∙ k in cc

module _ (n : ℕ) (trail : List Bound) (e : Bound) (binds : BindsNode n e) (v_root : root_by trail (Var e.var) ≡ Var e.var)
    (r_root : root_by trail (Var (node_of e.to)) ≡ Var (node_of e.to)) where
  joined_root : (x : ℕ) → root_by trail (Var x) ≡ Var e.var → root_by (trail ++ e ∷ []) (Var x) ≡ Var (node_of e.to)
  joined_root x was = root_by-push trail e (Var x) ∙ ap (bound_by e) was ∙ bound_by-same e ∙ binds.is_node

  kept_root : (x q : ℕ) → q ≢ e.var → root_by trail (Var x) ≡ Var q → root_by (trail ++ e ∷ []) (Var x) ≡ Var q
  kept_root x q other was = root_by-push trail e (Var x) ∙ ap (bound_by e) was ∙ bound_by-other e q other

  root_cases : (x q : ℕ) → root_by (trail ++ e ∷ []) (Var x) ≡ Var q → ((root_by trail (Var x) ≡ Var e.var) × (q ≡ node_of e.to)) ⊎ (root_by trail (Var x) ≡ Var q)
  root_cases x q is = elim (bound_cases e (root_by trail (Var x))) [
    | inl was ↦ inl (was, one_variable _ q (node_of e.to) is (joined_root x was))
    | inr stays ↦ inr (sym stays ∙ sym (root_by-push trail e (Var x)) ∙ is)
  ]

  differ : node_of e.to ≢ e.var
  differ same = omega (arith, binds.lower)

  -- a root after the binding was one before, and is not the bound node
  was_root : (q : ℕ) → root_by (trail ++ e ∷ []) (Var q) ≡ Var q → (root_by trail (Var q) ≡ Var q) × (q ≢ e.var)
  was_root q is = (
    elim (root_cases q q is) [
      | inl both ↦ absurd (differ (one_variable (root_by trail (Var q)) (node_of e.to) e.var (ap (λ (k : ℕ). root_by trail (Var k)) both.1 ∙ r_root) both.0))
      | inr was ↦ was
    ],
    λ same. differ (sym (one_variable _ e.var (node_of e.to) (subst (λ (k : ℕ). root_by (trail ++ e ∷ []) (Var k) ≡ Var k) same is) (joined_root e.var v_root))),
  )

-- the ring of the root that a node is bound to
module _ (n : ℕ) (trail : List Bound) (e : Bound) (next : List ℕ) (len : length next ≡ n) (binds : BindsNode n e) (v_root : root_by trail (Var e.var) ≡ Var e.var)
    (r_root : root_by trail (Var (node_of e.to)) ≡ Var (node_of e.to)) where
  exchange : IsSwapped next (swap next e.var (node_of e.to)) e.var (node_of e.to)
  exchange = swapped next e.var (node_of e.to) (omega (arith, len, binds.in_range)) (omega (arith, len, binds.in_range, binds.lower)) binds.lower

  -- nodes of a class are not the root of another
  apart : (x a b : ℕ) → root_by trail (Var x) ≡ Var a → root_by trail (Var b) ≡ Var b → a ≢ b → x ≢ b
  apart x a b of_a b_root other same =
      other (one_variable (root_by trail (Var b)) a b (subst (λ (k : ℕ). root_by trail (Var k) ≡ Var a) same of_a) b_root)

  module _ (one two : List ℕ) (of_v : IsRing (n, trail) next e.var one) (of_r : IsRing (n, trail) next (node_of e.to) two) where
    v≢r : e.var ≢ node_of e.to
    v≢r same = omega (arith, binds.lower)

    r≢v : node_of e.to ≢ e.var
    r≢v same = omega (arith, binds.lower)

    not_r : (z : ℕ) → IsAmong one z → z ≢ node_of e.to
    not_r z i = apart z e.var (node_of e.to) (of_v.only z i).1 r_root v≢r

    not_v : (z : ℕ) → IsAmong two z → z ≢ e.var
    not_v z i = apart z (node_of e.to) e.var (of_r.only z i).1 v_root r≢v

    joined_walk : IsWalk (swap next e.var (node_of e.to)) (node_of e.to) (one ++ e.var ∷ two) (node_of e.to)
    joined_walk = IsWalk-append (swap next e.var (node_of e.to)) (node_of e.to) one e.var two (node_of e.to)
        (IsWalk-moved next (swap next e.var (node_of e.to)) e.var (node_of e.to) one e.var exchange.second
        (λ z i. exchange.others z (λ same. of_v.once.0 (subst (IsAmong one) same i)) (not_r z i)) of_v.walk)
        (IsWalk-moved next (swap next e.var (node_of e.to)) (node_of e.to) e.var two (node_of e.to) exchange.first
        (λ z i. exchange.others z (not_v z i) (λ same. of_r.once.0 (subst (IsAmong two) same i))) of_r.walk)

    joined_once : NoneTwice (node_of e.to ∷ one ++ e.var ∷ two)
    joined_once = (
      λ i. elim (IsAmong-append one (e.var ∷ two) (node_of e.to) i) [
        | inl j ↦ not_r (node_of e.to) j refl
        | inr j ↦ elim j [ inl same ↦ r≢v same | inr k ↦ of_r.once.0 k ]
      ],
      NoneTwice-append one (e.var ∷ two) of_v.once.1 (λ i. not_v e.var i refl, of_r.once.1) (λ z i j. elim j [
        | inl same ↦ of_v.once.0 (subst (IsAmong one) same i)
        | inr k ↦ v≢r (one_variable (root_by trail (Var z)) e.var (node_of e.to) (of_v.only z i).1 (of_r.only z k).1)
      ]),
    )

    joined_only : (x : ℕ) → IsAmong (one ++ e.var ∷ two) x → (x < n) × (root_by (trail ++ e ∷ []) (Var x) ≡ Var (node_of e.to))
    joined_only x i = elim (IsAmong-append one (e.var ∷ two) x i) [
      | inl j ↦ ((of_v.only x j).0, joined_root n trail e binds v_root r_root x (of_v.only x j).1)
      | inr j ↦ elim j [
        | inl same ↦ subst (λ (k : ℕ). (k < n) × (root_by (trail ++ e ∷ []) (Var k) ≡ Var (node_of e.to))) (sym same) (binds.in_range, joined_root n trail e binds v_root r_root e.var v_root)
        | inr k ↦ ((of_r.only x k).0, kept_root n trail e binds v_root r_root x (node_of e.to) r≢v (of_r.only x k).1)
      ]
    ]

    joined_all : (x : ℕ) → root_by (trail ++ e ∷ []) (Var x) ≡ Var (node_of e.to) → IsAmong (node_of e.to ∷ one ++ e.var ∷ two) x
    joined_all x is = elim (root_cases n trail e binds v_root r_root x (node_of e.to) is) [
      | inl was ↦ elim (of_v.all x was.0) [
        | inl same ↦ inr (IsAmong-append_right one (e.var ∷ two) x (inl same))
        | inr i ↦ inr (IsAmong-append_left one (e.var ∷ two) x i)
      ]
      | inr was ↦ elim (of_r.all x was) [
        | inl same ↦ inl same
        | inr i ↦ inr (IsAmong-append_right one (e.var ∷ two) x (inr i))
      ]
    ]

    joined_ring : IsRing (n, trail ++ e ∷ []) (swap next e.var (node_of e.to)) (node_of e.to) (one ++ e.var ∷ two)
    joined_ring = record { is_root = kept_root n trail e binds v_root r_root (node_of e.to) (node_of e.to) r≢v r_root; walk = joined_walk; once = joined_once; only = joined_only; all = joined_all }

  -- the ring of another root
  other_ring : (q : ℕ) (ring : List ℕ) → IsRing (n, trail) next q ring → root_by trail (Var q) ≡ Var q → q ≢ e.var → q ≢ node_of e.to
      → IsRing (n, trail ++ e ∷ []) (swap next e.var (node_of e.to)) q ring
  other_ring q ring of_q q_root not_v not_r = record {
    is_root = kept_root n trail e binds v_root r_root q q not_v q_root;
    walk = IsWalk-moved next (swap next e.var (node_of e.to)) q q ring q (exchange.others q not_v not_r)
        (λ z i. exchange.others z (apart z q e.var (of_q.only z i).1 v_root not_v) (apart z q (node_of e.to) (of_q.only z i).1 r_root not_r)) of_q.walk;
    once = of_q.once;
    only = λ x i. ((of_q.only x i).0, kept_root n trail e binds v_root r_root x q not_v (of_q.only x i).1);
    all = λ x is. elim (root_cases n trail e binds v_root r_root x q is) [
      | inl was ↦ absurd (not_r was.1)
      | inr was ↦ of_q.all x was
    ];
  }

-- each root is on its ring after a binding
HasRing-push : (n : ℕ) (trail : List Bound) (e : Bound) → BindsNode n e → root_by trail (Var e.var) ≡ Var e.var → root_by trail (Var (node_of e.to)) ≡ Var (node_of e.to)
    → ((r : ℕ) → r < n → root_by trail (Var r) ≡ Var r → HasRing (n, trail) r)
    → (q : ℕ) → q < n → root_by (trail ++ e ∷ []) (Var q) ≡ Var q → HasRing (n, trail ++ e ∷ []) q
HasRing-push n trail e binds v_root r_root rings q q_in q_root =
    let next : List ℕ = next_of (n, trail) in
    let len : length next ≡ n = length-next_of (n, trail) in
    let was = was_root n trail e binds v_root r_root q q_root in
    let next_is : next_of (n, trail ++ e ∷ []) ≡ swap next e.var (node_of e.to) = turned-push trail e (range_with_len 0 n) in
    let ring_is : ring_of (trail ++ e ∷ []) q ≡ joined_rings e (ring_of trail) q = rings_by-push trail e (λ x. []) q in
    rw (next_is, ring_is) (elim (cases_eq q (node_of e.to)) [
      | inl same ↦ rw (joined_rings-same e (ring_of trail) q same, same) (joined_ring n trail e next len binds v_root r_root (ring_of trail e.var) (ring_of trail (node_of e.to))
          (rings e.var binds.in_range v_root) (rings (node_of e.to) (omega (arith, binds.in_range, binds.lower)) r_root))
      | inr other ↦ rw (joined_rings-other e (ring_of trail) q other) (other_ring n trail e next len binds v_root r_root q (ring_of trail q) (rings q q_in was.0) was.0 was.1 other)
    ])

-- one more binding
pub AreRings-push : (n : ℕ) (trail : List Bound) (e : Bound) (next : List ℕ) → AreRings (n, trail) next → BindsNode n e
    → root_by trail (Var e.var) ≡ Var e.var → root_by trail (Var (node_of e.to)) ≡ Var (node_of e.to)
    → AreRings (n, trail ++ e ∷ []) (swap next e.var (node_of e.to))
AreRings-push n trail e next r binds v_root r_root =
    let len : length (trail ++ e ∷ []) ≡ length trail + 1 = length-append trail (e ∷ []) in
    let whole : take (length trail) trail ≡ trail = take_all (length trail) trail (omega arith) in
    record {
      is_next = ap (λ (list : List ℕ). swap list e.var (node_of e.to)) r.is_next ∙ sym (turned-push trail e (range_with_len 0 n));
      steps = λ k d below. elim (cases_lt k (length trail)) [
        | inl before ↦ rw (get_or_append_left trail (e ∷ []) d k before) (r.steps k d before)
        | inr past ↦ rw (get_or_at trail e [] d k (omega (arith, len))) binds
      ];
      always = λ k q le q_in q_root. elim (cases_lt (length trail) k) [
        | inl past ↦
            let all : take k (trail ++ e ∷ []) ≡ trail ++ e ∷ [] = take_all k (trail ++ e ∷ []) (omega (arith, len)) in
            rw all (HasRing-push n trail e binds v_root r_root (λ s s_in s_root. rw whole at (r.always (length trail) s (omega arith) s_in (rw whole s_root))) q q_in (rw all at q_root))
        | inr before ↦
            let first : take k (trail ++ e ∷ []) ≡ take k trail = take-append-le k trail (e ∷ []) before in
            rw first (r.always k q before q_in (rw first at q_root))
      ];
    }

-- the last binding taken back
pub AreRings-pop : (n : ℕ) (trail : List Bound) (e : Bound) (next : List ℕ) → AreRings (n, trail ++ e ∷ []) next
    → BindsNode n e × AreRings (n, trail) (swap next e.var (node_of e.to))
AreRings-pop n trail e next r =
    let len : length (trail ++ e ∷ []) ≡ length trail + 1 = length-append trail (e ∷ []) in
    let before : List ℕ = next_of (n, trail) in
    let before_len : length before ≡ n = length-next_of (n, trail) in
    let binds : BindsNode n e = rw (get_or_at trail e [] e (length trail) refl) at (r.steps (length trail) e (omega (arith, len))) in
    let next_is : next ≡ swap before e.var (node_of e.to) = r.is_next ∙ turned-push trail e (range_with_len 0 n) in (
      binds,
      record {
        is_next = ap (λ (list : List ℕ). swap list e.var (node_of e.to)) next_is
            ∙ swap-swap before e.var (node_of e.to) (omega (arith, before_len, binds.in_range)) (omega (arith, before_len, binds.in_range, binds.lower)) binds.lower;
        steps = λ k d below. rw (get_or_append_left trail (e ∷ []) d k below) at (r.steps k d (omega (arith, len)));
        always = λ k q le q_in q_root.
            let first : take k (trail ++ e ∷ []) ≡ take k trail = take-append-le k trail (e ∷ []) le in
            rw first at (r.always k q (omega (arith, len)) q_in (rw first q_root));
      },
    )

-- the root of a node is a node
pub root_by-node : (n : ℕ) (trail : List Bound) → ((k : ℕ) (d : Bound) → k < length trail → BindsNode n (get_or trail k d)) → (x : ℕ) → (i : ℕ) × (root_by trail (Var x) ≡ Var i)
root_by-node n [] steps x = (x, refl)
root_by-node n (e ∷ trail) steps x =
    let binds : BindsNode n e = steps 0 e (omega arith) in
    let rest : (y : ℕ) → (i : ℕ) × (root_by trail (Var y) ≡ Var i) = root_by-node n trail (λ k d below. steps (suc k) d (omega arith)) in
    elim (bound_cases e (Var x)) [
      | inl is ↦
          let to_is : bound_by e (Var x) ≡ Var (node_of e.to) = ap (bound_by e) is ∙ bound_by-same e ∙ binds.is_node in
          let r = rest (node_of e.to) in (r.0, ap (root_by trail) to_is ∙ r.1)
      | inr stays ↦ let r = rest x in (r.0, ap (root_by trail) stays ∙ r.1)
    ]

-- a ring leaves out one node at least
pub length-ring : (nodes : ℕ × List Bound) (next : List ℕ) (root : ℕ) (ring : List ℕ) → IsRing nodes next root ring → root < nodes.0 → length ring < nodes.0
length-ring nodes next root ring r root_in =
    let all : List ℕ = range_with_len 0 nodes.0 in
    let among : (x : ℕ) → x < nodes.0 → IsAmong all x =
    λ x below. IsAmong-Contains all x (x, omega (arith, length-range_with_len 0 nodes.0), get_or-range_with_len 0 nodes.0 x x below ∙ omega arith) in
    let within : IsWithin (root ∷ ring) all = λ x i. elim i [ inl same ↦ among x (omega (arith, root_in)) | inr j ↦ among x (r.only x j).0 ] in
    let le : length (root ∷ ring) ≤ length all = length-within (root ∷ ring) all r.once within in
    omega (arith, le, length-range_with_len 0 nodes.0)

pub range_more : (n : ℕ) → range_with_len 0 (n + 1) ≡ range_with_len 0 n ++ n ∷ []
range_more n = sym (map-id (range_with_len 0 (n + 1))) ∙ map-range_with_len_more (λ k. k) 0 n n (omega arith) ∙ ap (λ (list : List ℕ). list ++ n ∷ []) (map-id (range_with_len 0 n))
