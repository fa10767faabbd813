-- A search that grows candidates one node at a time lists each model once. It stands over any candidates with a parent.
use Rattle.std.specs.Prelude.{◌≡◌, ℕ, zero, suc, ◌+◌, ◌<◌, ◌≤◌, List, [], ◌∷◌, ◌++◌, ◌⊎◌, map, refl}
use Rattle.std.proofs.Common.{inl, inr, subst, sym, ap, ap₂, ◌∙◌, arith}
use Rattle.td_solver.specs.Searches.{IsPartListing, Below, IsFound, IsFoundBy}
use Rattle.gr_base.specs.Lists.{IsAmong, NoneTwice, Each, IsListing}
use Rattle.gr_base.proofs.ListLemmas.{IsAmong-append_left, IsAmong-append_right, IsAmong-map, IsAmong-map_from, Each-at, Each-append, Each-weaker, NoneTwice-append}

-- listings of two properties that exclude each other, one behind the other
pub listing_both : {A : Type 0} (P Q R : A → Type 0) (xs ys : List A) → IsListing P xs → IsListing Q ys → ((x : A) → P x → Q x → ⊥) → ((x : A) → P x → R x) → ((x : A) → Q x → R x)
    → ((x : A) → R x → P x ⊎ Q x) → IsListing R (xs ++ ys)
listing_both P Q R xs ys a b apart p q r = record {
  once = NoneTwice-append xs ys a.once b.once (λ x i j. apart x (Each-at P xs x a.only i) (Each-at Q ys x b.only j));
  only = Each-append R xs ys (Each-weaker P R p xs a.only) (Each-weaker Q R q ys b.only);
  all = λ x h. elim (r x h) [ inl i ↦ IsAmong-append_left xs ys x (a.all x i) | inr j ↦ IsAmong-append_right xs ys x (b.all x j) ];
}

-- what was found before and what a call that was cut off found
pub part_both : {A : Type 0} (P Q R : A → Type 0) (xs ys : List A) → IsListing P xs → IsPartListing Q ys → ((x : A) → P x → Q x → ⊥) → ((x : A) → P x → R x) → ((x : A) → Q x → R x)
    → IsPartListing R (xs ++ ys)
part_both P Q R xs ys a b apart p q = record {
  once = NoneTwice-append xs ys a.once b.once (λ x i j. apart x (Each-at P xs x a.only i) (Each-at Q ys x b.only j));
  only = Each-append R xs ys (Each-weaker P R p xs a.only) (Each-weaker Q R q ys b.only);
}

module _ {X : Type 0} (Model : ℕ → X → Type 0) (up : ℕ → X → X) where
  -- from the other end
  pub below_last : (j m : ℕ) (F G H : X) → Below Model up j m F G → Model (suc (m + j)) H → up (m + j) H ≡ G → Below Model up (suc j) m F H
  below_last zero m F G H b model from =
      let e : m + 0 ≡ m = omega arith in
      (H, subst (λ k. Model (suc k) H) e model, subst (λ k. up k H ≡ G) e from ∙ sym b, refl)
  below_last (suc j) m F G H b model from =
      let e : m + suc j ≡ suc m + j = omega arith in
      (b.0, b.1, b.2, below_last j (suc m) b.0 G H b.3 (subst (λ k. Model (suc k) H) e model) (subst (λ k. up k H ≡ G) e from))

  -- where the parent of each model is a model, and the only one of no nodes is the root, all models come from the root
  pub all_below : (root : X) → ((F : X) → Model 0 F → root ≡ F) → ((m : ℕ) (G : X) → Model (suc m) G → Model m (up m G)) → (j : ℕ) (G : X) → Model j G → Below Model up j 0 root G
  all_below root none parent zero G model = none G model
  all_below root none parent (suc j) G model =
      let e : 0 + j ≡ j = omega arith in
      below_last j 0 root (up j G) G (all_below root none parent j (up j G) (parent j G model)) (subst (λ k. Model (suc k) G) (sym e) model) (ap (λ k. up k G) e)

  -- the ancestor of m nodes of a candidate of m + j nodes
  abbrev pub ancestor : ℕ → ℕ → X → X
  ancestor zero m G = G
  ancestor (suc j) m G = up m (ancestor j (suc m) G)

  pub below_ancestor : (j m : ℕ) (F G : X) → Below Model up j m F G → ancestor j m G ≡ F
  below_ancestor zero m F G b = sym b
  below_ancestor (suc j) m F G b = ap (λ H. up m H) (below_ancestor j (suc m) b.0 G b.3) ∙ b.2

  -- so what comes from one candidate does not come from another of as many nodes
  pub below_apart : (j m : ℕ) (F F' G : X) → Below Model up j m F G → Below Model up j m F' G → F ≡ F'
  below_apart j m F F' G a b = sym (below_ancestor j m F G a) ∙ below_ancestor j m F' G b

  -- nothing was found before the first candidate
  pub found_none : (Q : X → Type 0) (d m : ℕ) (F : X) → ((H : X) → Q H → ⊥) → IsListing (IsFoundBy Model up Q d m F) []
  found_none Q d m F none = record { once = tt; only = tt; all = λ x h. absurd (none h.child h.chosen) }

  -- a candidate that is no model adds nothing
  pub found_skip : (Q : X → Type 0) (d m : ℕ) (F C : X) (xs : List (ℕ × X)) → (Model (suc m) C → ⊥) → IsListing (IsFoundBy Model up Q d m F) xs
      → IsListing (IsFoundBy Model up (λ H. Q H ⊎ (H ≡ C)) d m F) xs
  found_skip Q d m F C xs bad l = record {
    once = l.once;
    only = Each-weaker (IsFoundBy Model up Q d m F) (IsFoundBy Model up (λ H. Q H ⊎ (H ≡ C)) d m F) (λ x h. record {
      most = h.most;
      child = h.child;
      rest = h.rest;
      long = h.long;
      chosen = inl h.chosen;
      model = h.model;
      parent = h.parent;
      below = h.below;
    }) xs l.only;
    all = λ x h. elim h.chosen [
      | inl q ↦ l.all x (record { most = h.most; child = h.child; rest = h.rest; long = h.long; chosen = q; model = h.model; parent = h.parent; below = h.below })
      | inr e ↦ absurd (bad (subst (λ H. Model (suc m) H) e h.model))
    ];
  }

  -- one found deeper is found one deeper from here
  abbrev pub deeper : (ℕ × X) → ℕ × X
  deeper found = (suc found.0, found.1)

  pair_same : (a b : ℕ × X) → a.0 ≡ b.0 → a.1 ≡ b.1 → a ≡ b
  pair_same a b e f = ap₂ (λ (i : ℕ) (x : X). (i, x)) e f

  same_deeper : (a b : ℕ × X) → deeper a ≡ deeper b → a ≡ b
  same_deeper a b e = let p : suc a.0 ≡ suc b.0 = ap (λ z. z.0) e in pair_same a b (omega arith) (ap (λ z. z.1) e)

  NoneTwice-deeper : (xs : List (ℕ × X)) → NoneTwice xs → NoneTwice (map (λ z. deeper z) xs)
  NoneTwice-deeper [] h = tt
  NoneTwice-deeper (x ∷ xs) h =
      ((λ i. let r = IsAmong-map_from (λ z. deeper z) xs (deeper x) i in h.0 (subst (λ z. IsAmong xs z) (same_deeper r.0 x (sym r.2)) r.1)), NoneTwice-deeper xs h.1)

  Each-deeper : (d m : ℕ) (F C : X) (ys : List (ℕ × X)) → Model (suc m) C → up m C ≡ F → Each (IsFound Model up d (suc m) C) ys
      → Each (IsFoundBy Model up (λ H. H ≡ C) (suc d) m F) (map (λ z. deeper z) ys)
  Each-deeper d m F C [] model from e = tt
  Each-deeper d m F C (y ∷ ys) model from e =
      let most : y.0 ≤ d = e.0.most in (
        record { most = omega arith; child = C; rest = y.0; long = refl; chosen = refl; model = model; parent = from; below = e.0.below },
        Each-deeper d m F C ys model from e.1,
      )

  not_first : (d m : ℕ) (C : X) (ys : List (ℕ × X)) → Each (IsFound Model up d (suc m) C) ys → IsAmong (map (λ z. deeper z) ys) (1, C) → ⊥
  not_first d m C ys e i =
      let r = IsAmong-map_from (λ z. deeper z) ys (1, C) i in
      let f = Each-at (IsFound Model up d (suc m) C) ys r.0 e r.1 in
      let p : 0 < r.0.0 = f.some in
      let q : 1 ≡ suc r.0.0 = ap (λ z. z.0) r.2 in
      omega arith

  first_or_deeper : (d m : ℕ) (F C : X) (ys : List (ℕ × X)) → IsListing (IsFound Model up d (suc m) C) ys → (x : ℕ × X) (rest : ℕ) → x.0 ≤ suc d → x.0 ≡ suc rest
      → Below Model up rest (suc m) C x.1 → IsAmong ((1, C) ∷ map (λ z. deeper z) ys) x
  first_or_deeper d m F C ys l x zero most long below = inl (pair_same x (1, C) long (sym below))
  first_or_deeper d m F C ys l x (suc rest) most long below =
      let i : IsAmong ys (suc rest, x.1) = l.all (suc rest, x.1) (record { some = omega arith; most = omega arith; below = below }) in
      let e : deeper (suc rest, x.1) ≡ x = pair_same (deeper (suc rest, x.1)) x (sym long) refl in
      inr (subst (λ z. IsAmong (map (λ w. deeper w) ys) z) e (IsAmong-map (λ w. deeper w) ys (suc rest, x.1) i))

  -- what is found through one candidate that is a model: itself and what is found below it
  pub found_child : (d m : ℕ) (F C : X) (ys : List (ℕ × X)) → Model (suc m) C → up m C ≡ F → IsListing (IsFound Model up d (suc m) C) ys
      → IsListing (IsFoundBy Model up (λ H. H ≡ C) (suc d) m F) ((1, C) ∷ map (λ z. deeper z) ys)
  found_child d m F C ys model from l = record {
    once = (not_first d m C ys l.only, NoneTwice-deeper ys l.once);
    only = (record { most = omega arith; child = C; rest = 0; long = refl; chosen = refl; model = model; parent = from; below = refl }, Each-deeper d m F C ys model from l.only);
    all = λ x h. first_or_deeper d m F C ys l x h.rest h.most h.long (subst (λ H. Below Model up h.rest (suc m) H x.1) h.chosen h.below);
  }

  pub found_child_part : (d m : ℕ) (F C : X) (ys : List (ℕ × X)) → Model (suc m) C → up m C ≡ F → IsPartListing (IsFound Model up d (suc m) C) ys
      → IsPartListing (IsFoundBy Model up (λ H. H ≡ C) (suc d) m F) ((1, C) ∷ map (λ z. deeper z) ys)
  found_child_part d m F C ys model from l = record {
    once = (not_first d m C ys l.only, NoneTwice-deeper ys l.once);
    only = (record { most = omega arith; child = C; rest = 0; long = refl; chosen = refl; model = model; parent = from; below = refl }, Each-deeper d m F C ys model from l.only);
  }

  -- what is found through different candidates is different
  found_apart : (Q : X → Type 0) (d m : ℕ) (F C : X) → (Q C → ⊥) → (x : ℕ × X) → IsFoundBy Model up Q d m F x → IsFoundBy Model up (λ H. H ≡ C) d m F x → ⊥
  found_apart Q d m F C new x a b =
      let p : x.0 ≡ suc a.rest = a.long in
      let q : x.0 ≡ suc b.rest = b.long in
      let e : b.rest ≡ a.rest = omega arith in
      let s : a.child ≡ b.child = below_apart a.rest (suc m) a.child b.child x.1 a.below (subst (λ j. Below Model up j (suc m) b.child x.1) e b.below) in
      new (subst Q (s ∙ b.chosen) a.chosen)

  wider_left : (Q : X → Type 0) (d m : ℕ) (F C : X) (x : ℕ × X) → IsFoundBy Model up Q d m F x → IsFoundBy Model up (λ H. Q H ⊎ (H ≡ C)) d m F x
  wider_left Q d m F C x h = record { most = h.most; child = h.child; rest = h.rest; long = h.long; chosen = inl h.chosen; model = h.model; parent = h.parent; below = h.below }

  wider_right : (Q : X → Type 0) (d m : ℕ) (F C : X) (x : ℕ × X) → IsFoundBy Model up (λ H. H ≡ C) d m F x → IsFoundBy Model up (λ H. Q H ⊎ (H ≡ C)) d m F x
  wider_right Q d m F C x h = record { most = h.most; child = h.child; rest = h.rest; long = h.long; chosen = inr h.chosen; model = h.model; parent = h.parent; below = h.below }

  narrow : (Q : X → Type 0) (d m : ℕ) (F C : X) (x : ℕ × X) → IsFoundBy Model up (λ H. Q H ⊎ (H ≡ C)) d m F x → IsFoundBy Model up Q d m F x ⊎ IsFoundBy Model up (λ H. H ≡ C) d m F x
  narrow Q d m F C x h = elim h.chosen [
    | inl q ↦ inl (record { most = h.most; child = h.child; rest = h.rest; long = h.long; chosen = q; model = h.model; parent = h.parent; below = h.below })
    | inr e ↦ inr (record { most = h.most; child = h.child; rest = h.rest; long = h.long; chosen = e; model = h.model; parent = h.parent; below = h.below })
  ]

  -- one candidate more is searched through
  pub found_more : (Q : X → Type 0) (d m : ℕ) (F C : X) (xs ys : List (ℕ × X)) → (Q C → ⊥) → Model (suc m) C → up m C ≡ F → IsListing (IsFoundBy Model up Q (suc d) m F) xs
      → IsListing (IsFound Model up d (suc m) C) ys → IsListing (IsFoundBy Model up (λ H. Q H ⊎ (H ≡ C)) (suc d) m F) (xs ++ (1, C) ∷ map (λ z. deeper z) ys)
  found_more Q d m F C xs ys new model from l k =
      listing_both (IsFoundBy Model up Q (suc d) m F) (IsFoundBy Model up (λ H. H ≡ C) (suc d) m F) (IsFoundBy Model up (λ H. Q H ⊎ (H ≡ C)) (suc d) m F) xs ((1, C) ∷ map (λ z. deeper z) ys)
      l (found_child d m F C ys model from k) (found_apart Q (suc d) m F C new) (wider_left Q (suc d) m F C) (wider_right Q (suc d) m F C) (narrow Q (suc d) m F C)

  -- the search is cut off below a candidate
  pub found_cut : (Q : X → Type 0) (d m : ℕ) (F C : X) (xs ys : List (ℕ × X)) → (Q C → ⊥) → Model (suc m) C → up m C ≡ F → IsListing (IsFoundBy Model up Q (suc d) m F) xs
      → IsPartListing (IsFound Model up d (suc m) C) ys → IsPartListing (IsFoundBy Model up (λ H. Q H ⊎ (H ≡ C)) (suc d) m F) (xs ++ (1, C) ∷ map (λ z. deeper z) ys)
  found_cut Q d m F C xs ys new model from l k =
      part_both (IsFoundBy Model up Q (suc d) m F) (IsFoundBy Model up (λ H. H ≡ C) (suc d) m F) (IsFoundBy Model up (λ H. Q H ⊎ (H ≡ C)) (suc d) m F) xs ((1, C) ∷ map (λ z. deeper z) ys)
      l (found_child_part d m F C ys model from k) (found_apart Q (suc d) m F C new) (wider_left Q (suc d) m F C) (wider_right Q (suc d) m F C)

  found_by_is : (Q : X → Type 0) (d m : ℕ) (F : X) (x : ℕ × X) → IsFoundBy Model up Q d m F x → IsFound Model up d m F x
  found_by_is Q d m F x h =
      let p : x.0 ≡ suc h.rest = h.long in
      record { some = omega arith; most = h.most; below = subst (λ j. Below Model up j m F x.1) (sym h.long) (h.child, h.model, h.parent, h.below) }

  found_is_by : (Q : X → Type 0) (d m : ℕ) (F : X) → ((H : X) → Model (suc m) H → up m H ≡ F → Q H) → (x : ℕ × X) (j : ℕ) → x.0 ≡ j → 0 < j → x.0 ≤ d → Below Model up j m F x.1 → IsFoundBy Model up Q d m F x
  found_is_by Q d m F every x zero e some most below = absurd (omega arith)
  found_is_by Q d m F every x (suc j) e some most below =
      record { most = most; child = below.0; rest = j; long = e; chosen = every below.0 below.1 below.2; model = below.1; parent = below.2; below = below.3 }

  -- all candidates were searched through
  pub found_all : (Q : X → Type 0) (d m : ℕ) (F : X) (xs : List (ℕ × X)) → ((H : X) → Model (suc m) H → up m H ≡ F → Q H) → IsListing (IsFoundBy Model up Q d m F) xs → IsListing (IsFound Model up d m F) xs
  found_all Q d m F xs every l = record {
    once = l.once;
    only = Each-weaker (IsFoundBy Model up Q d m F) (IsFound Model up d m F) (found_by_is Q d m F) xs l.only;
    all = λ x h. l.all x (found_is_by Q d m F every x x.0 refl h.some h.most h.below);
  }

  pub part_all : (Q : X → Type 0) (d m : ℕ) (F : X) (xs : List (ℕ × X)) → IsPartListing (IsFoundBy Model up Q d m F) xs → IsPartListing (IsFound Model up d m F) xs
  part_all Q d m F xs l = record { once = l.once; only = Each-weaker (IsFoundBy Model up Q d m F) (IsFound Model up d m F) (found_by_is Q d m F) xs l.only }

  -- nothing stands below a candidate that has all nodes
  pub found_end : (m : ℕ) (F : X) → IsListing (IsFound Model up 0 m F) []
  found_end m F = record { once = tt; only = tt; all = λ x h. let p : 0 < x.0 = h.some in let q : x.0 ≤ 0 = h.most in omega arith }
