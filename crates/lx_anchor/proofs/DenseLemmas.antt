-- A tree whose terms were numbered by first meeting is dense, and no two of its variables were made one.
use Rattle.std.specs.Prelude.{◌≡◌, ℕ, suc, ◌+◌, ◌-◌, ◌<◌, ◌≤◌, ◌⊎◌, List, [], ◌∷◌, ◌++◌, Bool, true, false, Option, Some, None, map, length, slice_get, if◌then◌else◌, refl}
use Rattle.std.proofs.Common.{inl, inr, ap, ap₂, subst, sym, ◌∙◌, arith}
use Rattle.std.proofs.lemmas.Bool.{false≢true}
use Rattle.std.proofs.lemmas.List.{map-append, length_push}
use Rattle.std.proofs.lemmas.Option.{slice_get_past}
use Rattle.gr_base.specs.Lists.{IsAmong, NoneTwice, gathered}
use Rattle.gr_base.proofs.ListLemmas.{NoneTwice-push, one_place, same_head, same_tail, IsAmong-slice_get}
use Rattle.gr_terms.specs.Networks as net
use Rattle.gr_terms.specs.Networks.{name, variable}
use Rattle.gr_terms.specs.Views.{term_of}
use Rattle.gr_terms.specs.declared.Term.{Term}
use Rattle.gr_terms.specs.declared.Term.TheVariants.{Const, Var}
use Rattle.td_tree.specs.Trees.{BagPairs}
use Rattle.td_tree.specs.declared.Tree.{Tree}
use Rattle.td_tree.specs.declared.TreeNode.{TreeNode}
use Rattle.td_canon.specs.Renaming.{rename_bag, rename_literal, rename_node, rename_term, rename_tree}
use Rattle.td_canon.specs.Writing.{meet, meet_all}
use Rattle.td_canon.proofs.MeetingLemmas.{BeginsWith-meet_all, IsAmong-meet_all, is_met, is_met-IsAmong, meet-new, meet-there, place, place-absent, stands_in}
use Rattle.tg_model.specs.DenseTrees.{bag_terms, literal_terms, node_terms, tree_terms}
use Rattle.lx_anchor.specs.Numberings.{IsNumbered, IsNumberedTree, Numbers}
use Rattle.lx_anchor.proofs.NumberingLemmas.{Numbers-place}

-- ---- the terms of a renamed tree

bag-renamed : (f : ℕ → ℕ) (bag : BagPairs) → bag_terms (rename_bag f bag) ≡ map (rename_term f) (bag_terms bag)
bag-renamed f [] = refl
bag-renamed f (p ∷ bag) = ap (λ ts. rename_term f p.1 ∷ ts) (bag-renamed f bag)

node-renamed : (f : ℕ → ℕ) (x : TreeNode) → node_terms (rename_node f x) ≡ map (rename_term f) (node_terms x)
node-renamed f x =
    ap₂ (λ as' bs. as' ++ bs) (ap₂ (λ as' bs. as' ++ bs) (bag-renamed f x.own) (bag-renamed f x.top) ∙ sym (map-append (rename_term f) (bag_terms x.own) (bag_terms x.top))) (bag-renamed f x.bot)
    ∙ sym (map-append (rename_term f) (bag_terms x.own ++ bag_terms x.top) (bag_terms x.bot))

gathered-renamed : {A : Type 0} (f : ℕ → ℕ) (terms : A → List Term) (g : A → A) → ((x : A) → terms (g x) ≡ map (rename_term f) (terms x)) → (xs : List A) → gathered terms (map g xs) ≡ map (rename_term f) (gathered terms xs)
gathered-renamed f terms g each [] = refl
gathered-renamed f terms g each (x ∷ xs) =
    ap₂ (λ as' bs. as' ++ bs) (each x) (gathered-renamed f terms g each xs) ∙ sym (map-append (rename_term f) (terms x) (gathered terms xs))

pub terms-renamed : (f : ℕ → ℕ) (t : Tree) → tree_terms (rename_tree f t) ≡ map (rename_term f) (tree_terms t)
terms-renamed f t =
    ap₂ (λ as' bs. as' ++ bs)
    (ap₂ (λ as' bs. as' ++ bs) (gathered-renamed f node_terms (rename_node f) (node-renamed f) t.nodes) (bag-renamed f t.iface)
    ∙ sym (map-append (rename_term f) (gathered node_terms t.nodes) (bag_terms t.iface)))
    (gathered-renamed f literal_terms (rename_literal f) (λ l. refl) t.sem)
    ∙ sym (map-append (rename_term f) (gathered node_terms t.nodes ++ bag_terms t.iface) (gathered literal_terms t.sem))

-- ---- numbers by first meeting are dense

same-variable : (v w : ℕ) → Var v ≡ Var w → v ≡ w
same-variable v w e = cc

place-few : (u : ℕ) (ms : List ℕ) → place u ms ≤ length ms
place-few u ms = by (is_met u ms) refl
  where
    by : (b : Bool) → is_met u ms ≡ b → place u ms ≤ length ms
    by true h = let s : place u ms < length ms = (stands_in u ms [] h).within in omega arith
    by false h = omega (arith, place-absent u ms h)

below-or : (n w : ℕ) → w ≤ n → (w < n) ⊎ (w ≡ n)
below-or n w le = grind arith

dense-from : (f : ℕ → ℕ) (ms : List ℕ) (ts : List Term) → Numbers (meet_all ms (map term_of ts)) f → (before after : List Term) (v w : ℕ) → map (rename_term f) ts ≡ before ++ Var v ∷ after → w < v
    → (w < length ms) ⊎ IsAmong before (Var w)
dense-from f ms [] n [] after v w e lt = absurd cc
dense-from f ms [] n (b ∷ before) after v w e lt = absurd cc
dense-from f ms (Const s ∷ ts) n [] after v w e lt =
    let clash : Const s ≡ Var v = same_head (Const s) (Var v) (map (rename_term f) ts) after e in absurd cc
dense-from f ms (Const s ∷ ts) n (b ∷ before) after v w e lt =
    elim (dense-from f ms ts n before after v w (same_tail (Const s) b (map (rename_term f) ts) (before ++ Var v ∷ after) e) lt) [ inl h ↦ inl h | inr i ↦ inr (inr i) ]
dense-from f ms (Var u ∷ ts) n [] after v w e lt =
    let is : f u ≡ v = same-variable (f u) v (same_head (Var (f u)) (Var v) (map (rename_term f) ts) after e) in
    let number : f u ≡ place u ms = Numbers-place ms (meet_all (meet ms (variable u)) (map term_of ts)) u f (BeginsWith-meet_all (meet ms (variable u)) (map term_of ts)) (IsAmong-meet_all ms (map term_of (Var u ∷ ts)) u (inl refl)) n in
    let few : place u ms ≤ length ms = place-few u ms in
    inl (omega (arith, is, number, few, lt))
dense-from f ms (Var u ∷ ts) n (b ∷ before) after v w e lt =
    elim (dense-from f (meet ms (variable u)) ts n before after v w (same_tail (Var (f u)) b (map (rename_term f) ts) (before ++ Var v ∷ after) e) lt) [
      | inl h ↦ by (is_met u ms) refl h
      | inr i ↦ inr (inr i)
    ]
  where
    number : f u ≡ place u ms
    number = Numbers-place ms (meet_all (meet ms (variable u)) (map term_of ts)) u f (BeginsWith-meet_all (meet ms (variable u)) (map term_of ts)) (IsAmong-meet_all ms (map term_of (Var u ∷ ts)) u (inl refl)) n

    first : b ≡ Var (f u)
    first = sym (same_head (Var (f u)) b (map (rename_term f) ts) (before ++ Var v ∷ after) e)

    by : (c : Bool) → is_met u ms ≡ c → w < length (meet ms (variable u)) → (w < length ms) ⊎ IsAmong (b ∷ before) (Var w)
    by true h lt' = inl (subst (λ xs. w < length xs) (meet-there ms u h) lt')
    by false h lt' =
        let long : w < length (ms ++ u ∷ []) = subst (λ xs. w < length xs) (meet-new ms u h) lt' in
        let last : place u ms ≡ length ms = place-absent u ms h in
        let size : length (ms ++ u ∷ []) ≡ suc (length ms) = length_push ms u ∙ omega arith in
        elim (below-or (length ms) w (omega (arith, long, size))) [
          | inl k ↦ inl k
          | inr k ↦ inr (inl (ap Var (k ∙ sym last ∙ sym number) ∙ sym first))
        ]

-- ---- a renaming that tells all variables apart

there : List ℕ → ℕ → ℕ
there all v = if is_met v all then place v all else (length all + v)

back-by : List ℕ → ℕ → Option ℕ → ℕ
back-by all i None = i - length all
back-by all i (Some v) = v

back : List ℕ → ℕ → ℕ
back all i = back-by all i (slice_get all i)

there-met : (all : List ℕ) (v : ℕ) → is_met v all ≡ true → there all v ≡ place v all
unfolding there
there-met all v h = ap (λ b. if b then place v all else (length all + v)) h

there-other : (all : List ℕ) (v : ℕ) → is_met v all ≡ false → there all v ≡ length all + v
unfolding there
there-other all v h = ap (λ b. if b then place v all else (length all + v)) h

back-there : (all : List ℕ) (v : ℕ) → back all (there all v) ≡ v
unfolding back back-by
back-there all v = by (is_met v all) refl
  where
    by : (b : Bool) → is_met v all ≡ b → back all (there all v) ≡ v
    by true h = ap (back all) (there-met all v h) ∙ ap (back-by all (place v all)) (stands_in v all [] h).at
    by false h =
        ap (back all) (there-other all v h)
        ∙ ap (back-by all (length all + v)) (slice_get_past all (length all + v) (omega arith))
        ∙ (let less : length all + v - length all ≡ v = omega arith in less)

-- ---- each variable is met once

once-met : (ms : List ℕ) (ts : List (net.Term ℕ)) → NoneTwice ms → NoneTwice (meet_all ms ts)
once-met ms [] once = once
once-met ms (name a ∷ ts) once = once-met ms ts once
once-met ms (variable v ∷ ts) once = once-met (meet ms (variable v)) ts (by (is_met v ms) refl)
  where
    by : (b : Bool) → is_met v ms ≡ b → NoneTwice (meet ms (variable v))
    by true h = subst NoneTwice (sym (meet-there ms v h)) once
    by false h = subst NoneTwice (sym (meet-new ms v h)) (NoneTwice-push ms v once (λ i. false≢true (sym h ∙ is_met-IsAmong v ms i)))

there-numbers : (all : List ℕ) → NoneTwice all → Numbers all (there all)
there-numbers all once v k at =
    let h = is_met-IsAmong v all (IsAmong-slice_get all k v at) in
    there-met all v h ∙ one_place all (place v all) k v once (stands_in v all [] h).at at

pub numbered-tree : (t u : Tree) (new : List ℕ) → IsNumbered [] new (tree_terms t) (λ f. rename_tree f t) u → IsNumberedTree t u
numbered-tree t u new h =
    let once : NoneTwice new = subst NoneTwice (sym h.met) (once-met [] (map term_of (tree_terms t)) tt) in
    let n : Numbers new (there new) = there-numbers new once in
    let is : u ≡ rename_tree (there new) t = h.written (there new) n in
    record {
      there = there new;
      back = back new;
      undone = back-there new;
      renamed = sym is;
      dense = λ before after v w e lt.
          let terms : map (rename_term (there new)) (tree_terms t) ≡ before ++ Var v ∷ after = sym (terms-renamed (there new) t) ∙ ap tree_terms (sym is) ∙ e in
          elim (dense-from (there new) [] (tree_terms t) (subst (λ all. Numbers all (there new)) h.met n) before after v w terms lt) [
            | inl h' ↦ absurd (omega (arith, h'))
            | inr i ↦ i
          ];
    }
