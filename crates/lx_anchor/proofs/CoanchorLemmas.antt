-- Names, lemmas and co-anchors.
use Rattle.std.specs.Prelude.{◌≡◌, ℕ, zero, suc, ◌+◌, ◌<◌, ◌≤◌, List, [], ◌∷◌, ◌++◌, length, take, drop, Option, Some, None, MatchOption, slice_get, Bool, true, false, IsTrue, ◌==◌, if◌then◌else◌, refl}
use Rattle.std.specs.List.{AllZip}
use Rattle.std.proofs.Common.{inl, inr, ap, subst, sym, ◌∙◌, arith}
use Rattle.std.proofs.lemmas.Bool.Decides.{eqb_tells}
use Rattle.std.proofs.lemmas.List.{take_all, map-append}
use Rattle.std.proofs.lemmas.Option.{none-some, same_Some, slice_get_within}
use Rattle.gr_base.specs.Lists.{IsAmong, Each}
use Rattle.gr_base.proofs.ListLemmas.{drop-slice_get, take-one_more, slice_get-mapped}
use Rattle.gr_base.proofs.Zips.{AllZip-append}
use Rattle.gr_terms.specs.Constants.{COANCHOR, NAME}
use Rattle.gr_terms.specs.Canonical.{Node}
use Rattle.gr_terms.specs.declared.Sym.{Sym}
use Rattle.td_tree.specs.TreeViews.{Pairs}
use Rattle.td_tree.specs.declared.Tree.{Tree}
use Rattle.td_tree.specs.declared.TreeNode.{TreeNode}
use Rattle.tg_grammar.specs.Marks.{is_marked, lists_at, name_of, node_lists, numbers_from, value_of}
use Rattle.lx_lexicon.specs.declared.entry.Entry.{Entry}
use Rattle.lx_anchor.specs.Anchoring.{AreLemmas, HasLeaf, IsGiven, co_leaves, lemma_for}
use Rattle.lx_anchor.proofs.Marking.{number-there, there-number}

-- the name of a node
abbrev pub node_name : TreeNode → Option ℕ
node_name x = name_of (value_of (lists_at x).own NAME)

-- ---- the lemma of a name

pub lemma-here : (cs : List (Sym × Sym)) (i : ℕ) (c : Sym × Sym) (a : ℕ) → slice_get cs i ≡ Some c → lemma_for cs a ≡ lemma_for (drop i cs) a → (c.0.0 == a) ≡ true → lemma_for cs a ≡ Some c.1
lemma-here cs i c a at so_far is =
    so_far ∙ ap (λ ds. lemma_for ds a) (drop-slice_get cs i c at) ∙ ap (λ b. if b then Some c.1 else lemma_for (drop (suc i) cs) a) is

pub lemma-later : (cs : List (Sym × Sym)) (i : ℕ) (c : Sym × Sym) (a : ℕ) → slice_get cs i ≡ Some c → lemma_for cs a ≡ lemma_for (drop i cs) a → (c.0.0 == a) ≡ false → lemma_for cs a ≡ lemma_for (drop (i + 1) cs) a
lemma-later cs i c a at so_far differs =
    let next : suc i ≡ i + 1 = omega arith in
    so_far ∙ ap (λ ds. lemma_for ds a) (drop-slice_get cs i c at) ∙ ap (λ b. if b then Some c.1 else lemma_for (drop (suc i) cs) a) differs ∙ ap (λ k. lemma_for (drop k cs) a) next

pub lemma-none : (cs : List (Sym × Sym)) (i : ℕ) (a : ℕ) → length cs ≤ i → lemma_for cs a ≡ lemma_for (drop i cs) a → lemma_for cs a ≡ None
lemma-none cs i a le so_far = so_far ∙ ap (λ ds. lemma_for ds a) (past cs i le)
  where
    past : (xs : List (Sym × Sym)) (i : ℕ) → length xs ≤ i → drop i xs ≡ []
    past [] zero le = refl
    past [] (suc i) le = refl
    past (x ∷ xs) zero le = absurd (omega (arith, le))
    past (x ∷ xs) (suc i) le = past xs i (omega (arith, le))

-- ---- the lemma of a node

pub node-lemma : (x : TreeNode) (cs : List (Sym × Sym)) (name : Sym) (o : Option Sym) → Some name.0 ≡ node_name x → o ≡ lemma_for cs name.0
    → MatchOption o ((a : ℕ) (lemma : Sym) → node_name x ≡ Some a → lemma_for cs a ≡ Some lemma → ⊥) (λ lemma. (a : ℕ) × (node_name x ≡ Some a) × (lemma_for cs a ≡ Some lemma))
node-lemma x cs name None is found = λ a lemma named given.
    let same-name : name.0 ≡ a = same_Some name.0 a (is ∙ named) in
    none-some lemma (found ∙ ap (lemma_for cs) same-name ∙ given)
node-lemma x cs name (Some lemma) is found = (name.0, sym is, sym found)

-- ---- leaves

module _ (t : Tree) where
  abbrev IsLeaf : ℕ → TreeNode → Type 0
  IsLeaf a x = IsTrue (is_marked COANCHOR (lists_at x)) × (node_name x ≡ Some a)

  pub leaf-there : (a n : ℕ) (x : TreeNode) → slice_get t.nodes n ≡ Some x → IsLeaf a x → HasLeaf t a
  leaf-there a n x at h =
      let list = slice_get-mapped lists_at t.nodes n x at in
      let zeroth : 0 + n ≡ n = omega arith in
      (n, subst (λ k. IsAmong (co_leaves t) k) zeroth (there-number 0 (is_marked COANCHOR) (node_lists t.nodes) n (lists_at x) list h.0), (lists_at x, list, h.1))

  from-lists : (xs : List TreeNode) (i : ℕ) (l : Node Pairs) → slice_get (node_lists xs) i ≡ Some l → (x : TreeNode) × (slice_get xs i ≡ Some x) × (l ≡ lists_at x)
  from-lists [] i l at = absurd (none-some l at)
  from-lists (x ∷ xs) zero l at = (x, refl, sym (same_Some (lists_at x) l at))
  from-lists (x ∷ xs) (suc i) l at = from-lists xs i l at

  -- none of the first nodes is a leaf of the name
  abbrev pub NoLeaf : ℕ → ℕ → Type 0
  NoLeaf a count = (n : ℕ) (x : TreeNode) → n < count → slice_get t.nodes n ≡ Some x → IsLeaf a x → ⊥

  pub leaf-absent : (a count : ℕ) → length t.nodes ≤ count → NoLeaf a count → HasLeaf t a → ⊥
  leaf-absent a count le none (n, among, (l, at, named)) =
      let r = number-there 0 (is_marked COANCHOR) (node_lists t.nodes) n among in
      let number : r.0 ≡ n = omega (arith, r.1) in
      let q = from-lists t.nodes r.0 r.2.0 r.2.1 in
      let one : l ≡ r.2.0 = same_Some l r.2.0 (sym at ∙ ap (slice_get (node_lists t.nodes)) (sym number) ∙ r.2.1) in
      let within : r.0 < length t.nodes = slice_get_within t.nodes r.0 q.0 q.1 in
      none r.0 q.0 (omega arith) q.1 (subst (λ k. IsTrue (is_marked COANCHOR k)) q.2 r.2.2, subst (λ k. name_of (value_of k.own NAME) ≡ Some a) (one ∙ q.2) named)

  pub no-leaf-more : (a count : ℕ) (x : TreeNode) → slice_get t.nodes count ≡ Some x → NoLeaf a count → (IsLeaf a x → ⊥) → NoLeaf a (count + 1)
  no-leaf-more a count x at none here n y lt there leaf = elim (eqb_tells n count) [
    | inl h ↦
        let one : y ≡ x = same_Some y x (sym there ∙ ap (slice_get t.nodes) h.1 ∙ at) in
        here (subst (λ z. IsLeaf a z) one leaf)
    | inr h ↦ let differs : n ≡ count → ⊥ = h.1 in none n y (lower n count lt differs) there leaf
  ]
    where
      lower : (n count : ℕ) → n < count + 1 → (n ≡ count → ⊥) → n < count
      lower n count lt differs = grind arith

-- ---- the lemmas of all leaves

numbers-push : {A : Type 0} (n : ℕ) (test : A → Bool) (xs : List A) (x : A) → numbers_from n test (xs ++ x ∷ []) ≡ numbers_from n test xs ++ (if test x then ((n + length xs) ∷ []) else [])
numbers-push n test [] x = let e : n ≡ n + 0 = omega arith in ap (λ k. if test x then (k ∷ []) else []) e
numbers-push n test (y ∷ ys) x =
    let e : suc n + length ys ≡ n + suc (length ys) = omega arith in
    let rest = numbers-push (suc n) test ys x ∙ ap (λ k. numbers_from (suc n) test ys ++ (if test x then (k ∷ []) else [])) e in
    elim (test y) as (λ b. (if b then (n ∷ numbers_from (suc n) test (ys ++ x ∷ [])) else numbers_from (suc n) test (ys ++ x ∷ [])) ≡ (if b then (n ∷ numbers_from (suc n) test ys) else numbers_from (suc n) test ys) ++ (if test x then ((n + suc (length ys)) ∷ []) else [])) [
      | true ↦ ap (λ ks. n ∷ ks) rest
      | false ↦ rest
    ]

module _ (t : Tree) (e : Entry) where
  -- the lemmas of the leaves among the first nodes
  abbrev pub AreFirstLemmas : ℕ → List (ℕ × Sym) → Type 0
  AreFirstLemmas count lemmas = AllZip (IsGiven t e) (numbers_from 0 (is_marked COANCHOR) (node_lists (take count t.nodes))) lemmas

  abbrev more-numbers : ℕ → TreeNode → List ℕ
  more-numbers count x = if is_marked COANCHOR (lists_at x) then (count ∷ []) else []

  first-lists : (count : ℕ) (x : TreeNode) → slice_get t.nodes count ≡ Some x
      → numbers_from 0 (is_marked COANCHOR) (node_lists (take (count + 1) t.nodes)) ≡ numbers_from 0 (is_marked COANCHOR) (node_lists (take count t.nodes)) ++ more-numbers count x
  first-lists count x at =
      let number : 0 + length (node_lists (take count t.nodes)) ≡ count = as-many t.nodes count x at in
      ap (λ xs. numbers_from 0 (is_marked COANCHOR) (node_lists xs)) (take-one_more t.nodes count x at)
      ∙ ap (numbers_from 0 (is_marked COANCHOR)) (map-append lists_at (take count t.nodes) (x ∷ []))
      ∙ numbers-push 0 (is_marked COANCHOR) (node_lists (take count t.nodes)) (lists_at x)
      ∙ ap (λ k. numbers_from 0 (is_marked COANCHOR) (node_lists (take count t.nodes)) ++ (if is_marked COANCHOR (lists_at x) then (k ∷ []) else [])) number
    where
      as-many : (xs : List TreeNode) (n : ℕ) (x : TreeNode) → slice_get xs n ≡ Some x → 0 + length (node_lists (take n xs)) ≡ n
      as-many [] n x at = absurd (none-some x at)
      as-many (y ∷ ys) zero x at = omega arith
      as-many (y ∷ ys) (suc n) x at = omega (arith, as-many ys n x at)

  pub lemmas-same : (count : ℕ) (x : TreeNode) (lemmas : List (ℕ × Sym)) → slice_get t.nodes count ≡ Some x → is_marked COANCHOR (lists_at x) ≡ false → AreFirstLemmas count lemmas → AreFirstLemmas (count + 1) lemmas
  lemmas-same count x lemmas at unmarked h =
      let same-numbers = first-lists count x at ∙ ap (λ b. numbers_from 0 (is_marked COANCHOR) (node_lists (take count t.nodes)) ++ (if b then (count ∷ []) else [])) unmarked in
      subst (λ ns. AllZip (IsGiven t e) ns lemmas) (sym same-numbers) (nothing (numbers_from 0 (is_marked COANCHOR) (node_lists (take count t.nodes))) lemmas h)
    where
      nothing : (ns : List ℕ) (ls : List (ℕ × Sym)) → AllZip (IsGiven t e) ns ls → AllZip (IsGiven t e) (ns ++ []) ls
      nothing [] [] h = tt
      nothing [] (l ∷ ls) h = absurd h
      nothing (n ∷ ns) [] h = absurd h
      nothing (n ∷ ns) (l ∷ ls) h = (h.0, nothing ns ls h.1)

  pub lemmas-more : (count : ℕ) (x : TreeNode) (lemmas new : List (ℕ × Sym)) (lemma : Sym) (a : ℕ) → slice_get t.nodes count ≡ Some x → is_marked COANCHOR (lists_at x) ≡ true → node_name x ≡ Some a → lemma_for e.coanchors a ≡ Some lemma
      → new ≡ lemmas ++ (count, lemma) ∷ [] → AreFirstLemmas count lemmas → AreFirstLemmas (count + 1) new
  lemmas-more count x lemmas new lemma a at leaf named given is h =
      let more = first-lists count x at ∙ ap (λ b. numbers_from 0 (is_marked COANCHOR) (node_lists (take count t.nodes)) ++ (if b then (count ∷ []) else [])) leaf in
      subst (λ ns. AllZip (IsGiven t e) ns new) (sym more)
      (subst (λ ls. AllZip (IsGiven t e) (numbers_from 0 (is_marked COANCHOR) (node_lists (take count t.nodes)) ++ count ∷ []) ls) (sym is)
      (AllZip-append (IsGiven t e) (numbers_from 0 (is_marked COANCHOR) (node_lists (take count t.nodes))) (count ∷ []) lemmas ((count, lemma) ∷ []) h
      ((refl, (a, (lists_at x, slice_get-mapped lists_at t.nodes count x at, named), given)), tt)))

  pub lemmas-all : (count : ℕ) (lemmas : List (ℕ × Sym)) → length t.nodes ≤ count → AreFirstLemmas count lemmas → AllZip (IsGiven t e) (co_leaves t) lemmas
  lemmas-all count lemmas le h = subst (λ xs. AllZip (IsGiven t e) (numbers_from 0 (is_marked COANCHOR) (node_lists xs)) lemmas) (take_all count t.nodes le) h

  zip-first : (ns : List ℕ) (ls : List (ℕ × Sym)) (n : ℕ) → AllZip (IsGiven t e) ns ls → IsAmong ns n → (c : ℕ × Sym) × IsGiven t e n c
  zip-first [] ls n h i = absurd i
  zip-first (m ∷ ns) [] n h i = absurd h
  zip-first (m ∷ ns) (l ∷ ls) n h (inl is) = (l, subst (λ k. IsGiven t e k l) (sym is) h.0)
  zip-first (m ∷ ns) (l ∷ ls) n h (inr i) = zip-first ns ls n h.1 i

  -- a leaf without a lemma
  pub lemmas-refused : (n : ℕ) (x : TreeNode) → slice_get t.nodes n ≡ Some x → is_marked COANCHOR (lists_at x) ≡ true
      → ((a : ℕ) (lemma : Sym) → node_name x ≡ Some a → lemma_for e.coanchors a ≡ Some lemma → ⊥) → (lemmas : List (ℕ × Sym)) → AllZip (IsGiven t e) (co_leaves t) lemmas → ⊥
  lemmas-refused n x at leaf none lemmas h =
      let list = slice_get-mapped lists_at t.nodes n x at in
      let zeroth : 0 + n ≡ n = omega arith in
      let r = zip-first (co_leaves t) lemmas n h (subst (λ k. IsAmong (co_leaves t) k) zeroth (there-number 0 (is_marked COANCHOR) (node_lists t.nodes) n (lists_at x) list leaf)) in
      let a = r.1.1.0 in
      let node = r.1.1.1 in
      let one : node.0 ≡ lists_at x = same_Some node.0 (lists_at x) (sym node.1 ∙ list) in
      none a r.0.1 (subst (λ k. name_of (value_of k.own NAME) ≡ Some a) one node.2) r.1.1.2

  pub both-lemmas : (o : Option (List (ℕ × Sym))) → Each (λ c. HasLeaf t c.0.0) e.coanchors
      → MatchOption o ((lemmas : List (ℕ × Sym)) → AllZip (IsGiven t e) (co_leaves t) lemmas → ⊥) (AllZip (IsGiven t e) (co_leaves t)) → MatchOption o ((lemmas : List (ℕ × Sym)) → AreLemmas t e lemmas → ⊥) (AreLemmas t e)
  both-lemmas None taken h = λ lemmas are. h lemmas are.given
  both-lemmas (Some lemmas) taken h = record { given = h; taken = taken }
