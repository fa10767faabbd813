-- Rows of lexical trees, pair by pair.
use Rattle.std.specs.Prelude.{◌≡◌, ℕ, zero, suc, ◌+◌, ◌<◌, ◌≤◌, List, [], ◌∷◌, ◌++◌, length, map, take, Some, slice_get, ◌⊎◌, refl}
use Rattle.std.proofs.Common.{inl, inr, ap, subst, sym, ◌∙◌, arith}
use Rattle.std.proofs.lemmas.Bool.{cases_lt}
use Rattle.std.proofs.lemmas.Option.{none-some, same_Some, slice_get_within}
use Rattle.gr_base.specs.Lists.{IsAmong, Each}
use Rattle.gr_base.proofs.ListLemmas.{Each-append, Each-at, Each-members, IsAmong-append_left, IsAmong-new_one, IsAmong-slice_get, map-nil}
use Rattle.gr_terms.specs.Canonical.{map_literal}
use Rattle.gr_terms.specs.LiteralViews.{literal_of, literals_of}
use Rattle.gr_terms.specs.declared.Sym.{Sym}
use Rattle.td_tree.specs.declared.Tree.{Tree}
use Rattle.td_canon.specs.TreeSets.{trees_of}
use Rattle.td_canon.specs.declared.tree_set.ClassTrees.{ClassTrees}
use Rattle.tg_grammar.specs.Grammars.{IsClassNamed, LacksClass}
use Rattle.tg_grammar.proofs.GrammarLemmas.{Each-slice_get}
use Rattle.lx_lexicon.specs.declared.entry.Entry.{Entry}
use Rattle.tg_grammar.specs.NamedMarks.{HasNamedMarks, HaveNamedMarks}
use Rattle.tg_model.specs.LexicalTrees.{IsLexical}
use Rattle.tg_model.specs.declared.lexical.LexicalTree.{LexicalTree}
use Rattle.lx_anchor.specs.Anchoring.{AreLexicalTrees, HasLiteral, InOrder, IsAnchorRefusal, IsBare, IsLexicalTree, IsOfPair, IsPair, IsSooner, Makes, place_of}
use Rattle.lx_anchor.specs.Networks.{entry_term, tree_term}
use Rattle.lx_anchor.specs.Rows.{AreDone, IsRefused}
use Rattle.lx_anchor.specs.declared.refusal.AnchorRefusal.{AnchorRefusal}
use Rattle.lx_anchor.specs.declared.refusal.AnchorRefusal.TheVariants as refusal

-- ---- one family, one pair

taken-there : {A : Type 0} (xs : List A) (i j : ℕ) (x : A) → i < j → slice_get xs i ≡ Some x → IsAmong (take j xs) x
taken-there [] i j x lt at = absurd (none-some x at)
taken-there (y ∷ ys) i zero x lt at = absurd (omega arith)
taken-there (y ∷ ys) zero (suc j) x lt at = inl (sym (same_Some y x at))
taken-there (y ∷ ys) (suc i) (suc j) x lt at = inr (taken-there ys i j x (omega arith) at)

pub one-class : (classes : List ClassTrees) (name : Sym) (c d : ClassTrees) → IsClassNamed classes name c → IsClassNamed classes name d → c ≡ d
one-class classes name c d (i, h) (j, k) = elim (cases_lt i j) [
  | inl lt ↦ absurd (Each-at (λ x. x.class ≡ name → ⊥) (take j classes) c k.earlier (taken-there classes i j c lt h.here) h.named)
  | inr le ↦ elim (cases_lt j i) [
    | inl lt ↦ absurd (Each-at (λ x. x.class ≡ name → ⊥) (take i classes) d h.earlier (taken-there classes j i d lt k.here) k.named)
    | inr ge ↦ let same : i ≡ j = omega arith in same_Some c d (sym h.here ∙ ap (slice_get classes) same ∙ k.here)
  ]
]

pub no-class : (classes : List ClassTrees) (name : Sym) (c : ClassTrees) → LacksClass classes name → IsClassNamed classes name c → ⊥
no-class classes name c lacks (i, h) = Each-at (λ x. x.class ≡ name → ⊥) classes c lacks (IsAmong-slice_get classes i c h.here) h.named

-- ---- places

sooner-step : (m j n k : ℕ) → IsSooner (m, j) (n, k + 1) → IsSooner (m, j) (n, k) ⊎ ((m ≡ n) × (j ≡ k))
sooner-step m j n k (inl lt) = inl (inl lt)
sooner-step m j n k (inr (is, lt)) = elim (cases_lt j k) [ inl low ↦ inl (inr (is, low)) | inr le ↦ inr (is, omega arith) ]

sooner-later : (p : ℕ × ℕ) (n k : ℕ) → IsSooner p (n, suc k) → IsSooner p (n, suc (k + 1))
sooner-later p n k (inl lt) = inl lt
sooner-later p n k (inr (is, lt)) = inr (is, omega arith)

order-push : (ls : List LexicalTree) (l : LexicalTree) → InOrder ls → Each (λ m. IsSooner (place_of m) (place_of l)) ls → InOrder (ls ++ l ∷ [])
order-push [] l order before = (tt, tt)
order-push (m ∷ ls) l order before = (Each-append (λ x. IsSooner (place_of m) (place_of x)) ls (l ∷ []) order.0 (before.0, tt), order-push ls l order.1 before.1)

-- ---- literals of a lexical tree

append-empty : {A : Type 0} (xs ys : List A) → xs ++ ys ≡ [] → (xs ≡ []) × (ys ≡ [])
append-empty [] ys e = (refl, e)
append-empty (x ∷ xs) ys e = cc

module _ (classes : List ClassTrees) (es : List Entry) where
  -- nothing is before the first pair
  pub done-start : AreDone classes es 0 0 []
  done-start = record {
    order = tt;
    only = tt;
    before = tt;
    all = λ m j class t e pair makes h. absurd (none m j h);
    filled = λ m j class t e pair makes h bare. none m j h;
    literals = tt;
    lexical = λ named. tt;
  }
    where
      none : (m j : ℕ) → IsSooner (m, j) (0, 0) → ⊥
      none m j (inl lt) = omega arith
      none m j (inr (is, lt)) = omega arith

  -- all pairs are before one behind all entries
  pub done-all : (n : ℕ) (ls : List LexicalTree) → length es ≤ n → AreDone classes es n 0 ls → AreLexicalTrees classes es ls
  done-all n ls le h = record {
    order = h.order;
    only = h.only;
    all = λ m j class t e pair makes.
        let within : m < length es = slice_get_within es m e pair.entry in
        h.all m j class t e pair makes (inl (omega arith));
  }

  module _ (n : ℕ) (e : Entry) (at : slice_get es n ≡ Some e) where
    -- no pair of the entry is left
    next-entry : (k : ℕ) (ls : List LexicalTree) → ((j : ℕ) (class : ClassTrees) (t : Tree) (d : Entry) → IsPair classes es n j class t d → j < k) → AreDone classes es n k ls → AreDone classes es (n + 1) 0 ls
    next-entry k ls last h = record {
      order = h.order;
      only = h.only;
      before = Each-members (λ l. IsSooner (place_of l) (n + 1, 1)) ls (λ l i. later (place_of l) (Each-at (λ x. IsSooner (place_of x) (n, suc k)) ls l h.before i));
      all = λ m j class t d pair makes s. h.all m j class t d pair makes (back m j class t d pair s);
      filled = λ m j class t d pair makes s bare. h.filled m j class t d pair makes (back m j class t d pair s) bare;
      literals = h.literals;
      lexical = h.lexical;
    }
      where
        later : (p : ℕ × ℕ) → IsSooner p (n, suc k) → IsSooner p (n + 1, 1)
        later p (inl lt) = inl (omega arith)
        later p (inr (is, lt)) = inl (omega (arith, is))

        back : (m j : ℕ) (class : ClassTrees) (t : Tree) (d : Entry) → IsPair classes es m j class t d → IsSooner (m, j) (n + 1, 0) → IsSooner (m, j) (n, k)
        back m j class t d pair (inr (is, lt)) = absurd (omega arith)
        back m j class t d pair (inl lt) = elim (cases_lt m n) [
          | inl low ↦ inl low
          | inr le ↦ let same : m ≡ n = omega arith in inr (same, last j class t d (subst (λ i. IsPair classes es i j class t d) same pair))
        ]

    pub done-none : (ls : List LexicalTree) → LacksClass classes e.family → AreDone classes es n 0 ls → AreDone classes es (n + 1) 0 ls
    done-none ls lacks h = next-entry 0 ls (λ j class t d pair.
        let same : e ≡ d = same_Some e d (sym at ∙ pair.entry) in
        absurd (no-class classes e.family class lacks (subst (λ x. IsClassNamed classes x.family class) (sym same) pair.family))) h

    module _ (class : ClassTrees) (family : IsClassNamed classes e.family class) where
      -- a pair of the entry is the entry with a tree of its family
      pair-is : (k : ℕ) (other : ClassTrees) (t : Tree) (d : Entry) → IsPair classes es n k other t d → (other ≡ class) × (d ≡ e) × (slice_get (trees_of class.trees) k ≡ Some t)
      pair-is k other t d pair =
          let same : d ≡ e = same_Some d e (sym pair.entry ∙ at) in
          let one : other ≡ class = one-class classes e.family other class (subst (λ x. IsClassNamed classes x.family other) same pair.family) family in
          (one, same, subst (λ c. slice_get (trees_of c.trees) k ≡ Some t) one pair.tree)

      pub done-family : (k : ℕ) (ls : List LexicalTree) → length (trees_of class.trees) ≤ k → AreDone classes es n k ls → AreDone classes es (n + 1) 0 ls
      done-family k ls le h = next-entry k ls (λ j other t d pair.
          let within : j < length (trees_of class.trees) = slice_get_within (trees_of class.trees) j t (pair-is j other t d pair).2 in
          omega arith) h

      module _ (k : ℕ) (ls : List LexicalTree) (done : AreDone classes es n k ls) where
        pub done-skip : ((t : Tree) → slice_get (trees_of class.trees) k ≡ Some t → Makes t e → ⊥) → AreDone classes es n (k + 1) ls
        done-skip none = record {
          order = done.order;
          only = done.only;
          before = Each-members (λ l. IsSooner (place_of l) (n, suc (k + 1))) ls (λ l i. sooner-later (place_of l) n k (Each-at (λ x. IsSooner (place_of x) (n, suc k)) ls l done.before i));
          all = λ m j other t d pair makes s. elim (sooner-step m j n k s) [
            | inl h ↦ done.all m j other t d pair makes h
            | inr h ↦ absurd (here m j other t d pair makes h)
          ];
          filled = λ m j other t d pair makes s bare. elim (sooner-step m j n k s) [
            | inl h ↦ done.filled m j other t d pair makes h bare
            | inr h ↦ here m j other t d pair makes h
          ];
          literals = done.literals;
          lexical = done.lexical;
        }
          where
            here : (m j : ℕ) (other : ClassTrees) (t : Tree) (d : Entry) → IsPair classes es m j other t d → Makes t d → (m ≡ n) × (j ≡ k) → ⊥
            here m j other t d pair makes (a, b) =
                let moved : IsPair classes es n k other t d = subst (λ i. IsPair classes es i k other t d) a (subst (λ i. IsPair classes es m i other t d) b pair) in
                let r = pair-is k other t d moved in
                none t r.2 (subst (λ x. Makes t x) r.1 makes)

        module _ (t : Tree) (there : slice_get (trees_of class.trees) k ≡ Some t) (l : LexicalTree) (is : IsLexicalTree class.class k t n e l) (some : HasLiteral l) (lexical : HasNamedMarks t → IsLexical l) where
          this-pair : IsPair classes es n k class t e
          this-pair = record { entry = at; family = family; tree = there }

          place-is : place_of l ≡ (n, suc k)
          place-is = let a = is.entry in let b = is.number in λ i. (a i, b i)

          of-pair : IsOfPair classes es l
          of-pair = record { k = k; class = class; t = t; e = e; pair = subst (λ i. IsPair classes es i k class t e) (sym is.entry) this-pair; is = subst (λ i. IsLexicalTree class.class k t i e l) (sym is.entry) is }

          named-tree : HaveNamedMarks classes → HasNamedMarks t
          named-tree named =
              Each-slice_get HasNamedMarks (trees_of class.trees) k t (Each-slice_get (λ c. Each HasNamedMarks (trees_of c.trees)) classes family.0 class named family.1.here) there

          not-bare : IsBare t e → ⊥
          not-bare bare =
              let written = is.tree.written in
              let empty : literals_of l.tree.sem ≡ [] = is.tree.literals ∙ (λ i. map (map_literal written) (map (map_literal tree_term) (literals_of (bare.0 i)) ++ map (map_literal entry_term) (literals_of (bare.1 i)))) in
              some (map-nil literal_of l.tree.sem empty)

          pub done-push : AreDone classes es n (k + 1) (ls ++ l ∷ [])
          done-push = record {
            order = order-push ls l done.order (subst (λ p. Each (λ m. IsSooner (place_of m) p) ls) (sym place-is) done.before);
            only = Each-append (IsOfPair classes es) ls (l ∷ []) done.only (of-pair, tt);
            before = Each-append (λ m. IsSooner (place_of m) (n, suc (k + 1))) ls (l ∷ [])
                (Each-members (λ m. IsSooner (place_of m) (n, suc (k + 1))) ls (λ m i. sooner-later (place_of m) n k (Each-at (λ x. IsSooner (place_of x) (n, suc k)) ls m done.before i)))
                (subst (λ p. IsSooner p (n, suc (k + 1))) (sym place-is) (inr (refl, omega arith)), tt);
            all = λ m j other s d pair makes h. elim (sooner-step m j n k h) [
              | inl low ↦ let r = done.all m j other s d pair makes low in (r.0, IsAmong-append_left ls (l ∷ []) r.0 r.1, r.2)
              | inr (a, b) ↦ (l, IsAmong-new_one ls l, place-is ∙ (λ i. (sym a i, suc (sym b i))))
            ];
            filled = λ m j other s d pair makes h bare. elim (sooner-step m j n k h) [
              | inl low ↦ done.filled m j other s d pair makes low bare
              | inr (a, b) ↦ here m j other s d pair a b bare
            ];
            literals = Each-append HasLiteral ls (l ∷ []) done.literals (some, tt);
            lexical = λ named. Each-append IsLexical ls (l ∷ []) (done.lexical named) (lexical (named-tree named), tt);
          }
            where
              here : (m j : ℕ) (other : ClassTrees) (s : Tree) (d : Entry) → IsPair classes es m j other s d → m ≡ n → j ≡ k → IsBare s d → ⊥
              here m j other s d pair a b bare =
                  let moved : IsPair classes es n k other s d = subst (λ i. IsPair classes es i k other s d) a (subst (λ i. IsPair classes es m i other s d) b pair) in
                  let r = pair-is k other s d moved in
                  let tree : s ≡ t = same_Some s t (sym r.2 ∙ there) in
                  not-bare (subst (λ x. IsBare t x) r.1 (subst (λ x. IsBare x d) tree bare))

        pub refused : (r : AnchorRefusal) → IsRefused class k e r → IsAnchorRefusal classes es r
        refused (refusal.NoLiteral lemma name number) h = record {
          n = n;
          k = k;
          of = class;
          t = h.t;
          e = e;
          pair = record { entry = at; family = family; tree = h.tree };
          makes = h.makes;
          bare = h.bare;
          lemma_is = h.lemma_is;
          class_is = h.class_is;
          number_is = h.number_is;
          earlier = λ m j other s d pair makes sooner bare. done.filled m j other s d pair makes sooner bare;
        }
        refused refusal.Memory h = tt
