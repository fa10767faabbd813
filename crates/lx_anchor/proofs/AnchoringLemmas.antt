-- A store that serves an entry, and the lexical tree of a tree and an entry.
use Rattle.std.specs.Prelude.{◌≡◌, ◌≢◌, ℕ, zero, suc, ◌+◌, ◌-◌, ◌^◌, ◌<◌, ◌≤◌, List, [], ◌∷◌, ◌++◌, length, map, Some, None, slice_get, refl}
use Rattle.std.specs.List.{AllZip}
use Rattle.std.proofs.Common.{inl, ap, ap₂, subst, sym, ◌∙◌, arith}
use Rattle.std.proofs.lemmas.Option.{same_Some, slice_get_within}
use Rattle.std.proofs.lemmas.List.{length-map}
use Rattle.gr_base.specs.Lists.{IsAmong, Each}
use Rattle.gr_base.proofs.ListLemmas.{IsAmong-map, map-nil}
use Rattle.gr_terms.specs.Canonical.{map_literal}
use Rattle.gr_terms.specs.Constants.{ANCHOR, COANCHOR}
use Rattle.gr_terms.specs.LiteralViews.{literal_of, literals_of}
use Rattle.gr_terms.specs.Networks.{Agrees, equated}
use Rattle.gr_terms.specs.Views.{assertion_of, network_of}
use Rattle.gr_terms.specs.declared.Assertion.{Assertion}
use Rattle.gr_terms.specs.declared.Assertion.TheVariants.{Equate}
use Rattle.gr_terms.specs.declared.Literal.{Literal}
use Rattle.gr_terms.specs.declared.Sym.{Sym}
use Rattle.gr_terms.specs.declared.Term.{Term}
use Rattle.gr_terms.specs.declared.Term.TheVariants.{Const, Var}
use Rattle.gr_store.specs.Contents.{Contents, IsMade, mark_of}
use Rattle.gr_store.specs.declared.room.Mark.{Mark}
use Rattle.gr_store.specs.declared.room.Room.{Room}
use Rattle.gr_feats.specs.Loading.{counted_from}
use Rattle.td_tree.specs.Trees.{AreTreeNodes}
use Rattle.td_tree.specs.declared.Tree.{Tree}
use Rattle.td_tree.specs.declared.TreeNode.{TreeNode}
use Rattle.td_canon.specs.TreeSets.{Entry as SetEntry, trees_of}
use Rattle.td_canon.specs.declared.tree_set.ClassTrees.{ClassTrees}
use Rattle.tg_grammar.specs.Marks.{is_marked, marked, node_lists}
use Rattle.tg_grammar.specs.Shapes.{IsWellFormedTree}
use Rattle.lx_lexicon.specs.declared.entry.Entry.{Entry}
use Rattle.tg_grammar.specs.NamedMarks.{HasNamedMarks}
use Rattle.tg_model.specs.DenseTrees.{IsDense}
use Rattle.tg_model.specs.LexicalTrees.{IsLexical}
use Rattle.tg_model.specs.declared.lexical.LexicalTree.{LexicalTree}
use Rattle.lx_anchor.specs.Anchoring.{AreLemmas, HasLiteral, IsAnchorRefusal, IsGiven, IsLexicalTree, Makes, co_leaves}
use Rattle.lx_anchor.specs.Counts.{HasFewFeatures, IsEntryBelow, IsLiteralBelow}
use Rattle.lx_anchor.specs.Networks.{anchored_network, anchored_tree, entry_term, tree_term}
use Rattle.lx_anchor.specs.TreesOver.{IsTreeOver}
use Rattle.lx_anchor.specs.Rows.{AreDone, IsAnchored, IsBarePair, IsFamily, IsFound, IsRefused}
use Rattle.lx_anchor.specs.Sharing.{AreEquations, CanServeAll, HasRoom, counted_pairs}
use Rattle.lx_anchor.specs.declared.refusal.AnchorRefusal.{AnchorRefusal}
use Rattle.lx_anchor.specs.Writings.{IsReady, counted_literals}
use Rattle.lx_anchor.proofs.CountLemmas.{bag-grows, tree-grows}
use Rattle.lx_anchor.proofs.Marking.{number-there}
use Rattle.lx_anchor.proofs.RowLemmas.{done-family, done-push, done-skip, refused}
use Rattle.lx_anchor.proofs.SharingLemmas.{anchor-added, iface-added}

-- ---- the anchor is a node

pub anchor-within : (t : Tree) (anchor : ℕ) → marked ANCHOR (node_lists t.nodes) ≡ anchor ∷ [] → anchor < length t.nodes
anchor-within t anchor one =
    let r = number-there 0 (is_marked ANCHOR) (node_lists t.nodes) anchor (subst (λ ks. IsAmong ks anchor) (sym one) (inl refl)) in
    let within : r.0 < length (node_lists t.nodes) = slice_get_within (node_lists t.nodes) r.0 r.2.0 r.2.1 in
    omega (arith, r.1, within, as_long t.nodes)
  where
    as_long : (xs : List TreeNode) → length (node_lists xs) ≡ length xs
    as_long [] = refl
    as_long (x ∷ xs) = ap suc (as_long xs)

-- ---- what writing wants

made-counted : (first count vars : ℕ) (x : Term) → first + count ≤ vars → IsMade count x → IsMade vars (counted_from first x)
made-counted first count vars (Const p) le h = omega arith
made-counted first count vars (Var v) le h = omega arith

args-counted : (first count vars : ℕ) (xs : List Term) → first + count ≤ vars → Each (IsMade count) xs → Each (IsMade vars) (map (counted_from first) xs)
args-counted first count vars [] le h = tt
args-counted first count vars (x ∷ xs) le h = (made-counted first count vars x le h.0, args-counted first count vars xs le h.1)

literals-counted : (first count vars : ℕ) (ls : List Literal) → first + count ≤ vars → Each (IsLiteralBelow count) ls → Each (IsLiteralBelow vars) (counted_literals first ls)
literals-counted first count vars [] le h = tt
literals-counted first count vars (l ∷ ls) le h = (
  record { handle = made-counted first count vars l.handle le h.0.handle; pred = made-counted first count vars l.pred le h.0.pred; args = args-counted first count vars l.args le h.0.args },
  literals-counted first count vars ls le h.1,
)

pub is-ready : (t : Tree) (e : Entry) (first anchor : ℕ) (old : Contents) (m : Mark) (E : List Assertion) → HasRoom t e first old → m ≡ mark_of old → m.vars < 2 ^ 32 → AreEquations t e first anchor E → IsReady (network_of E) t e first anchor
is-ready t e first anchor old m E room is fits equations =
    let vars : m.vars ≡ old.vars = ap (λ (n : Mark). n.vars) is in
    let made : first + room.serves.count ≤ old.vars = room.serves.made in
    let small : old.vars ≤ 4294967295 = omega arith in
    record {
      tree = tree-grows first 4294967295 t (omega arith) room.tree;
      iface = bag-grows old.vars 4294967295 (counted_pairs first e.iface) small (iface-added t e first anchor old room);
      anchor_bag = bag-grows old.vars 4294967295 (counted_pairs first e.anchor) small (anchor-added t e first anchor old room old (omega arith));
      sem = literals-counted first room.serves.count 4294967295 e.sem (omega arith) room.serves.entry.sem;
      interface = λ attr x y i j. equated _ _ (IsAmong-map assertion_of E (Equate x y) (equations.interface attr x y i j));
      bottom = λ node at attr x y i j. equated _ _ (IsAmong-map assertion_of E (Equate x y) (equations.bottom node at attr x y i j));
    }

-- ---- the store

pub serves-all : (es : List Entry) (first count : ℕ) (c : Contents) → Each (IsEntryBelow count) es → Each (HasFewFeatures c.spare.assertions) es → first + count ≤ c.vars → c.accepted ≡ [] → CanServeAll es first c
serves-all [] first count c below few made none = tt
serves-all (e ∷ es) first count c below few made none = (
  record { count = count; made = made; entry = below.0; equations = few.0; none = none },
  serves-all es first count c below.1 few.1 made none,
)

pub store-serves : (es : List Entry) (first count vars : ℕ) (room : Room) (empty made : Contents) → Each (IsEntryBelow count) es → Each (HasFewFeatures room.assertions) es → vars ≡ first + count
    → empty ≡ record { vars = 0; slots = 0; accepted = []; spare = room } → made ≡ record empty { vars = empty.vars + vars; spare = record empty.spare { vars = empty.spare.vars - vars } } → CanServeAll es first made
store-serves es first count vars room empty made below few is made-empty made-vars =
    let all : made ≡ record { vars = 0 + vars; slots = 0; accepted = []; spare = record room { vars = room.vars - vars } } =
    made-vars ∙ ap (λ (c : Contents). record c { vars = c.vars + vars; spare = record c.spare { vars = c.spare.vars - vars } }) made-empty
    in
    let v : made.vars ≡ 0 + vars = ap (λ (c : Contents). c.vars) all in
    serves-all es first count made below (subst (λ k. Each (HasFewFeatures k) es) (sym (ap (λ (c : Contents). c.spare.assertions) all)) few) (omega arith) (ap (λ (c : Contents). c.accepted) all)

-- ---- a lexical tree

zip-numbers : (t : Tree) (e : Entry) (ns : List ℕ) (ls : List (ℕ × Sym)) → AllZip (IsGiven t e) ns ls → map (λ (c : ℕ × Sym). c.0) ls ≡ ns
zip-numbers t e [] [] h = refl
zip-numbers t e [] (l ∷ ls) h = absurd h
zip-numbers t e (n ∷ ns) [] h = absurd h
zip-numbers t e (n ∷ ns) (l ∷ ls) h = ap₂ (λ k ks. k ∷ ks) h.0.0 (zip-numbers t e ns ls h.1)

append-empty : {A : Type 0} (xs ys : List A) → xs ++ ys ≡ [] → (xs ≡ []) × (ys ≡ [])
append-empty [] ys h = (refl, h)
append-empty (x ∷ xs) ys h = cc

no-items : {A : Type 0} (xs : List A) → length xs ≡ 0 → xs ≡ []
no-items [] h = refl
no-items (x ∷ xs) h = absurd (omega (arith, h))

module _ (class : ClassTrees) (at n : ℕ) (t : Tree) (e : Entry) (there : slice_get (trees_of class.trees) at ≡ Some t) (well : IsWellFormedTree t) where
  -- the tree that stands at the place
  the-tree : (P : Tree → Type 0) → P t → (s : Tree) → slice_get (trees_of class.trees) at ≡ Some s → P s
  the-tree P h s here = subst P (same_Some t s (sym there ∙ here)) h

  pub none-by_lemmas : ((lemmas : List (ℕ × Sym)) → AreLemmas t e lemmas → ⊥) → IsFound class at n e None
  none-by_lemmas none = the-tree (λ s. Makes s e → ⊥) (λ makes. none makes.lemmas makes.are)

  pub none-by_network : ((nodes : AreTreeNodes t.nodes) → Agrees (anchored_network nodes.forest t e) → ⊥) → IsFound class at n e None
  none-by_network none = the-tree (λ s. Makes s e → ⊥) (λ makes. none makes.nodes makes.agrees)

  module _ (lemmas : List (ℕ × Sym)) (are : AreLemmas t e lemmas) (new : Tree) (anchored : IsAnchored t e (Some new)) where
    makes : Makes t e
    makes = record { lemmas = lemmas; are = are; nodes = well.nodes; agrees = anchored.0.agrees well.nodes }

    pub found : (l : LexicalTree) → l.entry ≡ n → l.class ≡ class.class → l.number ≡ at + 1 → l.lemma ≡ e.lemma → l.coanchors ≡ lemmas → l.tree ≡ new → length new.sem ≢ 0 → IsFound class at n e (Some l)
    unfolding makes
    found l entry named number lemma coanchors tree some =
        the-tree (λ s. IsLexicalTree class.class at s n e l × HasLiteral l × (HasNamedMarks s → IsLexical l)) (
          record {
            makes = makes;
            entry = entry;
            class_is = named;
            number = number ∙ (let next : at + 1 ≡ suc at = omega arith in next);
            lemma = lemma;
            coanchors = coanchors;
            tree = subst (λ u. IsTreeOver (anchored_network well.nodes.forest t e) (anchored_tree well.nodes.forest t e) u) (sym tree) (anchored.0.over well.nodes);
            dense = subst IsDense (sym tree) anchored.1;
          },
          λ none. some (ap length (sym (ap (λ (u : Tree). u.sem) tree) ∙ none)),
          λ named. record {
            well_formed = subst IsWellFormedTree (sym tree) (anchored.0.well_formed named);
            named = subst HasNamedMarks (sym tree) (anchored.0.named named);
            literal = λ none. some (ap length (sym (ap (λ (u : Tree). u.sem) tree) ∙ none));
            coanchors = ap (map (λ (c : ℕ × Sym). c.0)) coanchors ∙ zip-numbers t e (co_leaves t) lemmas are.given ∙ sym (anchored.0.leaves named) ∙ ap (λ (u : Tree). marked COANCHOR (node_lists u.nodes)) (sym tree);
          },
        )

    pub bare-pair : (lemma name : Sym) (number : ℕ) → length new.sem ≡ 0 → lemma ≡ e.lemma → name ≡ class.class → number ≡ at + 1 → IsBarePair class at e lemma name number
    bare-pair lemma name number none lemma-is name-is number-is =
        let empty : new.sem ≡ [] = no-items new.sem none in
        let over = anchored.0.over well.nodes in
        let written-empty = sym over.literals ∙ ap literals_of empty in
        let parts = append-empty (map (map_literal tree_term) (literals_of t.sem)) (map (map_literal entry_term) (literals_of e.sem)) (map-nil (map_literal over.written) _ written-empty) in
        record {
          t = t;
          tree = there;
          makes = makes;
          bare = (map-nil literal_of t.sem (map-nil (map_literal tree_term) (literals_of t.sem) parts.0), map-nil literal_of e.sem (map-nil (map_literal entry_term) (literals_of e.sem) parts.1));
          lemma_is = lemma-is;
          class_is = name-is;
          number_is = number-is ∙ (let next : at + 1 ≡ suc at = omega arith in next);
        }

-- ---- the rows of a family

there-is : {A B : Type 0} (f : A → B) (xs : List A) (i : ℕ) → i < length xs → (y : B) × (slice_get (map f xs) i ≡ Some y)
there-is f [] i lt = absurd (omega (arith, lt))
there-is f (x ∷ xs) zero lt = (f x, refl)
there-is f (x ∷ xs) (suc i) lt = there-is f xs i (omega (arith, lt))

module _ (classes : List ClassTrees) (es : List Entry) (n m : ℕ) (e : Entry) (at : slice_get es n ≡ Some e) (is : m ≡ n) (class : ClassTrees) (family : IsFamily classes es n class) (k : ℕ) (ls : List LexicalTree) (done : AreDone classes es n k ls) where
  pub family-skip : IsFound class k m e None → AreDone classes es n (k + 1) ls
  family-skip none = done-skip classes es n e at class (family e at) k ls done none

  pub family-push : (l : LexicalTree) (new : List LexicalTree) → k < length class.trees → IsFound class k m e (Some l) → new ≡ ls ++ l ∷ [] → AreDone classes es n (k + 1) new
  family-push l new within found are =
      let there = there-is (λ (x : SetEntry). x.tree) class.trees k within in
      let both = subst (λ i. IsLexicalTree class.class k there.0 i e l × HasLiteral l × (HasNamedMarks there.0 → IsLexical l)) is (found there.0 there.1) in
      subst (λ xs. AreDone classes es n (k + 1) xs) (sym are) (done-push classes es n e at class (family e at) k ls done there.0 there.1 l both.0 both.1 both.2)

  pub family-all : length class.trees ≤ k → AreDone classes es (n + 1) 0 ls
  family-all le = done-family classes es n e at class (family e at) k ls (omega (arith, length-map class.trees (λ (x : SetEntry). x.tree), le)) done

  pub family-refused : (r : AnchorRefusal) → IsRefused class k e r → IsAnchorRefusal classes es r
  family-refused r h = refused classes es n e at class (family e at) k ls done r h
