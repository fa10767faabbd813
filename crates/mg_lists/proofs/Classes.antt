-- Classes that were compiled or read: they can be written, have different names, and no variable as a mark.
use Rattle.std.specs.Prelude.{◌≡◌, ℕ, ◌<◌, List, [], ◌∷◌, map, length, Bool, true, false, not, cond, ◌==◌, refl}
use Rattle.std.specs.List.{filter}
use Rattle.std.proofs.Common.{inl, inr, ap, sym, ◌∙◌, subst}
use Rattle.std.proofs.lemmas.Bool.{false≢true}
use Rattle.std.proofs.lemmas.Bool.Decides.{Decides-eqb}
use Rattle.gr_base.specs.Lists.{IsAmong, NoneTwice, Each, gathered}
use Rattle.gr_base.proofs.ListLemmas.{Each-at, Each-map, Each-members, Each-weaker}
use Rattle.gr_symbols.specs.Numbers.{Grows}
use Rattle.gr_terms.specs.Constants.{MARK}
use Rattle.gr_terms.specs.Networks as net
use Rattle.gr_terms.specs.Networks.{variable}
use Rattle.gr_terms.specs.Views.{term_of}
use Rattle.gr_terms.specs.declared.Sym.{Sym}
use Rattle.gr_terms.specs.declared.Term.{Term}
use Rattle.gr_terms.specs.declared.Term.TheVariants.{Const, Var}
use Rattle.mg_syntax.specs.declared.item.Item.{Item}
use Rattle.mg_reader.specs.Answers.{IsMetagrammar}
use Rattle.mg_scope.specs.Classes.{firsts, valuation}
use Rattle.mg_scope.proofs.ClassLemmas.{class_of-stands}
use Rattle.mg_expand.specs.Items.{expansion_said}
use Rattle.td_canon.specs.TreeSets.{Entry, trees_of}
use Rattle.td_canon.specs.CanonicalTexts.{text_in, HasText}
use Rattle.td_canon.specs.declared.tree_set.ClassTrees.{ClassTrees}
use Rattle.td_tree.specs.declared.TreeNode.{TreeNode}
use Rattle.tg_grammar.specs.Marks.{lists_at}
use Rattle.tg_reader.specs.Writable.{IsMark, IsTable, IsWord, IsWritableNode, IsWritableOwn, IsWritableTree}
use Rattle.tg_text.specs.Answers.{IsReadClass}
use Rattle.mg_compile.specs.Compiled.{IsCompiledTree}
use Rattle.mg_lists.specs.CompiledClasses.{AreCompiled, IsCompiledClass}
use Rattle.tg_grammar.specs.NamedMarks.{IsNamedMark, HasNamedMarks, HaveNamedMarks}
use Rattle.tg_grammar.proofs.MarkLemmas.{value_there}
use Rattle.mg_lists.proofs.Spelled.{IsFineClass, IsKnownItem}
use Rattle.mg_lists.proofs.Walks.{all_items, class_known, expansion_fine}
use Rattle.mg_lists.proofs.ModelForms.{model_form_fine}
use Rattle.mg_lists.proofs.FormTrees.{tree_writable}

-- ---- no class is valued twice

filter_within : {A : Type 0} (test : A → Bool) (xs : List A) (y : A) → IsAmong (filter test xs) y → IsAmong xs y × (test y ≡ true)
filter_within test [] y i = absurd i
filter_within {A} test (x ∷ xs) y i = by (test x) refl i (filter_within test xs y)
  where
    by : (b : Bool) → test x ≡ b → IsAmong (cond b (x ∷ filter test xs) (filter test xs)) y → (IsAmong (filter test xs) y → IsAmong xs y × (test y ≡ true)) → IsAmong (x ∷ xs) y × (test y ≡ true)
    by true e (inl same) later = (inl same, ap test same ∙ e)
    by true e (inr j) later = let r = later j in (inr r.0, r.1)
    by false e j later = let r = later j in (inr r.0, r.1)

filter_once : {A : Type 0} (test : A → Bool) (xs : List A) → NoneTwice xs → NoneTwice (filter test xs)
filter_once test [] once = tt
filter_once {A} test (x ∷ xs) once = by (test x) (filter_once test xs once.1)
  where
    by : (b : Bool) → NoneTwice (filter test xs) → NoneTwice (cond b (x ∷ filter test xs) (filter test xs))
    by true rest = (λ i. once.0 (filter_within test xs x i).0, rest)
    by false rest = rest

pub firsts_once : (xs : List Sym) → NoneTwice (firsts xs)
firsts_once [] = tt
firsts_once (x ∷ xs) = (
  λ i.
      let kept : not (x.0 == x.0) ≡ true = (filter_within (λ (y : Sym). not (y.0 == x.0)) (firsts xs) x i).1 in
      false≢true (sym (ap not ((Decides-eqb x.0 x.0).1 refl)) ∙ kept),
  filter_once (λ (y : Sym). not (y.0 == x.0)) (firsts xs) (firsts_once xs),
)

-- ---- compiled classes can be written

module _ (texts : List (List ℕ)) (table : IsTable texts) (m : List Item) (items : Each (IsKnownItem texts) m) where
  compiled_tree_writable : (c : Sym) (e : Entry) → HasText texts e.tree e.text → IsCompiledTree texts m c e → IsWritableTree texts e.tree
  compiled_tree_writable c e has (w, d, expansion, describes, solution) =
      let s = solution.entry in
      tree_writable texts e.tree has.listed s.nodes s.form s.of_tree
      (model_form_fine texts (expansion_said m w) (expansion_fine texts table m items c w expansion) d describes.1 solution.forest solution.minimal s.form s.of_model)

  pub compiled_class_read : (t : ClassTrees) → IsCompiledClass texts m t → IsReadClass texts t
  compiled_class_read t compiled =
      let there = compiled.there in
      let named = (class_of-stands m t.class there.0 there.1).1 in
      let known : IsFineClass texts there.0 = class_known texts table m items t.class there.0 there.1 in
      record {
        named = subst (λ (s : Sym). s.0 < length texts) named known.named;
        word = subst (λ (s : Sym). IsWord (text_in texts s.0)) named known.word;
        whole = compiled.whole;
        writable = Each-map (λ (e : Entry). e.tree) (IsWritableTree texts) t.trees
            (Each-members (λ (e : Entry). IsWritableTree texts e.tree) t.trees (λ e i.
            compiled_tree_writable t.class e (Each-at (λ e. HasText texts e.tree e.text) t.trees e compiled.whole.texts_are i) (Each-at (IsCompiledTree texts m t.class) t.trees e compiled.trees i)));
      }

pub compiled_is_read : (bytes : List ℕ) (texts later : List (List ℕ)) (m : List Item) (t : ClassTrees) → IsTable later → Grows texts later → IsMetagrammar bytes texts m → IsCompiledClass later m t → IsReadClass later t
compiled_is_read bytes texts later m t table grows g compiled = compiled_class_read later table m (all_items bytes texts later m table grows g) t compiled

-- ---- marks

named_mark : (texts : List (List ℕ)) (n : TreeNode) → IsWritableNode texts n → IsNamedMark (lists_at n)
named_mark texts n h v e =
    let r = value_there n.own MARK (variable v) e in
    let own : IsWritableOwn texts (record { 0 = MARK }, r.0) = Each-at (IsWritableOwn texts) n.own (record { 0 = MARK }, r.0) h.own r.1 in
    by r.0 (own.mark refl) r.2
  where
    by : (y : Term) → IsMark y → variable v ≡ term_of y → ⊥
    by (Const s) k same = absurd cc
    by (Var y) k same = k

pub read_marks : (texts : List (List ℕ)) (classes : List ClassTrees) → Each (IsReadClass texts) classes → HaveNamedMarks classes
read_marks texts [] h = tt
read_marks texts (c ∷ classes) h = (
  Each-members HasNamedMarks (trees_of c.trees) (λ t i.
      let w : IsWritableTree texts t = Each-at (IsWritableTree texts) (trees_of c.trees) t h.0.writable i in
      Each-map lists_at IsNamedMark t.nodes (Each-members (λ n. IsNamedMark (lists_at n)) t.nodes (λ n j. named_mark texts n (Each-at (IsWritableNode texts) t.nodes n w.nodes j)))),
  read_marks texts classes h.1,
)

-- ---- and are read back

pub all_read : (bytes : List ℕ) (texts later : List (List ℕ)) (m : List Item) (classes : List ClassTrees) → IsTable later → Grows texts later → IsMetagrammar bytes texts m → Each (IsCompiledClass later m) classes → Each (IsReadClass later) classes
all_read bytes texts later m classes table grows g each = Each-weaker (IsCompiledClass later m) (IsReadClass later) (λ t. compiled_is_read bytes texts later m t table grows g) classes each

pub compiled_once : (texts : List (List ℕ)) (m : List Item) (classes : List ClassTrees) → AreCompiled texts m classes → NoneTwice (map (λ (c : ClassTrees). c.class) classes)
compiled_once texts m classes compiled = subst NoneTwice (sym compiled.valued) (firsts_once (gathered valuation m))
