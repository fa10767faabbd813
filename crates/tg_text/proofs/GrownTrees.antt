-- What was read stays right as the table of texts grows.
use Rattle.std.specs.Prelude.{◌≡◌, ℕ, ◌<◌, List, [], ◌∷◌, map, length, refl}
use Rattle.std.proofs.Common.{sym, ◌∙◌, subst}
use Rattle.gr_base.specs.Lists.{Each, NoneTwice}
use Rattle.gr_symbols.specs.Numbers.{Grows}
use Rattle.gr_symbols.proofs.NumberLemmas.{Names-grows, Names-within}
use Rattle.gr_terms.specs.declared.Literal.{Literal}
use Rattle.gr_terms.specs.declared.Sym.{Sym}
use Rattle.gr_terms.specs.declared.Term.{Term}
use Rattle.gr_terms.specs.declared.Term.TheVariants.{Const, Var}
use Rattle.td_tree.specs.declared.Tree.{Tree}
use Rattle.td_tree.specs.declared.TreeNode.{TreeNode}
use Rattle.td_canon.specs.CanonicalTexts.{HasText, IsNamedLiteral, IsNamedNode, IsNamedTerm, IsNamedTree, text_in}
use Rattle.td_canon.specs.TreeSets.{Entry, trees_of}
use Rattle.td_canon.specs.declared.tree_set.ClassTrees.{ClassTrees}
use Rattle.td_canon.proofs.GrowthLemmas.{set_stays}
use Rattle.td_canon.proofs.OrderLemmas.{text_named}
use Rattle.td_canon.proofs.ValueLemmas.{text_in-names}
use Rattle.tg_reader.specs.Writable.{IsName, IsWord, IsWritableLiteral, IsWritableNode, IsWritableOwn, IsWritablePair, IsWritableTerm, IsWritableTree}
use Rattle.tg_text.specs.Answers.{IsReadClass}
use Rattle.tg_text.specs.GrammarText.{class_text_of}
use Rattle.tg_text.specs.Reading.{AreReadTrees}

module _ (old new : List (List ℕ)) (grows : Grows old new) where
  -- a number that was there has the text that it had
  pub text_there : (n : ℕ) → n < length old → text_in new n ≡ text_in old n
  text_there n h = text_in-names new n (text_in old n) (Names-grows old new n (text_in old n) (text_named old n h) grows)

  pub number_there : (n : ℕ) → n < length old → n < length new
  number_there n h = Names-within new n (text_in old n) (Names-grows old new n (text_in old n) (text_named old n h) grows)

  term_stays : (v : Term) → IsNamedTerm (length old) v → IsWritableTerm old v → IsWritableTerm new v
  term_stays (Const s) named h = subst (λ t. IsName t) (sym (text_there s.0 named)) h
  term_stays (Var v) named h = tt

  pair_stays : (p : Sym × Term) → (p.0.0 < length old) × IsNamedTerm (length old) p.1 → IsWritablePair old p → IsWritablePair new p
  pair_stays p named h = record { attribute = subst (λ t. IsWord t) (sym (text_there p.0.0 named.0)) h.attribute; value = term_stays p.1 named.1 h.value }

  own_stays : (p : Sym × Term) → (p.0.0 < length old) × IsNamedTerm (length old) p.1 → IsWritableOwn old p → IsWritableOwn new p
  own_stays p named h = record { pair = pair_stays p named h.pair; uncoloured = λ e. h.uncoloured (sym (text_there p.0.0 named.0) ∙ e); mark = h.mark }

  each_stays : {X : Type 0} (N P Q : X → Type 0) → ((x : X) → N x → P x → Q x) → (xs : List X) → Each N xs → Each P xs → Each Q xs
  each_stays N P Q step [] n h = tt
  each_stays N P Q step (x ∷ xs) n h = (step x n.0 h.0, each_stays N P Q step xs n.1 h.1)

  node_stays : (n : TreeNode) → IsNamedNode (length old) n → IsWritableNode old n → IsWritableNode new n
  node_stays n named h = record {
    own = each_stays (λ p. (p.0.0 < length old) × IsNamedTerm (length old) p.1) (IsWritableOwn old) (IsWritableOwn new) own_stays n.own named.own h.own;
    top = each_stays (λ p. (p.0.0 < length old) × IsNamedTerm (length old) p.1) (IsWritablePair old) (IsWritablePair new) pair_stays n.top named.top h.top;
    bot = each_stays (λ p. (p.0.0 < length old) × IsNamedTerm (length old) p.1) (IsWritablePair old) (IsWritablePair new) pair_stays n.bot named.bot h.bot;
  }

  literal_stays : (l : Literal) → IsNamedLiteral (length old) l → IsWritableLiteral old l → IsWritableLiteral new l
  literal_stays l named h = record {
    handle = term_stays l.handle named.handle h.handle;
    pred = term_stays l.pred named.pred h.pred;
    args = each_stays (IsNamedTerm (length old)) (IsWritableTerm old) (IsWritableTerm new) term_stays l.args named.args h.args;
  }

  tree_stays : (t : Tree) → IsNamedTree (length old) t → IsWritableTree old t → IsWritableTree new t
  tree_stays t named h = record {
    nodes = each_stays (IsNamedNode (length old)) (IsWritableNode old) (IsWritableNode new) node_stays t.nodes named.nodes h.nodes;
    iface = each_stays (λ p. (p.0.0 < length old) × IsNamedTerm (length old) p.1) (IsWritablePair old) (IsWritablePair new) pair_stays t.iface named.iface h.iface;
    sem = each_stays (IsNamedLiteral (length old)) (IsWritableLiteral old) (IsWritableLiteral new) literal_stays t.sem named.sem h.sem;
  }

  writable_stays : (set : List Entry) → Each (λ (e : Entry). HasText old e.tree e.text) set → Each (IsWritableTree old) (trees_of set) → Each (IsWritableTree new) (trees_of set)
  writable_stays [] texts h = tt
  writable_stays (e ∷ set) texts h = (tree_stays e.tree texts.0.named h.0, writable_stays set texts.1 h.1)

  -- trees stay those that were read
  pub trees_stay : NoneTwice new → (set : List Entry) → AreReadTrees old set → AreReadTrees new set
  trees_stay once set h = record { whole = set_stays old new set once grows h.whole; writable = writable_stays set h.whole.texts_are h.writable }

  pub class_stays : NoneTwice new → (c : ClassTrees) → IsReadClass old c → IsReadClass new c
  class_stays once c h =
      let trees = trees_stay once c.trees (record { whole = h.whole; writable = h.writable }) in
      record { named = number_there c.class.0 h.named; word = subst (λ t. IsWord t) (sym (text_there c.class.0 h.named)) h.word; whole = trees.whole; writable = trees.writable }

  pub classes_stay : NoneTwice new → (cs : List ClassTrees) → Each (IsReadClass old) cs → Each (IsReadClass new) cs
  classes_stay once [] h = tt
  classes_stay once (c ∷ cs) h = (class_stays once c h.0, classes_stay once cs h.1)

  -- and what is written of them is the same
  pub written_stays : (cs : List ClassTrees) → Each (IsReadClass old) cs → map (class_text_of new) cs ≡ map (class_text_of old) cs
  written_stays [] h = refl
  written_stays (c ∷ cs) h =
      let name : text_in new c.class.0 ≡ text_in old c.class.0 = text_there c.class.0 h.0.named in
      let rest : map (class_text_of new) cs ≡ map (class_text_of old) cs = written_stays cs h.1 in
      λ i. record (class_text_of old c) { name = name i } ∷ rest i
