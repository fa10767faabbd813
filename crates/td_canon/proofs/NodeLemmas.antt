-- The parts of a node's text: bags, category and properties.
use Rattle.std.specs.Prelude.{◌≡◌, ℕ, ◌<◌, ◌≤◌, Bool, true, false, ◌==◌, List, [], ◌∷◌, ◌++◌, map, drop, length, codes, Option, Some, None, if◌then◌else◌, MatchOption, refl}
use Rattle.std.proofs.Common.{inl, inr, ap, ap₂, sym, ◌∙◌, subst, arith}
use Rattle.std.proofs.lemmas.Bool.{false≢true}
use Rattle.std.proofs.lemmas.Bool.Decides.{Decides-eqb}
use Rattle.gr_base.specs.Lists.{IsAmong, Each, NoneTwice}
use Rattle.gr_base.proofs.ListLemmas.{Each-at, Each-members, IsAmong-map}
use Rattle.gr_terms.specs.Bags.{IsListed, LacksAttribute}
use Rattle.gr_terms.specs.BagViews.{pairs_of}
use Rattle.gr_terms.specs.Canonical.{Label, category, properties}
use Rattle.gr_terms.specs.Constants.{CAT}
use Rattle.gr_terms.specs.Networks.{Term}
use Rattle.gr_terms.specs.Views.{term_of}
use Rattle.gr_terms.specs.declared.Sym.{Sym}
use Rattle.gr_terms.specs.declared.Term.{Term as Value}
use Rattle.td_tree.specs.Trees.{BagPairs}
use Rattle.td_tree.specs.TreeViews.{Pairs, lists_of}
use Rattle.td_tree.specs.declared.TreeNode.{TreeNode}
use Rattle.td_canon.specs.CanonicalTexts.{IsNamedBag, IsNamedNode, IsNamedTerm, text_in}
use Rattle.td_canon.specs.TreeText.{category_text, enclosed, label_text, node_text, pair_texts}
use Rattle.td_canon.specs.Writing.{IsNamedSome, TextPairs, Writes, WritesPairs, Written, before_properties, by_text, category_in, form_node, in_order, labelled, node_terms, pair_values, properties_in, put_in_order, is_before, AreOrderedBags, IsOrderedBag, slots_of, some_terms, values_in, written_pairs}
use Rattle.td_canon.proofs.OrderLemmas.{in_order-order, in_order-within}
use Rattle.td_canon.proofs.SortLemmas.{once_by_text}
use Rattle.td_canon.proofs.WritesLemmas.{Writes-as, Writes-then}

-- ---- pairs by their texts are the pairs with labels

values-by_text : (text : ℕ → List ℕ) (ps : Pairs) → pair_values (by_text text ps) ≡ values_in ps
values-by_text text [] = refl
values-by_text text (p ∷ ps) = ap (λ ts. p.1 ∷ ts) (values-by_text text ps)

written-by_text : (text : ℕ → List ℕ) (label : Term ℕ → Label) (ps : Pairs) → written_pairs text label (by_text text ps) ≡ pair_texts text (labelled label ps)
written-by_text text label [] = refl
written-by_text text label (p ∷ ps) = ap (λ ts. (text p.0 ++ codes "=" ++ label_text text (label p.1)) ∷ ts) (written-by_text text label ps)

pub WritesPairs-by_text : (text : ℕ → List ℕ) (opening closing : List ℕ) (seen : TextPairs) (ps : Pairs) (old new : Written) → seen ≡ by_text text ps →
    Writes old new (pair_values seen) (λ label. enclosed opening 44 closing (written_pairs text label seen)) → WritesPairs text opening closing ps old new
WritesPairs-by_text text opening closing seen ps old new e w =
    Writes-as old new (pair_values seen) (values_in ps) (λ label. enclosed opening 44 closing (written_pairs text label seen)) (λ label. enclosed opening 44 closing (pair_texts text (labelled label ps)))
    (ap pair_values e ∙ values-by_text text ps)
    (λ label. ap (λ qs. enclosed opening 44 closing (written_pairs text label qs)) e ∙ ap (enclosed opening 44 closing) (written-by_text text label ps)) w

-- ---- category and properties of labelled pairs

pub category-labelled : (label : Term ℕ → Label) (ps : Pairs) → category (labelled label ps) ≡ map label (category_in ps)
category-labelled label [] = refl
category-labelled label (p ∷ ps) = by (p.0 == CAT) (category-labelled label ps)
  where
    by : (b : Bool) → category (labelled label ps) ≡ map label (category_in ps) → (if b then (label p.1 ∷ []) else category (labelled label ps)) ≡ map label (if b then (p.1 ∷ []) else category_in ps)
    by true later = refl
    by false later = later

pub properties-labelled : (label : Term ℕ → Label) (ps : Pairs) → properties (labelled label ps) ≡ labelled label (properties_in ps)
properties-labelled label [] = refl
properties-labelled label (p ∷ ps) = by (p.0 == CAT) (properties-labelled label ps)
  where
    by : (b : Bool) → properties (labelled label ps) ≡ labelled label (properties_in ps) → (if b then properties (labelled label ps) else ((p.0, label p.1) ∷ properties (labelled label ps))) ≡ labelled label (if b then properties_in ps else (p ∷ properties_in ps))
    by true later = later
    by false later = ap (λ ls. (p.0, label p.1) ∷ ls) later

-- ---- the properties are the pairs of other attributes

pub properties-IsAmong : (ps : Pairs) (x : ℕ × Term ℕ) → IsAmong (properties_in ps) x → IsAmong ps x × (x.0 ≡ CAT → ⊥)
properties-IsAmong [] x i = absurd i
properties-IsAmong (p ∷ ps) x i = by (p.0 == CAT) refl i (properties-IsAmong ps x)
  where
    by : (b : Bool) → (p.0 == CAT) ≡ b → IsAmong (if b then properties_in ps else (p ∷ properties_in ps)) x → (IsAmong (properties_in ps) x → IsAmong ps x × (x.0 ≡ CAT → ⊥)) → IsAmong (p ∷ ps) x × (x.0 ≡ CAT → ⊥)
    by true e j later = let r = later j in (inr r.0, r.1)
    by false e (inl h) later = (inl h, λ c. false≢true (sym e ∙ (Decides-eqb p.0 CAT).1 (sym (ap (λ (z : ℕ × Term ℕ). z.0) h) ∙ c)))
    by false e (inr j) later = let r = later j in (inr r.0, r.1)

pub IsAmong-properties : (ps : Pairs) (x : ℕ × Term ℕ) → IsAmong ps x → (x.0 ≡ CAT → ⊥) → IsAmong (properties_in ps) x
IsAmong-properties [] x i other = i
IsAmong-properties (p ∷ ps) x i other = by (p.0 == CAT) refl i (λ j. IsAmong-properties ps x j other)
  where
    by : (b : Bool) → (p.0 == CAT) ≡ b → IsAmong (p ∷ ps) x → (IsAmong ps x → IsAmong (properties_in ps) x) → IsAmong (if b then properties_in ps else (p ∷ properties_in ps)) x
    by true e (inl h) later = absurd (other (ap (λ (z : ℕ × Term ℕ). z.0) h ∙ (Decides-eqb p.0 CAT).0 e))
    by true e (inr j) later = later j
    by false e (inl h) later = inl h
    by false e (inr j) later = inr (later j)

-- pairs that lack the category are all properties
properties-all : (ps : Pairs) → Each (λ (p : ℕ × Term ℕ). p.0 ≡ CAT → ⊥) ps → properties_in ps ≡ ps
properties-all [] none = refl
properties-all (p ∷ ps) none = by (p.0 == CAT) refl (properties-all ps none.1)
  where
    by : (b : Bool) → (p.0 == CAT) ≡ b → properties_in ps ≡ ps → (if b then properties_in ps else (p ∷ properties_in ps)) ≡ p ∷ ps
    by true e later = absurd (none.0 ((Decides-eqb p.0 CAT).0 e))
    by false e later = ap (λ qs. p ∷ qs) later

category-none : (ps : Pairs) → Each (λ (p : ℕ × Term ℕ). p.0 ≡ CAT → ⊥) ps → category_in ps ≡ []
category-none [] none = refl
category-none (p ∷ ps) none = by (p.0 == CAT) refl (category-none ps none.1)
  where
    by : (b : Bool) → (p.0 == CAT) ≡ b → category_in ps ≡ [] → (if b then (p.1 ∷ []) else category_in ps) ≡ []
    by true e later = absurd (none.0 ((Decides-eqb p.0 CAT).0 e))
    by false e later = later

-- the category put among properties
properties-put : (text : ℕ → List ℕ) (v : Term ℕ) (qs : Pairs) → Each (λ (p : ℕ × Term ℕ). p.0 ≡ CAT → ⊥) qs → properties_in (put_in_order text (CAT, v) qs) ≡ qs
properties-put text v [] none = refl
properties-put text v (q ∷ qs) none = by (is_before (text CAT) (text q.0)) (properties-put text v qs none.1)
  where
    by : (b : Bool) → properties_in (put_in_order text (CAT, v) qs) ≡ qs → properties_in (if b then ((CAT, v) ∷ q ∷ qs) else (q ∷ put_in_order text (CAT, v) qs)) ≡ q ∷ qs
    by true later = properties-all (q ∷ qs) none
    by false later = by_first (q.0 == CAT) refl later
      where
        by_first : (b : Bool) → (q.0 == CAT) ≡ b → properties_in (put_in_order text (CAT, v) qs) ≡ qs → (if b then properties_in (put_in_order text (CAT, v) qs) else (q ∷ properties_in (put_in_order text (CAT, v) qs))) ≡ q ∷ qs
        by_first true e later = absurd (none.0 ((Decides-eqb q.0 CAT).0 e))
        by_first false e later = ap (λ rs. q ∷ rs) later

category-put : (text : ℕ → List ℕ) (v : Term ℕ) (qs : Pairs) → Each (λ (p : ℕ × Term ℕ). p.0 ≡ CAT → ⊥) qs → category_in (put_in_order text (CAT, v) qs) ≡ v ∷ []
category-put text v [] none = refl
category-put text v (q ∷ qs) none = by (is_before (text CAT) (text q.0)) (category-put text v qs none.1)
  where
    by : (b : Bool) → category_in (put_in_order text (CAT, v) qs) ≡ v ∷ [] → category_in (if b then ((CAT, v) ∷ q ∷ qs) else (q ∷ put_in_order text (CAT, v) qs)) ≡ v ∷ []
    by true later = refl
    by false later = by_first (q.0 == CAT) refl later
      where
        by_first : (b : Bool) → (q.0 == CAT) ≡ b → category_in (put_in_order text (CAT, v) qs) ≡ v ∷ [] → (if b then (q.1 ∷ []) else category_in (put_in_order text (CAT, v) qs)) ≡ v ∷ []
        by_first true e later = absurd (none.0 ((Decides-eqb q.0 CAT).0 e))
        by_first false e later = later

-- ---- the category of a bag

-- the bag has this category, or none
abbrev pub HasCategory : BagPairs → Option Value → Type 0
HasCategory bag None = LacksAttribute bag (record { 0 = CAT })
HasCategory bag (Some v) = IsAmong bag (record { 0 = CAT }, v)

-- the category's number is the least, so its pair is the first
category_first : (bag : BagPairs) (v : Value) → IsListed bag → IsAmong bag (record { 0 = CAT }, v) → bag ≡ (record { 0 = CAT }, v) ∷ drop 1 bag
category_first [] v listed i = absurd i
category_first (p ∷ bag) v listed (inl e) = ap (λ q. q ∷ bag) (sym e)
category_first (p ∷ bag) v listed (inr i) =
    let h : p.0.0 < CAT = Each-at (λ n. p.0.0 < n) (map (λ q. q.0.0) bag) CAT listed.0 (IsAmong-map (λ (q : Sym × Value). q.0.0) bag (record { 0 = CAT }, v) i) in
    absurd (omega arith)

-- the category of the pairs, and the properties in order
pub record SplitsBag (text : ℕ → List ℕ) (bag : BagPairs) (c : Option Value) : Type 0 where
  pub within : before_properties c ≤ length bag
  pub category : category_in (in_order text (pairs_of bag)) ≡ some_terms c
  pub properties : in_order text (pairs_of (drop (before_properties c) bag)) ≡ properties_in (in_order text (pairs_of bag))

lacks-each : (bag : BagPairs) → LacksAttribute bag (record { 0 = CAT }) → Each (λ (p : ℕ × Term ℕ). p.0 ≡ CAT → ⊥) (pairs_of bag)
lacks-each [] lacks = tt
lacks-each (p ∷ bag) lacks = (λ e. lacks p.1 (inl (λ i. (record { 0 = sym e i }, p.1))), lacks-each bag (λ v i. lacks v (inr i)))

in_order-each : (text : ℕ → List ℕ) (ps : Pairs) → Each (λ (p : ℕ × Term ℕ). p.0 ≡ CAT → ⊥) ps → Each (λ (p : ℕ × Term ℕ). p.0 ≡ CAT → ⊥) (in_order text ps)
in_order-each text ps none = Each-members (λ (p : ℕ × Term ℕ). p.0 ≡ CAT → ⊥) (in_order text ps) (λ x i. Each-at (λ (p : ℕ × Term ℕ). p.0 ≡ CAT → ⊥) ps x none (in_order-within text ps x i))

above_category : (bag : BagPairs) → Each (λ n. CAT < n) (map (λ (q : Sym × Value). q.0.0) bag) → Each (λ (p : ℕ × Term ℕ). p.0 ≡ CAT → ⊥) (pairs_of bag)
above_category [] above = tt
above_category (p ∷ bag) above = (λ e. let h : CAT < p.0.0 = above.0 in omega (arith, e), above_category bag above.1)

splits_front : (text : ℕ → List ℕ) (bag rest : BagPairs) (v : Value) → bag ≡ (record { 0 = CAT }, v) ∷ rest → IsListed bag → SplitsBag text bag (Some v)
splits_front text bag rest v e listed =
    subst (λ ps. SplitsBag text ps (Some v)) (sym e)
    (let none = in_order-each text (pairs_of rest) (above_category rest (subst (λ ps. IsListed ps) e listed).0) in
    record {
      within = omega arith;
      category = category-put text (term_of v) (in_order text (pairs_of rest)) none;
      properties = sym (properties-put text (term_of v) (in_order text (pairs_of rest)) none);
    })

pub splits_bag : (text : ℕ → List ℕ) (bag : BagPairs) (c : Option Value) → IsListed bag → HasCategory bag c → SplitsBag text bag c
splits_bag text bag None listed lacks =
    let none = in_order-each text (pairs_of bag) (lacks-each bag lacks) in
    record {
      within = omega arith;
      category = category-none (in_order text (pairs_of bag)) none;
      properties = sym (properties-all (in_order text (pairs_of bag)) none);
    }
splits_bag text bag (Some v) listed has = splits_front text bag (drop 1 bag) v (category_first bag v listed has) listed

few_before : (c : Option Value) → before_properties c ≤ 1
few_before None = omega arith
few_before (Some v) = omega arith

-- ---- the text of a node, from those of its parts

pub ordered_bag : (texts : List (List ℕ)) (bag : BagPairs) (from : ℕ) → from ≤ 1 → IsListed bag → IsNamedBag (length texts) bag → (from < length bag → NoneTwice texts) → IsOrderedBag (text_in texts) bag
ordered_bag texts [] from few listed named distinct = record { listed = listed; order = tt }
ordered_bag texts (p ∷ []) from few listed named distinct = record { listed = listed; order = (tt, tt) }
ordered_bag texts (p ∷ q ∷ bag) from few listed named distinct = record {
  listed = listed;
  order = in_order-order (text_in texts) (pairs_of (p ∷ q ∷ bag)) (once_by_text texts (p ∷ q ∷ bag) (distinct (omega arith)) listed named);
}

pub writes_node : (text : ℕ → List ℕ) (n : TreeNode) (c : Option Value) (old one two three new : Written) (from : ℕ) → SplitsBag text n.own c → from ≡ before_properties c →
    Writes old one (some_terms c) (λ label. category_text text (map label (some_terms c))) →
    WritesPairs text (codes "{") (codes "}") (in_order text (pairs_of (drop from n.own))) one two →
    WritesPairs text (codes "^[") (codes "]") (in_order text (pairs_of n.top)) two three →
    WritesPairs text (codes "/[") (codes "]") (in_order text (pairs_of n.bot)) three new →
    Writes old new (node_terms text (lists_of (slots_of n))) (λ label. node_text text (form_node text label (lists_of (slots_of n))))
writes_node text n c old one two three new from splits from_is a first d e =
    let b = subst (λ k. WritesPairs text (codes "{") (codes "}") (in_order text (pairs_of (drop k n.own))) one two) from_is first in
    Writes-as old new (((some_terms c ++ values_in rest) ++ values_in top) ++ values_in bot) (node_terms text (lists_of (slots_of n)))
    (λ label. ((category_text text (map label (some_terms c)) ++ enclosed (codes "{") 44 (codes "}") (pair_texts text (labelled label rest))) ++ enclosed (codes "^[") 44 (codes "]") (pair_texts text (labelled label top)))
    ++ enclosed (codes "/[") 44 (codes "]") (pair_texts text (labelled label bot)))
    (λ label. node_text text (form_node text label (lists_of (slots_of n))))
    (ap₂ (λ ts ps. ((ts ++ values_in ps) ++ values_in top) ++ values_in bot) (sym splits.category) splits.properties)
    (λ label. ap₂
    (λ ls ps. ((category_text text ls ++ enclosed (codes "{") 44 (codes "}") (pair_texts text ps)) ++ enclosed (codes "^[") 44 (codes "]") (pair_texts text (labelled label top)))
    ++ enclosed (codes "/[") 44 (codes "]") (pair_texts text (labelled label bot)))
    (sym (category-labelled label own ∙ ap (map label) splits.category))
    (ap (labelled label) splits.properties ∙ sym (properties-labelled label own)))
    (Writes-then old three new ((some_terms c ++ values_in rest) ++ values_in top) (values_in bot)
    (λ label. (category_text text (map label (some_terms c)) ++ enclosed (codes "{") 44 (codes "}") (pair_texts text (labelled label rest))) ++ enclosed (codes "^[") 44 (codes "]") (pair_texts text (labelled label top)))
    (λ label. enclosed (codes "/[") 44 (codes "]") (pair_texts text (labelled label bot)))
    (Writes-then old two three (some_terms c ++ values_in rest) (values_in top)
    (λ label. category_text text (map label (some_terms c)) ++ enclosed (codes "{") 44 (codes "}") (pair_texts text (labelled label rest)))
    (λ label. enclosed (codes "^[") 44 (codes "]") (pair_texts text (labelled label top)))
    (Writes-then old one two (some_terms c) (values_in rest) (λ label. category_text text (map label (some_terms c))) (λ label. enclosed (codes "{") 44 (codes "}") (pair_texts text (labelled label rest))) a b)
    d) e)
  where
    own : Pairs
    own = in_order text (pairs_of n.own)

    rest : Pairs
    rest = in_order text (pairs_of (drop (before_properties c) n.own))

    top : Pairs
    top = in_order text (pairs_of n.top)

    bot : Pairs
    bot = in_order text (pairs_of n.bot)

pub ordered_node : (texts : List (List ℕ)) (n : TreeNode) (c : Option Value) (from : ℕ) → from ≡ before_properties c → IsNamedNode (length texts) n → IsListed n.own → IsListed n.top → IsListed n.bot →
    (from < length n.own → NoneTwice texts) → (0 < length n.top → NoneTwice texts) → (0 < length n.bot → NoneTwice texts) → AreOrderedBags (text_in texts) (slots_of n)
ordered_node texts n c from from_is named own top bot a b d = record {
  own = ordered_bag texts n.own from (let few : before_properties c ≤ 1 = few_before c in omega (arith, from_is)) own named.own a;
  top = ordered_bag texts n.top 0 (omega arith) top named.top b;
  bottom = ordered_bag texts n.bot 0 (omega arith) bot named.bot d;
}

-- the category of a named bag is named
pub named_category : (count : ℕ) (bag : BagPairs) (c : Option Value) → IsNamedBag count bag → HasCategory bag c → IsNamedSome count c
named_category count bag None named has = tt
named_category count bag (Some v) named has = (Each-at (λ (p : Sym × Value). (p.0.0 < count) × IsNamedTerm count p.1) bag (record { 0 = CAT }, v) named has).1

-- what `get` answers
pub has_category : (bag : BagPairs) (c : Option Value) → MatchOption c (LacksAttribute bag (record { 0 = CAT })) (λ v. IsAmong bag (record { 0 = CAT }, v)) → HasCategory bag c
has_category bag None h = h
has_category bag (Some v) h = h
