-- The numbers of nodes of a mark, and what a joint bag keeps of a bag.
use Rattle.std.specs.Prelude.{◌≡◌, ℕ, zero, suc, ◌+◌, List, [], ◌∷◌, Bool, true, false, Option, Some, None, slice_get, if◌then◌else◌, refl}
use Rattle.std.proofs.Common.{inl, inr, ap, subst, sym, ◌∙◌, arith}
use Rattle.std.proofs.lemmas.Option.{none-some, same_Some}
use Rattle.gr_base.specs.Lists.{IsAmong}
use Rattle.gr_terms.specs.BagViews.{pairs_of}
use Rattle.gr_terms.specs.Canonical.{Node}
use Rattle.gr_terms.specs.Constants.{CAT, MARK}
use Rattle.gr_terms.specs.Networks as net
use Rattle.gr_terms.specs.Networks.{Agrees, name, variable, same}
use Rattle.gr_terms.specs.Views.{term_of}
use Rattle.gr_terms.specs.declared.Term.{Term}
use Rattle.gr_terms.specs.declared.Term.TheVariants.{Const}
use Rattle.gr_feats.specs.CanonicalBags.{StandsFor}
use Rattle.td_tree.specs.Trees.{BagPairs}
use Rattle.td_tree.specs.TreeViews.{lists_of}
use Rattle.tg_grammar.specs.Marks.{is_number, mark_name, name_of, numbers_from, value_of}
use Rattle.tg_grammar.proofs.MarkLemmas.{value_of-among, value_of-lacks, value_there}
use Rattle.tg_grammar.specs.NamedMarks.{IsNamedMark}
use Rattle.lx_anchor.specs.Writings.{IsJoint}
use Rattle.lx_anchor.proofs.ShapeKeeping.{Keeps}

-- ---- numbers of a mark

pub number-there : {A : Type 0} (n : ℕ) (test : A → Bool) (xs : List A) (k : ℕ) → IsAmong (numbers_from n test xs) k → (i : ℕ) × (k ≡ n + i) × ((x : A) × (slice_get xs i ≡ Some x) × (test x ≡ true))
number-there n test [] k i = absurd i
number-there {A} n test (x ∷ xs) k i = by (test x) refl i (number-there (suc n) test xs k)
  where
    later : (i : ℕ) × (k ≡ suc n + i) × ((y : A) × (slice_get xs i ≡ Some y) × (test y ≡ true)) → (i : ℕ) × (k ≡ n + i) × ((y : A) × (slice_get (x ∷ xs) i ≡ Some y) × (test y ≡ true))
    later r = let e : k ≡ suc n + r.0 = r.1 in (suc r.0, omega arith, r.2)

    by : (b : Bool) → test x ≡ b → IsAmong (if b then (n ∷ numbers_from (suc n) test xs) else numbers_from (suc n) test xs) k
        → (IsAmong (numbers_from (suc n) test xs) k → (i : ℕ) × (k ≡ suc n + i) × ((y : A) × (slice_get xs i ≡ Some y) × (test y ≡ true))) → (i : ℕ) × (k ≡ n + i) × ((y : A) × (slice_get (x ∷ xs) i ≡ Some y) × (test y ≡ true))
    by true e (inl h) rest = (0, omega (arith, h), (x, refl, e))
    by true e (inr j) rest = later (rest j)
    by false e j rest = later (rest j)

pub there-number : {A : Type 0} (n : ℕ) (test : A → Bool) (xs : List A) (i : ℕ) (x : A) → slice_get xs i ≡ Some x → test x ≡ true → IsAmong (numbers_from n test xs) (n + i)
there-number n test [] i x at e = absurd (none-some x at)
there-number n test (y ∷ ys) zero x at e =
    let here : test y ≡ true = ap test (same_Some y x at) ∙ e in
    subst (λ b. IsAmong (if b then (n ∷ numbers_from (suc n) test ys) else numbers_from (suc n) test ys) (n + zero)) (sym here) (inl (omega arith))
there-number n test (y ∷ ys) (suc i) x at e =
    let number : suc n + i ≡ n + suc i = omega arith in
    let later : IsAmong (numbers_from (suc n) test ys) (n + suc i) = subst (λ k. IsAmong (numbers_from (suc n) test ys) k) number (there-number (suc n) test ys i x at e) in
    elim (test y) as (λ b. IsAmong (if b then (n ∷ numbers_from (suc n) test ys) else numbers_from (suc n) test ys) (n + suc i)) [ true ↦ inr later | false ↦ later ]

-- ---- values of a bag

module _ (N : List (net.Assertion ℕ ℕ)) (agrees : Agrees N) (bag joint : BagPairs) (h : IsJoint N bag [] joint) where
  name-kept : (a m : ℕ) → value_of (pairs_of bag) a ≡ Some (name m) → value_of (pairs_of joint) a ≡ Some (name m)
  name-kept a m e =
      let r = value_there bag a (name m) e in
      let stands : StandsFor N (term_of r.0) (Const (record { 0 = m })) = subst (λ z. net.AreLinked N z (name m)) r.2 (same (name m)) in
      value_of-among joint (record { 0 = a }) (Const (record { 0 = m })) h.listed ((h.pairs (record { 0 = a }) (Const (record { 0 = m }))).1 (inl (r.0, r.1, stands)))

  none-kept : (a : ℕ) → value_of (pairs_of bag) a ≡ None → value_of (pairs_of joint) a ≡ None
  none-kept a e = value_of-lacks joint (record { 0 = a }) (λ v i. elim ((h.pairs (record { 0 = a }) v).0 i) [
    | inl w ↦ none-some (term_of w.0) (sym e ∙ value_of-among bag (record { 0 = a }) w.0 h.bag_listed w.1)
    | inr w ↦ w.1
  ])

  mark-kept : (o : Option (net.Term ℕ)) → value_of (pairs_of bag) MARK ≡ o → ((v : ℕ) → value_of (pairs_of bag) MARK ≡ Some (variable v) → ⊥) → name_of (value_of (pairs_of joint) MARK) ≡ name_of (value_of (pairs_of bag) MARK)
  mark-kept None e named = ap name_of (none-kept MARK e ∙ sym e)
  mark-kept (Some (name m)) e named = ap name_of (name-kept MARK m e ∙ sym e)
  mark-kept (Some (variable v)) e named = absurd (named v e)

  named-kept : (o : Option (net.Term ℕ)) → value_of (pairs_of bag) MARK ≡ o → ((v : ℕ) → value_of (pairs_of bag) MARK ≡ Some (variable v) → ⊥) → (v : ℕ) → value_of (pairs_of joint) MARK ≡ Some (variable v) → ⊥
  named-kept None e named v is = none-some (variable v) (sym (none-kept MARK e) ∙ is)
  named-kept (Some (name m)) e named v is = let clash : name m ≡ variable v = same_Some (name m) (variable v) (sym (name-kept MARK m e) ∙ is) in cc
  named-kept (Some (variable w)) e named v is = named w e

  -- a mark that is a name, or none, stays so
  pub node-named : (old new : Node BagPairs) → bag ≡ old.own → joint ≡ new.own → IsNamedMark (lists_of old) → IsNamedMark (lists_of new)
  node-named old new is also named =
      subst (λ b. (v : ℕ) → value_of (pairs_of b) MARK ≡ Some (variable v) → ⊥) also
      (named-kept (value_of (pairs_of bag) MARK) refl (subst (λ b. (v : ℕ) → value_of (pairs_of b) MARK ≡ Some (variable v) → ⊥) (sym is) named))

  category-kept : (o : Option (net.Term ℕ)) → value_of (pairs_of bag) CAT ≡ o → (a : ℕ) → name_of o ≡ Some a → name_of (value_of (pairs_of joint) CAT) ≡ Some a
  category-kept None e a is = absurd (none-some a is)
  category-kept (Some (name m)) e a is = ap name_of (name-kept CAT m e) ∙ is
  category-kept (Some (variable v)) e a is = absurd (none-some a is)

  pub node-keeps : (old new : Node BagPairs) → bag ≡ old.own → joint ≡ new.own → IsNamedMark (lists_of old) → Keeps (lists_of old) (lists_of new)
  node-keeps old new is also named =
      let same-mark : mark_name (lists_of new) ≡ mark_name (lists_of old) =
      ap (λ b. name_of (value_of (pairs_of b) MARK)) (sym also)
      ∙ mark-kept (value_of (pairs_of bag) MARK) refl (subst (λ b. (v : ℕ) → value_of (pairs_of b) MARK ≡ Some (variable v) → ⊥) (sym is) named)
      ∙ ap (λ b. name_of (value_of (pairs_of b) MARK)) is
      in
      record {
        marks = λ m. ap (λ o. is_number o m) same-mark;
        category = λ a e.
            ap (λ b. name_of (value_of (pairs_of b) CAT)) (sym also) ∙ category-kept (value_of (pairs_of bag) CAT) refl a (ap (λ b. name_of (value_of (pairs_of b) CAT)) is ∙ e);
      }
