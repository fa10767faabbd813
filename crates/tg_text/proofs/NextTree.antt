-- One more tree behind those of a set.
use Rattle.std.specs.Prelude.{◌≡◌, ℕ, zero, suc, ◌-◌, Bool, true, false, List, [], ◌∷◌, ◌++◌, length, slice_get, Some, refl}
use Rattle.std.specs.Bool.{OnTrue, OnFalse}
use Rattle.std.specs.Cmp.Lexicographic.{slice_cmp}
use Rattle.std.specs.Ordering.{is_lt, nat_cmp}
use Rattle.std.specs.declared.cmp.Ordering.{Ordering}
use Rattle.std.specs.declared.cmp.Ordering.TheVariants.{Less, Equal, Greater}
use Rattle.std.proofs.Common.{inl, inr, ap, sym, ◌∙◌, subst, arith}
use Rattle.std.proofs.lemmas.List.{append-nil, length-map}
use Rattle.std.proofs.lemmas.Option.{same_Some}
use Rattle.std.proofs.lemmas.Bool.{false≢true, true≢false}
use Rattle.gr_base.specs.Lists.{Each, InByteOrder, IsAmong, IsBefore, NoneTwice}
use Rattle.gr_base.proofs.Counting.{IsBefore-irreflexive, IsBefore-trans}
use Rattle.gr_base.proofs.ListLemmas.{Each-at, IsAmong-slice_get}
use Rattle.gr_symbols.specs.Numbers.{Grows}
use Rattle.td_tree.specs.declared.Tree.{Tree}
use Rattle.td_canon.specs.CanonicalTexts.{HasText}
use Rattle.td_canon.specs.TreeSets.{Entry, Gains, IsTreeSet, IsWhole, LacksText, texts_of, trees_of}
use Rattle.td_canon.proofs.SetLemmas.{Compared, compared}
use Rattle.td_canon.proofs.TellingLemmas.{one_tree_text}
use Rattle.tg_reader.specs.Writable.{IsWritableTree}
use Rattle.tg_text.specs.Reading.{AreReadTrees}
use Rattle.tg_text.proofs.GrownTrees.{trees_stay}

-- ---- whether a text is greater than those of a set

-- what compares below is before, and what doesn't isn't
before_is : (xs ys : List ℕ) (b : Bool) → b ≡ is_lt (slice_cmp nat_cmp xs ys) → OnTrue b (IsBefore xs ys) × OnFalse b (IsBefore xs ys → ⊥)
before_is xs ys b e = by (slice_cmp nat_cmp xs ys) b e (compared xs ys)
  where
    by : (o : Ordering) (b : Bool) → b ≡ is_lt o → Compared xs ys o → OnTrue b (IsBefore xs ys) × OnFalse b (IsBefore xs ys → ⊥)
    by Less true e h = (h, tt)
    by Less false e h = absurd (false≢true e)
    by Equal true e h = absurd (true≢false e)
    by Equal false e h = (tt, λ k. IsBefore-irreflexive ys (subst (λ z. IsBefore z ys) h k))
    by Greater true e h = absurd (true≢false e)
    by Greater false e h = (tt, λ k. IsBefore-irreflexive xs (IsBefore-trans xs ys xs k h))

-- the last text of an ordered list, where it is before another, tells that all are
below_last : (ts : List (List ℕ)) (n : ℕ) (last t : List ℕ) → InByteOrder ts → length ts ≡ suc n → slice_get ts n ≡ Some last → IsBefore last t → Each (λ u. IsBefore u t) ts
below_last [] n last t order len at h = absurd (omega arith)
below_last (x ∷ []) zero last t order len at h = let same : x ≡ last = same_Some x last at in (subst (λ z. IsBefore z t) (sym same) h, tt)
below_last (x ∷ []) (suc n) last t order len at h = absurd (omega arith)
below_last (x ∷ y ∷ ts) zero last t order len at h = absurd (omega arith)
below_last (x ∷ y ∷ ts) (suc n) last t order len at h = (
  IsBefore-trans x last t (Each-at (IsBefore x) (y ∷ ts) last order.0 (IsAmong-slice_get (y ∷ ts) n last at)) h,
  below_last (y ∷ ts) n last t order.1 (omega arith) at h,
)

pub next_after : (set : List Entry) (last t : List ℕ) (n : ℕ) (b : Bool) → IsTreeSet set → n ≡ length set → (n ≡ 0 → ⊥) → slice_get (texts_of set) (n - 1) ≡ Some last → b ≡ is_lt (slice_cmp nat_cmp last t)
    → OnTrue b (Each (λ u. IsBefore u t) (texts_of set)) × OnFalse b (Each (λ u. IsBefore u t) (texts_of set) → ⊥)
next_after set last t n b is len some at e = by b (before_is last t b e)
  where
    count : length (texts_of set) ≡ length set
    count = length-map set (λ (x : Entry). x.text)

    by : (b : Bool) → OnTrue b (IsBefore last t) × OnFalse b (IsBefore last t → ⊥) → OnTrue b (Each (λ u. IsBefore u t) (texts_of set)) × OnFalse b (Each (λ u. IsBefore u t) (texts_of set) → ⊥)
    by true h = (below_last (texts_of set) (n - 1) last t is.order (omega (arith, count, len, some)) at h.0, tt)
    by false h = (tt, λ each. h.1 (Each-at (λ u. IsBefore u t) (texts_of set) last each (IsAmong-slice_get (texts_of set) (n - 1) last at)))

pub next_first : (set : List Entry) (t : List ℕ) (n : ℕ) → n ≡ length set → n ≡ 0 → Each (λ u. IsBefore u t) (texts_of set)
next_first [] t n e z = tt
next_first (x ∷ set) t n e z = absurd (omega (arith, e, z))

-- ---- a tree that is added

-- what is greater than all stands last
gains_last : (front back : List Entry) (e : Entry) → InByteOrder (texts_of (front ++ e ∷ back)) → Each (λ u. IsBefore u e.text) (texts_of (front ++ back)) → back ≡ []
gains_last front [] e order each = refl
gains_last front (x ∷ back) e order each =
    let below : IsBefore x.text e.text = Each-at (λ u. IsBefore u e.text) (texts_of (front ++ x ∷ back)) x.text each (there front x back) in
    let above : IsBefore e.text x.text = behind front e x back order in
    absurd (IsBefore-irreflexive e.text (IsBefore-trans e.text x.text e.text above below))
  where
    there : (front : List Entry) (x : Entry) (back : List Entry) → IsAmong (texts_of (front ++ x ∷ back)) x.text
    there [] x back = inl refl
    there (y ∷ front) x back = inr (there front x back)

    behind : (front : List Entry) (e x : Entry) (back : List Entry) → InByteOrder (texts_of (front ++ e ∷ x ∷ back)) → IsBefore e.text x.text
    behind [] e x back order = order.0.0
    behind (y ∷ front) e x back order = behind front e x back order.1

pub added_last : (old new : List Entry) (t : Tree) (bytes : List ℕ) → Gains old new t bytes → IsTreeSet new → Each (λ u. IsBefore u bytes) (texts_of old) → new ≡ old ++ record { tree = t; text = bytes } ∷ []
added_last old new t bytes gains set each =
    let e : Entry = record { tree = t; text = bytes } in
    let front = gains.0 in
    let back = gains.1 in
    let none : back ≡ [] = gains_last front back e (subst (λ s. InByteOrder (texts_of s)) gains.3 set.order) (subst (λ s. Each (λ u. IsBefore u bytes) (texts_of s)) gains.2 each) in
    gains.3 ∙ ap (λ s. front ++ e ∷ s) none ∙ ap (λ s. s ++ e ∷ []) (sym (gains.2 ∙ ap (λ s. front ++ s) none ∙ append-nil front))

-- the tree of a text, added to trees that were read before the table grew
pub trees_added : (old texts : List (List ℕ)) (set new : List Entry) (t : Tree) (text bytes : List ℕ) → NoneTwice texts → Grows old texts → AreReadTrees old set → HasText texts t text → IsWritableTree texts t → Each (λ u. IsBefore u text) (texts_of set)
    → HasText texts t bytes → Gains set new t bytes → IsTreeSet new → (IsWhole texts set → IsWhole texts new)
    → (new ≡ set ++ record { tree = t; text = text } ∷ []) × AreReadTrees texts new
trees_added old texts set new t text bytes once grows read has writable above has_bytes gains is whole =
    let same : bytes ≡ text = one_tree_text texts t bytes text once has_bytes has in
    let last = added_last set new t text (subst (λ z. Gains set new t z) same gains) is above in
    let before = trees_stay old texts grows once set read in
    (last, record { whole = whole before.whole; writable = subst (λ s. Each (IsWritableTree texts) (trees_of s)) (sym last) (one_more set (record { tree = t; text = text }) before.writable writable) })
  where
    one_more : (set : List Entry) (e : Entry) → Each (IsWritableTree texts) (trees_of set) → IsWritableTree texts e.tree → Each (IsWritableTree texts) (trees_of (set ++ e ∷ []))
    one_more [] e h k = (k, tt)
    one_more (x ∷ set) e h k = (h.0, one_more set e h.1 k)

-- whatever was said of the addition, the tree stands behind the others
pub tree_is_added : (old texts : List (List ℕ)) (set new : List Entry) (t : Tree) (text : List ℕ) (added : Bool) → NoneTwice texts → Grows old texts → AreReadTrees old set → HasText texts t text → IsWritableTree texts t → Each (λ u. IsBefore u text) (texts_of set)
    → OnTrue added ((bytes : List ℕ) × HasText texts t bytes × LacksText set bytes × Gains set new t bytes) → OnFalse added ((bytes : List ℕ) × HasText texts t bytes × IsAmong (texts_of set) bytes)
    → IsTreeSet new → (IsWhole texts set → IsWhole texts new)
    → (u : Tree) × (new ≡ set ++ record { tree = u; text = text } ∷ []) × AreReadTrees texts new
tree_is_added old texts set new t text true once grows read has writable above gains there is whole =
    let r = trees_added old texts set new t text gains.0 once grows read has writable above gains.1 gains.3 is whole in (t, r.0, r.1)
tree_is_added old texts set new t text false once grows read has writable above gains there is whole =
    let same : there.0 ≡ text = one_tree_text texts t there.0 text once there.1 has in
    absurd (IsBefore-irreflexive text (Each-at (λ u. IsBefore u text) (texts_of set) text above (subst (λ z. IsAmong (texts_of set) z) same there.2)))
