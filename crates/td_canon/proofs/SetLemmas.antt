-- Sets of trees: what stands at the places, where a text stands or would stand, and one tree more.
use Rattle.std.specs.Prelude.{◌≡◌, ℕ, zero, suc, ◌+◌, ◌<◌, ◌≤◌, List, [], ◌∷◌, ◌++◌, take, drop, length, slice_get, ◌⊎◌, Some, string_bytes, insert, refl}
use Rattle.std.specs.Cmp.Lexicographic.{slice_cmp}
use Rattle.std.specs.Cmp.{nat_cmp_is}
use Rattle.std.specs.Ordering.{nat_cmp, ordering_then}
use Rattle.std.specs.declared.cmp.Ordering.{Ordering}
use Rattle.std.specs.declared.cmp.Ordering.TheVariants.{Less, Equal, Greater}
use Rattle.std.proofs.Common.{inl, inr, ap, ap₂, add-one, sym, ◌∙◌, subst, arith, get_or, append_assoc, take-append-drop, length-append}
use Rattle.std.proofs.lemmas.Option.{none-some, same_Some, slice_get-get_or}
use Rattle.gr_base.specs.Lists.{IsAmong, Each, IsBefore, InByteOrder}
use Rattle.gr_base.proofs.Counting.{IsBefore-irreflexive, IsBefore-trans}
use Rattle.gr_base.proofs.ListLemmas.{Each-at, Each-left, Each-right, Each-map, Each-map_from, Each-members, Each-middle, IsAmong-append, IsAmong-map, IsAmong-map_from, IsAmong-slice_get, slice_get-append_left, slice_get-some, slice_get_push}
use Rattle.gr_base.proofs.Numbers.{less_same_more}
use Rattle.td_tree.specs.Trees.{AreTreeNodes}
use Rattle.td_tree.specs.declared.Tree.{Tree}
use Rattle.td_canon.specs.CanonicalTexts.{HasText}
use Rattle.td_canon.specs.TreeSets.{Entry, Gains, IsTreeSet, IsWhole, LacksText, texts_of, trees_of}
use Rattle.td_canon.specs.TreeOrders.{HasTextAt, KeepsOrder, SplitsAt, entries_by, entry_of, some_entry}
use Rattle.td_canon.specs.declared.tree_set.Held.{Held}

-- ---- what stands at the places

pub length-entries : (held : List Held) (order : List ℕ) → Each (λ i. i < length held) order → length (entries_by held order) ≡ length order
length-entries held [] within = refl
length-entries held (i ∷ order) within =
    let h = slice_get-some held i within.0 in
    ap (λ o. length (some_entry o ++ entries_by held order)) h.1 ∙ ap suc (length-entries held order within.1)

pub entries-at : (held : List Held) (order : List ℕ) (k i : ℕ) (h : Held) → Each (λ j. j < length held) order → slice_get order k ≡ Some i → slice_get held i ≡ Some h →
    slice_get (entries_by held order) k ≡ Some (entry_of h)
entries-at held [] k i h within at there = absurd (none-some i at)
entries-at held (j ∷ order) zero i h within at there = ap (λ o. slice_get (some_entry o ++ entries_by held order) zero) (ap (slice_get held) (same_Some j i at) ∙ there)
entries-at held (j ∷ order) (suc k) i h within at there =
    let g = slice_get-some held j within.0 in
    ap (λ o. slice_get (some_entry o ++ entries_by held order) (suc k)) g.1 ∙ entries-at held order k i h within.1 at there

-- a place in the order, and the place that stands there
pub place_at : (held : List Held) (order : List ℕ) (k d : ℕ) → Each (λ j. j < length held) order → k < length order → get_or order k d < length held
place_at held order k d within there = Each-at (λ j. j < length held) order (get_or order k d) within (IsAmong-slice_get order k (get_or order k d) (slice_get-get_or order k d there))

pub entry_at : (held : List Held) (order : List ℕ) (k i d : ℕ) (h e : Held) → Each (λ j. j < length held) order → k < length order → i ≡ get_or order k d → i < length held → h ≡ get_or held i e →
    slice_get (entries_by held order) k ≡ Some (entry_of h)
entry_at held order k i d h e within there i_is inside h_is =
    entries-at held order k i h within (slice_get-get_or order k d there ∙ ap Some (sym i_is)) (slice_get-get_or held i e inside ∙ ap Some (sym h_is))

-- a tree that came last stands at no place yet
entries-push : (held : List Held) (order : List ℕ) (h : Held) → Each (λ i. i < length held) order → entries_by (held ++ h ∷ []) order ≡ entries_by held order
entries-push held [] h within = refl
entries-push held (i ∷ order) h within =
    let g = slice_get-some held i within.0 in
    ap₂ (λ o es. some_entry o ++ es) (slice_get-append_left held (h ∷ []) i g.0 g.1 ∙ sym g.1) (entries-push held order h within.1)

entries-append : (held : List Held) (order others : List ℕ) → entries_by held (order ++ others) ≡ entries_by held order ++ entries_by held others
entries-append held [] others = refl
entries-append held (i ∷ order) others = ap (λ es. some_entry (slice_get held i) ++ es) (entries-append held order others) ∙ sym (append_assoc (some_entry (slice_get held i)) (entries_by held order) (entries_by held others))

entries-take : (held : List Held) (order : List ℕ) (k : ℕ) → Each (λ i. i < length held) order → entries_by held (take k order) ≡ take k (entries_by held order)
entries-take held order zero within = refl
entries-take held [] (suc k) within = refl
entries-take held (i ∷ order) (suc k) within =
    let g = slice_get-some held i within.0 in
    ap (λ o. some_entry o ++ entries_by held (take k order)) g.1
    ∙ ap (λ es. entry_of g.0 ∷ es) (entries-take held order k within.1)
    ∙ ap (λ o. take (suc k) (some_entry o ++ entries_by held order)) (sym g.1)

entries-drop : (held : List Held) (order : List ℕ) (k : ℕ) → Each (λ i. i < length held) order → entries_by held (drop k order) ≡ drop k (entries_by held order)
entries-drop held order zero within = refl
entries-drop held [] (suc k) within = refl
entries-drop held (i ∷ order) (suc k) within =
    let g = slice_get-some held i within.0 in
    entries-drop held order k within.1 ∙ ap (λ o. drop (suc k) (some_entry o ++ entries_by held order)) (sym g.1)

-- a tree that came last, put in at a place
pub entries-insert : (held : List Held) (order : List ℕ) (place : ℕ) (h : Held) → Each (λ i. i < length held) order →
    entries_by (held ++ h ∷ []) (insert order place (length held)) ≡ take place (entries_by held order) ++ entry_of h ∷ drop place (entries_by held order)
entries-insert held order place h within =
    let all = held ++ h ∷ [] in
    let front : Each (λ i. i < length held) (take place order) = Each-left (λ i. i < length held) (take place order) (drop place order) (subst (λ xs. Each (λ i. i < length held) xs) (sym (take-append-drop place order)) within) in
    let back : Each (λ i. i < length held) (drop place order) = Each-right (λ i. i < length held) (take place order) (drop place order) (subst (λ xs. Each (λ i. i < length held) xs) (sym (take-append-drop place order)) within) in
    entries-append all (take place order) (length held ∷ drop place order)
    ∙ ap₂ (λ es o. es ++ (some_entry o ++ entries_by all (drop place order))) (entries-push held (take place order) h front ∙ entries-take held order place within) (slice_get_push held h)
    ∙ ap (λ es. take place (entries_by held order) ++ entry_of h ∷ es) (entries-push held (drop place order) h back ∙ entries-drop held order place within)

-- ---- a set with one more

front_order : (xs ys : List (List ℕ)) → InByteOrder (xs ++ ys) → InByteOrder xs
front_order [] ys order = tt
front_order (x ∷ xs) ys order = (Each-left (IsBefore x) xs ys order.0, front_order xs ys order.1)

middle_order : (front back : List Entry) (e : Entry) → InByteOrder (texts_of (front ++ back)) → Each (λ (f : Entry). IsBefore f.text e.text) front → Each (λ (f : Entry). IsBefore e.text f.text) back →
    InByteOrder (texts_of (front ++ e ∷ back))
middle_order [] back e order lower higher = (Each-map (λ (f : Entry). f.text) (IsBefore e.text) back higher, order)
middle_order (f ∷ front) back e order lower higher = (
  Each-map (λ (g : Entry). g.text) (IsBefore f.text) (front ++ e ∷ back)
      (Each-middle (λ (g : Entry). IsBefore f.text g.text) front back e (Each-map_from (λ (g : Entry). g.text) (IsBefore f.text) (front ++ back) order.0) lower.0),
  middle_order front back e order.1 lower.1 higher,
)

middle_length : {X : Type 0} (front back : List X) (x : X) → length (front ++ x ∷ back) ≡ suc (length (front ++ back))
middle_length [] back x = refl
middle_length (y ∷ front) back x = ap suc (middle_length front back x)

middle_nodes : (front back : List Entry) (e : Entry) → Each (λ (t : Tree). AreTreeNodes t.nodes) (trees_of (front ++ back)) → AreTreeNodes e.tree.nodes → Each (λ (t : Tree). AreTreeNodes t.nodes) (trees_of (front ++ e ∷ back))
middle_nodes [] back e each here = (here, each)
middle_nodes (f ∷ front) back e each here = (each.0, middle_nodes front back e each.1 here)

pub IsTreeSet-middle : (set : List Entry) (place : ℕ) (e : Entry) → IsTreeSet set → SplitsAt set place e.text → AreTreeNodes e.tree.nodes → length set < 4294967295 → IsTreeSet (take place set ++ e ∷ drop place set)
IsTreeSet-middle set place e is splits nodes room =
    let whole : take place set ++ drop place set ≡ set = take-append-drop place set in
    let count : length (take place set ++ e ∷ drop place set) ≡ suc (length (take place set ++ drop place set)) = middle_length (take place set) (drop place set) e in
    let same_count : length (take place set ++ drop place set) ≡ length set = ap length whole in
    record {
      order = middle_order (take place set) (drop place set) e (subst (λ s. InByteOrder (texts_of s)) (sym whole) is.order) splits.lower splits.higher;
      nodes = middle_nodes (take place set) (drop place set) e (subst (λ s. Each (λ (t : Tree). AreTreeNodes t.nodes) (trees_of s)) (sym whole) is.nodes) nodes;
      few = omega arith;
    }

Each-insert : (n : ℕ) (order : List ℕ) (place : ℕ) → Each (λ i. i < n) order → Each (λ i. i < suc n) (insert order place n)
Each-insert n order place within =
    Each-middle (λ i. i < suc n) (take place order) (drop place order) n
    (subst (λ xs. Each (λ i. i < suc n) xs) (sym (take-append-drop place order)) (weaker order within)) (omega arith)
  where
    weaker : (xs : List ℕ) → Each (λ i. i < n) xs → Each (λ i. i < suc n) xs
    weaker [] h = tt
    weaker (x ∷ xs) h = (let b : x < n = h.0 in omega arith, weaker xs h.1)

-- the fields with one more
pub KeepsOrder-insert : (held all : List Held) (order reserved : List ℕ) (place number : ℕ) (h : Held) (places : List ℕ) → KeepsOrder held order → reserved ≡ order → all ≡ held ++ h ∷ [] → number ≡ length held →
    places ≡ insert reserved place number → SplitsAt (entries_by held order) place (string_bytes h.text) → AreTreeNodes h.tree.nodes → length held < 4294967295 →
    KeepsOrder all places × (entries_by all places ≡ take place (entries_by held order) ++ entry_of h ∷ drop place (entries_by held order))
KeepsOrder-insert held all order reserved place number h places keeps reserved_is all_is number_is places_are splits nodes room =
    let places_is : places ≡ insert order place (length held) = places_are ∙ ap₂ (λ xs n. insert xs place n) reserved_is number_is in
    let entries_are : entries_by all places ≡ take place (entries_by held order) ++ entry_of h ∷ drop place (entries_by held order) =
    ap₂ entries_by all_is places_is ∙ entries-insert held order place h keeps.within in
    let one_more : length all ≡ suc (length held) = ap length all_is ∙ length-append held (h ∷ []) ∙ omega arith in
    let one_more_place : length places ≡ suc (length order) =
    ap length places_is ∙ middle_length (take place order) (drop place order) (length held) ∙ ap (λ (xs : List ℕ). suc (length xs)) (take-append-drop place order) in
    let as_many : length (entries_by held order) ≡ length order = length-entries held order keeps.within in
    let before : length order ≤ length held = keeps.as_many in (
      record {
        within = subst (λ xs. Each (λ i. i < length all) xs) (sym places_is) (subst (λ n. Each (λ i. i < n) (insert order place (length held))) (sym one_more) (Each-insert (length held) order place keeps.within));
        as_many = omega arith;
        few = omega arith;
        set = subst IsTreeSet (sym entries_are) (IsTreeSet-middle (entries_by held order) place (entry_of h) keeps.set splits nodes (omega arith));
      },
      entries_are,
    )

-- ---- finding a text

-- how two texts compare is how they stand
abbrev pub Compared : List ℕ → List ℕ → Ordering → Type 0
Compared xs ys Less = IsBefore xs ys
Compared xs ys Equal = xs ≡ ys
Compared xs ys Greater = IsBefore ys xs

pub compared : (xs ys : List ℕ) → Compared xs ys (slice_cmp nat_cmp xs ys)
compared [] [] = refl
compared [] (y ∷ ys) = tt
compared (x ∷ xs) [] = tt
compared (x ∷ xs) (y ∷ ys) = by (less_same_more x y) (slice_cmp nat_cmp xs ys) (compared xs ys)
  where
    rest : (o : Ordering) → x ≡ y → Compared xs ys o → Compared (x ∷ xs) (y ∷ ys) o
    rest Less e h = inr (e, h)
    rest Equal e h = ap₂ (λ z zs. z ∷ zs) e h
    rest Greater e h = inr (sym e, h)

    by : (x < y) ⊎ ((x ≡ y) ⊎ (y < x)) → (o : Ordering) → Compared xs ys o → Compared (x ∷ xs) (y ∷ ys) (ordering_then (nat_cmp x y) o)
    by (inl h) o c = subst (λ n. Compared (x ∷ xs) (y ∷ ys) (ordering_then n o)) (nat_cmp_is x y Less h) (inl h)
    by (inr (inl e)) o c = subst (λ n. Compared (x ∷ xs) (y ∷ ys) (ordering_then n o)) (nat_cmp_is x y Equal e) (rest o e c)
    by (inr (inr h)) o c = subst (λ n. Compared (x ∷ xs) (y ∷ ys) (ordering_then n o)) (nat_cmp_is x y Greater h) (inl h)

-- the texts below a place are lower, and those from another on are higher
pub record Narrows (set : List Entry) (low high : ℕ) (bytes : List ℕ) : Type 0 where
  pub ordered : low ≤ high
  pub within : high ≤ length set
  pub lower : Each (λ (e : Entry). IsBefore e.text bytes) (take low set)
  pub higher : Each (λ (e : Entry). IsBefore bytes e.text) (drop high set)

pub Narrows-all : (set : List Entry) (bytes : List ℕ) (n : ℕ) → n ≡ length set → Narrows set 0 n bytes
Narrows-all set bytes n e = record {
  ordered = omega arith;
  within = omega (arith, e);
  lower = tt;
  higher = subst (λ xs. Each (λ (f : Entry). IsBefore bytes f.text) xs) (sym (ap (λ k. drop k set) e ∙ none_behind set)) tt;
}
  where
    none_behind : {X : Type 0} (xs : List X) → drop (length xs) xs ≡ []
    none_behind [] = refl
    none_behind (x ∷ xs) = none_behind xs

-- all up to a lower one are lower
lower_up_to : (set : List Entry) (m : ℕ) (e : Entry) (bytes : List ℕ) → InByteOrder (texts_of set) → slice_get set m ≡ Some e → IsBefore e.text bytes → Each (λ (f : Entry). IsBefore f.text bytes) (take (suc m) set)
lower_up_to [] m e bytes order at before = absurd (none-some e at)
lower_up_to (f ∷ set) zero e bytes order at before = (subst (λ (g : Entry). IsBefore g.text bytes) (sym (same_Some f e at)) before, tt)
lower_up_to (f ∷ set) (suc m) e bytes order at before = (
  IsBefore-trans f.text e.text bytes (Each-at (IsBefore f.text) (texts_of set) e.text order.0 (IsAmong-map (λ (g : Entry). g.text) set e (IsAmong-slice_get set m e at))) before,
  lower_up_to set m e bytes order.1 at before,
)

-- all from a higher one on are higher
higher_from : (set : List Entry) (m : ℕ) (e : Entry) (bytes : List ℕ) → InByteOrder (texts_of set) → slice_get set m ≡ Some e → IsBefore bytes e.text → Each (λ (f : Entry). IsBefore bytes f.text) (drop m set)
higher_from [] m e bytes order at before = absurd (none-some e at)
higher_from (f ∷ set) zero e bytes order at before = (
  subst (λ (g : Entry). IsBefore bytes g.text) (sym (same_Some f e at)) before,
  Each-map_from (λ (g : Entry). g.text) (IsBefore bytes) set
      (Each-members (IsBefore bytes) (texts_of set) (λ k i. IsBefore-trans bytes e.text k before (subst (λ (g : Entry). IsBefore g.text k) (same_Some f e at) (Each-at (IsBefore f.text) (texts_of set) k order.0 i)))),
)
higher_from (f ∷ set) (suc m) e bytes order at before = higher_from set m e bytes order.1 at before

module _ (set : List Entry) (is : IsTreeSet set) (low high middle : ℕ) (bytes : List ℕ) (narrows : Narrows set low high bytes) (h : Held) (at : slice_get set middle ≡ Some (entry_of h)) where
  pub Narrows-less : middle < high → IsBefore (string_bytes h.text) bytes → Narrows set (middle + 1) high bytes
  Narrows-less below before = record {
    ordered = omega arith;
    within = narrows.within;
    lower = subst (λ n. Each (λ (e : Entry). IsBefore e.text bytes) (take n set)) (sym (add-one middle)) (lower_up_to set middle (entry_of h) bytes is.order at before);
    higher = narrows.higher;
  }

  pub Narrows-greater : low ≤ middle → middle < high → IsBefore bytes (string_bytes h.text) → Narrows set low middle bytes
  Narrows-greater above below before = record {
    ordered = above;
    within = let w : high ≤ length set = narrows.within in omega arith;
    lower = narrows.lower;
    higher = higher_from set middle (entry_of h) bytes is.order at before;
  }

pub Narrows-splits : (set : List Entry) (low high : ℕ) (bytes : List ℕ) → high ≤ low → Narrows set low high bytes → SplitsAt set low bytes
Narrows-splits set low high bytes met narrows =
    let o : low ≤ high = narrows.ordered in
    let w : high ≤ length set = narrows.within in
    record { within = omega arith; lower = narrows.lower; higher = let e : high ≡ low = omega arith in subst (λ n. Each (λ (f : Entry). IsBefore bytes f.text) (drop n set)) e narrows.higher }

-- ---- what the calls say

-- where a text would stand, it does not stand
pub SplitsAt-lacks : (set : List Entry) (place : ℕ) (bytes : List ℕ) → SplitsAt set place bytes → LacksText set bytes
SplitsAt-lacks set place bytes splits i =
    let r = IsAmong-map_from (λ (e : Entry). e.text) set bytes i in
    elim (IsAmong-append (take place set) (drop place set) r.0 (subst (λ xs. IsAmong xs r.0) (sym (take-append-drop place set)) r.1)) [
      | inl j ↦ IsBefore-irreflexive bytes (subst (λ t. IsBefore t bytes) (sym r.2) (Each-at (λ (e : Entry). IsBefore e.text bytes) (take place set) r.0 splits.lower j))
      | inr j ↦ IsBefore-irreflexive bytes (subst (λ t. IsBefore bytes t) (sym r.2) (Each-at (λ (e : Entry). IsBefore bytes e.text) (drop place set) r.0 splits.higher j))
    ]

pub HasTextAt-among : (set : List Entry) (at : ℕ) (bytes : List ℕ) → HasTextAt set at bytes → IsAmong (texts_of set) bytes
HasTextAt-among set at bytes (e, there, same) = subst (λ t. IsAmong (texts_of set) t) same (IsAmong-map (λ (f : Entry). f.text) set e (IsAmong-slice_get set at e there))

pub Gains-middle : (old new : List Entry) (place : ℕ) (h : Held) → new ≡ take place old ++ entry_of h ∷ drop place old → Gains old new h.tree (string_bytes h.text)
Gains-middle old new place h e = (take place old, drop place old, sym (take-append-drop place old), e)

pub IsWhole-gains : (texts : List (List ℕ)) (old new : List Entry) (t : Tree) (bytes : List ℕ) → Gains old new t bytes → IsTreeSet new → HasText texts t bytes → IsWhole texts old → IsWhole texts new
IsWhole-gains texts old new t bytes (front, back, old_is, new_is) is has whole = record {
  is_set = is;
  texts_are = subst (λ s. Each (λ (e : Entry). HasText texts e.tree e.text) s) (sym new_is)
      (Each-middle (λ (e : Entry). HasText texts e.tree e.text) front back (record { tree = t; text = bytes }) (subst (λ s. Each (λ (e : Entry). HasText texts e.tree e.text) s) old_is whole.texts_are) has);
}

pub tree_at : (set : List Entry) (at : ℕ) (h : Held) → slice_get set at ≡ Some (entry_of h) → slice_get (trees_of set) at ≡ Some h.tree
tree_at [] at h e = absurd (none-some (entry_of h) e)
tree_at (f ∷ set) zero h e = ap (λ (g : Entry). Some g.tree) (same_Some f (entry_of h) e)
tree_at (f ∷ set) (suc at) h e = tree_at set at h e

pub text_at : (set : List Entry) (at : ℕ) (h : Held) → slice_get set at ≡ Some (entry_of h) → slice_get (texts_of set) at ≡ Some (string_bytes h.text)
text_at [] at h e = absurd (none-some (entry_of h) e)
text_at (f ∷ set) zero h e = ap (λ (g : Entry). Some g.text) (same_Some f (entry_of h) e)
text_at (f ∷ set) (suc at) h e = text_at set at h e

pub nodes_at : (set : List Entry) (at : ℕ) (t : Tree) → IsTreeSet set → slice_get (trees_of set) at ≡ Some t → AreTreeNodes t.nodes
nodes_at set at t is e = Each-at (λ (u : Tree). AreTreeNodes u.nodes) (trees_of set) t is.nodes (IsAmong-slice_get (trees_of set) at t e)

-- what a comparison says
pub compared_as : (xs ys seen : List ℕ) (o p : Ordering) → seen ≡ xs → o ≡ slice_cmp nat_cmp seen ys → o ≡ p → Compared xs ys p
compared_as xs ys seen o p same is found = subst (λ q. Compared xs ys q) (ap (λ zs. slice_cmp nat_cmp zs ys) (sym same) ∙ sym is ∙ found) (compared xs ys)
