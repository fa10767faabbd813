-- Surveys: one more node, the flaw of the lowest code, and that it is the tree's.
use Rattle.std.specs.Prelude.{◌≡◌, ◌≢◌, ℕ, ◌+◌, ◌<◌, ◌≤◌, List, [], ◌∷◌, ◌++◌, length, take, Option, Some, None, true, false, MatchOption, if◌then◌else◌, ◌⊎◌, refl}
use Rattle.std.proofs.Common.{inl, inr, ap, sym, ◌∙◌, subst, arith}
use Rattle.std.proofs.lemmas.List.{map-append, length-take, length-map}
use Rattle.gr_base.specs.Lists.{IsAmong}
use Rattle.gr_base.specs.Forests.{Forest, map_forest}
use Rattle.gr_base.proofs.ListLemmas.{IsAmong-append_left, IsAmong-one_more, IsAmong-new_one}
use Rattle.gr_terms.specs.Constants.{ANCHOR, FOOT}
use Rattle.gr_terms.specs.Canonical.{Node}
use Rattle.td_tree.specs.Trees.{BagPairs, AreTreeNodes}
use Rattle.td_tree.specs.TreeViews.{Pairs, lists_of}
use Rattle.td_tree.specs.declared.Tree.{Tree}
use Rattle.tg_grammar.specs.declared.flaw.Flaw.{Flaw}
use Rattle.tg_grammar.specs.declared.flaw.Flaw.TheVariants as flaw
use Rattle.tg_grammar.specs.declared.survey.Survey.{Survey}
use Rattle.tg_grammar.specs.Marks.{first_name, is_marked, marked}
use Rattle.tg_grammar.specs.Shapes.{HasFlaw, IsFirstFlaw, IsWellFormedTree, root_name}
use Rattle.tg_grammar.specs.Surveys.{HasCountFlaw, HasLowest, HasNodeFlaw, HasRootFlaw, HasSeenFlaw, HasSomeNodeFlaw, IsSurvey, Sight, lists_seen, lower, number_of, sights}
use Rattle.tg_grammar.proofs.MarkLemmas.{length-numbers_push, length-numbers_≤}
use Rattle.tg_grammar.proofs.FlawLemmas.{HasLowest-lower, HasLowest-same}
use Rattle.tg_grammar.proofs.SightLemmas.{first_name-root, inner_seen, labels_seen, leaf_seen, lists_seen-forest, seen_inner, seen_label, seen_leaf, seen_of, sights-forest}

-- what is wrong with one more node
push_flaw : (root : Option ℕ) (seen : List Sight) (x : Sight) (w : Flaw) → HasSomeNodeFlaw root seen w ⊎ HasNodeFlaw root x w → HasSomeNodeFlaw root (seen ++ x ∷ []) w
push_flaw root seen x w (inl h) = (h.0, IsAmong-append_left seen (x ∷ []) h.0 h.1, h.2)
push_flaw root seen x w (inr h) = (x, IsAmong-new_one seen x, h)

flaw_push : (root : Option ℕ) (seen : List Sight) (x : Sight) (w : Flaw) → HasSomeNodeFlaw root (seen ++ x ∷ []) w → HasSomeNodeFlaw root seen w ⊎ HasNodeFlaw root x w
flaw_push root seen x w h = elim (IsAmong-one_more seen x h.0 h.1) [
  | inl i ↦ inl (h.0, i, h.2)
  | inr e ↦ inr (subst (λ s. HasNodeFlaw root s w) e h.2)
]

-- how many of a mark there are with one more node
marked_push : (m : ℕ) (seen : List Sight) (x : Sight) → length (marked m (lists_seen (seen ++ x ∷ []))) ≡ length (marked m (lists_seen seen)) + (if is_marked m x.1 then 1 else 0)
marked_push m seen x = ap (λ xs. length (marked m xs)) (map-append (λ s. s.1) seen (x ∷ [])) ∙ length-numbers_push 0 (is_marked m) (lists_seen seen) x.1

pub IsSurvey-push : (seen : List Sight) (x : Sight) (old new : Survey) (found : Option Flaw) → IsSurvey seen old → new.root ≡ old.root → new.lowest ≡ lower old.lowest found →
    HasLowest (HasNodeFlaw (number_of old.root) x) found →
    new.anchors ≡ old.anchors + (if is_marked ANCHOR x.1 then 1 else 0) → new.feet ≡ old.feet + (if is_marked FOOT x.1 then 1 else 0) → IsSurvey (seen ++ x ∷ []) new
IsSurvey-push seen x old new found s root lowest low anchors feet =
    let P = HasSomeNodeFlaw (number_of old.root) seen in
    let Q = HasNodeFlaw (number_of old.root) x in
    let R = HasSomeNodeFlaw (number_of old.root) (seen ++ x ∷ []) in
    let both = HasLowest-lower P Q old.lowest found s.lowest low in
    let all : HasLowest R (lower old.lowest found) =
    HasLowest-same (λ w. P w ⊎ Q w) R (push_flaw (number_of old.root) seen x) (flaw_push (number_of old.root) seen x) (lower old.lowest found) both in
    record {
      lowest = subst (λ r. HasLowest (HasSomeNodeFlaw (number_of r) (seen ++ x ∷ [])) new.lowest) (sym root) (subst (HasLowest R) (sym lowest) all);
      anchors = anchors ∙ ap (λ n. n + (if is_marked ANCHOR x.1 then 1 else 0)) s.anchors ∙ sym (marked_push ANCHOR seen x);
      feet = feet ∙ ap (λ n. n + (if is_marked FOOT x.1 then 1 else 0)) s.feet ∙ sym (marked_push FOOT seen x);
    }

-- the lowest of what is wrong with the root, with nodes and with numbers
pub lowest_seen : (seen : List Sight) (s : Survey) (root count nodes all : Option Flaw) → IsSurvey seen s → HasLowest (HasRootFlaw (number_of s.root)) root →
    HasLowest (HasCountFlaw s.anchors s.feet) count → nodes ≡ lower s.lowest count → all ≡ lower root nodes → HasLowest (HasSeenFlaw (number_of s.root) seen) all
lowest_seen seen s root count nodes all h r k e f =
    let A = HasRootFlaw (number_of s.root) in
    let B = HasSomeNodeFlaw (number_of s.root) seen in
    let C = HasCountFlaw (length (marked ANCHOR (lists_seen seen))) (length (marked FOOT (lists_seen seen))) in
    let counted : HasLowest C count = subst (λ n. HasLowest (HasCountFlaw (length (marked ANCHOR (lists_seen seen))) n) count) h.feet (subst (λ n. HasLowest (HasCountFlaw n s.feet) count) h.anchors k) in
    let some : HasLowest (λ w. B w ⊎ C w) nodes = subst (HasLowest (λ w. B w ⊎ C w)) (sym e) (HasLowest-lower B C s.lowest count h.lowest counted) in
    subst (HasLowest (HasSeenFlaw (number_of s.root) seen)) (sym f) (HasLowest-lower A (λ w. B w ⊎ C w) root nodes r some)

-- ---- what is seen is what is wrong with the forest

seen_flaw : (f : Forest (Node BagPairs)) (w : Flaw) → HasSeenFlaw (root_name (map_forest lists_of f)) (seen_of f) w → HasFlaw (map_forest lists_of f) w
seen_flaw f flaw.RootCategory h = elim h [ inl e ↦ e | inr x ↦ absurd (elim x [ inl y ↦ y.2 | inr y ↦ y ]) ]
seen_flaw f flaw.SubstCategory h = elim h [ inl x ↦ absurd x | inr x ↦ elim x [ inl y ↦ (y.0.1, labels_seen f y.0 y.1, y.2.0, y.2.1) | inr y ↦ absurd y ] ]
seen_flaw f flaw.FootCategory h = elim h [ inl x ↦ absurd x | inr x ↦ elim x [ inl y ↦ (y.0.1, labels_seen f y.0 y.1, y.2.0, y.2.1) | inr y ↦ absurd y ] ]
seen_flaw f flaw.AnchorCount h = elim h [ inl x ↦ absurd x | inr x ↦ elim x [ inl y ↦ absurd y.2 | inr y ↦ subst (λ xs. length (marked ANCHOR xs) ≢ 1) (lists_seen-forest f) y ] ]
seen_flaw f flaw.FootCount h = elim h [ inl x ↦ absurd x | inr x ↦ elim x [ inl y ↦ absurd y.2 | inr y ↦ subst (λ xs. 1 < length (marked FOOT xs)) (lists_seen-forest f) y ] ]
seen_flaw f flaw.MarkOnInner h = elim h [
  | inl x ↦ absurd x
  | inr x ↦ elim x [ inl y ↦ (y.0.1, seen_inner f y.0.1 (subst (λ b. IsAmong (seen_of f) (b, y.0.1)) y.2.0 y.1), y.2.1) | inr y ↦ absurd y ]
]
seen_flaw f flaw.NoWord h = elim h [
  | inl x ↦ absurd x
  | inr x ↦ elim x [ inl y ↦ (y.0.1, seen_leaf f y.0.1 (subst (λ b. IsAmong (seen_of f) (b, y.0.1)) y.2.0 y.1), y.2.1) | inr y ↦ absurd y ]
]

flaw_seen : (f : Forest (Node BagPairs)) (w : Flaw) → HasFlaw (map_forest lists_of f) w → HasSeenFlaw (root_name (map_forest lists_of f)) (seen_of f) w
flaw_seen f flaw.RootCategory h = inl h
flaw_seen f flaw.SubstCategory h = let s = seen_label f h.0 h.1 in inr (inl ((s.0, h.0), s.1, (h.2, h.3)))
flaw_seen f flaw.FootCategory h = let s = seen_label f h.0 h.1 in inr (inl ((s.0, h.0), s.1, (h.2, h.3)))
flaw_seen f flaw.AnchorCount h = inr (inr (subst (λ xs. length (marked ANCHOR xs) ≢ 1) (sym (lists_seen-forest f)) h))
flaw_seen f flaw.FootCount h = inr (inr (subst (λ xs. 1 < length (marked FOOT xs)) (sym (lists_seen-forest f)) h))
flaw_seen f flaw.MarkOnInner h = inr (inl ((true, h.0), inner_seen f h.0 h.1, (refl, h.2)))
flaw_seen f flaw.NoWord h = inr (inl ((false, h.0), leaf_seen f h.0 h.1, (refl, h.2)))

-- what was seen of a tree's nodes tells the tree's first flaw
pub first_flaw_seen : (t : Tree) (nodes : AreTreeNodes t.nodes) (root : Option ℕ) (found : Option Flaw) → root ≡ first_name t.nodes → HasLowest (HasSeenFlaw root (sights 0 t.nodes)) found →
    MatchOption found (IsWellFormedTree t) (IsFirstFlaw t)
first_flaw_seen t nodes root found e h =
    by found (HasLowest-same (HasSeenFlaw (root_name F) (seen_of nodes.forest)) (HasFlaw F) (seen_flaw nodes.forest) (flaw_seen nodes.forest) found
    (subst (λ r. HasLowest (HasSeenFlaw r (seen_of nodes.forest)) found) (e ∙ first_name-root t.nodes nodes) (subst (λ xs. HasLowest (HasSeenFlaw root xs) found) (sights-forest t.nodes nodes) h)))
  where
    F : Forest (Node Pairs)
    F = map_forest lists_of nodes.forest

    by : (o : Option Flaw) → HasLowest (HasFlaw F) o → MatchOption o (IsWellFormedTree t) (IsFirstFlaw t)
    by None x = record { nodes = nodes; well_formed = x }
    by (Some w) x = record { nodes = nodes; lowest = x }

-- there are no more anchors and feet than nodes
pub counts_≤ : (i : ℕ) (seen : List Sight) (s : Survey) → IsSurvey (take i seen) s → s.anchors + s.feet ≤ i + i
counts_≤ i seen s h =
    let few : length (lists_seen (take i seen)) ≤ i = omega (arith, length-map (take i seen) (λ (x : Sight). x.1), length-take i seen) in
    omega (arith, few, h.anchors, h.feet, length-numbers_≤ 0 (is_marked ANCHOR) (lists_seen (take i seen)), length-numbers_≤ 0 (is_marked FOOT) (lists_seen (take i seen)))
