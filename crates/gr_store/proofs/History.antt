-- The bindings that stood after each first part of the assertions.
use Rattle.std.proofs.Common.{◌≡◌, ℕ, ◌+◌, ◌<◌, ◌≤◌, inl, inr, List, [], ◌∷◌, ◌++◌, length, get_or, take, sym, ◌∙◌, ap, subst, arith}
use Rattle.std.proofs.lemmas.Bool.{cases_lt}
use Rattle.std.proofs.lemmas.List.{get_or_append_left, get_or_default, get_or_at, get_or_past, get_or-take, length_push, length-map, length-take-le, take-take, take_all, take-append-le, take-map, map_push}
use Rattle.gr_terms.specs.declared.Assertion.{Assertion}
use Rattle.gr_store.specs.declared.bindings.Bound.{Bound}
use Rattle.gr_store.specs.declared.kept.Kept.{Kept}
use Rattle.gr_store.specs.Roots.{root_by, slot_root, Extends}
use Rattle.gr_store.specs.Solution.{Solves}
use Rattle.gr_store.specs.Index.{IsIndex}
use Rattle.gr_store.specs.State.{assertions_of, terms_before, joins_before, first_bound, IsRising, IsHistory}

push_same : (ls : List ℕ) (n n' k : ℕ) → k ≤ length ls → get_or (ls ++ n ∷ []) k n' ≡ get_or ls k n
push_same ls n n' k le = elim (cases_lt k (length ls)) [
  | inl below ↦ get_or_append_left ls (n ∷ []) n' k below ∙ get_or_default ls k n' n below
  | inr at ↦ get_or_at ls n [] n' k (omega arith) ∙ sym (get_or_past ls k n at)
]

push_past : (ls : List ℕ) (n n' k : ℕ) → length ls < k → get_or (ls ++ n ∷ []) k n' ≡ n'
push_past ls n n' k past = get_or_past (ls ++ n ∷ []) k n' (omega (arith, length_push ls n))

pub IsRising-in : (ls : List ℕ) (n : ℕ) → IsRising ls n → (k : ℕ) → get_or ls k n ≤ n
IsRising-in ls n rise k = omega (arith, rise k (k + length ls) (omega arith), get_or_past ls (k + length ls) n (omega arith))

pub IsRising-push : (ls : List ℕ) (n n' : ℕ) → IsRising ls n → n ≤ n' → IsRising (ls ++ n ∷ []) n'
IsRising-push ls n n' rise le j k jk = elim (cases_lt (length ls) k) [
  | inl past ↦ elim (cases_lt (length ls) j) [
    | inl also ↦ omega (arith, push_past ls n n' k past, push_past ls n n' j also)
    | inr before ↦ omega (arith, push_past ls n n' k past, push_same ls n n' j before, IsRising-in ls n rise j)
  ]
  | inr within ↦ omega (arith, push_same ls n n' k within, push_same ls n n' j (omega arith), rise j k jk)
]

undo_same : (ls : List ℕ) (n m k : ℕ) → m ≤ length ls → k ≤ m → get_or (take m ls) k (get_or ls m n) ≡ get_or ls k n
undo_same ls n m k in_range le = elim (cases_lt k m) [
  | inl below ↦ get_or-take m ls k (get_or ls m n) below ∙ get_or_default ls k (get_or ls m n) n (omega arith)
  | inr at ↦
      let same : k ≡ m = omega arith in
      get_or_past (take m ls) k (get_or ls m n) (omega (arith, length-take-le m ls in_range)) ∙ ap (λ i. get_or ls i n) (sym same)
]

undo_past : (ls : List ℕ) (n m k : ℕ) → m ≤ length ls → m ≤ k → get_or (take m ls) k (get_or ls m n) ≡ get_or ls m n
undo_past ls n m k in_range le = get_or_past (take m ls) k (get_or ls m n) (omega (arith, length-take-le m ls in_range))

pub IsRising-undo : (ls : List ℕ) (n m : ℕ) → m ≤ length ls → IsRising ls n → IsRising (take m ls) (get_or ls m n)
IsRising-undo ls n m in_range rise j k jk = elim (cases_lt m k) [
  | inl past ↦ elim (cases_lt m j) [
    | inl also ↦ omega (arith, undo_past ls n m k in_range (omega arith), undo_past ls n m j in_range (omega arith))
    | inr before ↦ omega (arith, undo_past ls n m k in_range (omega arith), undo_same ls n m j in_range before, rise j m before)
  ]
  | inr within ↦ omega (arith, undo_same ls n m k in_range within, undo_same ls n m j in_range (omega arith), rise j k jk)
]

first_bound-push : (ls : List ℕ) (old new : List Bound) (k : ℕ) → IsRising ls (length old) → Extends old new → k ≤ length ls
    → first_bound (ls ++ length old ∷ []) new k ≡ first_bound ls old k
first_bound-push ls old new k rise ext le =
    ap (λ n. take n new) (push_same ls (length old) (length new) k le)
    ∙ sym (take-take (get_or ls k (length old)) (length old) new (IsRising-in ls (length old) rise k))
    ∙ ap (take (get_or ls k (length old))) ext.earlier

first_bound-past : (ls : List ℕ) (n k : ℕ) (new : List Bound) → length ls < k → first_bound (ls ++ n ∷ []) new k ≡ new
first_bound-past ls n k new past = ap (λ i. take i new) (push_past ls n (length new) k past) ∙ take_all (length new) new (omega arith)

pub first_bound-now : (ls : List ℕ) (trail : List Bound) (k : ℕ) → length ls ≤ k → first_bound ls trail k ≡ trail
first_bound-now ls trail k le = ap (λ i. take i trail) (get_or_past ls k (length trail) le) ∙ take_all (length trail) trail (omega arith)

pub length-first_bound : (ls : List ℕ) (trail : List Bound) (m : ℕ) → IsRising ls (length trail) → length (first_bound ls trail m) ≡ get_or ls m (length trail)
length-first_bound ls trail m rise = length-take-le (get_or ls m (length trail)) trail (IsRising-in ls (length trail) rise m)

first_bound-undo : (ls : List ℕ) (trail : List Bound) (m k : ℕ) → m ≤ length ls → k ≤ m → IsRising ls (length trail)
    → first_bound (take m ls) (first_bound ls trail m) k ≡ first_bound ls trail k
first_bound-undo ls trail m k in_range le rise =
    ap (λ n. take (get_or (take m ls) k n) (first_bound ls trail m)) (length-first_bound ls trail m rise)
    ∙ ap (λ n. take n (first_bound ls trail m)) (undo_same ls (length trail) m k in_range le)
    ∙ take-take (get_or ls k (length trail)) (get_or ls m (length trail)) trail (rise k m le)

Solves-same : (base : ℕ) (net net' : List Assertion) (t t' s s' : List Bound) → net ≡ net' → t ≡ t' → s ≡ s' → Solves base net (root_by t) (slot_root s) → Solves base net' (root_by t') (slot_root s')
Solves-same base net net' t t' s s' n e d h =
    subst (λ x. Solves base net' (root_by t') (slot_root x)) d (subst (λ x. Solves base net' (root_by x) (slot_root s)) e (subst (λ x. Solves base x (root_by t) (slot_root s)) n h))

IsIndex-same : (base : ℕ) (net net' : List Assertion) (s s' : List Bound) → net ≡ net' → s ≡ s' → IsIndex base net s → IsIndex base net' s'
IsIndex-same base net net' s s' n d h = subst (λ x. IsIndex base net' x) d (subst (λ x. IsIndex base x s) n h)

-- what all bindings solve is the whole network
pub solves_now : (base : ℕ) (kept : List Kept) (terms nodes : List Bound) → IsHistory base kept terms nodes → Solves base (assertions_of kept) (root_by terms) (slot_root nodes)
solves_now base kept terms nodes h =
    Solves-same base _ _ _ _ _ _
    (take_all (length kept) (assertions_of kept) (omega (arith, length-map kept (λ e. e.assertion))))
    (first_bound-now (terms_before kept) terms (length kept) (omega (arith, length-map kept (λ e. e.terms))))
    (first_bound-now (joins_before kept) nodes (length kept) (omega (arith, length-map kept (λ e. e.joins))))
    (h.solves (length kept) (omega arith))

pub index_now : (base : ℕ) (kept : List Kept) (terms nodes : List Bound) → IsHistory base kept terms nodes → IsIndex base (assertions_of kept) nodes
index_now base kept terms nodes h =
    IsIndex-same base _ _ _ _
    (take_all (length kept) (assertions_of kept) (omega (arith, length-map kept (λ e. e.assertion))))
    (first_bound-now (joins_before kept) nodes (length kept) (omega (arith, length-map kept (λ e. e.joins))))
    (h.index (length kept) (omega arith))

-- one more assertion
module _ (base : ℕ) (kept : List Kept) (x : Assertion) (terms nodes terms' nodes' : List Bound) (h : IsHistory base kept terms nodes) (et : Extends terms terms') (en : Extends nodes nodes') where
  nets_push : assertions_of (kept ++ record { assertion = x; terms = length terms; joins = length nodes } ∷ []) ≡ assertions_of kept ++ x ∷ []
  nets_push = map_push (λ k. k.assertion) kept (record { assertion = x; terms = length terms; joins = length nodes })

  terms_push : terms_before (kept ++ record { assertion = x; terms = length terms; joins = length nodes } ∷ []) ≡ terms_before kept ++ length terms ∷ []
  terms_push = map_push (λ k. k.terms) kept (record { assertion = x; terms = length terms; joins = length nodes })

  joins_push : joins_before (kept ++ record { assertion = x; terms = length terms; joins = length nodes } ∷ []) ≡ joins_before kept ++ length nodes ∷ []
  joins_push = map_push (λ k. k.joins) kept (record { assertion = x; terms = length terms; joins = length nodes })

  -- the first parts that stood before are the same, and the last one is the whole
  nets_before : (k : ℕ) → k ≤ length kept → take k (assertions_of kept) ≡ take k (assertions_of (kept ++ record { assertion = x; terms = length terms; joins = length nodes } ∷ []))
  nets_before k before = sym (ap (take k) nets_push ∙ take-append-le k (assertions_of kept) (x ∷ []) (omega (arith, length-map kept (λ e. e.assertion))))

  nets_whole : (k : ℕ) → length kept < k → assertions_of kept ++ x ∷ [] ≡ take k (assertions_of (kept ++ record { assertion = x; terms = length terms; joins = length nodes } ∷ []))
  nets_whole k past = sym (ap (take k) nets_push ∙ take_all k (assertions_of kept ++ x ∷ []) (omega (arith, length-map kept (λ e. e.assertion), length_push (assertions_of kept) x)))

  joins_same : (k : ℕ) → k ≤ length kept → first_bound (joins_before kept) nodes k ≡ first_bound (joins_before (kept ++ record { assertion = x; terms = length terms; joins = length nodes } ∷ [])) nodes' k
  joins_same k before = sym (ap (λ ls. first_bound ls nodes' k) joins_push ∙ first_bound-push (joins_before kept) nodes nodes' k h.joins_rise en (omega (arith, length-map kept (λ e. e.joins))))

  joins_whole : (k : ℕ) → length kept < k → nodes' ≡ first_bound (joins_before (kept ++ record { assertion = x; terms = length terms; joins = length nodes } ∷ [])) nodes' k
  joins_whole k past = sym (ap (λ ls. first_bound ls nodes' k) joins_push ∙ first_bound-past (joins_before kept) (length nodes) k nodes' (omega (arith, length-map kept (λ e. e.joins))))

  terms_same : (k : ℕ) → k ≤ length kept → first_bound (terms_before kept) terms k ≡ first_bound (terms_before (kept ++ record { assertion = x; terms = length terms; joins = length nodes } ∷ [])) terms' k
  terms_same k before = sym (ap (λ ls. first_bound ls terms' k) terms_push ∙ first_bound-push (terms_before kept) terms terms' k h.terms_rise et (omega (arith, length-map kept (λ e. e.terms))))

  terms_whole : (k : ℕ) → length kept < k → terms' ≡ first_bound (terms_before (kept ++ record { assertion = x; terms = length terms; joins = length nodes } ∷ [])) terms' k
  terms_whole k past = sym (ap (λ ls. first_bound ls terms' k) terms_push ∙ first_bound-past (terms_before kept) (length terms) k terms' (omega (arith, length-map kept (λ e. e.terms))))

  pub IsHistory-push : Solves base (assertions_of kept ++ x ∷ []) (root_by terms') (slot_root nodes') → IsIndex base (assertions_of kept ++ x ∷ []) nodes'
      → IsHistory base (kept ++ record { assertion = x; terms = length terms; joins = length nodes } ∷ []) terms' nodes'
  IsHistory-push solved index = record {
    terms_rise = rw terms_push (IsRising-push (terms_before kept) (length terms) (length terms') h.terms_rise et.longer);
    joins_rise = rw joins_push (IsRising-push (joins_before kept) (length nodes) (length nodes') h.joins_rise en.longer);
    solves = λ k le. elim (cases_lt (length kept) k) [
      | inl past ↦ Solves-same base _ _ _ _ _ _ (nets_whole k past) (terms_whole k past) (joins_whole k past) solved
      | inr before ↦ Solves-same base _ _ _ _ _ _ (nets_before k before) (terms_same k before) (joins_same k before) (h.solves k before)
    ];
    index = λ k le. elim (cases_lt (length kept) k) [
      | inl past ↦ IsIndex-same base _ _ _ _ (nets_whole k past) (joins_whole k past) index
      | inr before ↦ IsIndex-same base _ _ _ _ (nets_before k before) (joins_same k before) (h.index k before)
    ];
  }

-- the first assertions alone
module _ (base : ℕ) (kept : List Kept) (terms nodes : List Bound) (m : ℕ) (in_range : m ≤ length kept) (h : IsHistory base kept terms nodes) where
  nets_undo : (k : ℕ) → k ≤ m → take k (assertions_of kept) ≡ take k (assertions_of (take m kept))
  nets_undo k k_in = sym (ap (take k) (sym (take-map (λ e. e.assertion) m kept)) ∙ take-take k m (assertions_of kept) k_in)

  terms_undo : (k : ℕ) → k ≤ m → first_bound (terms_before kept) terms k ≡ first_bound (terms_before (take m kept)) (first_bound (terms_before kept) terms m) k
  terms_undo k k_in =
      sym (ap (λ ls. first_bound ls (first_bound (terms_before kept) terms m) k) (sym (take-map (λ e. e.terms) m kept))
      ∙ first_bound-undo (terms_before kept) terms m k (omega (arith, length-map kept (λ e. e.terms))) k_in h.terms_rise)

  joins_undo : (k : ℕ) → k ≤ m → first_bound (joins_before kept) nodes k ≡ first_bound (joins_before (take m kept)) (first_bound (joins_before kept) nodes m) k
  joins_undo k k_in =
      sym (ap (λ ls. first_bound ls (first_bound (joins_before kept) nodes m) k) (sym (take-map (λ e. e.joins) m kept))
      ∙ first_bound-undo (joins_before kept) nodes m k (omega (arith, length-map kept (λ e. e.joins))) k_in h.joins_rise)

  pub IsHistory-undo : IsHistory base (take m kept) (first_bound (terms_before kept) terms m) (first_bound (joins_before kept) nodes m)
  IsHistory-undo =
      let ts : terms_before (take m kept) ≡ take m (terms_before kept) = sym (take-map (λ e. e.terms) m kept) in
      let ns : joins_before (take m kept) ≡ take m (joins_before kept) = sym (take-map (λ e. e.joins) m kept) in
      let k_in : (k : ℕ) → k ≤ length (take m kept) → k ≤ m = λ k le. omega (arith, length-take-le m kept in_range) in
      record {
        terms_rise = rw (ts, length-first_bound (terms_before kept) terms m h.terms_rise) (IsRising-undo (terms_before kept) (length terms) m (omega (arith, length-map kept (λ e. e.terms))) h.terms_rise);
        joins_rise = rw (ns, length-first_bound (joins_before kept) nodes m h.joins_rise) (IsRising-undo (joins_before kept) (length nodes) m (omega (arith, length-map kept (λ e. e.joins))) h.joins_rise);
        solves = λ k le. Solves-same base _ _ _ _ _ _ (nets_undo k (k_in k le)) (terms_undo k (k_in k le)) (joins_undo k (k_in k le)) (h.solves k (omega (arith, k_in k le, in_range)));
        index = λ k le. IsIndex-same base _ _ _ _ (nets_undo k (k_in k le)) (joins_undo k (k_in k le)) (h.index k (omega (arith, k_in k le, in_range)));
      }
