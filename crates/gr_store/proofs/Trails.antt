-- Bindings that are added to a trail or taken from it.
use Rattle.std.proofs.Common.{◌≡◌, ◌≢◌, ℕ, zero, suc, ◌+◌, ◌-◌, ◌<◌, ◌≤◌, ◌⊎◌, inl, inr, true, false, List, [], ◌∷◌, ◌++◌, length, get_or, take, set, refl, sym, ◌∙◌, ap, subst, arith}
use Rattle.std.proofs.lemmas.Bool.{cases_eq, cases_lt, cases_Bool}
use Rattle.std.proofs.lemmas.Bool.Decides.{nat_tests}
use Rattle.std.proofs.lemmas.List.{length-set, get_or-set_same, get_or-set_other, set-set, set-get_or, take-set, take-set-le, take_more, take_more_set, take_at, take_all, take-take, length-append, length-map, get_or_past, length-take-le, get_or-take}
use Rattle.std.proofs.lemmas.List.FromFn.{length-range_with_len, get_or-map-range_with_len, map-range_with_len_more}
use Rattle.std.specs.List.{range_with_len}
use Rattle.gr_terms.specs.declared.Sym.{Sym}
use Rattle.gr_terms.specs.declared.Term.{Term}
use Rattle.gr_terms.specs.declared.Term.TheVariants.{Const, Var}
use Rattle.gr_store.specs.declared.bindings.Bound.{Bound}
use Rattle.gr_store.specs.Contents.{rank}
use Rattle.gr_store.specs.Roots.{bound_by, root_by, Joins, Extends}
use Rattle.gr_store.specs.Trail.{bound_to, all_free, table, is_variable, free_count, Leads, BindsFree, IsTrail}

pub root_by-name : (trail : List Bound) (s : Sym) → root_by trail (Const s) ≡ Const s
root_by-name [] s = refl
root_by-name (e ∷ trail) s = root_by-name trail s

pub root_by-push : (trail : List Bound) (e : Bound) (x : Term) → root_by (trail ++ e ∷ []) x ≡ bound_by e (root_by trail x)
root_by-push [] e x = refl
root_by-push (f ∷ trail) e x = root_by-push trail e (bound_by f x)

pub table-push : (trail : List Bound) (e : Bound) (to : List Term) → table (trail ++ e ∷ []) to ≡ set (table trail to) e.var e.to
table-push [] e to = refl
table-push (f ∷ trail) e to = table-push trail e (set to f.var f.to)

pub length-table : (trail : List Bound) (to : List Term) → length (table trail to) ≡ length to
length-table [] to = refl
length-table (e ∷ trail) to = length-table trail (set to e.var e.to) ∙ length-set to e.var e.to

-- what one binding makes of a term
pub bound_by-same : (e : Bound) → bound_by e (Var e.var) ≡ e.to
bound_by-same e = grind (arith, nat_tests)

pub bound_by-other : (e : Bound) (i : ℕ) → i ≢ e.var → bound_by e (Var i) ≡ Var i
bound_by-other e i n = grind (arith, nat_tests)

pub bound_by-lower : (e : Bound) (x : Term) → rank x ≤ e.var → bound_by e x ≡ x
bound_by-lower e (Const s) h = refl
bound_by-lower e (Var i) h = bound_by-other e i (λ same. absurd (omega arith))

pub bound_cases : (e : Bound) (x : Term) → (x ≡ Var e.var) ⊎ (bound_by e x ≡ x)
bound_cases e (Const s) = inr refl
bound_cases e (Var i) = elim (cases_eq i e.var) [ inl same ↦ inl (ap (λ (k : ℕ). Var k) same) | inr other ↦ inr (bound_by-other e i other) ]

-- two roots that a binding makes equal
bound_by-joined : (e : Bound) (u v : Term) → rank e.to ≤ e.var → bound_by e u ≡ bound_by e v
    → (u ≡ v) ⊎ (((u ≡ Var e.var) ⊎ (u ≡ e.to)) × ((v ≡ Var e.var) ⊎ (v ≡ e.to)))
bound_by-joined e u v low same =
    let is_to = bound_by-same e in
    elim (bound_cases e u) [
      | inl u_is ↦ elim (bound_cases e v) [
        | inl v_is ↦ inr (inl u_is, inl v_is)
        | inr v_stays ↦ inr (inl u_is, inr cc)
      ]
      | inr u_stays ↦ elim (bound_cases e v) [
        | inl v_is ↦ inr (inr cc, inl v_is)
        | inr v_stays ↦ inl cc
      ]
    ]

pub Joins-bind : (trail : List Bound) (e : Bound) (a b : Term) → rank e.to ≤ e.var → root_by trail a ≡ Var e.var → root_by trail b ≡ e.to
    → Joins (root_by trail) (root_by (trail ++ e ∷ [])) a b
Joins-bind trail e a b low a_is b_is = record {
  keeps = λ x y same. root_by-push trail e x ∙ ap (bound_by e) same ∙ sym (root_by-push trail e y);
  joins = root_by-push trail e a ∙ ap (bound_by e) a_is ∙ bound_by-same e ∙ sym (bound_by-lower e e.to low) ∙ ap (bound_by e) (sym b_is) ∙ sym (root_by-push trail e b);
  only = λ x y same. elim (bound_by-joined e (root_by trail x) (root_by trail y) low (sym (root_by-push trail e x) ∙ same ∙ root_by-push trail e y)) [
    | inl h ↦ inl h
    | inr h ↦ inr (
      elim h.0 [ inl v ↦ inl (v ∙ sym a_is) | inr v ↦ inr (v ∙ sym b_is) ],
      elim h.1 [ inl v ↦ inl (v ∙ sym a_is) | inr v ↦ inr (v ∙ sym b_is) ],
    )
  ];
}

pub Joins-sym : (f g : Term → Term) (a b : Term) → Joins f g a b → Joins f g b a
Joins-sym f g a b j = record {
  keeps = j.keeps;
  joins = sym j.joins;
  only = λ x y same. elim (j.only x y same) [
    | inl h ↦ inl h
    | inr h ↦ inr (elim h.0 [ inl v ↦ inr v | inr v ↦ inl v ], elim h.1 [ inl v ↦ inr v | inr v ↦ inl v ])
  ];
}

is_variable-same : (i j : ℕ) → i ≡ j → is_variable i (Var j) ≡ true
is_variable-same i j same = grind (arith, nat_tests)

-- a free variable that is bound is one free variable less
pub free_count-set : (to : List Term) (from i j : ℕ) (x : Term) → from + i ≡ j → i < length to → get_or to i (Var j) ≡ Var j
    → is_variable j x ≡ false → free_count from (set to i x) + 1 ≡ free_count from to
free_count-set [] from i j x at within free other = absurd (omega arith)
free_count-set (y ∷ to) from zero j x at within free other =
    let same : from ≡ j = omega arith in
    let y_is : is_variable from y ≡ true = ap (is_variable from) free ∙ is_variable-same from j same in
    let x_is : is_variable from x ≡ false = rw same other in
    rw (y_is, x_is) (omega arith)
free_count-set (y ∷ to) from (suc i) j x at within free other =
    let rest = free_count-set to (from + 1) i j x (omega arith) (omega arith) free other in
    omega (arith, rest)

is_variable-lower : (i : ℕ) (x : Term) → rank x ≤ i → is_variable i x ≡ false
is_variable-lower i (Const s) low = refl
is_variable-lower i (Var j) low = grind (arith, nat_tests)

-- after one more binding
pub Leads-push : (trail : List Bound) (to : List Term) (e : Bound) → Leads trail to → BindsFree to e
    → root_by trail (Var e.var) ≡ Var e.var → root_by trail e.to ≡ e.to → Leads (trail ++ e ∷ []) (set to e.var e.to)
Leads-push trail to e l b var_root to_root =
    let at_var : (d : Term) → get_or (set to e.var e.to) e.var d ≡ e.to = λ d. get_or-set_same to e.var e.to d b.in_range in
    let at_other : (i : ℕ) → i ≢ e.var → bound_to (set to e.var e.to) i ≡ bound_to to i = λ i n. get_or-set_other to e.var i e.to (Var i) n in
    let to_stays = bound_by-lower e e.to b.lower in
    let new_var : root_by (trail ++ e ∷ []) (Var e.var) ≡ e.to = root_by-push trail e (Var e.var) ∙ ap (bound_by e) var_root ∙ bound_by-same e in
    let new_to : root_by (trail ++ e ∷ []) e.to ≡ e.to = root_by-push trail e e.to ∙ ap (bound_by e) to_root ∙ to_stays in
    let differ : e.to ≢ Var e.var = λ same. omega (arith, ap rank same) in
    record {
      leads = λ i. elim (cases_eq i e.var) [
        | inl same ↦ rw same (new_var ∙ sym new_to ∙ ap (root_by (trail ++ e ∷ [])) (sym (at_var (Var e.var))))
        | inr other ↦ root_by-push trail e (Var i) ∙ ap (bound_by e) (l.leads i) ∙ sym (root_by-push trail e (bound_to to i)) ∙ ap (root_by (trail ++ e ∷ [])) (sym (at_other i other))
      ];
      stays = λ i kept. elim (cases_eq i e.var) [
        | inl same ↦ absurd (differ (sym (at_var (Var i)) ∙ ap (λ (k : ℕ). get_or (set to e.var e.to) k (Var i)) (sym same) ∙ kept ∙ ap (λ (k : ℕ). Var k) same))
        | inr other ↦ root_by-push trail e (Var i) ∙ ap (bound_by e) (l.stays i (sym (at_other i other) ∙ kept)) ∙ bound_by-other e i other
      ];
      is_free = λ i kept. elim (bound_cases e (root_by trail (Var i))) [
        | inl was ↦
            let to_is : e.to ≡ Var i = sym (bound_by-same e) ∙ ap (bound_by e) (sym was) ∙ sym (root_by-push trail e (Var i)) ∙ kept in
            absurd (differ (sym to_root ∙ ap (root_by trail) to_is ∙ was))
        | inr was ↦
            let was_root : root_by trail (Var i) ≡ Var i = sym was ∙ sym (root_by-push trail e (Var i)) ∙ kept in
            elim (cases_eq i e.var) [
              | inl same ↦ absurd (differ (sym new_var ∙ ap (λ (k : ℕ). root_by (trail ++ e ∷ []) (Var k)) (sym same) ∙ kept ∙ ap (λ (k : ℕ). Var k) same))
              | inr other ↦ at_other i other ∙ l.is_free i was_root
            ]
      ];
      falls = λ i. elim (cases_eq i e.var) [
        | inl same ↦ rw same (inr (rw (at_var (Var e.var)) b.lower))
        | inr other ↦ rw (at_other i other) (l.falls i)
      ];
    }

-- a trail with one more binding
pub IsTrail-push : (to : List Term) (trail : List Bound) (used : ℕ) (e : Bound) → IsTrail to trail used
    → e.var < length to → rank e.to ≤ e.var → root_by (take used trail) (Var e.var) ≡ Var e.var → root_by (take used trail) e.to ≡ e.to
    → (used < length trail) × IsTrail (set to e.var e.to) (set trail used e) (used + 1)
IsTrail-push to trail used e s in_range lower var_root to_root =
    let to_is = s.is_table in
    let was_free : bound_to to e.var ≡ Var e.var = ap (λ t. bound_to t e.var) to_is ∙ (s.always used (omega arith)).is_free e.var var_root in
    let count = free_count-set to 0 e.var e.var e.to (omega arith) in_range was_free (is_variable-lower e.var e.to lower) in
    let room : used < length trail = omega (arith, count, s.room) in
    let binds : BindsFree to e = record { in_range = in_range; free = was_free; lower = lower } in
    let binds_table = subst (λ t. BindsFree t e) to_is binds in
    let same_length = length-set to e.var e.to in (
      room,
      record {
        within = rw (length-set trail used e) (omega arith);
        is_table = rw (same_length, take_more_set trail used e room, table-push (take used trail) e) (ap (λ t. set t e.var e.to) to_is);
        always = λ k le. elim (cases_lt used k) [
          | inl past ↦
              let same : k ≡ used + 1 = omega arith in
              rw (same, same_length, take_more_set trail used e room, table-push (take used trail) e)
              (Leads-push (take used trail) (table (take used trail) (all_free (length to))) e (s.always used (omega arith)) binds_table var_root to_root)
          | inr before ↦ rw (same_length, take-set-le k trail used e before) (s.always k before)
        ];
        steps = λ k d below. elim (cases_lt k used) [
          | inl before ↦
              let differ : k ≢ used = omega arith in
              let le : k ≤ used = omega arith in
              rw (same_length, take-set-le k trail used e le, get_or-set_other trail used k e d differ) (s.steps k d before)
          | inr past ↦
              let same : k ≡ used = omega arith in
              rw (same, same_length, take-set trail used e, get_or-set_same trail used e d room) binds_table
        ];
        room = rw (length-set trail used e) (omega (arith, count, s.room));
      },
    )

pub length-all_free : (n : ℕ) → length (all_free n) ≡ n
length-all_free n = length-map (range_with_len 0 n) (λ i. Var i) ∙ length-range_with_len 0 n

-- a trail with its last binding taken back
pub IsTrail-pop : (to : List Term) (trail : List Bound) (n : ℕ) (e : Bound) → IsTrail to trail (n + 1) → e ≡ get_or trail n e
    → (e.var < length to) × IsTrail (set to e.var (Var e.var)) trail n
IsTrail-pop to trail n e s e_is =
    let before = table (take n trail) (all_free (length to)) in
    let b : BindsFree before e = subst (λ x. BindsFree before x) (sym e_is) (s.steps n e (omega arith)) in
    let room : n < length trail = omega (arith, s.within) in
    let to_is : to ≡ set before e.var e.to =
    s.is_table ∙ ap (λ t. table t (all_free (length to))) (take_more trail n e room ∙ ap (λ x. take n trail ++ x ∷ []) (sym e_is)) ∙ table-push (take n trail) e (all_free (length to)) in
    let back : set to e.var (Var e.var) ≡ before =
    ap (λ t. set t e.var (Var e.var)) to_is ∙ set-set before e.var e.to (Var e.var) ∙ ap (set before e.var) (sym b.free) ∙ set-get_or before e.var (Var e.var) in
    let count = free_count-set before 0 e.var e.var e.to (omega arith) b.in_range b.free (is_variable-lower e.var e.to b.lower) in
    let count_to : free_count 0 to + 1 ≡ free_count 0 before = rw (← to_is) at count in
    let same_length = length-set to e.var (Var e.var) in (
      omega (arith, b.in_range, length-table (take n trail) (all_free (length to)), length-all_free (length to)),
      record {
        within = omega arith;
        is_table = rw same_length back;
        always = λ k le. rw same_length (s.always k (omega arith));
        steps = λ k d below. rw same_length (s.steps k d (omega arith));
        room = rw back (omega (arith, count_to, s.room));
      },
    )

pub Extends-refl : (trail : List Bound) → Extends trail trail
Extends-refl trail = record { longer = omega arith; earlier = take_all (length trail) trail (omega arith); keeps = λ x y same. same }

pub Extends-push : (trail : List Bound) (e : Bound) → Extends trail (trail ++ e ∷ [])
Extends-push trail e = record {
  longer = omega (arith, length-append trail (e ∷ []));
  earlier = take_at trail (e ∷ []) (length trail) refl;
  keeps = λ x y same. root_by-push trail e x ∙ ap (bound_by e) same ∙ sym (root_by-push trail e y);
}

pub Extends-trans : (old mid new : List Bound) → Extends old mid → Extends mid new → Extends old new
Extends-trans old mid new h k = record {
  longer = omega (arith, h.longer, k.longer);
  earlier = sym (take-take (length old) (length mid) new h.longer) ∙ ap (take (length old)) k.earlier ∙ h.earlier;
  keeps = λ x y same. k.keeps x y (h.keeps x y same);
}

bound_to-all_free : (n i : ℕ) → bound_to (all_free n) i ≡ Var i
bound_to-all_free n i = elim (cases_lt i n) [
  | inl below ↦ get_or-map-range_with_len (λ k. Var k) 0 n i i (Var i) below (omega arith)
  | inr past ↦ get_or_past (all_free n) i (Var i) (omega (arith, length-all_free n))
]

Leads-start : (n : ℕ) → Leads [] (all_free n)
Leads-start n = record {
  leads = λ i. sym (bound_to-all_free n i);
  stays = λ i same. refl;
  is_free = λ i same. bound_to-all_free n i;
  falls = λ i. inl (bound_to-all_free n i);
}

free_count-le : (from : ℕ) (to : List Term) → free_count from to ≤ length to
free_count-le from [] = omega arith
free_count-le from (x ∷ to) = elim (cases_Bool (is_variable from x)) [
  | inl same ↦ rw same (omega (arith, free_count-le (from + 1) to))
  | inr other ↦ rw other (omega (arith, free_count-le (from + 1) to))
]

-- an empty trail
pub IsTrail-start : (to : List Term) (trail : List Bound) (n : ℕ) → to ≡ all_free n → length trail ≡ n → IsTrail to trail 0
IsTrail-start to trail n to_is trail_len =
    let len : length to ≡ n = ap length to_is ∙ length-all_free n in
    record {
      within = omega arith;
      is_table = to_is ∙ ap all_free (sym len);
      always = λ k le. let none : k ≡ 0 = omega arith in rw none (Leads-start (length to));
      steps = λ k d below. absurd (omega arith);
      room = omega (arith, free_count-le 0 to);
    }

pub all_free-more : (n : ℕ) → all_free (n + 1) ≡ all_free n ++ Var n ∷ []
all_free-more n = map-range_with_len_more (λ k. Var k) 0 n n (omega arith)

bound_by-falls : (e : Bound) (x : Term) → rank e.to ≤ e.var → rank (bound_by e x) ≤ rank x
bound_by-falls e x low = elim (bound_cases e x) [
  | inl is ↦ rw is (rw (bound_by-same e) (omega arith))
  | inr stays ↦ rw stays (omega arith)
]

-- bindings lead to lower ranks
root_by-falls : (trail : List Bound) → ((k : ℕ) (d : Bound) → k < length trail → rank (get_or trail k d).to ≤ (get_or trail k d).var) → (x : Term) → rank (root_by trail x) ≤ rank x
root_by-falls [] low x = omega arith
root_by-falls (e ∷ trail) low x =
    omega (arith, root_by-falls trail (λ k d h. low (suc k) d (omega arith)) (bound_by e x), bound_by-falls e x (low 0 e (omega arith)))

pub IsTrail-falls : (to : List Term) (trail : List Bound) (used : ℕ) → IsTrail to trail used → (x : Term) → rank (root_by (take used trail) x) ≤ rank x
IsTrail-falls to trail used s = root_by-falls (take used trail) (λ k d h.
    let below : k < used = omega (arith, length-take-le used trail s.within) in
    rw (get_or-take used trail k d below) (s.steps k d below).lower)

-- where the first bindings are some, their number is one more than another
pub length-first : (trail : List Bound) (used : ℕ) → 0 < length (take used trail) → used ≡ (used - 1) + 1
length-first trail zero some = absurd (omega arith)
length-first trail (suc used) some = omega arith
