-- Each list of tokens has a run of a clear grammar.
use Rattle.std.proofs.Common.{◌≡◌, ℕ, zero, suc, ◌<◌, ◌≤◌, List, [], ◌∷◌, length, Bool, true, false, refl, ap, sym, ◌∙◌, ◌⊎◌, inl, inr, subst, arith, length-append}
use Rattle.std.specs.Prelude.{◌||◌, ◌&&◌, not, ⊤}
use Rattle.std.proofs.lemmas.Bool.{true≢false, cases_lt, cases_Bool, or_parts, false_from_ne_true}
use Rattle.gr_base.proofs.Booleans.{or_false_is}
use Rattle.gr_grammar.specs.Grammars.{Grammar, tok, seq, alt, part, System, IsSystem, Matches, a_token, no_token, both, the_left, the_right, no_more, one_more, by_part, nullable, first, goes, when, is_of, all_apart, is_clear, is_next, begins, End, took, failed, Runs, take_token, bad_token, bad_end, take_nothing, run_both, run_first, run_left, run_right, run_end, run_more, run_part, tree_of}
use Rattle.gr_grammar.proofs.Fronts.{and_left, and_right, not_true, both_ways, head_of, is_of-left, is_of-right, is_of-cases, is_of-when, not_moved, no_longer, apart_all, null_of, begins_of}
use Rattle.gr_grammar.proofs.Exact.{other_way, is_clear_again, some_text, has_nothing, begun}
use Rattle.gr_grammar.proofs.Runs.{narrow, starts}

and_no : (a b : Bool) → a ≡ true → (a && b) ≡ false → b ≡ false
and_no true b e h = h
and_no false b e h = absurd (true≢false (sym e))

module _ {C T : Type 0} (S : System C T) (K : IsSystem S) where
  not_null : (g h : Grammar C) → is_clear S (alt g h) ≡ true → nullable S g ≡ true → ⊥
  not_null g h c = not_true (nullable S g) (and_left (not (nullable S g)) _ (and_right (is_clear S h) _ (and_right (is_clear S g) _ c)))

  ways_apart : (g h : Grammar C) → is_clear S (alt g h) ≡ true → all_apart S (first S g) (first S h) ≡ true
  ways_apart g h c = and_right (not (nullable S g)) _ (and_right (is_clear S h) _ (and_right (is_clear S g) _ c))

  clear_left : (g h : Grammar C) → is_clear S (alt g h) ≡ true → is_clear S g ≡ true
  clear_left g h c = and_left (is_clear S g) _ c

  clear_right : (g h : Grammar C) → is_clear S (alt g h) ≡ true → is_clear S h ≡ true
  clear_right g h c = and_left (is_clear S h) _ (and_right (is_clear S g) _ c)

  clear_first : (g h : Grammar C) → is_clear S (seq g h) ≡ true → is_clear S g ≡ true
  clear_first g h c = and_left (is_clear S g) _ c

  clear_second : (g h : Grammar C) → is_clear S (seq g h) ≡ true → is_clear S h ≡ true
  clear_second g h c = and_left (is_clear S h) _ (and_right (is_clear S g) _ c)

  parts_apart : (g h : Grammar C) → is_clear S (seq g h) ≡ true → all_apart S (goes S g) (first S h) ≡ true
  parts_apart g h c = and_right (is_clear S h) _ (and_right (is_clear S g) _ c)

  begins_left : (g h : Grammar C) (us : List T) → begins S (seq g h) us ≡ false → begins S g us ≡ false
  begins_left g h us b = narrow S (first S (seq g h)) (first S g) us (λ t i. is_of-left S (first S g) _ t i) b

  begins_right : (g h : Grammar C) (us : List T) → nullable S g ≡ true → begins S (seq g h) us ≡ false → begins S h us ≡ false
  begins_right g h us n b = narrow S (first S (seq g h)) (first S h) us (λ t i. is_of-right S (first S g) _ t (is_of-when S (nullable S g) (first S h) t n i)) b

  begins_way : (g h : Grammar C) (us : List T) → begins S (alt g h) us ≡ false → begins S g us ≡ false
  begins_way g h us b = narrow S (first S (alt g h)) (first S g) us (λ t i. is_of-left S (first S g) _ t i) b

  begins_other : (g h : Grammar C) (us : List T) → begins S (alt g h) us ≡ false → begins S h us ≡ false
  begins_other g h us b = narrow S (first S (alt g h)) (first S h) us (λ t i. is_of-right S (first S g) _ t i) b

  begins_part : (n : ℕ) (us : List T) (v : Bool) → begins S (part n) us ≡ v → begins S (S.parts n) us ≡ v
  begins_part n us v b = subst (λ cs. is_next S cs us ≡ v) (sym (K.first n)) b

  -- a part with the empty text takes nothing, where the next token doesn't begin one
  nothing_run : {g : Grammar C} {ts rest : List T} → is_clear S g ≡ true → Matches S g ts rest → length ts ≤ length rest → (us : List T) → begins S g us ≡ false → Runs S g us (took us)
  nothing_run c (a_token h) l us b = absurd (omega arith)
  nothing_run c no_token l us b = take_nothing
  nothing_run c (both {g} {h} x y) l us b =
      let k = no_longer S x in let j = no_longer S y in
      run_both (nothing_run (clear_first g h c) x (omega arith) us (begins_left g h us b))
      (nothing_run (clear_second g h c) y (omega arith) us (begins_right g h us (null_of S K x (omega arith)) b))
  nothing_run c (the_left {g} {h} x) l us b = absurd (not_null g h c (null_of S K x l))
  nothing_run c (the_right {g} {h} x) l us b = run_right (begins_way g h us b) (nothing_run (clear_right g h c) x l us (begins_other g h us b))
  nothing_run c no_more l us b = run_end b
  nothing_run c (one_more x) l us b = run_end b
  nothing_run c (by_part {n} x) l us b = run_part (nothing_run (K.clear n) x l us (begins_part n us false b))

  -- what begins a part with the empty text also goes on behind that
  null_goes : {g : Grammar C} {ts rest : List T} → is_clear S g ≡ true → Matches S g ts rest → length ts ≤ length rest → (t : T) → is_of S (first S g) t ≡ true → is_of S (goes S g) t ≡ true
  null_goes c (a_token h) l t i = absurd (omega arith)
  null_goes c no_token l t i = i
  null_goes c (both {g} {h} x y) l t i =
      let k = no_longer S x in let j = no_longer S y in
      let n = null_of S K x (omega arith) in
      elim (is_of-cases S (first S g) (when (nullable S g) (first S h)) t i) [
        | inl a ↦ is_of-right S (goes S h) _ t (is_of-when S (nullable S h) (goes S g) t (null_of S K y (omega arith)) (null_goes (clear_first g h c) x (omega arith) t a))
        | inr a ↦ is_of-left S (goes S h) _ t (null_goes (clear_second g h c) y (omega arith) t (subst (λ b. is_of S (when b (first S h)) t ≡ true) n a))
      ]
  null_goes c (the_left {g} {h} x) l t i = absurd (not_null g h c (null_of S K x l))
  null_goes c (the_right {g} {h} x) l t i = elim (is_of-cases S (first S g) (first S h) t i) [
    | inl a ↦ is_of-right S (goes S g) _ t (is_of-right S (goes S h) _ t (is_of-when S (nullable S h) (first S g) t (null_of S K x l) a))
    | inr a ↦ is_of-right S (goes S g) _ t (is_of-left S (goes S h) _ t (null_goes (clear_right g h c) x l t a))
  ]
  null_goes c (no_more {g}) l t i = is_of-right S (goes S g) _ t i
  null_goes c (one_more {g} x) l t i = is_of-right S (goes S g) _ t i
  null_goes c (by_part {n} x) l t i = K.goes n t (null_goes (K.clear n) x l t (subst (λ cs. is_of S cs t ≡ true) (sym (K.first n)) i))

  -- a part with no empty text has a token that begins it
  some_first : (g : Grammar C) → nullable S g ≡ false → 0 < length (first S g)
  some_first g n = let m = some_text S K g in from (first S g) m.0 (λ l. both_ways (nullable S g) (null_of S K m.1 l) n) (λ l. begins_of S K m.1 l)
    where
      from : (cs : List C) (ts : List T) → (length ts ≤ 0 → ⊥) → (0 < length ts → is_next S cs ts ≡ true) → 0 < length cs
      from (d ∷ cs) ts a b = omega arith
      from [] [] a b = absurd (a (omega arith))
      from [] (t ∷ ts) a b = absurd (true≢false (sym (b (omega arith))))

  -- where a part has no empty text and the next token doesn't begin one, a run fails at once
  abbrev Stuck : ℕ → Type 0
  Stuck n = (g : Grammar C) → is_clear S g ≡ true → length (first S g) ≤ n → nullable S g ≡ false → (us : List T) → begins S g us ≡ false → Runs S g us (failed us)

  fails : (c : C) (us : List T) → begins S (tok c) us ≡ false → Runs S (tok c) us (failed us)
  fails c [] b = bad_end
  fails c (t ∷ w) b = bad_token (or_false_is (S.test c t) b)

  stuck_seq : (g h : Grammar C) → is_clear S (seq g h) ≡ true → (us : List T) → begins S (seq g h) us ≡ false → (nullable S g ≡ false → Runs S g us (failed us)) → (nullable S g ≡ true → Runs S h us (failed us)) → Runs S (seq g h) us (failed us)
  stuck_seq g h c us b f k = elim (cases_Bool (nullable S g)) [
    | inl n ↦ run_both (nothing_run (clear_first g h c) (has_nothing S K g n us) (omega arith) us (begins_left g h us b)) (k n)
    | inr n ↦ run_first (f n)
  ]

  first_less : (g h : Grammar C) (n : ℕ) → length (first S (seq g h)) ≤ n → length (first S g) ≤ n
  first_less g h n l = let a = length-append (first S g) (when (nullable S g) (first S h)) in omega arith

  second_less : (g h : Grammar C) (n : ℕ) → nullable S g ≡ true → length (first S (seq g h)) ≤ n → length (first S h) ≤ n
  second_less g h n e l = let a = length-append (first S g) (when (nullable S g) (first S h)) in let b = ap (λ v. length (when v (first S h))) e in omega arith

  other_less : (g h : Grammar C) (n : ℕ) → nullable S g ≡ false → length (first S (alt g h)) ≤ n → suc (length (first S h)) ≤ n
  other_less g h n e l = let a = length-append (first S g) (first S h) in let b = some_first g e in omega arith

  stuck_alt : (g h : Grammar C) (n : ℕ) → ((k : ℕ) → suc k ≤ n → Stuck k) → is_clear S (alt g h) ≡ true → length (first S (alt g h)) ≤ n → nullable S (alt g h) ≡ false → (us : List T) → begins S (alt g h) us ≡ false → Runs S (alt g h) us (failed us)
  stuck_alt g h n less c l e us b =
      run_right (begins_way g h us b) (less (length (first S h)) (other_less g h n (or_parts (nullable S g) (nullable S h) e).0 l) h (clear_right g h c) (omega arith) (or_parts (nullable S g) (nullable S h) e).1 us (begins_other g h us b))

  stuck_by : (n : ℕ) → ((k : ℕ) → suc k ≤ n → Stuck k) → {g : Grammar C} {ts rest : List T} → is_clear S g ≡ true → Matches S g ts rest → length (first S g) ≤ n → nullable S g ≡ false → (us : List T) → begins S g us ≡ false → Runs S g us (failed us)
  stuck_by n less c (a_token {c = d} h) l e us b = fails d us b
  stuck_by n less c no_token l e us b = absurd (true≢false e)
  stuck_by n less c (both {g} {h} x y) l e us b =
      stuck_seq g h c us b (λ v. stuck_by n less (clear_first g h c) x (first_less g h n l) v us (begins_left g h us b))
      (λ v. stuck_by n less (clear_second g h c) y (second_less g h n v l) (and_no (nullable S g) (nullable S h) v e) us (begins_right g h us v b))
  stuck_by n less c (the_left {g} {h} x) l e us b = stuck_alt g h n less c l e us b
  stuck_by n less c (the_right {g} {h} x) l e us b = stuck_alt g h n less c l e us b
  stuck_by n less c no_more l e us b = absurd (true≢false e)
  stuck_by n less c (one_more x) l e us b = absurd (true≢false e)
  stuck_by n less c (by_part {n = k} x) l e us b =
      run_part (stuck_by n less (K.clear k) x (subst (λ cs. length cs ≤ n) (sym (K.first k)) l) (K.null k ∙ e) us (begins_part k us false b))

  all_below : (n k : ℕ) → suc k ≤ n → Stuck k
  all_below zero k h = absurd (omega arith)
  all_below (suc n) k h = λ g c l e us b. stuck_by k (λ j p. all_below n j (omega arith)) c (some_text S K g).1 l e us b

  -- a run, and one that took a token
  pub record Some (g : Grammar C) (us : List T) : Type 0 where
    pub end : End T
    pub run : Runs S g us end

  abbrev Less : List T → End T → Type 0
  Less w (took rest) = length rest ≤ length w
  Less w (failed rest) = ⊤

  record Live (g : Grammar C) (t : T) (w : List T) : Type 0 where
    end : End T
    run : Runs S g (t ∷ w) end
    less : Less w end

  less_on : (h : Grammar C) (w mid : List T) (e : End T) → length mid ≤ length w → Runs S h mid e → Less w e
  less_on h w mid (took rest) l r = let k = no_longer S (tree_of r) in omega arith
  less_on h w mid (failed rest) l r = tt

  live_seq : (g h : Grammar C) (t : T) (w : List T) → ((us : List T) → length us ≤ length w → Some h us) → (e : End T) → Runs S g (t ∷ w) e → Less w e → Live (seq g h) t w
  live_seq g h t w rec (took mid) r l = let q = rec mid l in record { end = q.end; run = run_both r q.run; less = less_on h w mid q.end l q.run }
  live_seq g h t w rec (failed mid) r l = record { end = failed mid; run = run_first r; less = tt }

  begins_here : (g : Grammar C) (t : T) (w xs ts : List T) → ts ≡ t ∷ xs → begins S g ts ≡ true → begins S g (t ∷ w) ≡ true
  begins_here g t w xs ts e b = subst (λ z. begins S g z ≡ true) e b

  -- where the first part takes nothing of the guide, it takes nothing of the tokens
  quiet_first : (g h : Grammar C) → is_clear S (seq g h) ≡ true → {ts mid rest : List T} → Matches S g ts mid → length ts ≤ length mid → Matches S h mid rest → length rest < length mid → (t : T) (w xs : List T) → mid ≡ t ∷ xs → begins S g (t ∷ w) ≡ false
  quiet_first g h c {mid = mid} x k y l t w xs e =
      false_from_ne_true (begins S g (t ∷ w)) (λ i. apart_all S K (goes S g) (first S h) t (parts_apart g h c) (null_goes (clear_first g h c) x k t i) (begins_here h t w xs mid e (begins_of S K y l)))

  live : (t : T) (w : List T) → ((h : Grammar C) → is_clear S h ≡ true → (us : List T) → length us ≤ length w → Some h us) → {g : Grammar C} {ts rest : List T} → is_clear S g ≡ true → Matches S g ts rest → (xs : List T) → ts ≡ t ∷ xs → length rest < length ts → Live g t w
  live t w rec c (a_token {c = d} {t = u} h) xs e l = record { end = took w; run = take_token (subst (λ z. S.test d z ≡ true) (ap (head_of u) e) h); less = omega arith }
  live t w rec c no_token xs e l = absurd (omega arith)
  live t w rec c (both {g} {h} {ts} {mid} {rest} x y) xs e l = elim (cases_lt (length mid) (length ts)) [
    | inl k ↦ let p = live t w rec (clear_first g h c) x xs e k in live_seq g h t w (rec h (clear_second g h c)) p.end p.run p.less
    | inr k ↦
        let same = not_moved S x k in
        let d = sym same ∙ e in
        let n = ap length same in
        let p = live t w rec (clear_second g h c) y xs d (omega arith) in
        record { end = p.end; run = run_both (nothing_run (clear_first g h c) x k (t ∷ w) (quiet_first g h c x k y (omega arith) t w xs d)) p.run; less = p.less }
  ]
  live t w rec c (the_left {g} {h} {ts} x) xs e l =
      let p = live t w rec (clear_left g h c) x xs e l in record { end = p.end; run = run_left (begins_here g t w xs ts e (begins_of S K x l)) p.run; less = p.less }
  live t w rec c (the_right {g} {h} {ts} x) xs e l =
      let p = live t w rec (clear_right g h c) x xs e l in
      record {
        end = p.end;
        run = run_right (false_from_ne_true (begins S g (t ∷ w)) (λ i. other_way S K g h (ways_apart g h c) (t ∷ w) i (begins_here h t w xs ts e (begins_of S K x l)))) p.run;
        less = p.less;
      }
  live t w rec c no_more xs e l = absurd (omega arith)
  live t w rec c (one_more {g} {ts} x) xs e l =
      let p = live t w rec (is_clear_again S g c) x xs e l in record { end = p.end; run = run_more (begins_here g t w xs ts e (starts S K g c x)) p.run; less = p.less }
  live t w rec c (by_part {n} x) xs e l = let p = live t w rec (K.clear n) x xs e l in record { end = p.end; run = run_part p.run; less = p.less }

  quiet : (g : Grammar C) → is_clear S g ≡ true → (us : List T) → begins S g us ≡ false → Some g us
  quiet g c us b = elim (cases_Bool (nullable S g)) [
    | inl n ↦ record { end = took us; run = nothing_run c (has_nothing S K g n us) (omega arith) us b }
    | inr n ↦ record { end = failed us; run = all_below (suc (length (first S g))) (length (first S g)) (omega arith) g c (omega arith) n us b }
  ]

  every : (n : ℕ) (g : Grammar C) → is_clear S g ≡ true → (us : List T) → length us ≤ n → Some g us
  every n g c [] l = quiet g c [] refl
  every zero g c (t ∷ w) l = absurd (omega arith)
  every (suc n) g c (t ∷ w) l = elim (cases_Bool (is_of S (first S g) t)) [
    | inl i ↦
        let m = begun S K g t i in
        let p = live t w (λ h d us k. every n h d us (omega arith)) c m.1 m.0 refl (omega arith) in
        record { end = p.end; run = p.run }
    | inr b ↦ quiet g c (t ∷ w) b
  ]

  pub every_run : (g : Grammar C) → is_clear S g ≡ true → (ts : List T) → (e : End T) × Runs S g ts e
  every_run g c ts = let p = every (length ts) g c ts (omega arith) in (p.end, p.run)
