-- Readings of a front: a run gives the right one, there is one, and where nothing goes on behind a text, the front is the only one.
use Rattle.std.proofs.Common.{◌≡◌, ℕ, zero, suc, ◌+◌, ◌-◌, ◌<◌, ◌≤◌, List, [], ◌∷◌, ◌++◌, length, take, drop, true, inl, inr, refl, ap, sym, ◌∙◌, subst, arith, append_assoc, append-nil, length-append}
use Rattle.std.specs.Prelude.{Result, Ok, Err}
use Rattle.std.proofs.Math.Seq.{take-append_seam, drop-append_seam}
use Rattle.std.proofs.lemmas.Bool.{true≢false, cases_lt}
use Rattle.std.proofs.lemmas.List.{append_cancel_right, take-append-drop, nil_from_length}
use Rattle.gr_grammar.specs.declared.brackets.Turn.TheVariants.{Neither}
use Rattle.gr_grammar.specs.Grammars.{Grammar, System, IsSystem, Matches, IsText, GoesOn, IsStuck, IsFault, is_clear, is_of, goes, End, took, failed, Runs, tree_of}
use Rattle.gr_grammar.proofs.Exact.{exact, fault_of, fault_behind, extend, diverge, Diverge, together, sooner, later}
use Rattle.gr_grammar.proofs.Fronts.{head_of, front_of, no_longer}
use Rattle.gr_grammar.proofs.Readings.{failed_within}
use Rattle.gr_grammar.proofs.Places.{goes_on_front}
use Rattle.gr_grammar.proofs.OneTree.{one_tree}
use Rattle.gr_grammar.proofs.EveryRun.{every_run}
use Rattle.gr_reader.specs.Fronts.{GoesNoFurther, IsFront, IsNoFront, IsFrontReading}

-- a front by the number of its tokens
pub by_number : {T : Type 0} (ts front rest : List T) (n : ℕ) → ts ≡ front ++ rest → n + length rest ≡ length ts → (take n ts ≡ front) × (drop n ts ≡ rest) × (n ≤ length ts)
by_number ts front rest n e l =
    let a = ap length e in
    let b = length-append front rest in
    let k : n ≡ length front = omega arith in (
      ap (λ z. take z ts) k ∙ (ap (λ z. take (length front) z) e ∙ take-append_seam front rest),
      ap (λ z. drop z ts) k ∙ (ap (λ z. drop (length front) z) e ∙ drop-append_seam front rest),
      omega arith,
    )

module _ {C T : Type 0} (S : System C T) (K : IsSystem S) (g : Grammar C) (clear : is_clear S g ≡ true) where
  -- a run that failed gives its place
  pub front_failed : {ts rest : List T} (n : ℕ) → n + length rest ≡ length ts → Runs S g ts (failed rest) → IsNoFront S g ts n
  front_failed {ts} {rest} n l r =
      let p = exact S K clear r in
      let q = by_number ts p.front rest n p.split l in
      record {
        within = q.2;
        fault = subst (λ z. IsFault S g ts z) (sym q.1) (fault_of S K clear r);
        none = λ m. p.not_whole [] (extend S K (subst (λ z. IsText S g z) q.0 m) []);
      }

module _ {C T A : Type 0} (S : System C T) (K : IsSystem S) (g : Grammar C) (clear : is_clear S g ≡ true) (value : (ts rest : List T) → Matches S g ts rest → A) where
  further : {ts : List T} (rest : List T) → Runs S g ts (took rest) → (front : List T) → ts ≡ front ++ rest → GoesNoFurther S g front rest
  further [] r front e = tt
  further {ts} (t ∷ w) r front e =
      let f = fault_behind S K t w clear r in
      let same : f.front ≡ front = append_cancel_right f.front front (t ∷ w) (sym f.split ∙ e) in
      subst (λ z. GoesOn S g (z ++ t ∷ []) → ⊥) same f.here

  -- a run that took gives its value, and how many tokens it took
  pub front_took : {ts rest : List T} {a : A} (n : ℕ) → n + length rest ≡ length ts → (r : Runs S g ts (took rest)) → a ≡ value ts rest (tree_of r) → IsFront S g value ts a n
  front_took {ts} {rest} {a} n l r e =
      let p = front_of S (tree_of r) in
      let q = by_number ts p.front rest n p.split l in
      let m : (m : Matches S g ts (drop n ts)) × (a ≡ value ts (drop n ts) m) = subst (λ z. (m : Matches S g ts z) × (a ≡ value ts z m)) (sym q.1) (tree_of r, e) in
      record {
        within = q.2;
        tree = m.0;
        is = m.1;
        stops = subst (λ z. GoesNoFurther S g (take n ts) z) (sym q.1) (subst (λ z. GoesNoFurther S g z rest) (sym q.0) (further rest r p.front p.split));
      }

front_take : {T : Type 0} (front rest : List T) (n : ℕ) → length front ≤ n → (x : List T) × (take n (front ++ rest) ≡ front ++ x)
front_take [] rest n l = (take n rest, refl)
front_take (y ∷ front) rest zero l = absurd (omega arith)
front_take (y ∷ front) rest (suc n) l = let r = front_take front rest n (omega arith) in (r.0, ap (λ z. y ∷ z) r.1)

-- a front of more tokens goes on behind one of fewer
over : {T : Type 0} (ts : List T) (m n : ℕ) → m < n → n ≤ length ts → (t : T) × (w u : List T) × (drop m ts ≡ t ∷ w) × (take n ts ≡ (take m ts ++ t ∷ []) ++ u)
over [] m n l k = absurd (omega arith)
over (x ∷ ts) m zero l k = absurd (omega arith)
over (x ∷ ts) zero (suc n) l k = (x, ts, take n ts, refl, refl)
over (x ∷ ts) (suc m) (suc n) l k = let r = over ts m n (omega arith) (omega arith) in (r.0, r.1, r.2, r.3, ap (λ z. x ∷ z) r.4)

module _ {C T : Type 0} (S : System C T) (g : Grammar C) where
  -- the first n tokens go on, and no more do
  record Ends (ts : List T) (n : ℕ) : Type 0 where
    within : n ≤ length ts
    goes_on : GoesOn S g (take n ts)
    stuck : (t : T) (w : List T) → drop n ts ≡ t ∷ w → GoesOn S g (take n ts ++ t ∷ []) → ⊥

  not_sooner : (ts : List T) (m n : ℕ) → Ends ts m → n ≤ length ts → GoesOn S g (take n ts) → m < n → ⊥
  not_sooner ts m n e k o l =
      let r = over ts m n l k in
      e.stuck r.0 r.1 r.3 (goes_on_front S (λ t. Neither) 0 g (take m ts ++ r.0 ∷ []) r.2 (subst (λ z. GoesOn S g z) r.4 o))

  one_end : (ts : List T) (m n : ℕ) → Ends ts m → Ends ts n → m ≡ n
  one_end ts m n a b = elim (cases_lt m n) [
    | inl l ↦ absurd (not_sooner ts m n a b.within b.goes_on l)
    | inr l ↦ elim (cases_lt n m) [ inl k ↦ absurd (not_sooner ts n m b a.within a.goes_on k) | inr k ↦ omega arith ]
  ]

  stuck_at : (front rest : List T) (t : T) (w : List T) → rest ≡ t ∷ w → GoesNoFurther S g front rest → GoesOn S g (front ++ t ∷ []) → ⊥
  stuck_at front [] t w e h o = absurd (let k = ap length e in omega arith)
  stuck_at front (x ∷ xs) t w e h o = h (subst (λ z. GoesOn S g (front ++ z ∷ [])) (sym (ap (head_of x) e)) o)

  fault_at : (front rest : List T) (t : T) (w : List T) → rest ≡ t ∷ w → IsStuck S g front rest → GoesOn S g (front ++ t ∷ []) → ⊥
  fault_at front [] t w e h o = absurd (let k = ap length e in omega arith)
  fault_at front (x ∷ xs) t w e h o = h (subst (λ z. GoesOn S g (front ++ z ∷ [])) (sym (ap (head_of x) e)) o)

  -- a front that is a text goes on
  text_goes : (ts : List T) (n : ℕ) → Matches S g ts (drop n ts) → IsText S g (take n ts)
  text_goes ts n m =
      let p = front_of S m in
      let same : p.front ≡ take n ts = append_cancel_right p.front (take n ts) (drop n ts) (sym p.split ∙ sym (take-append-drop n ts)) in
      subst (λ z. IsText S g z) (append-nil p.front ∙ same) (p.again [])

  goes_on : (ts : List T) → IsText S g ts → GoesOn S g ts
  goes_on ts m = ([], subst (λ z. IsText S g z) (sym (append-nil ts)) m)

  none_ends : (ts : List T) (n : ℕ) → IsNoFront S g ts n → Ends ts n
  none_ends ts n h =
      let f = h.fault in
      let same : f.front ≡ take n ts = append_cancel_right f.front (take n ts) (drop n ts) (sym f.split ∙ sym (take-append-drop n ts)) in
      record {
        within = h.within;
        goes_on = subst (λ z. GoesOn S g z) same f.before;
        stuck = λ t w e o. fault_at f.front (drop n ts) t w e f.here (subst (λ z. GoesOn S g (z ++ t ∷ [])) (sym same) o);
      }

  module _ {A : Type 0} (value : (ts rest : List T) → Matches S g ts rest → A) where
    front_ends : (ts : List T) (a : A) (n : ℕ) → IsFront S g value ts a n → Ends ts n
    front_ends ts a n h = record {
      within = h.within;
      goes_on = goes_on (take n ts) (text_goes ts n h.tree);
      stuck = λ t w e. stuck_at (take n ts) (drop n ts) t w e h.stops;
    }

    not_both : (ts : List T) (a : A) (m n : ℕ) → IsFront S g value ts a m → IsNoFront S g ts n → ⊥
    not_both ts a m n x y =
        let same : m ≡ n = one_end ts m n (front_ends ts a m x) (none_ends ts n y) in
        y.none (subst (λ k. IsText S g (take k ts)) same (text_goes ts m x.tree))

    module _ (K : IsSystem S) (clear : is_clear S g ≡ true) where
      same_value : IsSet T → (ts : List T) (a b : A) (m n : ℕ) → m ≡ n → IsFront S g value ts a m → IsFront S g value ts b n → a ≡ b
      same_value set ts a b m n e x y =
          let z : IsFront S g value ts a n = subst (λ k. IsFront S g value ts a k) e x in
          z.is ∙ (ap (value ts (drop n ts)) (one_tree S K set clear z.tree y.tree) ∙ sym y.is)

      -- one answer is right
      pub one_front : IsSet T → (ts : List T) (x y : Result (A × ℕ) ℕ) → IsFrontReading S g value ts x → IsFrontReading S g value ts y → x ≡ y
      one_front set ts (Ok r) (Ok s) p q =
          let e = one_end ts r.1 s.1 (front_ends ts r.0 r.1 p) (front_ends ts s.0 s.1 q) in
          let v = same_value set ts r.0 s.0 r.1 s.1 e p q in
          λ i. Ok (v i, e i)
      one_front set ts (Ok r) (Err n) p q = absurd (not_both ts r.0 r.1 n p q)
      one_front set ts (Err n) (Ok r) p q = absurd (not_both ts r.0 r.1 n q p)
      one_front set ts (Err m) (Err n) p q = ap Err (one_end ts m n (none_ends ts m p) (none_ends ts n q))

      -- one answer is there
      run_front : (ts : List T) (e : End T) → Runs S g ts e → (x : Result (A × ℕ) ℕ) × IsFrontReading S g value ts x
      run_front ts (took rest) r =
          let l = no_longer S (tree_of r) in
          (Ok (value ts rest (tree_of r), length ts - length rest), front_took S K g clear value (length ts - length rest) (omega arith) r refl)
      run_front ts (failed rest) r =
          let l = failed_within S K g clear r in
          (Err (length ts - length rest), front_failed S K g clear (length ts - length rest) (omega arith) r)

      pub some_front : (ts : List T) → (x : Result (A × ℕ) ℕ) × IsFrontReading S g value ts x
      some_front ts = let p = every_run S K g clear ts in run_front ts p.0 p.1

  -- where nothing goes on behind a text
  module _ (K : IsSystem S) (clear : is_clear S g ≡ true) (ends : goes S g ≡ []) where
    none_of : {A : Type 0} (t : T) → is_of S (goes S g) t ≡ true → A
    none_of t h = absurd (true≢false (sym (subst (λ cs. is_of S cs t ≡ true) ends h)))

    together_of : {r s : List T} → Diverge S (goes S g) r s → r ≡ s
    together_of (together e) = e
    together_of (sooner t w e l i) = none_of t i
    together_of (later t w e l i) = none_of t i

    -- tokens begin with one text at most
    pub only_front : (ts r s : List T) → Matches S g ts r → Matches S g ts s → r ≡ s
    only_front ts r s m n = together_of (diverge S K clear m n)

    -- and where the answer is a place, with none
    pub none_begins : (ts rest : List T) (n : ℕ) → IsNoFront S g ts n → Matches S g ts rest → ⊥
    none_begins ts rest n h m =
        let p = front_of S m in
        let e = none_ends ts n h in
        let a = ap length p.split in
        let b = length-append p.front rest in
        let q = by_number ts p.front rest (length p.front) p.split (omega arith) in
        let text : IsText S g p.front = subst (λ z. IsText S g z) (append-nil p.front) (p.again []) in
        elim (cases_lt n (length p.front)) [
          | inl l ↦ not_sooner ts n (length p.front) e q.2 (goes_on (take (length p.front) ts) (subst (λ z. IsText S g z) (sym q.0) text)) l
          | inr l ↦ inside p.front rest (e.goes_on.0) p.again text l (ap (λ z. take n z) p.split) e.goes_on.1
        ]
      where
        inside : (front rest more : List T) → ((x : List T) → Matches S g (front ++ x) x) → IsText S g front → length front ≤ n → take n ts ≡ take n (front ++ rest) → Matches S g (take n ts ++ more) [] → ⊥
        inside front rest more again text l e whole =
            let r = front_take front rest n l in
            let is : take n ts ≡ front ++ r.0 = e ∙ r.1 in
            let other : Matches S g (front ++ (r.0 ++ more)) [] = subst (λ z. Matches S g z []) (ap (λ z. z ++ more) is ∙ append_assoc front r.0 more) whole in
            let d = together_of (diverge S K clear (again (r.0 ++ more)) other) in
            let none : r.0 ≡ [] = nil_from_length r.0 (let x = ap length d in let y = length-append r.0 more in omega arith) in
            h.none (subst (λ z. IsText S g z) (sym (is ∙ (ap (λ z. front ++ z) none ∙ append-nil front))) text)

-- a reading of a front is a run, for the reader around it
module _ {C T : Type 0} (S : System C T) (K : IsSystem S) (g : Grammar C) (clear : is_clear S g ≡ true) where
  module _ {A : Type 0} (value : (ts rest : List T) → Matches S g ts rest → A) where
    front_run_by : (ts : List T) (a : A) (n : ℕ) → IsFront S g value ts a n → (e : End T) → Runs S g ts e → Runs S g ts (took (drop n ts))
    front_run_by ts a n h (took rest) r =
        let l = no_longer S (tree_of r) in
        let k : length ts - length rest ≡ n = one_end S g ts _ n (front_ends S g value ts _ _ (front_took S K g clear value (length ts - length rest) (omega arith) r refl)) (front_ends S g value ts a n h) in
        let p = front_of S (tree_of r) in
        let q = by_number ts p.front rest n p.split (omega arith) in
        subst (λ z. Runs S g ts (took z)) (sym q.1) r
    front_run_by ts a n h (failed rest) r =
        let l = failed_within S K g clear r in
        absurd (not_both S g value ts a n (length ts - length rest) h (front_failed S K g clear (length ts - length rest) (omega arith) r))

    -- the first n tokens are taken; the value is that of the run's tree
    pub front_run : IsSet T → (ts : List T) (a : A) (n : ℕ) → IsFront S g value ts a n → (r : Runs S g ts (took (drop n ts))) × (a ≡ value ts (drop n ts) (tree_of r))
    front_run set ts a n h =
        let p = every_run S K g clear ts in
        let r = front_run_by ts a n h p.0 p.1 in
        (r, h.is ∙ ap (value ts (drop n ts)) (one_tree S K set clear h.tree (tree_of r)))

    no_front_by : (ts : List T) (n : ℕ) → IsNoFront S g ts n → (e : End T) → Runs S g ts e → Runs S g ts (failed (drop n ts))
    no_front_by ts n h (took rest) r =
        let l = no_longer S (tree_of r) in
        absurd (not_both S g value ts _ (length ts - length rest) n (front_took S K g clear value (length ts - length rest) (omega arith) r refl) h)
    no_front_by ts n h (failed rest) r =
        let l = failed_within S K g clear r in
        let k : length ts - length rest ≡ n = one_end S g ts _ n (none_ends S g ts _ (front_failed S K g clear (length ts - length rest) (omega arith) r)) (none_ends S g ts n h) in
        let p = exact S K clear r in
        let q = by_number ts p.front rest n p.split (omega arith) in
        subst (λ z. Runs S g ts (failed z)) (sym q.1) r

  -- a run fails before the token with this number
  pub no_front_run : (ts : List T) (n : ℕ) → IsNoFront S g ts n → Runs S g ts (failed (drop n ts))
  no_front_run ts n h = let p = every_run S K g clear ts in no_front_by {A = ℕ} (λ ts rest m. 0) ts n h p.0 p.1
