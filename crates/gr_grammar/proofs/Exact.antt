-- A reader that looks at one token stops just where no text goes on, in a grammar where one token tells what to do.
use Rattle.std.proofs.Common.{◌≡◌, ℕ, suc, ◌<◌, ◌≤◌, List, [], ◌∷◌, ◌++◌, length, ◌⊎◌, inl, inr, Bool, true, false, refl, ap, sym, ◌∙◌, subst, arith, append_assoc, append-nil, length-append}
use Rattle.std.specs.Prelude.{◌&&◌, not, ⊤}
use Rattle.std.proofs.lemmas.Bool.{true≢false, cases_lt}
use Rattle.gr_grammar.specs.Grammars.{Grammar, tok, nil, seq, alt, star, part, System, Matches, a_token, no_token, both, the_left, the_right, no_more, one_more, by_part, IsStuck, IsFault, nullable, when, first, goes, is_of, all_apart, is_clear, begins, End, took, failed, Runs, take_token, bad_token, bad_end, take_nothing, run_both, run_first, run_left, run_right, run_end, run_more, run_part, IsSystem}
use Rattle.gr_grammar.proofs.Fronts.{and_left, and_right, or_cases, not_true, both_ways, same_rest, tail_of, head_of, is_of-left, is_of-right, is_of-cases, is_of-when, when-cases, front_of, no_longer, not_moved, apart_all, null_of, begins_of}

module _ {C T : Type 0} (S : System C T) where
  -- two texts at the front of the same tokens: they end together, or one goes on behind the other
  pub data Diverge (cs : List C) (r s : List T) : Type 0 where
    together : r ≡ s → Diverge cs r s
    sooner : (t : T) (w : List T) → r ≡ t ∷ w → length s < length r → is_of S cs t ≡ true → Diverge cs r s
    later : (t : T) (w : List T) → s ≡ t ∷ w → length r < length s → is_of S cs t ≡ true → Diverge cs r s

  pub widen : (cs ds : List C) (r s : List T) → ((t : T) → is_of S cs t ≡ true → is_of S ds t ≡ true) → Diverge cs r s → Diverge ds r s
  widen cs ds r s f (together e) = together e
  widen cs ds r s f (sooner t w e l i) = sooner t w e l (f t i)
  widen cs ds r s f (later t w e l i) = later t w e l (f t i)

  begins_first : (g : Grammar C) (ts : List T) (t : T) (w : List T) → ts ≡ t ∷ w → begins S g ts ≡ true → is_of S (first S g) t ≡ true
  begins_first g ts t w e b = subst (λ z. begins S g z ≡ true) e b

  pub is_clear_again : (g : Grammar C) → is_clear S (star g) ≡ true → is_clear S (seq g (star g)) ≡ true
  is_clear_again g c = and_three (is_clear S g) (not (nullable S g)) (all_apart S (goes S g) (first S g)) c
    where
      and_three : (a b d : Bool) → (a && (b && d)) ≡ true → (a && ((a && (b && d)) && d)) ≡ true
      and_three true true true h = refl
      and_three true true false h = h
      and_three true false d h = absurd (true≢false (sym h))
      and_three false b d h = h

  module _ (K : IsSystem S) where
    -- where the first part of a text ended sooner than another one, and more was taken behind it, no token could have told
    pub no_gap : (g h : Grammar C) → all_apart S (goes S g) (first S h) ≡ true → (mid rest : List T) (t : T) (w : List T) →
        Matches S h mid rest → mid ≡ t ∷ w → length rest < length mid → is_of S (goes S g) t ≡ true → ⊥
    no_gap g h a mid rest t w m e l i = apart_all S K (goes S g) (first S h) t a i (begins_first h mid t w e (begins_of S K m l))

    seq_goes : (g h : Grammar C) (t : T) → nullable S h ≡ true → is_of S (goes S g) t ≡ true → is_of S (goes S (seq g h)) t ≡ true
    seq_goes g h t n i = is_of-right S (goes S h) _ t (is_of-when S (nullable S h) (goes S g) t n i)

    after_first : (g h : Grammar C) → all_apart S (goes S g) (first S h) ≡ true → {mid mid' r s : List T} →
        Matches S h mid r → Matches S h mid' s → Diverge (goes S g) mid mid' → (mid ≡ mid' → Diverge (goes S h) r s) → Diverge (goes S (seq g h)) r s
    after_first g h a {mid} {mid'} {r} {s} m n (together e) f = widen _ _ r s (λ t i. is_of-left S (goes S h) _ t i) (f e)
    after_first g h a {mid} {mid'} {r} {s} m n (sooner t w e l i) f = elim (cases_lt (length r) (length mid)) [
      | inl x ↦ absurd (no_gap g h a mid r t w m e x i)
      | inr y ↦ let z = not_moved S m y in sooner t w (sym z ∙ e) (let u = no_longer S n in let v = ap length z in omega arith) (seq_goes g h t (null_of S K m y) i)
    ]
    after_first g h a {mid} {mid'} {r} {s} m n (later t w e l i) f = elim (cases_lt (length s) (length mid')) [
      | inl x ↦ absurd (no_gap g h a mid' s t w n e x i)
      | inr y ↦ let z = not_moved S n y in later t w (sym z ∙ e) (let u = no_longer S m in let v = ap length z in omega arith) (seq_goes g h t (null_of S K n y) i)
    ]

    -- a choice takes one way: both begin with one token
    pub other_way : (g h : Grammar C) → all_apart S (first S g) (first S h) ≡ true → (ts : List T) → begins S g ts ≡ true → begins S h ts ≡ true → ⊥
    other_way g h a [] x y = true≢false (sym x)
    other_way g h a (t ∷ ts) x y = apart_all S K (first S g) (first S h) t a x y

    pub moves : {g : Grammar C} {ts rest : List T} → (nullable S g ≡ true → ⊥) → Matches S g ts rest → length rest < length ts
    moves {g} {ts} {rest} n m = elim (cases_lt (length rest) (length ts)) [ inl x ↦ x | inr y ↦ absurd (n (null_of S K m y)) ]

    begun_later : (cs : List C) (g : Grammar C) (ts s : List T) → ((t : T) → is_of S (first S g) t ≡ true → is_of S cs t ≡ true) → begins S g ts ≡ true → length s < length ts → Diverge cs ts s
    begun_later cs g [] s f b l = absurd (true≢false (sym b))
    begun_later cs g (t ∷ w) s f b l = sooner t w refl l (f t b)

    turned : (cs : List C) (r s : List T) → Diverge cs r s → Diverge cs s r
    turned cs r s (together e) = together (sym e)
    turned cs r s (sooner t w e l i) = later t w e l i
    turned cs r s (later t w e l i) = sooner t w e l i

    -- one went left and the other right: then the right one took nothing
    split_ways : (g h : Grammar C) → (nullable S g ≡ true → ⊥) → all_apart S (first S g) (first S h) ≡ true → (ts r s : List T) → Matches S g ts r → Matches S h ts s → Diverge (goes S (alt g h)) s r
    split_ways g h ng a ts r s m n = elim (cases_lt (length s) (length ts)) [
      | inl x ↦ absurd (other_way g h a ts (begins_of S K m (moves ng m)) (begins_of S K n x))
      | inr y ↦ let e = not_moved S n y in
          subst (λ z. Diverge (goes S (alt g h)) z r) e
          (begun_later (goes S (alt g h)) g ts r (λ t i. is_of-right S (goes S g) _ t (is_of-right S (goes S h) _ t (is_of-when S (nullable S h) (first S g) t (null_of S K n y) i)))
          (begins_of S K m (moves ng m)) (moves ng m))
    ]

    star_moves : (g : Grammar C) → is_clear S (star g) ≡ true → (ts r : List T) → Matches S (seq g (star g)) ts r → Diverge (goes S (star g)) ts r
    star_moves g c ts r (both a b) =
        let n = not_true (nullable S g) (and_left (not (nullable S g)) _ (and_right (is_clear S g) _ c)) in
        begun_later (goes S (star g)) g ts r (λ t i. is_of-right S (goes S g) _ t i) (begins_of S K a (moves n a)) (let l = moves n a in let k = no_longer S b in omega arith)

    pub star_goes : (g : Grammar C) (t : T) → is_of S (goes S (seq g (star g))) t ≡ true → is_of S (goes S (star g)) t ≡ true
    star_goes g t i = elim (is_of-cases S (goes S (star g)) (goes S g) t i) [ inl x ↦ x | inr y ↦ is_of-left S (goes S g) _ t y ]

    pub diverge : {g : Grammar C} {ts r s : List T} → is_clear S g ≡ true → Matches S g ts r → Matches S g ts s → Diverge (goes S g) r s
    diverge c (a_token h) (a_token k) = together refl
    diverge c no_token no_token = together refl
    diverge c (both {g} {h} a b) (both {rest = s} a' b') =
        let cg = and_left (is_clear S g) _ c in let cr = and_right (is_clear S g) _ c in
        after_first g h (and_right (is_clear S h) _ cr) b b' (diverge cg a a') (λ e. diverge (and_left (is_clear S h) _ cr) b (subst (λ z. Matches S h z s) (sym e) b'))
    diverge c (the_left {g} {h} a) (the_left b) = widen _ _ _ _ (λ t i. is_of-left S (goes S g) _ t i) (diverge (and_left (is_clear S g) _ c) a b)
    diverge c (the_right {g} {h} a) (the_right b) =
        widen _ _ _ _ (λ t i. is_of-right S (goes S g) _ t (is_of-left S (goes S h) _ t i)) (diverge (and_left (is_clear S h) _ (and_right (is_clear S g) _ c)) a b)
    diverge c (the_left {g} {h} {ts} a) (the_right b) =
        let l = and_right (is_clear S h) _ (and_right (is_clear S g) _ c) in
        turned _ _ _ (split_ways g h (not_true (nullable S g) (and_left (not (nullable S g)) _ l)) (and_right (not (nullable S g)) _ l) ts _ _ a b)
    diverge c (the_right {g} {h} {ts} b) (the_left a) =
        let l = and_right (is_clear S h) _ (and_right (is_clear S g) _ c) in
        split_ways g h (not_true (nullable S g) (and_left (not (nullable S g)) _ l)) (and_right (not (nullable S g)) _ l) ts _ _ a b
    diverge c no_more no_more = together refl
    diverge c (no_more {g} {ts}) (one_more {rest = r} a) = star_moves g c ts r a
    diverge c (one_more {g} {ts} {rest = r} a) no_more = turned _ _ _ (star_moves g c ts r a)
    diverge c (one_more {g} {ts} {rest = r} a) (one_more {rest = s} b) = widen _ _ _ _ (λ t i. star_goes g t i) (diverge (is_clear_again g c) a b)
    diverge c (by_part {n} a) (by_part b) = widen _ _ _ _ (λ t i. K.goes n t i) (diverge (K.clear n) a b)

    -- texts taken apart
    pub of_token : {c : C} {ts s : List T} → Matches S (tok c) ts s → (t : T) × (ts ≡ t ∷ s) × (S.test c t ≡ true)
    of_token (a_token {t} h) = (t, refl, h)

    pub of_nil : {ts s : List T} → Matches S nil ts s → ts ≡ s
    of_nil no_token = refl

    pub of_both : {g h : Grammar C} {ts s : List T} → Matches S (seq g h) ts s → (mid : List T) × Matches S g ts mid × Matches S h mid s
    of_both (both {mid} a b) = (mid, a, b)

    pub of_either : {g h : Grammar C} {ts s : List T} → Matches S (alt g h) ts s → Matches S g ts s ⊎ Matches S h ts s
    of_either (the_left a) = inl a
    of_either (the_right a) = inr a

    pub of_star : {g : Grammar C} {ts s : List T} → Matches S (star g) ts s → (ts ≡ s) ⊎ Matches S (seq g (star g)) ts s
    of_star no_more = inl refl
    of_star (one_more a) = inr a

    pub of_part : {n : ℕ} {ts s : List T} → Matches S (part n) ts s → Matches S (S.parts n) ts s
    of_part (by_part a) = a

    -- a whole text stays one with more behind it
    pub extend : {g : Grammar C} {u : List T} → Matches S g u [] → (x : List T) → Matches S g (u ++ x) x
    extend {g} {u} m x = let p = front_of S m in subst (λ z. Matches S g (z ++ x) x) (sym (p.split ∙ append-nil p.front)) (p.again x)

    pub some_text : (g : Grammar C) → (ts : List T) × Matches S g ts []
    some_text (tok c) = let x = K.shown c in (x.0 ∷ [], a_token x.1)
    some_text nil = ([], no_token)
    some_text (seq g h) = let a = some_text g in let b = some_text h in (a.0 ++ b.0, both (extend a.1 b.0) b.1)
    some_text (alt g h) = let a = some_text g in (a.0, the_left a.1)
    some_text (star g) = ([], no_more)
    some_text (part n) = let a = K.some n in (a.0, by_part a.1)

    pub has_nothing : (g : Grammar C) → nullable S g ≡ true → (ts : List T) → Matches S g ts ts
    has_nothing (tok c) e ts = absurd (true≢false (sym e))
    has_nothing nil e ts = no_token
    has_nothing (seq g h) e ts = both (has_nothing g (and_left (nullable S g) _ e) ts) (has_nothing h (and_right (nullable S g) _ e) ts)
    has_nothing (alt g h) e ts = elim (or_cases (nullable S g) (nullable S h) e) [ inl x ↦ the_left (has_nothing g x ts) | inr y ↦ the_right (has_nothing h y ts) ]
    has_nothing (star g) e ts = no_more
    has_nothing (part n) e ts = by_part (K.none n e ts)

    -- each of the first tokens begins a text
    pub begun : (g : Grammar C) (t : T) → is_of S (first S g) t ≡ true → (ts : List T) × Matches S g (t ∷ ts) []
    begun (tok c) t i = elim (or_cases (S.test c t) false i) [ inl x ↦ ([], a_token x) | inr y ↦ absurd (true≢false (sym y)) ]
    begun nil t i = absurd (true≢false (sym i))
    begun (seq g h) t i = elim (is_of-cases S (first S g) (when (nullable S g) (first S h)) t i) [
      | inl x ↦ let a = begun g t x in let b = some_text h in (a.0 ++ b.0, both (extend a.1 b.0) b.1)
      | inr y ↦ let w = when-cases S (nullable S g) (first S h) t y in let b = begun h t w.1 in (b.0, both (has_nothing g w.0 (t ∷ b.0)) b.1)
    ]
    begun (alt g h) t i = elim (is_of-cases S (first S g) (first S h) t i) [ inl x ↦ let a = begun g t x in (a.0, the_left a.1) | inr y ↦ let b = begun h t y in (b.0, the_right b.1) ]
    begun (star g) t i = let a = begun g t i in (a.0 ++ [], one_more (both (extend a.1 []) no_more))
    begun (part n) t i = let a = K.begun n t i in (a.0, by_part a.1)

    -- no text takes the next token behind the front
    abbrev pub Stopped : Grammar C → List T → List T → Type 0
    Stopped g f [] = ⊤
    Stopped g f (t ∷ w) = (more s : List T) → Matches S g (f ++ t ∷ more) s → length s ≤ length more → ⊥

    pub record Stops (g : Grammar C) (ts rest : List T) : Type 0 where
      pub front : List T
      pub split : ts ≡ front ++ rest
      pub again : (x : List T) → Matches S g (front ++ x) x
      pub stopped : Stopped g front rest

    pub record Fails (g : Grammar C) (ts rest : List T) : Type 0 where
      pub front : List T
      pub split : ts ≡ front ++ rest
      pub viable : (more : List T) × Matches S g (front ++ more) []
      pub not_whole : (x : List T) → Matches S g (front ++ x) x → ⊥
      pub stopped : Stopped g front rest

    abbrev pub Exact : Grammar C → List T → End T → Type 0
    Exact g ts (took rest) = Stops g ts rest
    Exact g ts (failed rest) = Fails g ts rest

    past : (g : Grammar C) (f u : List T) (t : T) (w more mid : List T) → Stopped g f (u ++ t ∷ w) → Matches S g (f ++ (u ++ t ∷ more)) mid → length mid < length (u ++ t ∷ more) → ⊥
    past g f [] t w more mid k m l = k more mid m (omega arith)
    past g f (y ∷ u) t w more mid k m l = k (u ++ t ∷ more) mid m (omega arith)

    past_some : (g : Grammar C) (f u r x mid : List T) → Stopped g f (u ++ r) → Matches S g (f ++ (u ++ x)) mid → length x ≤ length mid → length mid < length (u ++ x) → ⊥
    past_some g f [] r x mid k m h l = omega arith
    past_some g f (y ∷ u) r x mid k m h l = k (u ++ x) mid m (omega arith)

    module _ (g h : Grammar C) (cg : is_clear S g ≡ true) (a : all_apart S (goes S g) (first S h) ≡ true) where
      stopped_both : (f u r : List T) → ((x : List T) → Matches S g (f ++ x) x) → Stopped g f (u ++ r) → Stopped h u r → Stopped (seq g h) (f ++ u) r
      stopped_both f u [] again k j = tt
      stopped_both f u (t ∷ w) again k j = λ more s m l.
          let p = of_both (subst (λ z. Matches S (seq g h) z s) (append_assoc f u (t ∷ more)) m) in
          let n = length-append u (t ∷ more) in
          elim (diverge cg (again (u ++ t ∷ more)) p.1) [
            | together e ↦ j more s (subst (λ z. Matches S h z s) (sym e) p.2) l
            | sooner c v e i o ↦ past g f u t w more p.0 k p.1 i
            | later c v e i o ↦ no_gap g h a p.0 s c v p.2 e (omega arith) o
          ]

      not_whole_both : (f u r : List T) → ((x : List T) → Matches S g (f ++ x) x) → Stopped g f (u ++ r) → ((x : List T) → Matches S h (u ++ x) x → ⊥) →
          (x : List T) → Matches S (seq g h) ((f ++ u) ++ x) x → ⊥
      not_whole_both f u r again k j x m =
          let p = of_both (subst (λ z. Matches S (seq g h) z x) (append_assoc f u x) m) in
          let n = length-append u x in
          elim (diverge cg (again (u ++ x)) p.1) [
            | together e ↦ j x (subst (λ z. Matches S h z x) (sym e) p.2)
            | sooner c v e i o ↦ past_some g f u r x p.0 k p.1 (no_longer S p.2) i
            | later c v e i o ↦ no_gap g h a p.0 x c v p.2 e (omega arith) o
          ]

    over : (f x p m : List T) → f ++ x ≡ p ++ m → length x < length m → (c : T) × (v : List T) × (f ≡ p ++ c ∷ v) × (m ≡ c ∷ v ++ x)
    over [] x [] m e l = absurd (let k = ap length e in omega arith)
    over [] x (y ∷ p) m e l = absurd (let k = ap length e in let n = length-append p m in omega arith)
    over (z ∷ f) x [] m e l = (z, f, refl, sym e)
    over (z ∷ f) x (y ∷ p) m e l = let r = over f x p m (ap tail_of e) l in (r.0, r.1, (λ i. head_of z (e i) ∷ r.2 i), r.3)

    -- a text that ends within a front that goes on can go on
    early_goes : (g : Grammar C) → is_clear S g ≡ true → (f more x mid : List T) → Matches S g (f ++ more) [] → Matches S g (f ++ x) mid → length x < length mid → (c : T) × (v : List T) × (mid ≡ c ∷ v) × (is_of S (goes S g) c ≡ true)
    early_goes g cg f more x mid whole m l =
        let p = front_of S m in
        let o = over f x p.front mid p.split l in
        let n = subst (λ z. Matches S g z (o.0 ∷ o.1 ++ more)) (sym (append_assoc p.front (o.0 ∷ o.1) more)) (p.again (o.0 ∷ o.1 ++ more)) in
        (o.0, o.1 ++ x, o.3, heads (diverge cg n (subst (λ z. Matches S g (z ++ more) []) o.2 whole)))
      where
        heads : {c : T} {v : List T} → Diverge (goes S g) (c ∷ v) [] → is_of S (goes S g) c ≡ true
        heads (together e) = absurd (let k = ap length e in omega arith)
        heads {c} (sooner t w e i o) = subst (λ z. is_of S (goes S g) z ≡ true) (sym (ap (head_of c) e)) o
        heads (later t w e i o) = absurd (omega arith)

    module _ (g h : Grammar C) (cg : is_clear S g ≡ true) (a : all_apart S (goes S g) (first S h) ≡ true) where
      stopped_first : (f r more' : List T) → Matches S g (f ++ more') [] → ((x : List T) → Matches S g (f ++ x) x → ⊥) → Stopped g f r → Stopped (seq g h) f r
      stopped_first f [] more' whole none k = tt
      stopped_first f (t ∷ w) more' whole none k = λ more s m l.
          let p = of_both m in
          let q = front_of S p.1 in
          elim (cases_lt (length more) (length p.0)) [
            | inr y ↦ k more p.0 p.1 y
            | inl x ↦ elim (cases_lt (suc (length more)) (length p.0)) [
              | inl z ↦ let o = early_goes g cg f more' (t ∷ more) p.0 whole p.1 z in no_gap g h a p.0 s o.0 o.1 p.2 o.2 (omega arith) o.3
              | inr z ↦ none (t ∷ more) (subst (λ v. Matches S g (f ++ t ∷ more) v) (sym (same_rest f q.front (t ∷ more) p.0 q.split (omega arith))) p.1)
            ]
          ]

      not_whole_first : (f more' : List T) → Matches S g (f ++ more') [] → ((x : List T) → Matches S g (f ++ x) x → ⊥) → (x : List T) → Matches S (seq g h) (f ++ x) x → ⊥
      not_whole_first f more' whole none x m =
          let p = of_both m in
          let q = front_of S p.1 in
          let n = no_longer S p.2 in
          elim (cases_lt (length x) (length p.0)) [
            | inl z ↦ let o = early_goes g cg f more' x p.0 whole p.1 z in no_gap g h a p.0 x o.0 o.1 p.2 o.2 z o.3
            | inr z ↦ none x (subst (λ v. Matches S g (f ++ x) v) (sym (same_rest f q.front x p.0 q.split (omega arith))) p.1)
          ]

    same_head : (g : Grammar C) (f : List T) (t : T) (w v : List T) → begins S g (f ++ t ∷ w) ≡ begins S g (f ++ t ∷ v)
    same_head g [] t w v = refl
    same_head g (y ∷ f) t w v = refl

    begins_front : (g : Grammar C) (f : List T) (t : T) (more s : List T) → Matches S g (f ++ t ∷ more) s → length s ≤ length more → begins S g (f ++ t ∷ more) ≡ true
    begins_front g f t more s m l = begins_of S K m (let n = length-append f (t ∷ more) in omega arith)

    -- the rules of a run, one lemma each
    exact_token : (c : C) (t : T) (ts : List T) → S.test c t ≡ true → Stops (tok c) (t ∷ ts) ts
    exact_token c t ts h = record { front = t ∷ []; split = refl; again = λ x. a_token h; stopped = late ts }
      where
        late : (w : List T) → Stopped (tok c) (t ∷ []) w
        late [] = tt
        late (y ∷ w) = λ more s m l. let p = of_token m in let k = ap length p.1 in omega arith

    fails_token : (c : C) (ts : List T) → ((t : T) (w : List T) → ts ≡ t ∷ w → S.test c t ≡ false) → Fails (tok c) ts ts
    fails_token c ts bad = record {
      front = [];
      split = refl;
      viable = (let x = K.shown c in (x.0 ∷ [], a_token x.1));
      not_whole = λ x m. let p = of_token m in let k = ap length p.1 in omega arith;
      stopped = late ts bad;
    }
      where
        late : (w : List T) → ((t : T) (v : List T) → w ≡ t ∷ v → S.test c t ≡ false) → Stopped (tok c) [] w
        late [] b = tt
        late (y ∷ w) b = λ more s m l. let p = of_token m in both_ways (S.test c y) (subst (λ z. S.test c z ≡ true) (sym (ap (head_of y) p.1)) p.2) (b y w refl)

    exact_nil : (ts : List T) → Stops nil ts ts
    exact_nil ts = record { front = []; split = refl; again = λ x. no_token; stopped = late ts }
      where
        late : (w : List T) → Stopped nil [] w
        late [] = tt
        late (y ∷ w) = λ more s m l. let k = ap length (of_nil m) in omega arith

    both_stops : (g h : Grammar C) → is_clear S g ≡ true → all_apart S (goes S g) (first S h) ≡ true → (ts mid rest : List T) → Stops g ts mid → Stops h mid rest → Stops (seq g h) ts rest
    both_stops g h cg a ts mid rest p q =
        record {
          front = p.front ++ q.front;
          split = p.split ∙ (ap (λ y. p.front ++ y) q.split ∙ sym (append_assoc p.front q.front rest));
          again = λ x. subst (λ y. Matches S (seq g h) y x) (sym (append_assoc p.front q.front x)) (both (p.again (q.front ++ x)) (q.again x));
          stopped = stopped_both g h cg a p.front q.front rest p.again (subst (λ z. Stopped g p.front z) q.split p.stopped) q.stopped;
        }

    both_fails : (g h : Grammar C) → is_clear S g ≡ true → all_apart S (goes S g) (first S h) ≡ true → (ts mid rest : List T) → Stops g ts mid → Fails h mid rest → Fails (seq g h) ts rest
    both_fails g h cg a ts mid rest p q =
        let k = subst (λ z. Stopped g p.front z) q.split p.stopped in
        record {
          front = p.front ++ q.front;
          split = p.split ∙ (ap (λ y. p.front ++ y) q.split ∙ sym (append_assoc p.front q.front rest));
          viable = (q.viable.0, subst (λ y. Matches S (seq g h) y []) (sym (append_assoc p.front q.front q.viable.0)) (both (p.again (q.front ++ q.viable.0)) q.viable.1));
          not_whole = not_whole_both g h cg a p.front q.front rest p.again k q.not_whole;
          stopped = stopped_both g h cg a p.front q.front rest p.again k q.stopped;
        }

    first_fails : (g h : Grammar C) → is_clear S g ≡ true → all_apart S (goes S g) (first S h) ≡ true → (ts rest : List T) → Fails g ts rest → Fails (seq g h) ts rest
    first_fails g h cg a ts rest p =
        let b = some_text h in
        record {
          front = p.front;
          split = p.split;
          viable = (p.viable.0 ++ b.0, subst (λ y. Matches S (seq g h) y []) (append_assoc p.front p.viable.0 b.0) (both (extend p.viable.1 b.0) b.1));
          not_whole = not_whole_first g h cg a p.front p.viable.0 p.viable.1 p.not_whole;
          stopped = stopped_first g h cg a p.front rest p.viable.0 p.viable.1 p.not_whole p.stopped;
        }

    module _ (g h : Grammar C) (ng : nullable S g ≡ true → ⊥) (a : all_apart S (first S g) (first S h) ≡ true) where
      stopped_left : (f r : List T) → begins S g (f ++ r) ≡ true → Stopped g f r → Stopped (alt g h) f r
      stopped_left f [] b k = tt
      stopped_left f (t ∷ w) b k = λ more s m l. elim (of_either m) [
        | inl x ↦ k more s x l
        | inr y ↦ other_way g h a (f ++ t ∷ more) (same_head g f t more w ∙ b) (begins_front h f t more s y l)
      ]

      stopped_right : (f r : List T) → begins S g (f ++ r) ≡ false → Stopped h f r → Stopped (alt g h) f r
      stopped_right f [] b k = tt
      stopped_right f (t ∷ w) b k = λ more s m l. elim (of_either m) [
        | inl x ↦ both_ways (begins S g (f ++ t ∷ more)) (begins_front g f t more s x l) (same_head g f t more w ∙ b)
        | inr y ↦ k more s y l
      ]

      -- a part whose first token is there does not fail at it
      not_at_once : (r : List T) → begins S g r ≡ true → Stopped g [] r → ⊥
      not_at_once [] b k = true≢false (sym b)
      not_at_once (t ∷ w) b k = let p = begun g t b in k p.0 [] p.1 (omega arith)

      not_whole_left : (f r : List T) → begins S g (f ++ r) ≡ true → Stopped g f r → ((x : List T) → Matches S g (f ++ x) x → ⊥) → (x : List T) → Matches S (alt g h) (f ++ x) x → ⊥
      not_whole_left [] r b k none x m = not_at_once r b k
      not_whole_left (y ∷ f) r b k none x m = elim (of_either m) [
        | inl z ↦ none x z
        | inr z ↦ other_way g h a (y ∷ f ++ x) b (begins_of S K z (let n = length-append f x in omega arith))
      ]

      not_whole_right : (f r : List T) → begins S g (f ++ r) ≡ false → ((x : List T) → Matches S h (f ++ x) x → ⊥) → (x : List T) → Matches S (alt g h) (f ++ x) x → ⊥
      not_whole_right [] r b none x m = elim (of_either m) [ inl z ↦ ng (null_of S K z (omega arith)) | inr z ↦ none x z ]
      not_whole_right (y ∷ f) r b none x m = elim (of_either m) [
        | inl z ↦ both_ways (begins S g (y ∷ f ++ x)) (begins_of S K z (let n = length-append f x in omega arith)) b
        | inr z ↦ none x z
      ]

      exact_left : (ts : List T) (e : End T) → begins S g ts ≡ true → Exact g ts e → Exact (alt g h) ts e
      exact_left ts (took rest) b p = record {
        front = p.front;
        split = p.split;
        again = λ x. the_left (p.again x);
        stopped = stopped_left p.front rest (subst (λ z. begins S g z ≡ true) p.split b) p.stopped;
      }
      exact_left ts (failed rest) b p = let k = subst (λ z. begins S g z ≡ true) p.split b in
          record {
            front = p.front;
            split = p.split;
            viable = (p.viable.0, the_left p.viable.1);
            not_whole = not_whole_left p.front rest k p.stopped p.not_whole;
            stopped = stopped_left p.front rest k p.stopped;
          }

      exact_right : (ts : List T) (e : End T) → begins S g ts ≡ false → Exact h ts e → Exact (alt g h) ts e
      exact_right ts (took rest) b p = record {
        front = p.front;
        split = p.split;
        again = λ x. the_right (p.again x);
        stopped = stopped_right p.front rest (subst (λ z. begins S g z ≡ false) p.split b) p.stopped;
      }
      exact_right ts (failed rest) b p = let k = subst (λ z. begins S g z ≡ false) p.split b in
          record {
            front = p.front;
            split = p.split;
            viable = (p.viable.0, the_right p.viable.1);
            not_whole = not_whole_right p.front rest k p.not_whole;
            stopped = stopped_right p.front rest k p.stopped;
          }

    exact_end : (g : Grammar C) (ts : List T) → begins S g ts ≡ false → Stops (star g) ts ts
    exact_end g ts b = record { front = []; split = refl; again = λ x. no_more; stopped = late ts b }
      where
        late : (w : List T) → begins S g w ≡ false → Stopped (star g) [] w
        late [] c = tt
        late (y ∷ w) c = λ more s m l. both_ways (is_of S (first S g) y) (begins_of S K m (omega arith)) c

    module _ (g : Grammar C) where
      stopped_more : (f r : List T) → Stopped (seq g (star g)) f r → Stopped (star g) f r
      stopped_more f [] k = tt
      stopped_more f (t ∷ w) k = λ more s m l. elim (of_star m) [
        | inl e ↦ let n = length-append f (t ∷ more) in let i = ap length e in omega arith
        | inr x ↦ k more s x l
      ]

      not_whole_more : (f r : List T) → begins S g (f ++ r) ≡ true → Stopped (seq g (star g)) f r → ((x : List T) → Matches S (seq g (star g)) (f ++ x) x → ⊥) → (x : List T) → Matches S (star g) (f ++ x) x → ⊥
      not_whole_more [] [] b k none x m = true≢false (sym b)
      not_whole_more [] (t ∷ w) b k none x m = let p = begun g t b in k (p.0 ++ []) [] (both (extend p.1 []) no_more) (omega arith)
      not_whole_more (y ∷ f) r b k none x m = elim (of_star m) [
        | inl e ↦ let n = length-append f x in let i = ap length e in omega arith
        | inr z ↦ none x z
      ]

      exact_more : (ts : List T) (e : End T) → begins S g ts ≡ true → Exact (seq g (star g)) ts e → Exact (star g) ts e
      exact_more ts (took rest) b p = record { front = p.front; split = p.split; again = λ x. one_more (p.again x); stopped = stopped_more p.front rest p.stopped }
      exact_more ts (failed rest) b p =
          record {
            front = p.front;
            split = p.split;
            viable = (p.viable.0, one_more p.viable.1);
            not_whole = not_whole_more p.front rest (subst (λ z. begins S g z ≡ true) p.split b) p.stopped p.not_whole;
            stopped = stopped_more p.front rest p.stopped;
          }

    module _ (n : ℕ) where
      stopped_part : (f r : List T) → Stopped (S.parts n) f r → Stopped (part n) f r
      stopped_part f [] k = tt
      stopped_part f (t ∷ w) k = λ more s m l. k more s (of_part m) l

      exact_part : (ts : List T) (e : End T) → Exact (S.parts n) ts e → Exact (part n) ts e
      exact_part ts (took rest) p = record { front = p.front; split = p.split; again = λ x. by_part (p.again x); stopped = stopped_part p.front rest p.stopped }
      exact_part ts (failed rest) p =
          record { front = p.front; split = p.split; viable = (p.viable.0, by_part p.viable.1); not_whole = λ x m. p.not_whole x (of_part m); stopped = stopped_part p.front rest p.stopped }

    exact_both : (g h : Grammar C) → is_clear S g ≡ true → all_apart S (goes S g) (first S h) ≡ true → (ts mid : List T) (e : End T) → Stops g ts mid → Exact h mid e → Exact (seq g h) ts e
    exact_both g h cg a ts mid (took rest) p q = both_stops g h cg a ts mid rest p q
    exact_both g h cg a ts mid (failed rest) p q = both_fails g h cg a ts mid rest p q

    -- a run is exact
    pub exact : {g : Grammar C} {ts : List T} {e : End T} → is_clear S g ≡ true → Runs S g ts e → Exact g ts e
    exact c (take_token {c = d} {t} {ts} h) = exact_token d t ts h
    exact c (bad_token {c = d} {t} {ts} h) = fails_token d (t ∷ ts) (λ y w e. subst (λ z. S.test d z ≡ false) (ap (head_of t) e) h)
    exact c (bad_end {c = d}) = fails_token d [] (λ y w e. absurd (let k = ap length e in omega arith))
    exact c (take_nothing {ts}) = exact_nil ts
    exact c (run_both {g} {h} {ts} {mid} {e} a b) =
        let r = and_right (is_clear S g) _ c in
        exact_both g h (and_left (is_clear S g) _ c) (and_right (is_clear S h) _ r) ts mid e (exact (and_left (is_clear S g) _ c) a) (exact (and_left (is_clear S h) _ r) b)
    exact c (run_first {g} {h} {ts} {rest} a) =
        let r = and_right (is_clear S g) _ c in
        first_fails g h (and_left (is_clear S g) _ c) (and_right (is_clear S h) _ r) ts rest (exact (and_left (is_clear S g) _ c) a)
    exact c (run_left {g} {h} {ts} {e} b a) =
        let l = and_right (is_clear S h) _ (and_right (is_clear S g) _ c) in
        exact_left g h (not_true (nullable S g) (and_left (not (nullable S g)) _ l)) (and_right (not (nullable S g)) _ l) ts e b (exact (and_left (is_clear S g) _ c) a)
    exact c (run_right {g} {h} {ts} {e} b a) =
        let r = and_right (is_clear S g) _ c in
        let l = and_right (is_clear S h) _ r in
        exact_right g h (not_true (nullable S g) (and_left (not (nullable S g)) _ l)) (and_right (not (nullable S g)) _ l) ts e b (exact (and_left (is_clear S h) _ r) a)
    exact c (run_end {g} {ts} b) = exact_end g ts b
    exact c (run_more {g} {ts} {e} b a) = exact_more g ts e b (exact (is_clear_again g c) a)
    exact c (run_part {n} {ts} {e} a) = exact_part n ts e (exact (K.clear n) a)

    -- what took all is a text, and what stopped before the end or failed shows the first fault
    stuck_from : (g : Grammar C) (f r : List T) → ((x : List T) → Matches S g (f ++ x) x → ⊥) → Stopped g f r → IsStuck S g f r
    stuck_from g f [] none k = λ m. none [] (subst (λ z. Matches S g z []) (sym (append-nil f)) m)
    stuck_from g f (t ∷ w) none k = λ m. k m.0 [] (subst (λ z. Matches S g z []) (append_assoc f (t ∷ []) m.0) m.1) (omega arith)

    pub fault_of : {g : Grammar C} {ts rest : List T} → is_clear S g ≡ true → Runs S g ts (failed rest) → IsFault S g ts rest
    fault_of {g} {ts} {rest} c m = let p = exact c m in record { front = p.front; split = p.split; before = p.viable; here = stuck_from g p.front rest p.not_whole p.stopped }

    pub fault_behind : {g : Grammar C} {ts : List T} (t : T) (w : List T) → is_clear S g ≡ true → Runs S g ts (took (t ∷ w)) → IsFault S g ts (t ∷ w)
    fault_behind {g} {ts} t w c m = let p = exact c m in
        record {
          front = p.front;
          split = p.split;
          before = ([], p.again []);
          here = λ o. p.stopped o.0 [] (subst (λ z. Matches S g z []) (append_assoc p.front (t ∷ []) o.0) o.1) (omega arith);
        }
