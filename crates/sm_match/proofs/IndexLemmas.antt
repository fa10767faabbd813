-- Places that suit a literal: how they are listed, which they are, and that rows have them.
use Rattle.std.specs.Prelude.{◌≡◌, ℕ, zero, suc, ◌+◌, ◌<◌, ◌≤◌, List, [], ◌∷◌, ◌++◌, length, slice_get, Bool, true, false, nat_eq, ◌&&◌, if◌then◌else◌, Option, Some, None, ◌⊎◌, refl}
use Rattle.std.proofs.Common.{inl, inr, ap, sym, ◌∙◌, subst, get_or, take, drop, append_assoc, append-nil, add-one, drop-cons, arith}
use Rattle.std.proofs.lemmas.Bool.{false≢true, eqb-true, eq-eqb, and_parts}
use Rattle.std.proofs.lemmas.List.{at_drop_all, take_more}
use Rattle.std.proofs.lemmas.Option.{none-some, same_Some}
use Rattle.gr_base.specs.Lists.{IsAmong, Each, IsRising}
use Rattle.gr_base.proofs.ListLemmas.{IsAmong-append_left, IsAmong-one_more, IsAmong-new_one, IsAmong-get_or, IsAmong-slice_get, Each-at, Each-append}
use Rattle.gr_terms.specs.declared.Sym.{Sym}
use Rattle.gr_terms.specs.declared.Term.{Term}
use Rattle.gr_terms.specs.declared.Term.TheVariants.{Const, Var}
use Rattle.gr_terms.specs.declared.Literal.{Literal}
use Rattle.sm_match.specs.declared.index.Row.{Row}
use Rattle.sm_match.specs.Index.{wanted_name, may_be, suits, suiting, row_name, IsFor, IsRow, AreRows}

-- ---- going over the literals

module _ (pred : Option Sym) (arity : ℕ) (gs : List Literal) (i : ℕ) (d : Literal) (within : i < length gs) where
  suiting-drop : (t : Bool) → suits pred arity (get_or gs i d) ≡ t → suiting i pred arity (drop i gs) ≡ (if t then (i ∷ suiting (i + 1) pred arity (drop (i + 1) gs)) else suiting (i + 1) pred arity (drop (i + 1) gs))
  suiting-drop t e =
      ap (λ xs. suiting i pred arity xs) (drop-cons gs i d within)
      ∙ ap (λ b. if b then (i ∷ suiting (suc i) pred arity (drop (suc i) gs)) else suiting (suc i) pred arity (drop (suc i) gs)) e
      ∙ ap (λ k. if t then (i ∷ suiting k pred arity (drop k gs)) else suiting k pred arity (drop k gs)) (sym (add-one i))

  -- what was found, with what is still to be found, is what there is
  pub suiting-hit : (found all : List ℕ) → suits pred arity (get_or gs i d) ≡ true → found ++ suiting i pred arity (drop i gs) ≡ all → (found ++ i ∷ []) ++ suiting (i + 1) pred arity (drop (i + 1) gs) ≡ all
  suiting-hit found all e h = append_assoc found (i ∷ []) (suiting (i + 1) pred arity (drop (i + 1) gs)) ∙ ap (λ xs. found ++ xs) (sym (suiting-drop true e)) ∙ h

  pub suiting-miss : (found all : List ℕ) → suits pred arity (get_or gs i d) ≡ false → found ++ suiting i pred arity (drop i gs) ≡ all → found ++ suiting (i + 1) pred arity (drop (i + 1) gs) ≡ all
  suiting-miss found all e h = ap (λ xs. found ++ xs) (sym (suiting-drop false e)) ∙ h

pub suiting-end : (pred : Option Sym) (arity : ℕ) (gs : List Literal) (i : ℕ) (found all : List ℕ) → length gs ≤ i → found ++ suiting i pred arity (drop i gs) ≡ all → found ≡ all
suiting-end pred arity gs i found all far h = sym (append-nil found) ∙ sym (ap (λ xs. found ++ xs) (at_drop_all (λ (xs : List Literal). suiting i pred arity xs) gs i far)) ∙ h

-- ---- which places suit

-- the literal at the place suits
pub record SuitsAt (pred : Option Sym) (arity : ℕ) (gs : List Literal) (p : ℕ) : Type 0 where
  pub literal : Literal
  pub at : slice_get gs p ≡ Some literal
  pub suited : suits pred arity literal ≡ true

module _ (pred : Option Sym) (arity : ℕ) where
  suiting-from : (n : ℕ) (gs : List Literal) (p : ℕ) → IsAmong (suiting n pred arity gs) p → (k : ℕ) × (p ≡ n + k) × SuitsAt pred arity gs k
  suiting-from n [] p i = absurd i
  suiting-from n (g ∷ gs) p i = by (suits pred arity g) refl (suiting-from (suc n) gs p)
    where
      by : (t : Bool) → suits pred arity g ≡ t → (IsAmong (suiting (suc n) pred arity gs) p → (k : ℕ) × (p ≡ suc n + k) × SuitsAt pred arity gs k) → (k : ℕ) × (p ≡ n + k) × SuitsAt pred arity (g ∷ gs) k
      by true e later =
          elim (subst (λ xs. IsAmong xs p) (ap (λ b. if b then (n ∷ suiting (suc n) pred arity gs) else suiting (suc n) pred arity gs) e) i) [
            | inl h ↦ (zero, omega (arith, h), record { literal = g; at = refl; suited = e })
            | inr j ↦ let r = later j in let h : p ≡ suc n + r.0 = r.1 in (suc r.0, omega arith, record { literal = r.2.literal; at = r.2.at; suited = r.2.suited })
          ]
      by false e later =
          let j = subst (λ xs. IsAmong xs p) (ap (λ b. if b then (n ∷ suiting (suc n) pred arity gs) else suiting (suc n) pred arity gs) e) i in
          let r = later j in let h : p ≡ suc n + r.0 = r.1 in (suc r.0, omega arith, record { literal = r.2.literal; at = r.2.at; suited = r.2.suited })

  from-suiting : (n : ℕ) (gs : List Literal) (k : ℕ) → SuitsAt pred arity gs k → IsAmong (suiting n pred arity gs) (n + k)
  from-suiting n [] k s = absurd (none-some s.literal s.at)
  from-suiting n (g ∷ gs) zero s =
      let e : suits pred arity g ≡ true = ap (suits pred arity) (same_Some g s.literal s.at) ∙ s.suited in
      subst (λ xs. IsAmong xs (n + zero)) (sym (ap (λ b. if b then (n ∷ suiting (suc n) pred arity gs) else suiting (suc n) pred arity gs) e)) (inl (omega arith))
  from-suiting n (g ∷ gs) (suc k) s = by (suits pred arity g) refl (from-suiting (suc n) gs k (record { literal = s.literal; at = s.at; suited = s.suited }))
    where
      by : (t : Bool) → suits pred arity g ≡ t → IsAmong (suiting (suc n) pred arity gs) (suc n + k) → IsAmong (suiting n pred arity (g ∷ gs)) (n + suc k)
      by true e later =
          subst (λ xs. IsAmong xs (n + suc k)) (sym (ap (λ b. if b then (n ∷ suiting (suc n) pred arity gs) else suiting (suc n) pred arity gs) e))
          (inr (let same : suc n + k ≡ n + suc k = omega arith in subst (λ m. IsAmong (suiting (suc n) pred arity gs) m) same later))
      by false e later =
          subst (λ xs. IsAmong xs (n + suc k)) (sym (ap (λ b. if b then (n ∷ suiting (suc n) pred arity gs) else suiting (suc n) pred arity gs) e))
          (let same : suc n + k ≡ n + suc k = omega arith in subst (λ m. IsAmong (suiting (suc n) pred arity gs) m) same later)

  pub place_suits : (gs : List Literal) (p : ℕ) → IsAmong (suiting 0 pred arity gs) p → SuitsAt pred arity gs p
  place_suits gs p i = let r = suiting-from 0 gs p i in let same : r.0 ≡ p = omega (arith, r.1) in subst (λ k. SuitsAt pred arity gs k) same r.2

  pub suits_place : (gs : List Literal) (p : ℕ) → SuitsAt pred arity gs p → IsAmong (suiting 0 pred arity gs) p
  suits_place gs p s = let same : 0 + p ≡ p = omega arith in subst (λ k. IsAmong (suiting 0 pred arity gs) k) same (from-suiting 0 gs p s)

  -- they rise
  suiting-above : (n m : ℕ) (gs : List Literal) → n ≤ m → Each (λ p. n ≤ p) (suiting m pred arity gs)
  suiting-above n m [] le = tt
  suiting-above n m (g ∷ gs) le =
      elim (suits pred arity g) as (λ b. Each (λ p. n ≤ p) (if b then (m ∷ suiting (suc m) pred arity gs) else suiting (suc m) pred arity gs)) [
        | true ↦ (le, suiting-above n (suc m) gs (omega arith))
        | false ↦ suiting-above n (suc m) gs (omega arith)
      ]

  pub suiting-rises : (n : ℕ) (gs : List Literal) → IsRising (suiting n pred arity gs)
  suiting-rises n [] = tt
  suiting-rises n (g ∷ gs) =
      elim (suits pred arity g) as (λ b. IsRising (if b then (n ∷ suiting (suc n) pred arity gs) else suiting (suc n) pred arity gs)) [
        | true ↦ (suiting-above (suc n) (suc n) gs (omega arith), suiting-rises (suc n) gs)
        | false ↦ suiting-rises (suc n) gs
      ]

-- ---- what a literal that suits is

pub suits_arity : (pred : Option Sym) (arity : ℕ) (g : Literal) → suits pred arity g ≡ true → arity ≡ length g.args
suits_arity pred arity g h = eqb-true arity (length g.args) (and_parts (nat_eq arity (length g.args)) (may_be pred g.pred) h).0

pub suits_name : (pred : Option Sym) (arity : ℕ) (g : Literal) → suits pred arity g ≡ true → may_be pred g.pred ≡ true
suits_name pred arity g h = (and_parts (nat_eq arity (length g.args)) (may_be pred g.pred) h).1

pub suits_both : (pred : Option Sym) (arity : ℕ) (g : Literal) → arity ≡ length g.args → may_be pred g.pred ≡ true → suits pred arity g ≡ true
suits_both pred arity g e h = ap (λ b. b && may_be pred g.pred) (eq-eqb arity (length g.args) e) ∙ h

-- the tests of the code, one after the other
pub suits_first : (pred : Option Sym) (arity : ℕ) (g : Literal) → (arity ≡ length g.args → ⊥) → suits pred arity g ≡ false
suits_first pred arity g other = by (suits pred arity g) refl
  where
    by : (t : Bool) → suits pred arity g ≡ t → suits pred arity g ≡ false
    by true e = absurd (other (suits_arity pred arity g e))
    by false e = e

pub suits_second : (pred : Option Sym) (arity : ℕ) (g : Literal) → arity ≡ length g.args → may_be pred g.pred ≡ false → suits pred arity g ≡ false
suits_second pred arity g e h = ap (λ b. b && may_be pred g.pred) (eq-eqb arity (length g.args) e) ∙ h

-- what suits a name has it as predicate
pub suits_named : (s : Sym) (arity : ℕ) (g : Literal) → suits (Some s) arity g ≡ true → row_name false g ≡ Some s
suits_named s arity g h = by g.pred (suits_name (Some s) arity g h)
  where
    by : (x : Term) → may_be (Some s) x ≡ true → wanted_name x ≡ Some s
    by (Const p) e = let same : s.0 ≡ p.0 = eqb-true s.0 p.0 e in λ i. Some (record { 0 = sym same i })
    by (Var v) e = absurd (false≢true e)

pub suits_any : (arity : ℕ) (g : Literal) → suits None arity g ≡ true → row_name true g ≡ None
suits_any arity g h = refl

-- ---- rows

-- what the walk over rows knows
pub among_item : {A : Type 0} (xs : List A) (i : ℕ) (x : A) → x ≡ get_or xs i x → i < length xs → IsAmong xs x
among_item xs i x is within = subst (λ y. IsAmong xs y) (sym is) (IsAmong-get_or xs i x within)

pub one_more_item : {A : Type 0} (xs : List A) (i : ℕ) (x y : A) → x ≡ get_or xs i x → i < length xs → IsAmong (take (i + 1) xs) y → IsAmong (take i xs) y ⊎ (y ≡ x)
one_more_item xs i x y is within j = elim (IsAmong-one_more (take i xs) (get_or xs i x) y (subst (λ zs. IsAmong zs y) (take_more xs i x within) j)) [ inl k ↦ inl k | inr e ↦ inr (e ∙ sym is) ]

module _ (any : Bool) (input some : List Literal) (rows : List Row) where
  -- one more literal whose row is there
  pub rows_there : (g : Literal) (r : Row) → IsAmong rows r → IsFor any g r → AreRows any input some rows → AreRows any input (some ++ g ∷ []) rows
  rows_there g r i is are = record {
    right = are.right;
    all = λ h j. elim (IsAmong-one_more some g h j) [
      | inl k ↦ are.all h k
      | inr e ↦ (r, i, (subst (λ x. r.pred ≡ row_name any x) (sym e) is.0, subst (λ x. r.arity ≡ length x.args) (sym e) is.1))
    ];
  }

  -- one more literal with a row of its own
  pub rows_more : (g : Literal) (r : Row) (new : List Row) → new ≡ rows ++ r ∷ [] → IsRow input r → IsFor any g r → AreRows any input some rows → AreRows any input (some ++ g ∷ []) new
  rows_more g r new e right is are = subst (λ rs. AreRows any input (some ++ g ∷ []) rs) (sym e) (record {
    right = Each-append (IsRow input) rows (r ∷ []) are.right (right, tt);
    all = λ h j. elim (IsAmong-one_more some g h j) [
      | inl k ↦ let f = are.all h k in (f.0, IsAmong-append_left rows (r ∷ []) f.0 f.1, f.2)
      | inr e ↦ (r, IsAmong-new_one rows r, (subst (λ x. r.pred ≡ row_name any x) (sym e) is.0, subst (λ x. r.arity ≡ length x.args) (sym e) is.1))
    ];
  })

-- a literal without a row suits nowhere
pub rows_none : (any : Bool) (input : List Literal) (rows : List Row) (pred : Option Sym) (arity : ℕ) → AreRows any input input rows
    → ((g : Literal) → suits pred arity g ≡ true → row_name any g ≡ pred)
    → ((r : Row) → IsAmong rows r → r.pred ≡ pred → r.arity ≡ arity → ⊥) → suiting 0 pred arity input ≡ []
rows_none any input rows pred arity are key none = by (suiting 0 pred arity input) refl
  where
    by : (ps : List ℕ) → suiting 0 pred arity input ≡ ps → ps ≡ []
    by [] e = refl
    by (p ∷ ps) e =
        let s = place_suits pred arity input p (subst (λ xs. IsAmong xs p) (sym e) (inl refl)) in
        let r = are.all s.literal (IsAmong-slice_get input p s.literal s.at) in
        absurd (none r.0 r.1 (r.2.0 ∙ key s.literal s.suited) (r.2.1 ∙ sym (suits_arity pred arity s.literal s.suited)))

-- and the places of a row are those that suit
pub rows_some : (any : Bool) (input : List Literal) (rows : List Row) (r : Row) (pred : Option Sym) (arity : ℕ) → AreRows any input input rows
    → IsAmong rows r → r.pred ≡ pred → r.arity ≡ arity → r.places.items ≡ suiting 0 pred arity input
rows_some any input rows r pred arity are i p a = Each-at (IsRow input) rows r are.right i ∙ (λ k. suiting 0 (p k) (a k) input)
