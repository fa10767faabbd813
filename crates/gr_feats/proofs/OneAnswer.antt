-- One answer is right.
use Rattle.std.proofs.Common.{◌≡◌, ℕ, ◌+◌, List, [], ◌∷◌, ◌++◌, map, length, drop, ◌⊎◌, inl, inr, true, Option, Some, None, Result, Ok, Err, refl, sym, ◌∙◌, ap, subst, arith}
use Rattle.gr_base.specs.Lists.{IsAmong, NoneTwice}
use Rattle.gr_base.proofs.ListLemmas.{same_head, same_tail, IsAmong-map, NoneTwice-again}
use Rattle.std.proofs.lemmas.List.{map-append}
use Rattle.gr_text.specs.declared.Place.{Place}
use Rattle.gr_terms.specs.declared.Term.{Term}
use Rattle.gr_terms.specs.declared.Term.TheVariants.{Const, Var}
use Rattle.gr_terms.specs.declared.Literal.{Literal}
use Rattle.gr_terms.specs.declared.bag.Bag.{Bag}
use Rattle.gr_terms.proofs.BagLemmas.{IsListed-unique}
use Rattle.gr_symbols.proofs.NumberLemmas.{one_number, one_sym}
use Rattle.gr_tokens.specs.declared.Token.{Token}
use Rattle.gr_tokens.specs.declared.ReadRefusal.{ReadRefusal}
use Rattle.gr_tokens.specs.declared.ReadRefusal.TheVariants as refusal
use Rattle.gr_grammar.specs.Grammars.{Grammar, Matches, is_clear}
use Rattle.gr_reader.specs.Lexemes.{Lexeme, lexemes}
use Rattle.gr_reader.specs.Classes.{Class, flat}
use Rattle.gr_reader.specs.Fronts.{IsFrontReading}
use Rattle.gr_reader.specs.Places.{place_of_token}
use Rattle.gr_reader.proofs.Systems.{flat_is_system}
use Rattle.gr_reader.proofs.LexemeLemmas.{Lexeme-set}
use Rattle.gr_reader.proofs.Fronts.{one_front}
use Rattle.gr_feats.specs.declared.gathered.Pair.{Pair}
use Rattle.gr_feats.specs.declared.gathered.Gathered.{Gathered}
use Rattle.gr_feats.specs.Grammars.{Written, a_name, a_variable, WrittenPair, bag_text, bag_of, closed_literals_text, closed_literals_of}
use Rattle.gr_feats.specs.Numberings.{Numbering, Meets, IsNumbering}
use Rattle.gr_feats.specs.Readings.{IsTerm, InTurn, IsPair, attributes, IsAgain, Gathers, IsBag, IsHandle, IsLiteral, AreLiterals}
use Rattle.gr_feats.specs.Answers.{place_of_left, IsBagAt, AreLiteralsAt, IsNoTextAt, IsRefusedAt, IsBagReading, IsLiteralsReading}
use Rattle.gr_feats.proofs.NumberingLemmas.{IsNumbering-with_name, IsNumbering-with_own}
use Rattle.gr_feats.proofs.ReadingLemmas.{bag_is_clear, closed_literals_are_clear}

-- a name has one number
pub once_number : (pairs : List (ℕ × ℕ)) (n k j : ℕ) → NoneTwice (map (λ p. p.0) pairs) → IsAmong pairs (n, k) → IsAmong pairs (n, j) → k ≡ j
once_number [] n k j once a b = absurd a
once_number (p ∷ ps) n k j once (inl a) (inl b) = ap (λ q. q.1) a ∙ sym (ap (λ q. q.1) b)
once_number (p ∷ ps) n k j once (inl a) (inr b) = absurd (once.0 (subst (λ m. IsAmong (map (λ p. p.0) ps) m) (ap (λ q. q.0) a) (IsAmong-map (λ p. p.0) ps (n, j) b)))
once_number (p ∷ ps) n k j once (inr a) (inl b) = absurd (once.0 (subst (λ m. IsAmong (map (λ p. p.0) ps) m) (ap (λ q. q.0) b) (IsAmong-map (λ p. p.0) ps (n, k) a)))
once_number (p ∷ ps) n k j once (inr a) (inr b) = once_number ps n k j once.1 a b

pub one_meeting : (before : Numbering) (n k j : ℕ) (x y : Numbering) → IsNumbering before → Meets before n k x → Meets before n j y → (k ≡ j) × (x ≡ y)
one_meeting before n k j x y is (inl a) (inl b) = (once_number before.named n k j is.once a.0 b.0, a.1 ∙ sym b.1)
one_meeting before n k j x y is (inl a) (inr b) = absurd (b.0 k a.0)
one_meeting before n k j x y is (inr a) (inl b) = absurd (a.0 j b.0)
one_meeting before n k j x y is (inr a) (inr b) = (a.1.0 ∙ sym b.1.0, a.1.1 ∙ sym b.1.1)

pub IsNumbering-meets : (before : Numbering) (n k : ℕ) (x : Numbering) → IsNumbering before → Meets before n k x → IsNumbering x
IsNumbering-meets before n k x is (inl a) = subst IsNumbering (sym a.1) is
IsNumbering-meets before n k x is (inr a) = subst IsNumbering (sym a.1.1) (IsNumbering-with_name before n is a.0)

-- what is read of what is written, and the numbering behind it, is one, and a numbering again
pub record IsOne {W X : Type 0} (R : Numbering → W → X → Numbering → Type 0) : Type 0 where
  pub one : (before : Numbering) (w : W) (x y : X) (a b : Numbering) → IsNumbering before → R before w x a → R before w y b → (x ≡ y) × (a ≡ b)
  pub keeps : (before : Numbering) (w : W) (x : X) (a : Numbering) → IsNumbering before → R before w x a → IsNumbering a

module _ {W X : Type 0} (R : Numbering → W → X → Numbering → Type 0) (is_one : IsOne R) where
  pub one_row : (before : Numbering) (ws : List W) (xs ys : List X) (a b : Numbering) → IsNumbering before → InTurn R before ws xs a → InTurn R before ws ys b → (xs ≡ ys) × (a ≡ b)
  one_row before [] [] [] a b is h k = (refl, h ∙ sym k)
  one_row before [] [] (y ∷ ys) a b is h k = absurd k
  one_row before [] (x ∷ xs) ys a b is h k = absurd h
  one_row before (w ∷ ws) [] ys a b is h k = absurd h
  one_row before (w ∷ ws) (x ∷ xs) [] a b is h k = absurd k
  one_row before (w ∷ ws) (x ∷ xs) (y ∷ ys) a b is h k =
      let e = is_one.one before w x y h.0 k.0 is h.1 k.1 in
      let rest = one_row h.0 ws xs ys a b (is_one.keeps before w x h.0 is h.1) h.2 (subst (λ m. InTurn R m ws ys b) (sym e.1) k.2) in
      ((λ i. e.0 i ∷ rest.0 i), rest.1)

  pub row_keeps : (before : Numbering) (ws : List W) (xs : List X) (a : Numbering) → IsNumbering before → InTurn R before ws xs a → IsNumbering a
  row_keeps before [] [] a is h = subst IsNumbering (sym h) is
  row_keeps before [] (x ∷ xs) a is h = absurd h
  row_keeps before (w ∷ ws) [] a is h = absurd h
  row_keeps before (w ∷ ws) (x ∷ xs) a is h = row_keeps h.0 ws xs a (is_one.keeps before w x h.0 is h.1) h.2

module _ (texts : List (List ℕ)) (once : NoneTwice texts) where
  pub one_term : (before : Numbering) (w : Written) (x y : Term) (a b : Numbering) → IsNumbering before → IsTerm texts before w x a → IsTerm texts before w y b → (x ≡ y) × (a ≡ b)
  one_term before (a_name t) (Const n) (Const m) a b is h k = (ap Const (one_sym texts once n m t h.0 k.0), h.1 ∙ sym k.1)
  one_term before (a_name t) (Const n) (Var j) a b is h k = absurd k
  one_term before (a_name t) (Var i) y a b is h k = absurd h
  one_term before (a_variable t) (Const n) y a b is h k = absurd h
  one_term before (a_variable t) (Var i) (Const m) a b is h k = absurd k
  one_term before (a_variable t) (Var i) (Var j) a b is h k =
      let e = one_number texts k.0 h.0 t once k.1 h.1 in
      let m = one_meeting before h.0 i j a b is h.2 (subst (λ n. Meets before n j b) e k.2) in
      (ap Var m.0, m.1)

  pub term_keeps : (before : Numbering) (w : Written) (x : Term) (a : Numbering) → IsNumbering before → IsTerm texts before w x a → IsNumbering a
  term_keeps before (a_name t) (Const n) a is h = subst IsNumbering (sym h.1) is
  term_keeps before (a_name t) (Var i) a is h = absurd h
  term_keeps before (a_variable t) (Const n) a is h = absurd h
  term_keeps before (a_variable t) (Var i) a is h = IsNumbering-meets before h.0 i a is h.2

  terms_one : IsOne (IsTerm texts)
  terms_one = record { one = one_term; keeps = term_keeps }

  pairs_one : IsOne (IsPair texts)
  pairs_one = record {
    one = λ before w x y a b is h k.
        let e = one_term before w.value x.value y.value a b is h.value k.value in
        let s = one_sym texts once x.attr y.attr w.attr h.attr k.attr in
        let l = h.left ∙ sym k.left in
        ((λ i. record { attr = s i; value = e.0 i; left = l i }), e.1);
    keeps = λ before w x a is h. term_keeps before w.value x.value a is h.value;
  }

  pub one_handle : (before : Numbering) (w : Option Written) (x y : Term) (a b : Numbering) → IsNumbering before → IsHandle texts before w x a → IsHandle texts before w y b → (x ≡ y) × (a ≡ b)
  one_handle before None x y a b is h k = (h.0 ∙ sym k.0, h.1 ∙ sym k.1)
  one_handle before (Some w) x y a b is h k = one_term before w x y a b is h k

  pub handle_keeps : (before : Numbering) (w : Option Written) (x : Term) (a : Numbering) → IsNumbering before → IsHandle texts before w x a → IsNumbering a
  handle_keeps before None x a is h = subst IsNumbering (sym h.1) (IsNumbering-with_own before is)
  handle_keeps before (Some w) x a is h = term_keeps before w x a is h

  literals_one : IsOne (IsLiteral texts)
  literals_one = record {
    one = λ before w x y a b is h k.
        let i1 = handle_keeps before w.handle x.handle h.behind_handle is h.handle in
        let e1 = one_handle before w.handle x.handle y.handle h.behind_handle k.behind_handle is h.handle k.handle in
        let i2 = term_keeps h.behind_handle w.pred x.pred h.behind_pred i1 h.pred in
        let e2 = one_term h.behind_handle w.pred x.pred y.pred h.behind_pred k.behind_pred i1 h.pred (subst (λ m. IsTerm texts m w.pred y.pred k.behind_pred) (sym e1.1) k.pred) in
        let e3 = one_row (IsTerm texts) terms_one h.behind_pred w.args x.args y.args a b i2 h.args (subst (λ m. InTurn (IsTerm texts) m w.args y.args b) (sym e2.1) k.args) in
        ((λ i. record { handle = e1.0 i; pred = e2.0 i; args = e3.0 i }), e3.1);
    keeps = λ before w x a is h. row_keeps (IsTerm texts) terms_one h.behind_pred w.args x.args a (term_keeps h.behind_handle w.pred x.pred h.behind_pred (handle_keeps before w.handle x.handle h.behind_handle is h.handle) h.pred) h.args;
  }

-- two ways to split a list
pub two_splits : {A : Type 0} (b : List A) (p : A) (a : List A) (c : List A) (q : A) (d : List A) → b ++ p ∷ a ≡ c ++ q ∷ d
    → (p ≡ q) ⊎ (((more : List A) × (c ≡ b ++ p ∷ more)) ⊎ ((more : List A) × (b ≡ c ++ q ∷ more)))
two_splits [] p a [] q d e = inl (same_head p q a d e)
two_splits [] p a (y ∷ c) q d e = inr (inl (c, ap (λ z. z ∷ c) (sym (same_head p y a (c ++ q ∷ d) e))))
two_splits (x ∷ b) p a [] q d e = inr (inr (b, ap (λ z. z ∷ b) (same_head x q (b ++ p ∷ a) d e)))
two_splits (x ∷ b) p a (y ∷ c) q d e =
    let h : x ≡ y = same_head x y (b ++ p ∷ a) (c ++ q ∷ d) e in
    elim (two_splits b p a c q d (same_tail x y (b ++ p ∷ a) (c ++ q ∷ d) e)) [
      | inl s ↦ inl s
      | inr s ↦ elim s [
        | inl t ↦ inr (inl (t.0, (λ i. sym h i ∷ t.1 i)))
        | inr t ↦ inr (inr (t.0, (λ i. h i ∷ t.1 i)))
      ]
    ]

-- no attribute stands a second time before it does for the first time
not_before : (b c more : List Pair) (p : Pair) → c ≡ b ++ p ∷ more → NoneTwice (attributes c) → IsAmong (attributes b) p.attr → ⊥
not_before b c more p e once again =
    NoneTwice-again (attributes b) p.attr (attributes more)
    (subst NoneTwice (ap attributes e ∙ map-append (λ q. q.attr) b (p ∷ more)) once) again

pub one_again : (pairs : List Pair) (x y : Option ℕ) → IsAgain pairs x → IsAgain pairs y → x ≡ y
one_again pairs None None h k = refl
one_again pairs None (Some n) h k = absurd (not_before k.0 pairs k.2 k.1 k.3 h k.5)
one_again pairs (Some m) None h k = absurd (not_before h.0 pairs h.2 h.1 h.3 k h.5)
one_again pairs (Some m) (Some n) h k = elim (two_splits h.0 h.1 h.2 k.0 k.1 k.2 (sym h.3 ∙ k.3)) [
  | inl e ↦ ap Some (h.6 ∙ ap (λ p. p.left) e ∙ sym k.6)
  | inr s ↦ elim s [
    | inl t ↦ absurd (not_before h.0 k.0 t.0 h.1 t.1 k.4 h.5)
    | inr t ↦ absurd (not_before k.0 h.0 t.0 k.1 t.1 h.4 k.5)
  ]
]

pub one_gathering : (pairs : List Pair) (g h : Gathered) → Gathers pairs g → Gathers pairs h → g ≡ h
one_gathering pairs g h a b =
    let bags : g.bag ≡ h.bag = IsListed-unique g.bag h.bag a.listed b.listed
    (λ p i. (b.firsts p.0 p.1).1 ((a.firsts p.0 p.1).0 i))
    (λ p i. (a.firsts p.0 p.1).1 ((b.firsts p.0 p.1).0 i)) in
    let places : g.again ≡ h.again = one_again pairs g.again h.again a.again b.again in
    λ i. record { bag = bags i; again = places i }

pub one_bag : (texts : List (List ℕ)) → NoneTwice texts → (before : Numbering) (ws : List WrittenPair) (g h : Gathered) (a b : Numbering) → IsNumbering before → IsBag texts before ws g a → IsBag texts before ws h b → (g ≡ h) × (a ≡ b)
one_bag texts once before ws g h a b is x y =
    let e = one_row (IsPair texts) (pairs_one texts once) before ws x.pairs y.pairs a b is x.read y.read in
    (one_gathering x.pairs g h x.gathers (subst (λ ps. Gathers ps h) (sym e.0) y.gathers), e.1)

-- a front is one, and its value
module _ {A : Type 0} (g : Grammar Class) (clear : is_clear flat g ≡ true) (value : (ts rest : List Lexeme) → Matches flat g ts rest → A) (ts : List Lexeme) where
  pub one_reading : (x y : Result (A × ℕ) ℕ) → IsFrontReading flat g value ts x → IsFrontReading flat g value ts y → x ≡ y
  one_reading = one_front flat g value flat_is_system clear Lexeme-set ts

abbrev ok_of : {A : Type 0} → A × ℕ → Result (A × ℕ) ℕ → A × ℕ
ok_of d (Ok x) = x
ok_of d (Err n) = d

abbrev err_of : {A : Type 0} → Result A ℕ → ℕ
err_of (Ok x) = 0
err_of (Err n) = n

module _ (bytes : List ℕ) (tokens : List Token) (at : ℕ) (texts : List (List ℕ)) (once : NoneTwice texts) (before : Numbering) (is : IsNumbering before) where
  abbrev there : List Lexeme
  there = lexemes bytes (drop at tokens)

  pub one_bag_at : (a b : Numbering) (x y : Bag × ℕ × Option Place) → IsBagAt bytes tokens at texts before a x → IsBagAt bytes tokens at texts before b y → (x ≡ y) × (a ≡ b)
  one_bag_at a b x y h k =
      let same = one_reading bag_text bag_is_clear (λ ts rest m. bag_of m) there (Ok (h.pairs, h.passed)) (Ok (k.pairs, k.passed)) h.front k.front in
      let pairs : h.pairs ≡ k.pairs = ap (λ r. (ok_of (h.pairs, h.passed) r).0) same in
      let passed : h.passed ≡ k.passed = ap (λ r. (ok_of (h.pairs, h.passed) r).1) same in
      let e = one_bag texts once before h.pairs (record { bag = x.0; again = h.again }) (record { bag = y.0; again = k.again }) a b is h.read
      (subst (λ ws. IsBag texts before ws (record { bag = y.0; again = k.again }) b) (sym pairs) k.read) in
      let next : x.1 ≡ y.1 = h.next ∙ ap (λ n. at + n) passed ∙ sym k.next in
      let second : x.2 ≡ y.2 = h.second ∙ ap (λ g. place_of_left bytes tokens g.again) e.0 ∙ sym k.second in
      ((λ i. ((e.0 i).bag, next i, second i)), e.1)

  pub one_literals_at : (a b : Numbering) (x y : List Literal × ℕ) → AreLiteralsAt bytes tokens at texts before a x → AreLiteralsAt bytes tokens at texts before b y → (x ≡ y) × (a ≡ b)
  one_literals_at a b x y h k =
      let same = one_reading closed_literals_text closed_literals_are_clear (λ ts rest m. closed_literals_of m) there (Ok (h.literals, h.passed)) (Ok (k.literals, k.passed)) h.front k.front in
      let literals : h.literals ≡ k.literals = ap (λ r. (ok_of (h.literals, h.passed) r).0) same in
      let passed : h.passed ≡ k.passed = ap (λ r. (ok_of (h.literals, h.passed) r).1) same in
      let e = one_row (IsLiteral texts) (literals_one texts once) before h.literals x.0 y.0 a b is h.read
      (subst (λ ws. AreLiterals texts before ws y.0 b) (sym literals) k.read) in
      let closing : x.1 ≡ y.1 = less_one (h.closing ∙ ap (λ n. at + n) passed ∙ sym k.closing) in
      ((λ i. (e.0 i, closing i)), e.1)
    where
      less_one : {m n : ℕ} → m + 1 ≡ n + 1 → m ≡ n
      less_one e = omega arith

  one_place : (g : Grammar Class) (clear : is_clear flat g ≡ true) (p q : Place) → IsNoTextAt g bytes tokens at p → IsNoTextAt g bytes tokens at q → p ≡ q
  one_place g clear p q h k =
      let same = one_reading g clear (λ ts rest m. length ts) there (Err h.0) (Err k.0) h.1 k.1 in
      h.2 ∙ ap (λ n. place_of_token bytes tokens (at + n)) (ap err_of same) ∙ sym k.2

  only_place : (g : Grammar Class) (r : ReadRefusal) → (r ≡ refusal.Memory → ⊥) → IsRefusedAt g bytes tokens at r → (p : Place) × (r ≡ refusal.Syntax p) × IsNoTextAt g bytes tokens at p
  only_place g (refusal.Syntax p) m h = (p, refl, h)
  only_place g (refusal.NotUtf8 n) m h = absurd h
  only_place g (refusal.Duplicate p) m h = absurd h
  only_place g (refusal.TooManyClasses p) m h = absurd h
  only_place g (refusal.Version n) m h = absurd h
  only_place g (refusal.NotCanonical n) m h = absurd h
  only_place g (refusal.EmptyWord p) m h = absurd h
  only_place g (refusal.EntryLiterals p) m h = absurd h
  only_place g (refusal.Variable p) m h = absurd h
  only_place g (refusal.InputLiterals p) m h = absurd h
  only_place g (refusal.TooManyInputs p) m h = absurd h
  only_place g refusal.Memory m h = absurd (m refl)

  one_refusal : (g : Grammar Class) (clear : is_clear flat g ≡ true) (r s : ReadRefusal) → (r ≡ refusal.Memory → ⊥) → (s ≡ refusal.Memory → ⊥) → IsRefusedAt g bytes tokens at r → IsRefusedAt g bytes tokens at s → r ≡ s
  one_refusal g clear r s m n h k =
      let a = only_place g r m h in
      let b = only_place g s n k in
      a.1 ∙ ap refusal.Syntax (one_place g clear a.0 b.0 a.2 b.2) ∙ sym b.1

  no_place : {A : Type 0} (g : Grammar Class) (clear : is_clear flat g ≡ true) (value : (ts rest : List Lexeme) → Matches flat g ts rest → A) (x : A × ℕ) (r : ReadRefusal) → (r ≡ refusal.Memory → ⊥)
      → IsFrontReading flat g value there (Ok x) → IsRefusedAt g bytes tokens at r → ⊥
  no_place g clear value x r m h k =
      let a = only_place g r m k in
      let same = one_reading g clear value there (Ok x) (Err a.2.0) h a.2.1 in
      cc

  pub one_bag_reading : (a b : Numbering) (x y : Result (Bag × ℕ × Option Place) ReadRefusal) → (x ≡ Err refusal.Memory → ⊥) → (y ≡ Err refusal.Memory → ⊥)
      → IsBagReading bytes tokens at texts before a x → IsBagReading bytes tokens at texts before b y → x ≡ y
  one_bag_reading a b (Ok x) (Ok y) m n h k = ap Ok (one_bag_at a b x y h k).0
  one_bag_reading a b (Ok x) (Err r) m n h k = absurd (no_place bag_text bag_is_clear (λ ts rest m. bag_of m) (h.pairs, h.passed) r (λ e. n (ap Err e)) h.front k)
  one_bag_reading a b (Err r) (Ok y) m n h k = absurd (no_place bag_text bag_is_clear (λ ts rest m. bag_of m) (k.pairs, k.passed) r (λ e. m (ap Err e)) k.front h)
  one_bag_reading a b (Err r) (Err s) m n h k = ap Err (one_refusal bag_text bag_is_clear r s (λ e. m (ap Err e)) (λ e. n (ap Err e)) h k)

  pub one_literals_reading : (a b : Numbering) (x y : Result (List Literal × ℕ) ReadRefusal) → (x ≡ Err refusal.Memory → ⊥) → (y ≡ Err refusal.Memory → ⊥)
      → IsLiteralsReading bytes tokens at texts before a x → IsLiteralsReading bytes tokens at texts before b y → x ≡ y
  one_literals_reading a b (Ok x) (Ok y) m n h k = ap Ok (one_literals_at a b x y h k).0
  one_literals_reading a b (Ok x) (Err r) m n h k = absurd (no_place closed_literals_text closed_literals_are_clear (λ ts rest m. closed_literals_of m) (h.literals, h.passed) r (λ e. n (ap Err e)) h.front k)
  one_literals_reading a b (Err r) (Ok y) m n h k = absurd (no_place closed_literals_text closed_literals_are_clear (λ ts rest m. closed_literals_of m) (k.literals, k.passed) r (λ e. m (ap Err e)) k.front h)
  one_literals_reading a b (Err r) (Err s) m n h k = ap Err (one_refusal closed_literals_text closed_literals_are_clear r s (λ e. m (ap Err e)) (λ e. n (ap Err e)) h k)
