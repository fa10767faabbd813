-- The variables of what was read have numbers that were given.
use Rattle.std.proofs.Common.{◌≡◌, ℕ, ◌+◌, ◌<◌, ◌≤◌, List, [], ◌∷◌, ◌↔◌, inl, inr, Option, Some, None, refl, sym, ap, subst, arith}
use Rattle.gr_base.specs.Lists.{IsAmong, Each}
use Rattle.gr_base.proofs.ListLemmas.{IsAmong-append_right, IsAmong-append_left, Each-at, Each-members}
use Rattle.gr_base.proofs.RisingKeys.{IsRising-same}
use Rattle.gr_terms.specs.declared.Term.{Term}
use Rattle.gr_terms.specs.declared.Term.TheVariants.{Const, Var}
use Rattle.gr_terms.specs.declared.Literal.{Literal}
use Rattle.gr_store.specs.Contents.{rank, IsMade}
use Rattle.gr_feats.specs.declared.gathered.Gathered.{Gathered}
use Rattle.gr_feats.specs.Grammars.{Written, a_name, a_variable, WrittenPair, WrittenLiteral}
use Rattle.gr_feats.specs.Numberings.{Numbering, Meets, IsNumbering, GoesOnFrom}
use Rattle.gr_feats.specs.Readings.{IsTerm, InTurn, IsPair, IsBag, IsHandle, IsLiteral, AreLiterals, AreMade}
use Rattle.gr_feats.proofs.NumberingLemmas.{IsNumbering-with_own}
use Rattle.gr_feats.proofs.OneAnswer.{once_number, IsNumbering-meets}

-- names and their numbers stay, and tell each other apart
pub numbers_stay : (old new : Numbering) (p : ℕ × ℕ) → GoesOnFrom old new → IsAmong old.named p → IsAmong new.named p
numbers_stay old new p on i = subst (λ ps. IsAmong ps p) (sym on.named) (IsAmong-append_left old.named on.more p i)

pub numbers_apart : (met : Numbering) (m n i j : ℕ) → IsNumbering met → IsAmong met.named (m, i) → IsAmong met.named (n, j) → (m ≡ n) ↔ (i ≡ j)
numbers_apart met m n i j is a b = (
  λ e. once_number met.named n i j is.once (subst (λ k. IsAmong met.named (k, i)) e a) b,
  λ e. ap (λ p. p.0) (IsRising-same (λ p. p.1) met.named (m, i) (n, j) is.rising a b e),
)

-- what is read is right for the numbers given behind it, which are no fewer
pub record IsGiven {W X : Type 0} (R : Numbering → W → X → Numbering → Type 0) (P : ℕ → X → Type 0) : Type 0 where
  pub made : (before : Numbering) (w : W) (x : X) (after : Numbering) → IsNumbering before → R before w x after → P after.given x
  pub keeps : (before : Numbering) (w : W) (x : X) (after : Numbering) → IsNumbering before → R before w x after → IsNumbering after × (before.given ≤ after.given)
  pub more : (m n : ℕ) (x : X) → m ≤ n → P m x → P n x

module _ {W X : Type 0} (R : Numbering → W → X → Numbering → Type 0) (P : ℕ → X → Type 0) (given : IsGiven R P) where
  pub row_keeps : (before : Numbering) (ws : List W) (xs : List X) (after : Numbering) → IsNumbering before → InTurn R before ws xs after → IsNumbering after × (before.given ≤ after.given)
  row_keeps before [] [] after is h = (subst IsNumbering (sym h) is, let e = ap (λ m. m.given) h in omega arith)
  row_keeps before [] (x ∷ xs) after is h = absurd h
  row_keeps before (w ∷ ws) [] after is h = absurd h
  row_keeps before (w ∷ ws) (x ∷ xs) after is h =
      let a = given.keeps before w x h.0 is h.1 in
      let b = row_keeps h.0 ws xs after a.0 h.2 in
      (b.0, omega (arith, a.1, b.1))

  pub row_made : (before : Numbering) (ws : List W) (xs : List X) (after : Numbering) → IsNumbering before → InTurn R before ws xs after → Each (P after.given) xs
  row_made before [] [] after is h = tt
  row_made before [] (x ∷ xs) after is h = absurd h
  row_made before (w ∷ ws) [] after is h = absurd h
  row_made before (w ∷ ws) (x ∷ xs) after is h =
      let a = given.keeps before w x h.0 is h.1 in
      let b = row_keeps h.0 ws xs after a.0 h.2 in
      (given.more h.0.given after.given x b.1 (given.made before w x h.0 is h.1), row_made h.0 ws xs after a.0 h.2)

meets_made : (before : Numbering) (n k : ℕ) (after : Numbering) → IsNumbering before → Meets before n k after → k + 1 ≤ after.given
meets_made before n k after is (inl a) = let l = Each-at (λ p. p.1 < before.given) before.named (n, k) is.below a.0 in let e = ap (λ m. m.given) a.1 in omega arith
meets_made before n k after is (inr a) = let e = ap (λ m. m.given) a.1.1 in omega (arith, a.1.0)

meets_keeps : (before : Numbering) (n k : ℕ) (after : Numbering) → Meets before n k after → before.given ≤ after.given
meets_keeps before n k after (inl a) = let e = ap (λ m. m.given) a.1 in omega arith
meets_keeps before n k after (inr a) = let e = ap (λ m. m.given) a.1.1 in omega arith

more_made : (m n : ℕ) (x : Term) → m ≤ n → IsMade m x → IsMade n x
more_made m n x l h = omega arith

module _ (texts : List (List ℕ)) where
  term_made : (before : Numbering) (w : Written) (x : Term) (after : Numbering) → IsNumbering before → IsTerm texts before w x after → IsMade after.given x
  term_made before (a_name t) (Const n) after is h = omega arith
  term_made before (a_name t) (Var k) after is h = absurd h
  term_made before (a_variable t) (Const n) after is h = absurd h
  term_made before (a_variable t) (Var k) after is h = meets_made before h.0 k after is h.2

  term_keeps : (before : Numbering) (w : Written) (x : Term) (after : Numbering) → IsNumbering before → IsTerm texts before w x after → IsNumbering after × (before.given ≤ after.given)
  term_keeps before (a_name t) (Const n) after is h = (subst IsNumbering (sym h.1) is, let e = ap (λ m. m.given) h.1 in omega arith)
  term_keeps before (a_name t) (Var k) after is h = absurd h
  term_keeps before (a_variable t) (Const n) after is h = absurd h
  term_keeps before (a_variable t) (Var k) after is h = (IsNumbering-meets before h.0 k after is h.2, meets_keeps before h.0 k after h.2)

  terms_given : IsGiven (IsTerm texts) IsMade
  terms_given = record { made = term_made; keeps = term_keeps; more = more_made }

  pairs_given : IsGiven (IsPair texts) (λ n p. IsMade n p.value)
  pairs_given = record {
    made = λ before w x after is h. term_made before w.value x.value after is h.value;
    keeps = λ before w x after is h. term_keeps before w.value x.value after is h.value;
    more = λ m n x l h. more_made m n x.value l h;
  }

  handle_made : (before : Numbering) (w : Option Written) (x : Term) (after : Numbering) → IsNumbering before → IsHandle texts before w x after → IsMade after.given x
  handle_made before None x after is h = let e = ap (λ m. m.given) h.1 in let r = ap rank h.0 in omega arith
  handle_made before (Some w) x after is h = term_made before w x after is h

  handle_keeps : (before : Numbering) (w : Option Written) (x : Term) (after : Numbering) → IsNumbering before → IsHandle texts before w x after → IsNumbering after × (before.given ≤ after.given)
  handle_keeps before None x after is h = (subst IsNumbering (sym h.1) (IsNumbering-with_own before is), let e = ap (λ m. m.given) h.1 in omega arith)
  handle_keeps before (Some w) x after is h = term_keeps before w x after is h

  literal_keeps : (before : Numbering) (w : WrittenLiteral) (x : Literal) (after : Numbering) → IsNumbering before → IsLiteral texts before w x after → IsNumbering after × (before.given ≤ after.given)
  literal_keeps before w x after is h =
      let a = handle_keeps before w.handle x.handle h.behind_handle is h.handle in
      let b = term_keeps h.behind_handle w.pred x.pred h.behind_pred a.0 h.pred in
      let c = row_keeps (IsTerm texts) IsMade terms_given h.behind_pred w.args x.args after b.0 h.args in
      (c.0, omega (arith, a.1, b.1, c.1))

  literal_made : (before : Numbering) (w : WrittenLiteral) (x : Literal) (after : Numbering) → IsNumbering before → IsLiteral texts before w x after → AreMade after.given x
  literal_made before w x after is h =
      let a = handle_keeps before w.handle x.handle h.behind_handle is h.handle in
      let b = term_keeps h.behind_handle w.pred x.pred h.behind_pred a.0 h.pred in
      let c = row_keeps (IsTerm texts) IsMade terms_given h.behind_pred w.args x.args after b.0 h.args in
      record {
        handle = more_made h.behind_handle.given after.given x.handle (omega (arith, b.1, c.1)) (handle_made before w.handle x.handle h.behind_handle is h.handle);
        pred = more_made h.behind_pred.given after.given x.pred c.1 (term_made h.behind_handle w.pred x.pred h.behind_pred a.0 h.pred);
        args = row_made (IsTerm texts) IsMade terms_given h.behind_pred w.args x.args after b.0 h.args;
      }

  literals_given : IsGiven (IsLiteral texts) AreMade
  literals_given = record {
    made = literal_made;
    keeps = literal_keeps;
    more = λ m n x l h. record {
      handle = more_made m n x.handle l h.handle;
      pred = more_made m n x.pred l h.pred;
      args = Each-members (IsMade n) x.args (λ y i. more_made m n y l (Each-at (IsMade m) x.args y h.args i));
    };
  }

  pub bag_made : (before : Numbering) (ws : List WrittenPair) (g : Gathered) (after : Numbering) → IsNumbering before → IsBag texts before ws g after → Each (λ p. IsMade after.given p.1) g.bag
  bag_made before ws g after is h =
      let made = row_made (IsPair texts) (λ n p. IsMade n p.value) pairs_given before ws h.pairs after is h.read in
      Each-members (λ p. IsMade after.given p.1) g.bag (λ p i.
      let f = (h.gathers.firsts p.0 p.1).0 i in
      let among : IsAmong h.pairs f.1 = subst (λ ps. IsAmong ps f.1) (sym f.3) (IsAmong-append_right f.0 (f.1 ∷ f.2) f.1 (inl refl)) in
      subst (λ v. IsMade after.given v) f.6 (Each-at (λ q. IsMade after.given q.value) h.pairs f.1 made among))

  pub literals_made : (before : Numbering) (ws : List WrittenLiteral) (xs : List Literal) (after : Numbering) → IsNumbering before → AreLiterals texts before ws xs after → Each (AreMade after.given) xs
  literals_made before ws xs after is h = row_made (IsLiteral texts) AreMade literals_given before ws xs after is h
