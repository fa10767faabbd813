-- One answer is right, and what an instance covers.
use Rattle.std.specs.Prelude.{◌≡◌, ℕ, zero, suc, ◌<◌, ◌≤◌, List, [], ◌∷◌, length, Bool, true, false, nat_eq, Result, Ok, Err, refl}
use Rattle.std.specs.List.{AllZip}
use Rattle.std.proofs.Common.{inl, inr, ap, sym, ◌∙◌, arith}
use Rattle.std.proofs.lemmas.Bool.{eqb-true, eqb-false}
use Rattle.std.proofs.lemmas.Option.{slice_get_within}
use Rattle.gr_base.specs.Lists.{IsAmong, IsWithin, Each, NoneTwice}
use Rattle.gr_base.proofs.ListLemmas.{IsAmong-slice_get, Each-at}
use Rattle.gr_base.proofs.Counting.{length-within}
use Rattle.gr_terms.specs.declared.Literal.{Literal}
use Rattle.tg_model.specs.Instances.{FitsPlace, IsInstance, AreInstances}
use Rattle.tg_model.specs.LexicalTrees.{IsLexical, AreLexical}
use Rattle.tg_model.specs.declared.instance.TheConstants.{INSTANCE_LIMIT}
use Rattle.tg_model.specs.declared.instance.Instance.{Instance}
use Rattle.tg_model.specs.declared.instance.Selection.{Selection}
use Rattle.tg_model.specs.declared.lexical.LexicalTree.{LexicalTree}
use Rattle.sm_match.specs.Answers.{IsSelection, HasTooMany, IsAnswer}
use Rattle.sm_match.specs.declared.refusal.SelectRefusal.{SelectRefusal}
use Rattle.sm_match.specs.declared.refusal.SelectRefusal.TheVariants.{Over, Memory}
use Rattle.sm_match.proofs.ListingLemmas.{order_unique}

-- ---- one answer

module _ (trees : List LexicalTree) (input : List Literal) where
  within : (is js : List Instance) → Each (IsInstance trees input) is → AreInstances trees input js → IsWithin is js
  within is js only are i m = are.all i (Each-at (IsInstance trees input) is i only m)

  one_selection : (a b : Selection) → IsSelection trees input a → IsSelection trees input b → a ≡ b
  one_selection a b x y =
      let is : a.instances ≡ b.instances =
      order_unique a.instances b.instances x.instances.order y.instances.order (within a.instances b.instances x.instances.only y.instances) (within b.instances a.instances y.instances.only x.instances) in
      let ls : a.literals ≡ b.literals = x.literals ∙ sym y.literals in
      λ k. record { instances = is k; literals = ls k }

  not_too_many : (a : Selection) → IsSelection trees input a → HasTooMany trees input → ⊥
  not_too_many a x (is, many, once, only) =
      let h : length is ≤ length a.instances = length-within is a.instances once (within is a.instances only x.instances) in
      let f : length a.instances ≤ INSTANCE_LIMIT = x.few in
      omega arith

  pub one_answer : (x y : Result Selection SelectRefusal) → (x ≡ Err Memory → ⊥) → (y ≡ Err Memory → ⊥) → IsAnswer trees input x → IsAnswer trees input y → x ≡ y
  one_answer (Ok a) (Ok b) n m p q = ap Ok (one_selection a b p q)
  one_answer (Ok a) (Err Over) n m p q = absurd (not_too_many a p q)
  one_answer (Ok a) (Err Memory) n m p q = absurd (m refl)
  one_answer (Err Over) (Ok b) n m p q = absurd (not_too_many b q p)
  one_answer (Err Over) (Err Over) n m p q = refl
  one_answer (Err Over) (Err Memory) n m p q = absurd (m refl)
  one_answer (Err Memory) y n m p q = absurd (n refl)

-- ---- what an instance covers

covers_some : (input ls : List Literal) (ps : List ℕ) → AllZip (FitsPlace input) ls ps → (ls ≡ [] → ⊥) → 0 < length ps
covers_some input [] ps fits some = absurd (some refl)
covers_some input (l ∷ ls) [] fits some = absurd fits
covers_some input (l ∷ ls) (p ∷ ps) fits some = omega arith

covers_within : (input ls : List Literal) (ps : List ℕ) → AllZip (FitsPlace input) ls ps → Each (λ p. p < length input) ps
covers_within input [] [] fits = tt
covers_within input [] (p ∷ ps) fits = absurd fits
covers_within input (l ∷ ls) [] fits = absurd fits
covers_within input (l ∷ ls) (p ∷ ps) fits = (slice_get_within input p fits.0.0 fits.0.1, covers_within input ls ps fits.1)

pub instance_some : (trees : List LexicalTree) (input : List Literal) (i : Instance) → AreLexical trees → IsInstance trees input i → 0 < length i.places
instance_some trees input i lexical is = covers_some input is.lexical.tree.sem i.places is.stands.fits (Each-at IsLexical trees is.lexical lexical (IsAmong-slice_get trees i.tree is.lexical is.is)).literal

pub instance_within : (trees : List LexicalTree) (input : List Literal) (i : Instance) → IsInstance trees input i → Each (λ p. p < length input) i.places
instance_within trees input i is = covers_within input is.lexical.tree.sem i.places is.stands.fits

-- the numbers below n
below : ℕ → List ℕ
below zero = []
below (suc n) = n ∷ below n

length-below : (n : ℕ) → length (below n) ≡ n
unfolding below
length-below zero = refl
length-below (suc n) = ap suc (length-below n)

among_below : (n p : ℕ) → p < n → IsAmong (below n) p
unfolding below
among_below zero p less = absurd (omega arith)
among_below (suc n) p less = by (nat_eq p n) refl (among_below n p)
  where
    by : (t : Bool) → nat_eq p n ≡ t → (p < n → IsAmong (below n) p) → IsAmong (n ∷ below n) p
    by true e later = inl (eqb-true p n e)
    by false e later = inr (later (let ne = eqb-false p n e in omega arith))

pub few_below : (n : ℕ) (ps : List ℕ) → NoneTwice ps → Each (λ p. p < n) ps → length ps ≤ n
few_below n ps once each =
    let h : length ps ≤ length (below n) = length-within ps (below n) once (λ p i. among_below n p (Each-at (λ p. p < n) ps p each i)) in
    omega (arith, length-below n)

pub instance_few : (trees : List LexicalTree) (input : List Literal) (i : Instance) → IsInstance trees input i → length i.places ≤ length input
instance_few trees input i is = few_below (length input) i.places is.stands.once (instance_within trees input i is)
