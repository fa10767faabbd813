-- A tree stands nowhere that has more literals of one predicate and number of arguments than there are places for them.
use Rattle.std.specs.Prelude.{◌≡◌, ℕ, zero, suc, ◌+◌, ◌<◌, ◌≤◌, List, [], ◌∷◌, length, slice_get, Bool, true, false, cond, count_by, if◌then◌else◌, Option, Some, None, refl}
use Rattle.std.specs.List.{AllZip}
use Rattle.std.proofs.Common.{inl, inr, ap, sym, ◌∙◌, subst, arith}
use Rattle.std.proofs.lemmas.Bool.{false≢true, eqb-true, eq-eqb}
use Rattle.std.proofs.lemmas.List.Recursion.{is_count_by}
use Rattle.std.proofs.lemmas.Option.{same_Some}
use Rattle.gr_base.specs.Lists.{IsAmong, Each, NoneTwice}
use Rattle.gr_base.proofs.Counting.{length-within}
use Rattle.gr_terms.specs.LiteralViews.{AreConst}
use Rattle.gr_terms.specs.declared.Sym.{Sym}
use Rattle.gr_terms.specs.declared.Term.{Term}
use Rattle.gr_terms.specs.declared.Term.TheVariants.{Const, Var}
use Rattle.gr_terms.specs.declared.Literal.{Literal}
use Rattle.td_tree.specs.declared.Tree.{Tree}
use Rattle.tg_model.specs.Instances.{FitsPlace, MayStandAt}
use Rattle.sm_match.specs.Index.{wanted_name, may_be, suits, suiting}
use Rattle.sm_match.proofs.IndexLemmas.{suits_place, suits_arity, suits_name, suits_both}
use Rattle.sm_match.proofs.PlaceLemmas.{StandsAt, stands_at}

-- ---- what suits a literal that suits, suits

may_be-through : (pred : Option Sym) (x y : Term) → may_be pred x ≡ true → may_be (wanted_name x) y ≡ true → may_be pred y ≡ true
may_be-through None x y a b = refl
may_be-through (Some s) (Const p) (Const q) a b =
    let e : s.0 ≡ p.0 = eqb-true s.0 p.0 a in let f : p.0 ≡ q.0 = eqb-true p.0 q.0 b in eq-eqb s.0 q.0 (e ∙ f)
may_be-through (Some s) (Const p) (Var v) a b = absurd (false≢true b)
may_be-through (Some s) (Var v) y a b = absurd (false≢true a)

suits-through : (pred : Option Sym) (arity : ℕ) (l g : Literal) → suits pred arity l ≡ true → suits (wanted_name l.pred) (length l.args) g ≡ true → suits pred arity g ≡ true
suits-through pred arity l g a b =
    suits_both pred arity g (suits_arity pred arity l a ∙ suits_arity (wanted_name l.pred) (length l.args) g b)
    (may_be-through pred l.pred g.pred (suits_name pred arity l a) (suits_name (wanted_name l.pred) (length l.args) g b))

-- ---- the places of the literals that suit

module _ (pred : Option Sym) (arity : ℕ) (S : List ℕ) where
  kept : List Literal → List ℕ → List ℕ
  kept [] ps = []
  kept (l ∷ ls) [] = []
  kept (l ∷ ls) (p ∷ ps) = if suits pred arity l then (p ∷ kept ls ps) else kept ls ps

  kept-within : (ls : List Literal) (ps : List ℕ) (x : ℕ) → IsAmong (kept ls ps) x → IsAmong ps x
  unfolding kept
  kept-within [] ps x i = absurd i
  kept-within (l ∷ ls) [] x i = absurd i
  kept-within (l ∷ ls) (p ∷ ps) x i = by (suits pred arity l) (kept-within ls ps x) i
    where
      by : (b : Bool) → (IsAmong (kept ls ps) x → IsAmong ps x) → IsAmong (if b then (p ∷ kept ls ps) else kept ls ps) x → IsAmong (p ∷ ps) x
      by true later (inl e) = inl e
      by true later (inr j) = inr (later j)
      by false later j = inr (later j)

  kept-once : (ls : List Literal) (ps : List ℕ) → NoneTwice ps → NoneTwice (kept ls ps)
  unfolding kept
  kept-once [] ps once = tt
  kept-once (l ∷ ls) [] once = tt
  kept-once (l ∷ ls) (p ∷ ps) once = by (suits pred arity l) (kept-once ls ps once.1)
    where
      by : (b : Bool) → NoneTwice (kept ls ps) → NoneTwice (if b then (p ∷ kept ls ps) else kept ls ps)
      by true later = (λ i. once.0 (kept-within ls ps p i), later)
      by false later = later

  -- how many literals suit, one after the other
  abbrev counted : List Literal → ℕ
  counted [] = 0
  counted (l ∷ ls) = cond (suits pred arity l) (1 + counted ls) (counted ls)

  kept-length : (input ls : List Literal) (ps : List ℕ) → AllZip (FitsPlace input) ls ps → length (kept ls ps) ≡ counted ls
  unfolding kept
  kept-length input [] ps fits = refl
  kept-length input (l ∷ ls) [] fits = absurd fits
  kept-length input (l ∷ ls) (p ∷ ps) fits = by (suits pred arity l) (kept-length input ls ps fits.1)
    where
      by : (b : Bool) → length (kept ls ps) ≡ counted ls → length (if b then (p ∷ kept ls ps) else kept ls ps) ≡ cond b (1 + counted ls) (counted ls)
      by true h = omega (arith, h)
      by false h = h

  -- each literal that suits has one of these places
  abbrev HavePlaces : List Literal → List ℕ → Type 0
  HavePlaces ls ps = (k : ℕ) (l : Literal) → slice_get ls k ≡ Some l → suits pred arity l ≡ true → (p : ℕ) × (slice_get ps k ≡ Some p) × IsAmong S p

  kept-places : (ls : List Literal) (ps : List ℕ) → HavePlaces ls ps → (x : ℕ) → IsAmong (kept ls ps) x → IsAmong S x
  unfolding kept
  kept-places [] ps have x i = absurd i
  kept-places (l ∷ ls) [] have x i = absurd i
  kept-places (l ∷ ls) (p ∷ ps) have x i = by (suits pred arity l) refl (kept-places ls ps (λ k m at e. have (suc k) m at e) x) i
    where
      by : (b : Bool) → suits pred arity l ≡ b → (IsAmong (kept ls ps) x → IsAmong S x) → IsAmong (if b then (p ∷ kept ls ps) else kept ls ps) x → IsAmong S x
      by true e later (inl same) = let r = have zero l refl e in subst (λ y. IsAmong S y) (sym (same_Some p r.0 r.1) ∙ sym same) r.2
      by true e later (inr j) = later j
      by false e later j = later j

  pub few_alike : (input ls : List Literal) (ps : List ℕ) → AllZip (FitsPlace input) ls ps → NoneTwice ps → HavePlaces ls ps → count_by (suits pred arity) ls ≤ length S
  few_alike input ls ps fits once have =
      let h : length (kept ls ps) ≤ length S = length-within (kept ls ps) S (kept-once ls ps once) (kept-places ls ps have) in
      let e : length (kept ls ps) ≡ counted ls = kept-length input ls ps fits in
      let f : counted ls ≡ count_by (suits pred arity) ls = is_count_by counted (suits pred arity) refl (λ l more. refl) ls in
      omega arith

-- a literal that has too few places keeps the tree from standing anywhere
pub too_few : (input : List Literal) (t : Tree) (l : Literal) (found : List ℕ) (count : ℕ) → Each AreConst input
    → found ≡ suiting 0 (wanted_name l.pred) (length l.args) input → count ≡ count_by (suits (wanted_name l.pred) (length l.args)) t.sem
    → length found < count → (ps : List ℕ) → MayStandAt input t ps → ⊥
too_few input t l found count ground is counts less ps stands =
    let pred = wanted_name l.pred in
    let arity = length l.args in
    let S = suiting 0 pred arity input in
    let enough : count_by (suits pred arity) t.sem ≤ length S =
    few_alike pred arity S input t.sem ps stands.fits stands.once (λ k m at e.
    let r : StandsAt input m ps k = stands_at input t ps k m ground stands at in
    (r.place, r.there, suits_place pred arity input r.place (record { literal = r.suited.literal; at = r.suited.at; suited = suits-through pred arity m r.suited.literal e r.suited.suited })))
    in
    let long : length found ≡ length S = ap length is in
    omega (arith, counts)
