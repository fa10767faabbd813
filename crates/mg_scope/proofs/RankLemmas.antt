-- Ranks: along mentions they do not rise, so a name that mentions lower ones alone has no way back to itself.
use Rattle.std.specs.Prelude.{◌≡◌, ℕ, zero, suc, ◌+◌, ◌<◌, ◌≤◌, List, [], ◌∷◌, ◌++◌, length, take, Option, Some, None, ◌⊎◌, slice_get, get_or, unwrap_or}
use Rattle.std.proofs.Common.{inl, inr, refl, ap, sym, ◌∙◌, subst, arith}
use Rattle.std.proofs.lemmas.List.{take_more, take_all}
use Rattle.std.proofs.lemmas.Option.{same_Some, slice_get-get_or}
use Rattle.gr_base.specs.Lists.{IsAmong, Each}
use Rattle.gr_base.proofs.ListLemmas.{Each-at, IsAmong-append}
use Rattle.gr_terms.specs.declared.Sym.{Sym}
use Rattle.mg_syntax.specs.declared.item.Class.{Class}
use Rattle.mg_syntax.specs.declared.item.Item.{Item}
use Rattle.mg_syntax.specs.declared.item.Item.TheVariants as item
use Rattle.mg_scope.specs.Classes.{mentioned}
use Rattle.mg_scope.specs.Faults.{StandsIn}
use Rattle.mg_scope.specs.Tables.{Cells, value_at, IsBlank}
use Rattle.mg_scope.specs.Cycles.{LeadsTo}
use Rattle.mg_scope.specs.Orders.{rank_of, AreRanks, AreRanksIn, Falls}
use Rattle.mg_scope.specs.Checks.{HasNoWayBack}
use Rattle.mg_scope.proofs.CallerLemmas.{stands_by}

-- what a name leads to has no higher rank
pub ranks_fall : (next : Sym → List Sym) (t : Cells) → AreRanks next t → (goal : Sym) (n : ℕ) (a : Sym) → LeadsTo next goal n a → rank_of t goal ≤ rank_of t a
ranks_fall next t ranks goal zero a e = let h : rank_of t a ≡ rank_of t goal = ap (rank_of t) e in omega (arith, h)
ranks_fall next t ranks goal (suc n) a (b, call, more) =
    let h = ranks a b call in
    let k = ranks_fall next t ranks goal n b more in
    omega (arith, h, k)

pub no_way_back : (next : Sym → List Sym) (t : Cells) (a : Sym) → AreRanks next t → Each (λ x. rank_of t x < rank_of t a) (next a) → HasNoWayBack next a
no_way_back next t a ranks below n (b, call, more) =
    let h = Each-at (λ x. rank_of t x < rank_of t a) (next a) b below call in
    let k = ranks_fall next t ranks a n b more in
    omega (arith, h, k)

-- where no name has a rank, none has a higher one
pub blank_ranks : (next : Sym → List Sym) (t : Cells) → IsBlank t → AreRanks next t
blank_ranks next t blank a b call =
    let none : (x : Sym) → rank_of t x ≡ 0 = λ x. ap (λ o. unwrap_or o 0) (blank x) in
    let p = none a in
    let q = none b in
    omega (arith, p, q)

pub ranks_none : (next : Sym → List Sym) (t : Cells) → AreRanksIn next t []
ranks_none next t a b stands call = absurd stands.1

-- the items so far with one more
pub ranks_more : (next : Sym → List Sym) (t : Cells) (m : List Item) (place : ℕ) (i : Item) → slice_get m place ≡ Some i → place < length m → AreRanksIn next t (take place m)
    → ((k : Class) → slice_get m place ≡ Some (item.Class k) → Falls next t (take place m) k.name) → AreRanksIn next t (take (place + 1) m)
ranks_more next t m place i at within known here a b (k, among, named) call =
    elim (IsAmong-append (take place m) (i ∷ []) (item.Class k) (subst (λ z. IsAmong z (item.Class k)) (take_more m place i within ∙ ap (λ z. take place m ++ z ∷ []) is) among)) [
      | inl p ↦ known a b (k, p, named) call
      | inr q ↦ elim q [ inl e ↦ by (here k (at ∙ ap Some (sym e))) | inr f ↦ absurd f ]
    ]
  where
    is : get_or m place i ≡ i
    is = same_Some (get_or m place i) i (sym (slice_get-get_or m place i within) ∙ at)

    by : Falls next t (take place m) k.name → rank_of t b ≤ rank_of t a
    by (inl stands) = known a b (subst (StandsIn (take place m)) named stands) call
    by (inr each) =
        let h = Each-at (λ x. rank_of t x ≤ rank_of t k.name) (next k.name) b each (subst (λ z. IsAmong (next z) b) (sym named) call) in
        let e : rank_of t k.name ≡ rank_of t a = ap (rank_of t) named in
        omega (arith, h, e)

pub ranks_all : (m : List Item) (t : Cells) (place : ℕ) → length m ≤ place → AreRanksIn (mentioned m) t (take place m) → AreRanks (mentioned m) t
ranks_all m t place all known a b call = known a b (subst (λ z. StandsIn z a) (sym (take_all place m all)) (stands_by m a b call)) call
