-- Each name of a list once, by first place.
use Rattle.std.specs.Prelude.{◌≡◌, ℕ, zero, suc, ◌+◌, ◌<◌, List, [], ◌∷◌, ◌++◌, length, take, Option, Some, None, ◌==◌, if◌then◌else◌, not, ◌⊎◌, ◌↔◌, get_or}
use Rattle.std.specs.List.{filter}
use Rattle.std.proofs.Common.{inl, inr, refl, ap, sym, ◌∙◌, subst, arith, append_assoc}
use Rattle.std.proofs.lemmas.Option.{none-some}
use Rattle.std.proofs.lemmas.List.Elements.{filter-append}
use Rattle.std.proofs.lemmas.List.{append-nil}
use Rattle.gr_base.specs.Lists.{IsAmong, gathered}
use Rattle.gr_base.proofs.ListLemmas.{IsAmong-append_left, IsAmong-append_right, IsAmong-append, IsAmong-one_more}
use Rattle.gr_terms.specs.declared.Sym.{Sym}
use Rattle.gr_terms.proofs.ViewLemmas.{same_sym}
use Rattle.mg_syntax.specs.declared.item.Item.{Item}
use Rattle.mg_scope.specs.Classes.{firsts, valuation}
use Rattle.mg_scope.specs.Tables.{Cells, value_at, IsBlank, Puts}
use Rattle.mg_scope.specs.Orders.{IsSet, AreFirsts}
use Rattle.mg_scope.proofs.TableLemmas.{Compared, same_name, other_name, compared, same_number, other_number, puts_here, puts_there}
use Rattle.mg_scope.proofs.GatherLemmas.{gathered-more}

pub among_or_not : (xs : List Sym) (x : Sym) → IsAmong xs x ⊎ (IsAmong xs x → ⊥)
among_or_not [] x = inr (λ i. i)
among_or_not (y ∷ ys) x = by (compared x y) (among_or_not ys x)
  where
    by : Compared x y → IsAmong ys x ⊎ (IsAmong ys x → ⊥) → IsAmong (y ∷ ys) x ⊎ (IsAmong (y ∷ ys) x → ⊥)
    by (same_name e) more = inl (inl e)
    by (other_name o) (inl i) = inl (inr i)
    by (other_name o) (inr n) = inr (λ i. elim i [ inl e ↦ o e | inr j ↦ n j ])

-- the test for another name, at the name and at others
drops : (y x : Sym) → x ≡ y → filter (λ (z : Sym). not (z.0 == y.0)) (x ∷ []) ≡ []
drops y x e = ap (λ b. if not b then x ∷ [] else []) (same_number x.0 y.0 (ap (λ (s : Sym). s.0) e))

keeps : (y x : Sym) → (x ≡ y → ⊥) → filter (λ (z : Sym). not (z.0 == y.0)) (x ∷ []) ≡ x ∷ []
keeps y x o = ap (λ b. if not b then x ∷ [] else []) (other_number x.0 y.0 (λ e. o (same_sym x y e)))

pub firsts_new : (xs : List Sym) (x : Sym) → (IsAmong xs x → ⊥) → firsts (xs ++ x ∷ []) ≡ firsts xs ++ x ∷ []
firsts_new [] x new = refl
firsts_new (y ∷ ys) x new =
    ap (λ z. y ∷ filter (λ (z : Sym). not (z.0 == y.0)) z) (firsts_new ys x (λ i. new (inr i)))
    ∙ ap (λ z. y ∷ z) (filter-append (λ (z : Sym). not (z.0 == y.0)) (firsts ys) (x ∷ [])
    ∙ ap (λ z. filter (λ (z : Sym). not (z.0 == y.0)) (firsts ys) ++ z) (keeps y x (λ e. new (inl e))))

pub firsts_known : (xs : List Sym) (x : Sym) → IsAmong xs x → firsts (xs ++ x ∷ []) ≡ firsts xs
firsts_known [] x i = absurd i
firsts_known (y ∷ ys) x i = by (among_or_not ys x) i (firsts_known ys x)
  where
    by : IsAmong ys x ⊎ (IsAmong ys x → ⊥) → IsAmong (y ∷ ys) x → (IsAmong ys x → firsts (ys ++ x ∷ []) ≡ firsts ys) → firsts (y ∷ ys ++ x ∷ []) ≡ firsts (y ∷ ys)
    by (inl j) i more = ap (λ z. y ∷ filter (λ (z : Sym). not (z.0 == y.0)) z) (more j)
    by (inr n) (inl e) more =
        ap (λ z. y ∷ filter (λ (z : Sym). not (z.0 == y.0)) z) (firsts_new ys x n)
        ∙ ap (λ z. y ∷ z) (filter-append (λ (z : Sym). not (z.0 == y.0)) (firsts ys) (x ∷ [])
        ∙ ap (λ z. filter (λ (z : Sym). not (z.0 == y.0)) (firsts ys) ++ z) (drops y x e) ∙ append-nil (filter (λ (z : Sym). not (z.0 == y.0)) (firsts ys)))
    by (inr n) (inr j) more = absurd (n j)

-- one more name
pub first_again : (met : Cells) (names seen : List Sym) (x : Sym) (n : ℕ) → value_at met x ≡ Some n → AreFirsts met names seen → AreFirsts met names (seen ++ x ∷ [])
first_again met names seen x n at (set, is) = (
  (λ y. (
    (λ h. IsAmong-append_left seen (x ∷ []) y ((set y).0 h)),
    (λ i. elim (IsAmong-one_more seen x y i) [ inl j ↦ (set y).1 j | inr e ↦ (n, ap (value_at met) e ∙ at) ]),
  )),
  is ∙ sym (firsts_known seen x ((set x).0 (n, at))),
)

pub first_new : (old new : Cells) (names more seen : List Sym) (x : Sym) (v : ℕ) → value_at old x ≡ None → Puts old new x v → more ≡ names ++ x ∷ [] → AreFirsts old names seen
    → AreFirsts new more (seen ++ x ∷ [])
first_new old new names more seen x v none put is (set, was) = (
  (λ y. (
    (λ h. forth y h (compared y x)),
    (λ i. back y i (compared y x)),
  )),
  is ∙ ap (λ z. z ++ x ∷ []) was ∙ sym (firsts_new seen x (λ i. (let s = (set x).1 i in none-some s.0 (sym none ∙ s.1)))),
)
  where
    forth : (y : Sym) → IsSet new y → Compared y x → IsAmong (seen ++ x ∷ []) y
    forth y h (same_name e) = IsAmong-append_right seen (x ∷ []) y (inl e)
    forth y h (other_name o) = IsAmong-append_left seen (x ∷ []) y ((set y).0 (h.0, sym (puts_there old new x v y put o) ∙ h.1))

    back : (y : Sym) → IsAmong (seen ++ x ∷ []) y → Compared y x → IsSet new y
    back y i (same_name e) = (v, ap (value_at new) e ∙ puts_here old new x v put)
    back y i (other_name o) =
        elim (IsAmong-one_more seen x y i) [
          | inl j ↦ (let s = (set y).1 j in (s.0, puts_there old new x v y put o ∙ s.1))
          | inr e ↦ absurd (o e)
        ]

pub firsts_none : (met : Cells) (names : List Sym) → IsBlank met → names ≡ [] → AreFirsts met names []
firsts_none met names blank is = ((λ x. ((λ h. none-some h.0 (sym (blank x) ∙ h.1)), (λ i. absurd i))), is)

-- nothing more is valued
pub firsts_same : (met : Cells) (names seen more : List Sym) → more ≡ [] → AreFirsts met names seen → AreFirsts met names (seen ++ more)
firsts_same met names seen more e known = subst (λ z. AreFirsts met names z) (sym (ap (λ z. seen ++ z) e ∙ append-nil seen)) known

pub firsts_next : (met : Cells) (names : List Sym) (items : List Item) (i : ℕ) (d : Item) → i < length items → AreFirsts met names (gathered valuation (take i items) ++ valuation (get_or items i d))
    → AreFirsts met names (gathered valuation (take (i + 1) items))
firsts_next met names items i d within known =
    let more : suc i ≡ i + 1 = omega arith in
    subst (λ z. AreFirsts met names z) (sym (gathered-more valuation items i d within) ∙ ap (λ k. gathered valuation (take k items)) more) known
