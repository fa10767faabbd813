-- What bindings make of terms, and how one more equation is solved, or clashes.
use Rattle.std.specs.Prelude.{◌≡◌, ℕ, suc, List, [], ◌∷◌, ◌++◌, Bool, true, false, nat_eq, if◌then◌else◌, Option, Some, None, refl}
use Rattle.std.proofs.Common.{inl, inr, map, ap, ap₂, sym, ◌∙◌, subst, get_or, drop, ◌+◌, ◌<◌, ◌≤◌, length, append_assoc, append-nil, add-one, drop-cons}
use Rattle.std.proofs.lemmas.Bool.{eqb-true, eqb-false, eq-eqb, ne_eqb}
use Rattle.std.proofs.lemmas.List.{at_drop_all}
use Rattle.std.proofs.lemmas.Option.{none-some, same_Some}
use Rattle.gr_base.specs.Lists.{IsAmong, IsWithin}
use Rattle.gr_base.proofs.ListLemmas.{IsAmong-append_left, IsAmong-one_more, IsAmong-new_one}
use Rattle.gr_terms.specs.Networks.{Term, name, variable, Assertion, equate, Agrees, AreLinked, equated, same, back, next}
use Rattle.gr_terms.proofs.NetworkLemmas.{Agrees-part}
use Rattle.gr_terms.specs.Views.{term_of}
use Rattle.gr_terms.specs.declared.Sym.{Sym}
use Rattle.gr_terms.specs.declared.Term.{Term as CodeTerm}
use Rattle.td_tree.specs.TreeNetworks.{TreeSlot}
use Rattle.tg_model.specs.Instances.{equations}
use Rattle.sm_match.specs.declared.bindings.Bound.{Bound}
use Rattle.sm_match.specs.Bindings.{TreeNetwork, name_of, name_or, value_by, Solves, GoesOn, Equates}

-- ---- the search for a name

pub name_of-here : (bs : List Bound) (i : ℕ) (d : Bound) (v : ℕ) → i < length bs → (get_or bs i d).var ≡ v → name_of (drop i bs) v ≡ Some (get_or bs i d).name
name_of-here bs i d v within e =
    ap (λ xs. name_of xs v) (drop-cons bs i d within) ∙ ap (λ t. if t then Some (get_or bs i d).name else name_of (drop (suc i) bs) v) (eq-eqb (get_or bs i d).var v e)

pub name_of-later : (bs : List Bound) (i : ℕ) (d : Bound) (v : ℕ) → i < length bs → ((get_or bs i d).var ≡ v → ⊥) → name_of (drop (i + 1) bs) v ≡ name_of (drop i bs) v
name_of-later bs i d v within other =
    ap (λ k. name_of (drop k bs) v) (add-one i)
    ∙ sym (ap (λ xs. name_of xs v) (drop-cons bs i d within) ∙ ap (λ t. if t then Some (get_or bs i d).name else name_of (drop (suc i) bs) v) (ne_eqb (get_or bs i d).var v other))

-- ---- one more binding

name_of-keep : (bs more : List Bound) (v : ℕ) (s : Sym) → name_of bs v ≡ Some s → name_of (bs ++ more) v ≡ Some s
name_of-keep [] more v s h = absurd (none-some s h)
name_of-keep (b ∷ bs) more v s h = by (nat_eq b.var v) refl (name_of-keep bs more v s)
  where
    by : (t : Bool) → nat_eq b.var v ≡ t → (name_of bs v ≡ Some s → name_of (bs ++ more) v ≡ Some s) → name_of (b ∷ (bs ++ more)) v ≡ Some s
    by true e later = ap (λ t. if t then Some b.name else name_of (bs ++ more) v) e ∙ sym (ap (λ t. if t then Some b.name else name_of bs v) e) ∙ h
    by false e later = ap (λ t. if t then Some b.name else name_of (bs ++ more) v) e ∙ later (sym (ap (λ t. if t then Some b.name else name_of bs v) e) ∙ h)

name_of-behind : (bs : List Bound) (c : Bound) (v : ℕ) → name_of bs v ≡ None → name_of (bs ++ c ∷ []) v ≡ name_of (c ∷ []) v
name_of-behind [] c v h = refl
name_of-behind (b ∷ bs) c v h = by (nat_eq b.var v) refl (name_of-behind bs c v)
  where
    by : (t : Bool) → nat_eq b.var v ≡ t → (name_of bs v ≡ None → name_of (bs ++ c ∷ []) v ≡ name_of (c ∷ []) v) → name_of (b ∷ (bs ++ c ∷ [])) v ≡ name_of (c ∷ []) v
    by true e later = absurd (none-some b.name (sym h ∙ ap (λ t. if t then Some b.name else name_of bs v) e))
    by false e later = ap (λ t. if t then Some b.name else name_of (bs ++ c ∷ []) v) e ∙ later (sym (ap (λ t. if t then Some b.name else name_of bs v) e) ∙ h)

value_by-push : (bs : List Bound) (c : Bound) (x : Term ℕ) → value_by (bs ++ c ∷ []) x ≡ value_by (c ∷ []) (value_by bs x)
value_by-push bs c (name a) = refl
value_by-push bs c (variable v) = by (name_of bs v) refl
  where
    by : (o : Option Sym) → name_of bs v ≡ o → name_or v (name_of (bs ++ c ∷ []) v) ≡ value_by (c ∷ []) (name_or v (name_of bs v))
    by None e = ap (name_or v) (name_of-behind bs c v e) ∙ sym (ap (λ o. value_by (c ∷ []) (name_or v o)) e)
    by (Some s) e = ap (name_or v) (name_of-keep bs (c ∷ []) v s e) ∙ sym (ap (λ o. value_by (c ∷ []) (name_or v o)) e)

-- ---- one more equation

-- a term is linked with what the bindings make of it
linked_value : (bs : List Bound) (N M : TreeNetwork) → Solves bs N → IsWithin N M → (x : Term ℕ) → AreLinked M x (value_by bs x)
linked_value bs N M s within (name a) = same (name a)
linked_value bs N M s within (variable v) = by (name_of bs v) refl
  where
    by : (o : Option Sym) → name_of bs v ≡ o → AreLinked M (variable v) (name_or v (name_of bs v))
    by None e = subst (λ o. AreLinked M (variable v) (name_or v o)) (sym e) (same (variable v))
    by (Some p) e = subst (λ o. AreLinked M (variable v) (name_or v o)) (sym e) (equated (variable v) (name p.0) (within (equate (variable v) (name p.0)) (s.needed v p e)))

solve_known : (bs : List Bound) (N : TreeNetwork) (x : Term ℕ) (a : ℕ) → value_by bs x ≡ name a → Solves bs N → Solves bs (N ++ equate x (name a) ∷ [])
solve_known bs N x a known s = record {
  equations = λ e i. elim (IsAmong-one_more N (equate x (name a)) e i) [ inl j ↦ s.equations e j | inr p ↦ (x, name a, p) ];
  holds = λ u w i. elim (IsAmong-one_more N (equate x (name a)) (equate u w) i) [
    | inl j ↦ s.holds u w j
    | inr p ↦ let left : u ≡ x = cc in let right : w ≡ name a = cc in ap (value_by bs) left ∙ known ∙ sym (ap (value_by bs) right)
  ];
  needed = λ v p h. IsAmong-append_left N (equate x (name a) ∷ []) (equate (variable v) (name p.0)) (s.needed v p h);
}

-- the binding of a variable alone
bound_alone : (v : ℕ) (a : Sym) → name_of (record { var = v; name = a } ∷ []) v ≡ Some a
bound_alone v a = ap (λ t. if t then Some a else None) (eq-eqb v v refl)

alone_bound : (v : ℕ) (a : Sym) (w : ℕ) (s : Sym) → name_of (record { var = v; name = a } ∷ []) w ≡ Some s → (v ≡ w) × (a ≡ s)
alone_bound v a w s h = by (nat_eq v w) refl
  where
    by : (t : Bool) → nat_eq v w ≡ t → (v ≡ w) × (a ≡ s)
    by true e = (eqb-true v w e, same_Some a s (sym (ap (λ t. if t then Some a else None) e) ∙ h))
    by false e = absurd (none-some s (sym (ap (λ t. if t then Some a else None) e) ∙ h))

solve_new : (bs : List Bound) (N : TreeNetwork) (v : ℕ) (a : Sym) → name_of bs v ≡ None → Solves bs N → Solves (bs ++ record { var = v; name = a } ∷ []) (N ++ equate (variable v) (name a.0) ∷ [])
solve_new bs N v a free s =
    let c : Bound = record { var = v; name = a } in
    let new : Assertion ℕ TreeSlot = equate (variable v) (name a.0) in
    let bound : value_by (bs ++ c ∷ []) (variable v) ≡ name a.0 = ap (name_or v) (name_of-behind bs c v free ∙ bound_alone v a) in
    record {
      equations = λ e i. elim (IsAmong-one_more N new e i) [ inl j ↦ s.equations e j | inr p ↦ (variable v, name a.0, p) ];
      holds = λ u w i. elim (IsAmong-one_more N new (equate u w) i) [
        | inl j ↦ value_by-push bs c u ∙ ap (value_by (c ∷ [])) (s.holds u w j) ∙ sym (value_by-push bs c w)
        | inr p ↦ let left : u ≡ variable v = cc in let right : w ≡ name a.0 = cc in ap (value_by (bs ++ c ∷ [])) left ∙ bound ∙ sym (ap (value_by (bs ++ c ∷ [])) right)
      ];
      needed = λ w p h. by w p h (name_of bs w) refl;
    }
  where
    by : (w : ℕ) (p : Sym) → name_of (bs ++ record { var = v; name = a } ∷ []) w ≡ Some p → (o : Option Sym) → name_of bs w ≡ o →
        IsAmong (N ++ equate (variable v) (name a.0) ∷ []) (equate (variable w) (name p.0))
    by w p h (Some q) e =
        let same_name : q ≡ p = same_Some q p (sym (name_of-keep bs (record { var = v; name = a } ∷ []) w q e) ∙ h) in
        IsAmong-append_left N (equate (variable v) (name a.0) ∷ []) (equate (variable w) (name p.0)) (s.needed w p (e ∙ ap Some same_name))
    by w p h None e =
        let r = alone_bound v a w p (sym (name_of-behind bs (record { var = v; name = a }) w e) ∙ h) in
        let left : v ≡ w = r.0 in
        let right : a ≡ p = r.1 in
        subst (λ z. IsAmong (N ++ equate (variable v) (name a.0) ∷ []) z) (λ i. equate (variable (left i)) (name (right i).0)) (IsAmong-new_one N (equate (variable v) (name a.0)))

clash_new : (bs : List Bound) (N : TreeNetwork) (x : Term ℕ) (p a : ℕ) → value_by bs x ≡ name p → (p ≡ a → ⊥) → Solves bs N → Agrees (N ++ equate x (name a) ∷ []) → ⊥
clash_new bs N x p a known differ s agrees =
    let M : TreeNetwork = N ++ equate x (name a) ∷ [] in
    let left : AreLinked M x (name p) = subst (λ y. AreLinked M x y) known (linked_value bs N M s (λ e i. IsAmong-append_left N (equate x (name a) ∷ []) e i) x) in
    differ (agrees p a (next (name p) x (name a) (back x (name p) left) (equated x (name a) (IsAmong-new_one N (equate x (name a))))))

-- ---- what a call does

pub GoesOn-same : (bs : List Bound) → GoesOn bs bs
GoesOn-same bs = ([], sym (append-nil bs))

pub GoesOn-then : (a b c : List Bound) → GoesOn a b → GoesOn b c → GoesOn a c
GoesOn-then a b c (more, e) (others, f) = (more ++ others, f ∙ ap (λ xs. xs ++ others) e ∙ append_assoc a more others)

-- nothing is equated
pub equates_nothing : (bs : List Bound) → Equates [] bs bs true
equates_nothing bs = (GoesOn-same bs, λ N s. subst (λ M. Solves bs M) (sym (append-nil N)) s)

-- a term that the bindings make a name, with a name
pub equates_known : (bs : List Bound) (x : Term ℕ) (p a : ℕ) → value_by bs x ≡ name p → p ≡ a → Equates (equate x (name a) ∷ []) bs bs true
equates_known bs x p a known e = (GoesOn-same bs, λ N s. solve_known bs N x a (known ∙ ap name e) s)

pub equates_clash : (bs : List Bound) (x : Term ℕ) (p a : ℕ) → value_by bs x ≡ name p → (p ≡ a → ⊥) → Equates (equate x (name a) ∷ []) bs bs false
equates_clash bs x p a known differ = (GoesOn-same bs, λ N s. clash_new bs N x p a known differ s)

-- so by a test of the two names
pub equates_name : (bs : List Bound) (x : Term ℕ) (p a : ℕ) (r : Bool) → value_by bs x ≡ name p → r ≡ nat_eq p a → Equates (equate x (name a) ∷ []) bs bs r
equates_name bs x p a true known e = equates_known bs x p a known (eqb-true p a (sym e))
equates_name bs x p a false known e = equates_clash bs x p a known (eqb-false p a (sym e))

-- a variable that is bound, with a name
pub equates_bound : (bs : List Bound) (v : ℕ) (p a : Sym) (r : Bool) → name_of bs v ≡ Some p → r ≡ nat_eq p.0 a.0 → Equates (equate (variable v) (name a.0) ∷ []) bs bs r
equates_bound bs v p a r known e = equates_name bs (variable v) p.0 a.0 r (ap (name_or v) known) e

-- a free variable, with a name
pub equates_new : (bs new : List Bound) (v : ℕ) (a : Sym) → name_of bs v ≡ None → new ≡ bs ++ record { var = v; name = a } ∷ [] → Equates (equate (variable v) (name a.0) ∷ []) bs new true
equates_new bs new v a free is = (
  (record { var = v; name = a } ∷ [], is),
  λ N s. subst (λ bs'. Solves bs' (N ++ equate (variable v) (name a.0) ∷ [])) (sym is) (solve_new bs N v a free s),
)

-- more equations behind those that were solved, or behind a clash
pub equates_then : (E F : TreeNetwork) (a b c : List Bound) (r : Bool) → Equates E a b true → Equates F b c r → Equates (E ++ F) a c r
equates_then E F a b c true e f = (GoesOn-then a b c e.0 f.0, λ N s. subst (λ M. Solves c M) (append_assoc N E F) (f.1 (N ++ E) (e.1 N s)))
equates_then E F a b c false e f = (GoesOn-then a b c e.0 f.0, λ N s agrees. f.1 (N ++ E) (e.1 N s) (subst (λ (M : TreeNetwork). Agrees M) (sym (append_assoc N E F)) agrees))

pub equates_stop : (E F : TreeNetwork) (a b : List Bound) → Equates E a b false → Equates (E ++ F) a b false
equates_stop E F a b e = (
  e.0,
  λ N s agrees. e.1 N s (Agrees-part (N ++ E) (N ++ (E ++ F)) (λ x i. subst (λ M. IsAmong M x) (append_assoc N E F) (IsAmong-append_left (N ++ E) F x i)) agrees),
)

-- ---- terms with terms

equations-drop : (xs ys : List CodeTerm) (i : ℕ) (d : CodeTerm) → i < length xs → i < length ys →
    equations {S = TreeSlot} (map term_of (drop i xs)) (map term_of (drop i ys))
    ≡ equate (term_of (get_or xs i d)) (term_of (get_or ys i d)) ∷ equations (map term_of (drop (i + 1) xs)) (map term_of (drop (i + 1) ys))
equations-drop xs ys i d x_in y_in =
    ap₂ (λ us ws. equations (map term_of us) (map term_of ws)) (drop-cons xs i d x_in) (drop-cons ys i d y_in)
    ∙ ap (λ k. equate (term_of (get_or xs i d)) (term_of (get_or ys i d)) ∷ equations (map term_of (drop k xs)) (map term_of (drop k ys))) (sym (add-one i))

module _ (xs ys : List CodeTerm) (i : ℕ) (d : CodeTerm) (x_in : i < length xs) (y_in : i < length ys) (bs mid : List Bound) where
  pub terms_clash : (r : Bool) → r ≡ false → Equates (equate (term_of (get_or xs i d)) (term_of (get_or ys i d)) ∷ []) bs mid r →
      Equates (equations (map term_of (drop i xs)) (map term_of (drop i ys))) bs mid false
  terms_clash r e h =
      subst (λ E. Equates E bs mid false) (sym (equations-drop xs ys i d x_in y_in))
      (equates_stop (equate (term_of (get_or xs i d)) (term_of (get_or ys i d)) ∷ []) (equations (map term_of (drop (i + 1) xs)) (map term_of (drop (i + 1) ys))) bs mid
      (subst (λ t. Equates (equate (term_of (get_or xs i d)) (term_of (get_or ys i d)) ∷ []) bs mid t) e h))

  pub terms_more : (r : Bool) → r ≡ true → Equates (equate (term_of (get_or xs i d)) (term_of (get_or ys i d)) ∷ []) bs mid r →
      (t : Bool) (new : List Bound) → Equates (equations (map term_of (drop (i + 1) xs)) (map term_of (drop (i + 1) ys))) mid new t →
      Equates (equations (map term_of (drop i xs)) (map term_of (drop i ys))) bs new t
  terms_more r e h t new rest =
      subst (λ E. Equates E bs new t) (sym (equations-drop xs ys i d x_in y_in))
      (equates_then (equate (term_of (get_or xs i d)) (term_of (get_or ys i d)) ∷ []) (equations (map term_of (drop (i + 1) xs)) (map term_of (drop (i + 1) ys))) bs mid new t
      (subst (λ t. Equates (equate (term_of (get_or xs i d)) (term_of (get_or ys i d)) ∷ []) bs mid t) e h) rest)

pub terms_end : (xs ys : List CodeTerm) (i : ℕ) (bs : List Bound) → length xs ≤ i → Equates (equations (map term_of (drop i xs)) (map term_of (drop i ys))) bs bs true
terms_end xs ys i bs far =
    subst (λ E. Equates E bs bs true) (sym (at_drop_all (λ (zs : List CodeTerm). equations {S = TreeSlot} (map term_of zs) (map term_of (drop i ys))) xs i far)) (equates_nothing bs)
