-- All walks of given tasks as one list.
use Rattle.std.specs.Prelude.{◌≡◌, ℕ, zero, suc, ◌+◌, ◌<◌, List, [], ◌∷◌, ◌++◌, map, Some, refl, slice_get}
use Rattle.std.proofs.Common.{inl, inr, ap, sym, ◌∙◌, subst, arith}
use Rattle.std.proofs.lemmas.Option.{none-some, same_Some}
use Rattle.gr_base.specs.Lists.{IsAmong, gathered}
use Rattle.gr_base.proofs.ListLemmas.{IsAmong-append, IsAmong-append_left, IsAmong-append_right, IsAmong-map, IsAmong-map_from, IsAmong-gathered, IsAmong-gathered_from}
use Rattle.gr_terms.specs.declared.Sym.{Sym}
use Rattle.mg_syntax.specs.declared.body.Statement.{Statement}
use Rattle.mg_syntax.specs.declared.item.Class.{Class}
use Rattle.mg_syntax.specs.declared.item.Item.{Item}
use Rattle.mg_scope.specs.Classes.{class_of}
use Rattle.mg_deeds.specs.Deeds.{Deed}
use Rattle.mg_expand.specs.Walks.{How, Walk, end, choose, perform, enter, Task, a_call, a_choice, a_deed, task_of, tasks_of, Does, done, takes, performs, enters, choices, IsEarlier}
use Rattle.mg_expand.proofs.RouteLemmas.{AreRouted, AreRoutedChoices, routed-last, routed-first, routed-nothing}
use Rattle.mg_expand.proofs.OrderLemmas.{IsLeftOf-append, IsLeftOf-behind, InOrder, InOrder-append, InOrder-map, InOrder-gathered}

plus_nothing : (n : ℕ) → n ≡ n + 0
plus_nothing n = omega arith

nothing_plus : (n : ℕ) → 0 + n ≡ n
nothing_plus n = omega arith

plus_more : (n i : ℕ) → suc n + i ≡ n + suc i
plus_more n i = omega arith

-- all walks of the tasks, in order
pub record AreWalks (m : List Item) (ts : List Task) (ws : List Walk) : Type 0 where
  pub only : (w : Walk) → IsAmong ws w → Does m ts w
  pub all : (w : Walk) → Does m ts w → IsAmong ws w
  pub order : InOrder IsEarlier ws

module _ (m : List Item) where
  pub no_task : AreWalks m [] (end ∷ [])
  no_task = record { only = only; all = all; order = (tt, tt) }
    where
      only : (w : Walk) → IsAmong (end ∷ []) w → Does m [] w
      only w (inl e) = subst (λ v. Does m [] v) (sym e) done
      only w (inr i) = absurd i

      all : (w : Walk) → Does m [] w → IsAmong (end ∷ []) w
      all _ done = inl refl

  pub one_deed : (d : Deed) (rest : List Task) (ws : List Walk) → AreWalks m rest ws → AreWalks m (a_deed d ∷ rest) (map (perform d) ws)
  one_deed d rest ws h = record { only = only; all = all; order = InOrder-map IsEarlier IsEarlier (perform d) (λ x y l. l) ws h.order }
    where
      only : (w : Walk) → IsAmong (map (perform d) ws) w → Does m (a_deed d ∷ rest) w
      only w i = let r = IsAmong-map_from (perform d) ws w i in subst (λ v. Does m (a_deed d ∷ rest) v) (sym r.2) (performs d (h.only r.0 r.1))

      all : (w : Walk) → Does m (a_deed d ∷ rest) w → IsAmong (map (perform d) ws) w
      all _ (performs {w = w} _ a) = IsAmong-map (perform d) ws w (h.all w a)

  abbrev calls_then : How → Sym → List Walk → Walk → List Walk
  calls_then how c afters inside = map (enter how c inside) afters

  pub one_call : (how : How) (c : Sym) (k : Class) (rest : List Task) (insides afters : List Walk) → class_of m c ≡ Some k
      → AreWalks m (tasks_of k) insides → AreWalks m rest afters → AreWalks m (a_call how c ∷ rest) (gathered (calls_then how c afters) insides)
  one_call how c k rest insides afters at h g = record { only = only; all = all; order = InOrder-gathered IsEarlier IsEarlier (calls_then how c afters) each cross insides h.order }
    where
      only : (w : Walk) → IsAmong (gathered (calls_then how c afters) insides) w → Does m (a_call how c ∷ rest) w
      only w i =
          let r = IsAmong-gathered_from (calls_then how c afters) insides w i in
          let s = IsAmong-map_from (enter how c r.0) afters w r.2 in
          subst (λ v. Does m (a_call how c ∷ rest) v) (sym s.2) (enters how c k at (h.only r.0 r.1) (g.only s.0 s.1))

      all : (w : Walk) → Does m (a_call how c ∷ rest) w → IsAmong (gathered (calls_then how c afters) insides) w
      all _ (enters {inside = x} {after = y} _ _ k2 at2 a b) =
          IsAmong-gathered (calls_then how c afters) insides x (enter how c x y)
          (h.all x (subst (λ z. Does m (tasks_of z) x) (class_same k2 k (sym at2 ∙ at)) a)) (IsAmong-map (enter how c x) afters y (g.all y b))
        where
          class_same : (j k : Class) → Some j ≡ Some k → j ≡ k
          class_same j k e = cc

      each : (x : Walk) → InOrder IsEarlier (calls_then how c afters x)
      each x = InOrder-map IsEarlier IsEarlier (enter how c x) (λ a b l. IsLeftOf-behind (choices x) (choices a) (choices b) l) afters g.order

      cross : (x y a b : Walk) → IsEarlier x y → IsAmong (calls_then how c afters x) a → IsAmong (calls_then how c afters y) b → IsEarlier a b
      cross x y a b l i j =
          let r = IsAmong-map_from (enter how c x) afters a i in
          let s = IsAmong-map_from (enter how c y) afters b j in
          subst (λ z. IsEarlier z b) (sym r.2) (subst (λ z. IsEarlier (enter how c x r.0) z) (sym s.2)
          (IsLeftOf-append (choices x) (choices y) (choices r.0) (choices s.0) l))

  -- all walks that take one of the alternatives, which are counted from n
  pub record AreTaken (rest : List Task) (n : ℕ) (b : List (List Statement)) (ws : List Walk) : Type 0 where
    pub only : (v : Walk) → IsAmong ws v → (i : ℕ) × (s : List Statement) × (w : Walk) × (v ≡ choose (n + i) w) × (slice_get b i ≡ Some s) × Does m (map task_of s ++ rest) w
    pub all : (i : ℕ) (s : List Statement) (w : Walk) → slice_get b i ≡ Some s → Does m (map task_of s ++ rest) w → IsAmong ws (choose (n + i) w)
    pub order : InOrder IsEarlier ws

  -- the walks of one alternative, and where they lead
  abbrev HasWalks : List Task → Type 0
  HasWalks ts = (ws : List Walk) × AreWalks m ts ws × AreRouted m ts ws

  taken_none : (rest : List Task) (n : ℕ) → AreTaken rest n [] []
  taken_none rest n = record { only = λ v i. absurd i; all = λ i s w e. absurd (none-some s e); order = tt }

  taken_one : (rest : List Task) (n : ℕ) (s : List Statement) (b : List (List Statement)) (ws vs : List Walk)
      → AreWalks m (map task_of s ++ rest) ws → AreTaken rest (suc n) b vs → AreTaken rest n (s ∷ b) (map (choose n) ws ++ vs)
  taken_one rest n s b ws vs h g = record {
    only = only;
    all = all;
    order = InOrder-append IsEarlier (map (choose n) ws) vs (InOrder-map IsEarlier IsEarlier (choose n) (λ x y l. inr (refl, l)) ws h.order) g.order cross;
  }
    where
      only : (v : Walk) → IsAmong (map (choose n) ws ++ vs) v → (i : ℕ) × (a : List Statement) × (w : Walk) × (v ≡ choose (n + i) w) × (slice_get (s ∷ b) i ≡ Some a) × Does m (map task_of a ++ rest) w
      only v i = elim (IsAmong-append (map (choose n) ws) vs v i) [
        | inl j ↦ let r = IsAmong-map_from (choose n) ws v j in (0, s, r.0, r.2 ∙ ap (λ z. choose z r.0) (plus_nothing n), refl, h.only r.0 r.1)
        | inr j ↦ let r = g.only v j in (suc r.0, r.1, r.2, r.3 ∙ ap (λ z. choose z r.2) (plus_more n r.0), r.4, r.5)
      ]

      all : (i : ℕ) (a : List Statement) (w : Walk) → slice_get (s ∷ b) i ≡ Some a → Does m (map task_of a ++ rest) w → IsAmong (map (choose n) ws ++ vs) (choose (n + i) w)
      all zero a w e d =
          subst (λ k. IsAmong (map (choose n) ws ++ vs) (choose k w)) (plus_nothing n)
          (IsAmong-append_left (map (choose n) ws) vs (choose n w)
          (IsAmong-map (choose n) ws w (h.all w (subst (λ z. Does m (map task_of z ++ rest) w) (same_Some a s (sym e)) d))))
      all (suc i) a w e d =
          subst (λ k. IsAmong (map (choose n) ws ++ vs) (choose k w)) (plus_more n i)
          (IsAmong-append_right (map (choose n) ws) vs (choose (suc n + i) w) (g.all i a w e d))

      cross : (x y : Walk) → IsAmong (map (choose n) ws) x → IsAmong vs y → IsEarlier x y
      cross x y i j =
          let r = IsAmong-map_from (choose n) ws x i in
          let t = g.only y j in
          subst (λ z. IsEarlier z y) (sym r.2) (subst (λ z. IsEarlier (choose n r.0) z) (sym t.3) (inl (below n t.0)))
        where
          below : (n i : ℕ) → n < suc n + i
          below n i = omega arith

  -- the alternatives one after another, where each has its walks
  taken : (rest : List Task) (n : ℕ) (s : List Statement) (b : List (List Statement))
      → ((i : ℕ) (a : List Statement) → slice_get (s ∷ b) i ≡ Some a → HasWalks (map task_of a ++ rest))
      → (ws : List Walk) × AreTaken rest n (s ∷ b) ws × AreRoutedChoices m (s ∷ b) rest ws
  taken rest n s [] f =
      let h = f 0 s refl in
      (map (choose n) h.0 ++ [], taken_one rest n s [] h.0 [] h.1 (taken_none rest (suc n)), routed-last m n s rest h.0 h.2)
  taken rest n s (t ∷ b) f =
      let h = f 0 s refl in
      let g = taken rest (suc n) t b (λ i a e. f (suc i) a e) in
      (map (choose n) h.0 ++ g.0, taken_one rest n s (t ∷ b) h.0 g.0 h.1 g.1, routed-first m n s t b rest h.0 g.0 h.2 g.2)

  -- an empty body has one alternative
  taken_empty : (rest : List Task) (ws : List Walk) → AreWalks m rest ws → AreWalks m (a_choice [] ∷ rest) (map (choose 0) ws)
  taken_empty rest ws h = record { only = only; all = all; order = InOrder-map IsEarlier IsEarlier (choose 0) (λ x y l. inr (refl, l)) ws h.order }
    where
      only : (w : Walk) → IsAmong (map (choose 0) ws) w → Does m (a_choice [] ∷ rest) w
      only w i = let r = IsAmong-map_from (choose 0) ws w i in subst (λ v. Does m (a_choice [] ∷ rest) v) (sym r.2) (takes [] 0 [] (refl, refl) (h.only r.0 r.1))

      all : (w : Walk) → Does m (a_choice [] ∷ rest) w → IsAmong (map (choose 0) ws) w
      all _ (takes {w = w} _ i s e a) =
          subst (λ k. IsAmong (map (choose 0) ws) (choose k w)) (sym e.0)
          (IsAmong-map (choose 0) ws w (h.all w (subst (λ z. Does m (map task_of z ++ rest) w) e.1 a)))

  taken_some : (rest : List Task) (s : List Statement) (b : List (List Statement)) (ws : List Walk)
      → AreTaken rest 0 (s ∷ b) ws → AreWalks m (a_choice (s ∷ b) ∷ rest) ws
  taken_some rest s b ws h = record { only = only; all = all; order = h.order }
    where
      only : (w : Walk) → IsAmong ws w → Does m (a_choice (s ∷ b) ∷ rest) w
      only w i =
          let r = h.only w i in
          subst (λ v. Does m (a_choice (s ∷ b) ∷ rest) v) (sym (r.3 ∙ ap (λ z. choose z r.2) (nothing_plus r.0))) (takes (s ∷ b) r.0 r.1 r.4 r.5)

      all : (w : Walk) → Does m (a_choice (s ∷ b) ∷ rest) w → IsAmong ws w
      all _ (takes {w = w} _ i a e d) = subst (λ z. IsAmong ws (choose z w)) (nothing_plus i) (h.all i a w e d)

  pub one_choice : (rest : List Task) (b : List (List Statement)) → (b ≡ [] → HasWalks rest)
      → ((i : ℕ) (s : List Statement) → slice_get b i ≡ Some s → HasWalks (map task_of s ++ rest))
      → HasWalks (a_choice b ∷ rest)
  one_choice rest [] f g = let h = f refl in (map (choose 0) h.0, taken_empty rest h.0 h.1, routed-nothing m rest h.0 h.2)
  one_choice rest (s ∷ b) f g = let h = taken rest 0 s b g in (h.0, taken_some rest s b h.0 h.1, h.2)
