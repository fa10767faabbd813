-- Laws of compiled lists, steps and faults.
use Rattle.std.specs.Prelude.{◌≡◌, ℕ, ◌+◌, ◌<◌, ◌≤◌, List, [], ◌∷◌, length, sum, Bool, true, false, Some, ◌↔◌, slice_get}
use Rattle.std.specs.List.{AllZip}
use Rattle.std.proofs.Common.{inl, inr, refl, sym, ap, ◌∙◌, subst, arith}
use Rattle.std.proofs.lemmas.Bool.{false≢true}
use Rattle.std.proofs.lemmas.Option.{same_Some}
use Rattle.gr_base.specs.Lists.{InByteOrder, IsWithin}
use Rattle.gr_base.proofs.Numbers.{less_same_more}
use Rattle.gr_terms.specs.declared.Sym.{Sym}
use Rattle.mg_syntax.specs.declared.item.Item.{Item}
use Rattle.mg_expand.specs.Walks.{Walk}
use Rattle.mg_expand.proofs.WalkLemmas.{one_list}
use Rattle.mg_compile.specs.declared.refusal.CompileRefusal.{CompileRefusal}
use Rattle.mg_compile.specs.declared.refusal.CompileRefusal.TheVariants as refusal
use Rattle.mg_compile.specs.Compiled.{IsExpansionTotal, IsCompiledList, IsModelSteps, IsRightList, IsFaultOf, IsClassFault}
use Rattle.mg_compile.proofs.Zipped.{zip_unique}
use Rattle.mg_compile.proofs.Carried.{AreOneDescription, one_count}

pub same_lists : ((xs ys : List (List ℕ)) → InByteOrder xs → InByteOrder ys → IsWithin xs ys → IsWithin ys xs → xs ≡ ys)
    → (text : ℕ → List ℕ) (m : List Item) (c : Sym) (xs ys : List (List ℕ)) → IsCompiledList text m c xs → IsCompiledList text m c ys → xs ≡ ys
same_lists one text m c xs ys h g =
    one xs ys h.order g.order (λ b i. (g.all b).1 ((h.all b).0 i)) (λ b i. (h.all b).1 ((g.all b).0 i))

pub same_steps : AreOneDescription → (m : List Item) (c : Sym) (a b : ℕ) → IsModelSteps m c a → IsModelSteps m c b → a ≡ b
same_steps one m c a b s t =
    let e : s.walks ≡ t.walks = one_list m c s.walks t.walks s.expansions t.expansions in
    let q : s.totals ≡ t.totals = zip_unique (IsExpansionTotal m) (one_count one m) t.walks s.totals t.totals (subst (λ ws. AllZip (IsExpansionTotal m) ws s.totals) e s.counted) t.counted in
    s.sum ∙ (ap (λ (ws : List Walk). length ws + sum s.totals) e ∙ (ap (λ (ts : List ℕ). length t.walks + sum ts) q ∙ sym t.sum))

same_sym : (j k c : Sym) → j ≡ c → k ≡ c → j ≡ k
same_sym j k c h g = h ∙ sym g

fault_of : (m : List Item) (c : Sym) (w : Walk) (e f : CompileRefusal) → IsFaultOf m c w e → IsFaultOf m c w f → e ≡ f
fault_of m c w (refusal.TooLarge j) (refusal.TooLarge k) h g = ap refusal.TooLarge (same_sym j k c h.0 g.0)
fault_of m c w (refusal.TooLarge j) (refusal.TooManyNodes k) h g = absurd (g.1 h.1)
fault_of m c w (refusal.TooLarge j) refusal.Memory h g = absurd g
fault_of m c w (refusal.TooManyNodes j) (refusal.TooLarge k) h g = absurd (h.1 g.1)
fault_of m c w (refusal.TooManyNodes j) (refusal.TooManyNodes k) h g = ap refusal.TooManyNodes (same_sym j k c h.0 g.0)
fault_of m c w (refusal.TooManyNodes j) refusal.Memory h g = absurd g
fault_of m c w refusal.Memory f h g = absurd h

pub same_fault : (m : List Item) (c : Sym) (budget : ℕ) (e f : CompileRefusal) → IsClassFault m c budget e → IsClassFault m c budget f → e ≡ f
same_fault m c budget e f h g =
    let same : h.walks ≡ g.walks = one_list m c h.walks g.walks h.expansions g.expansions in
    elim (less_same_more h.place g.place) [
      | inl l ↦ absurd (g.before h.place h.walk l (subst (λ ws. slice_get ws h.place ≡ Some h.walk) same h.here) e h.fault)
      | inr (inl q) ↦ fault_of m c g.walk e f
          (subst (λ w. IsFaultOf m c w e) (same_Some h.walk g.walk (sym h.here ∙ (ap (λ ws. slice_get ws h.place) same ∙ (ap (slice_get g.walks) q ∙ g.here)))) h.fault) g.fault
      | inr (inr l) ↦ absurd (h.before g.place g.walk l (subst (λ ws. slice_get ws g.place ≡ Some g.walk) (sym same) g.here) f g.fault)
    ]

pub whole_list : (text : ℕ → List ℕ) (m : List Item) (c : Sym) (budget steps : ℕ) (texts : List (List ℕ)) (cut : Bool)
    → IsModelSteps m c steps → steps ≤ budget → 0 < budget → IsRightList text m c budget texts cut → (cut ≡ false) × IsCompiledList text m c texts
whole_list text m c budget steps texts false s few some r = (refl, r.whole)
whole_list text m c budget steps texts true s few some r = absurd (none (r.past steps s))
  where
    none : budget < steps → ⊥
    none l = omega (arith, few)

pub cut_below : (text : ℕ → List ℕ) (m : List Item) (c : Sym) (budget steps : ℕ) (texts : List (List ℕ)) (cut : Bool)
    → IsModelSteps m c steps → IsRightList text m c budget texts cut → (cut ≡ true) ↔ (budget < steps)
cut_below text m c budget steps texts false s r = ((λ e. absurd (false≢true e)), (λ l. absurd (none (r.enough steps s) l)))
  where
    none : steps ≤ budget → budget < steps → ⊥
    none f l = omega (arith, f, l)
cut_below text m c budget steps texts true s r = ((λ e. r.past steps s), (λ l. refl))

pub none_for_none : (text : ℕ → List ℕ) (m : List Item) (c : Sym) (texts : List (List ℕ)) (cut : Bool) → IsRightList text m c 0 texts cut → (texts ≡ []) × (cut ≡ true)
none_for_none text m c texts false r = absurd (none r.some)
  where
    none : 0 < 0 → ⊥
    none l = omega (arith, l)
none_for_none text m c [] true r = (refl, refl)
none_for_none text m c (x ∷ xs) true r = absurd (none r.only.0.place r.only.0.within)
  where
    none : (n : ℕ) → n < 0 → ⊥
    none n l = omega (arith, l)
