-- Classes and trees from the front, and the places of classes.
use Rattle.std.specs.Prelude.{◌≡◌, ℕ, zero, suc, ◌+◌, ◌<◌, ◌≤◌, List, [], ◌∷◌, ◌++◌, length, take, slice_get, Option, Some, None, nat_eq, if◌then◌else◌}
use Rattle.std.proofs.Common.{inl, inr, ap, sym, ◌∙◌, subst, arith}
use Rattle.std.proofs.lemmas.Bool.Decides.{eqb_tells}
use Rattle.std.proofs.lemmas.List.{take-append-le, take_all}
use Rattle.std.proofs.lemmas.Option.{none-some, same_Some, slice_get_within}
use Rattle.std.specs.HashMap.{get}
use Rattle.gr_base.specs.Lists.{Each}
use Rattle.gr_base.proofs.ListLemmas.{Each-append, slice_get-append_left, slice_get_push}
use Rattle.gr_terms.specs.declared.Sym.{Sym}
use Rattle.td_canon.specs.declared.tree_set.ClassTrees.{ClassTrees}
use Rattle.tg_grammar.specs.declared.refusal.GrammarRefusal.{GrammarRefusal}
use Rattle.tg_grammar.specs.declared.refusal.GrammarRefusal.TheVariants as refusal
use Rattle.tg_grammar.specs.Grammars.{IsClassRefusal, IsFirstNamed, IsGrammar, IsRefusalOf, LacksClass}
use Rattle.tg_grammar.specs.Places.{ArePlaces, IsPlace, Places, PutsFirst, or_else}
use Rattle.tg_grammar.proofs.SightLemmas.{take-one_more}

-- P holds of one more
pub Each-take_more : {A : Type 0} (P : A → Type 0) (xs : List A) (i : ℕ) (x : A) → slice_get xs i ≡ Some x → Each P (take i xs) → P x → Each P (take (i + 1) xs)
Each-take_more P xs i x at each here =
    let more : suc i ≡ i + 1 = omega arith in
    subst (λ k. Each P (take k xs)) more (subst (Each P) (sym (take-one_more xs i x at)) (Each-append P (take i xs) (x ∷ []) each (here, tt)))

pub Each-slice_get : {A : Type 0} (P : A → Type 0) (xs : List A) (i : ℕ) (x : A) → Each P xs → slice_get xs i ≡ Some x → P x
Each-slice_get P [] i x each at = absurd (none-some x at)
Each-slice_get P (y ∷ ys) zero x each at = subst P (same_Some y x at) each.0
Each-slice_get P (y ∷ ys) (suc i) x each at = Each-slice_get P ys i x each.1 at

-- ---- the first class of a name

-- a class that is appended changes no place
stays : (before : List ClassTrees) (x : ClassTrees) (name : Sym) (at : ℕ) (class : ClassTrees) → IsFirstNamed before name at class → IsFirstNamed (before ++ x ∷ []) name at class
stays before x name at class h =
    let within : at < length before = slice_get_within before at class h.here in
    let le : at ≤ length before = omega arith in
    record {
      here = slice_get-append_left before (x ∷ []) at class h.here;
      named = h.named;
      earlier = subst (λ cs. LacksClass cs name) (sym (take-append-le at before (x ∷ []) le)) h.earlier;
    }

-- it is the first of its name where none had it
comes : (before : List ClassTrees) (x : ClassTrees) (name : Sym) → LacksClass before name → x.class ≡ name → IsFirstNamed (before ++ x ∷ []) name (length before) x
comes before x name none e =
    let le : length before ≤ length before = omega arith in
    record {
      here = slice_get_push before x;
      named = e;
      earlier = subst (λ cs. LacksClass cs name) (sym (take-append-le (length before) before (x ∷ []) le ∙ take_all (length before) before le)) none;
    }

pub places-push : (before : List ClassTrees) (x : ClassTrees) (old new : Places) (at : ℕ) → at ≡ length before → ArePlaces before old → PutsFirst old new x.class.0 at → ArePlaces (before ++ x ∷ []) new
places-push before x old new at count are puts = λ name. subst (IsPlace (before ++ x ∷ []) name) (sym (puts name.0)) (by name (get nat_eq old name.0) (are name))
  where
    by : (name : Sym) (o : Option ℕ) → IsPlace before name o → IsPlace (before ++ x ∷ []) name (or_else o (if nat_eq x.class.0 name.0 then Some at else None))
    by name (Some k) place = (place.0, stays before x name k place.0 place.1)
    by name None none = elim (eqb_tells x.class.0 name.0) [
      | inl h ↦
          let same : x.class ≡ name = λ i. record { 0 = h.1 i } in
          subst (λ b. IsPlace (before ++ x ∷ []) name (if b then Some at else None)) (sym h.0)
          (x, subst (λ k. IsFirstNamed (before ++ x ∷ []) name k x) (sym count) (comes before x name none same))
      | inr h ↦
          subst (λ b. IsPlace (before ++ x ∷ []) name (if b then Some at else None)) (sym h.0)
          (Each-append (λ c. c.class ≡ name → ⊥) before (x ∷ []) none ((λ e. h.1 (ap (λ s. s.0) e)), tt))
    ]

-- ---- refusals

-- a class that is refused behind well-formed ones
pub class_refused : (classes : List ClassTrees) (at : ℕ) (c : ClassTrees) (e : GrammarRefusal) → slice_get classes at ≡ Some c → IsGrammar (take at classes) → IsClassRefusal c e → IsRefusalOf classes e
class_refused classes at c (refusal.Shape code class number) is earlier h = record { at = at; here = c; is = is; named = h.0; earlier = earlier; first = h.1 }
class_refused classes at c refusal.Memory is earlier h = tt
