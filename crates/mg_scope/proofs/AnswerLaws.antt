-- The first fault of a metagrammar is one, and a metagrammar that keeps all rules has none.
use Rattle.std.specs.Prelude.{◌≡◌, ℕ, zero, suc, ◌+◌, ◌<◌, ◌≤◌, List, [], ◌∷◌, ◌++◌, length, Option, Some, None, ◌⊎◌}
use Rattle.std.proofs.Common.{inl, inr, refl, ap, sym, ◌∙◌, subst, arith}
use Rattle.std.proofs.lemmas.Option.{same_Some}
use Rattle.gr_base.specs.Lists.{IsAmong, Each}
use Rattle.gr_base.proofs.ListLemmas.{same_head, same_tail, IsAmong-append_left, IsAmong-append_right, Each-at, cons-not_nil}
use Rattle.gr_terms.specs.declared.Sym.{Sym}
use Rattle.mg_syntax.specs.declared.body.Ref.{Ref}
use Rattle.mg_syntax.specs.declared.item.Class.{Class}
use Rattle.mg_syntax.specs.declared.item.Item.{Item}
use Rattle.mg_syntax.specs.declared.item.Item.TheVariants as item
use Rattle.mg_scope.specs.declared.uses.Use.{Use}
use Rattle.mg_scope.specs.declared.uses.Use.TheVariants.{Alone, Bound, Called, Dotted}
use Rattle.mg_scope.specs.declared.refusal.ScopeRefusal.{ScopeRefusal}
use Rattle.mg_scope.specs.declared.refusal.ScopeRefusal.TheVariants.{UnknownClass, ClassCycle, DuplicateClass, UndeclaredVariable, NotExported, Memory}
use Rattle.mg_scope.specs.Classes.{class_of, mentions, mentions_of, mentioned, uses_of}
use Rattle.mg_scope.specs.Cycles.{LeadsTo, IsFirstNearest, IsWayBack, IsCycle}
use Rattle.mg_scope.specs.Faults.{IsFirstWithout, StandsIn, IsThere, IsRightUse, IsRightExport, IsRightDot, IsVariableOf, IsDotOf, HasClassFault, HasFault, code, IsFaultOf, AreRight, IsFirstFault, IsScoped}
use Rattle.mg_scope.specs.Checks.{IsRightItem}
use Rattle.mg_scope.proofs.ClassLemmas.{class_of-first, class_of-stands, class_same}
use Rattle.mg_scope.proofs.CheckLemmas.{not_without, right_has_none}

-- an item of a metagrammar that keeps all rules has no fault
pub scoped_item : (m : List Item) → IsScoped m → (done rest : List Item) (i : Item) → m ≡ done ++ i ∷ rest → IsRightItem m done i
scoped_item m s done rest (item.Class k) parts =
    let among : IsAmong m (item.Class k) = subst (λ z. IsAmong z (item.Class k)) (sym parts) (IsAmong-append_right done (item.Class k ∷ rest) (item.Class k) (inl refl)) in (
      record { there = s.there k among; fresh = s.once done rest k parts; no_way_back = s.no_cycle k.name },
      record { uses = s.uses k among; exports = s.exports k among; dots = s.dots k among },
    )
scoped_item m s done rest (item.Value v) parts = s.valued v (subst (λ z. IsAmong z (item.Value v)) (sym parts) (IsAmong-append_right done (item.Value v ∷ rest) (item.Value v) (inl refl)))
scoped_item m s done rest (item.Header h) parts = tt

pub no_fault : (m : List Item) (f : ScopeRefusal) → IsScoped m → IsFirstFault m f → ⊥
no_fault m f s (done, rest, i, parts, fault, before) = right_has_none m done i (scoped_item m s done rest i parts) f fault.0

-- two places in one list: one is before the other, or they are one
data Placing {A : Type 0} (done done' : List A) (i i' : A) : Type 0 where
  same_place : done ≡ done' → i ≡ i' → Placing done done' i i'
  first_earlier : (more : List A) → done' ≡ done ++ i ∷ more → Placing done done' i i'
  first_later : (more : List A) → done ≡ done' ++ i' ∷ more → Placing done done' i i'

placed : {A : Type 0} (done done' rest rest' : List A) (i i' : A) → done ++ i ∷ rest ≡ done' ++ i' ∷ rest' → Placing done done' i i'
placed [] [] rest rest' i i' e = same_place refl (same_head i i' rest rest' e)
placed [] (x ∷ done') rest rest' i i' e = first_earlier done' (ap (λ z. z ∷ done') (sym (same_head i x rest (done' ++ i' ∷ rest') e)))
placed (x ∷ done) [] rest rest' i i' e = first_later done (ap (λ z. z ∷ done) (same_head x i' (done ++ i ∷ rest) rest' e))
placed (x ∷ done) (y ∷ done') rest rest' i i' e =
    let head : x ≡ y = same_head x y (done ++ i ∷ rest) (done' ++ i' ∷ rest') e in
    elim (placed done done' rest rest' i i' (same_tail x y (done ++ i ∷ rest) (done' ++ i' ∷ rest') e)) [
      | same_place p q ↦ same_place (ap (λ z. z ∷ done) head ∙ ap (λ z. y ∷ z) p) q
      | first_earlier more p ↦ first_earlier more (ap (λ z. y ∷ z) p ∙ ap (λ z. z ∷ done ++ i ∷ more) (sym head))
      | first_later more p ↦ first_later more (ap (λ z. x ∷ z) p ∙ ap (λ z. z ∷ done' ++ i' ∷ more) head)
    ]

-- the first element without a property is one
first_one : {A : Type 0} (P : A → Type 0) (xs : List A) (x y : A) → IsFirstWithout P xs x → IsFirstWithout P xs y → x ≡ y
first_one P xs x y (before, after, parts, each, wrong) (before', after', parts', each', wrong') =
    elim (placed before before' after after' x y (sym parts ∙ parts')) [
      | same_place p q ↦ q
      | first_earlier more p ↦ absurd (wrong (Each-at P before' x each' (subst (λ z. IsAmong z x) (sym p) (IsAmong-append_right before (x ∷ more) x (inl refl)))))
      | first_later more p ↦ absurd (wrong' (Each-at P before y each (subst (λ z. IsAmong z y) (sym p) (IsAmong-append_right before' (y ∷ more) y (inl refl)))))
    ]

-- what stands at the later place stands behind the earlier one
behind : (before before' after after' : List Sym) (b c : Sym) (more : List Sym) → before ++ b ∷ after ≡ before' ++ c ∷ after' → before' ≡ before ++ b ∷ more → IsAmong (b ∷ after) c
behind [] before' after after' b c more e p = subst (λ z. IsAmong z c) (sym e) (IsAmong-append_right before' (c ∷ after') c (inl refl))
behind (x ∷ before) [] after after' b c more e p = absurd (cons-not_nil x (before ++ b ∷ more) (sym p))
behind (x ∷ before) (y ∷ before') after after' b c more e p =
    behind before before' after after' b c more (same_tail x y (before ++ b ∷ after) (before' ++ c ∷ after') e) (same_tail y x before' (before ++ b ∷ more) p)

-- the nearest name is one
nearest_one : (next : Sym → List Sym) (goal : Sym) (names : List Sym) (b c : Sym) → IsFirstNearest next goal names b → IsFirstNearest next goal names c → b ≡ c
nearest_one next goal names b c (before, after, n, parts, way, less, most) (before', after', n', parts', way', less', most') =
    elim (placed before before' after after' b c (sym parts ∙ parts')) [
      | same_place p q ↦ q
      | first_earlier more p ↦
          (let h = Each-at (λ x. (i : ℕ) → LeadsTo next goal i x → n' < i) before' b less' (subst (λ z. IsAmong z b) (sym p) (IsAmong-append_right before (b ∷ more) b (inl refl))) n way in
          let k = Each-at (λ x. (i : ℕ) → LeadsTo next goal i x → n ≤ i) (b ∷ after) c most (behind before before' after after' b c more (sym parts ∙ parts') p) n' way' in
          absurd (omega (arith, h, k)))
      | first_later more p ↦
          (let h = Each-at (λ x. (i : ℕ) → LeadsTo next goal i x → n < i) before c less (subst (λ z. IsAmong z c) (sym p) (IsAmong-append_right before' (c ∷ more) c (inl refl))) n' way' in
          let k = Each-at (λ x. (i : ℕ) → LeadsTo next goal i x → n' ≤ i) (c ∷ after') b most' (behind before' before after' after c b more (sym parts' ∙ parts) p) n way in
          absurd (omega (arith, h, k)))
    ]

way_one : (next : Sym → List Sym) (goal a : Sym) (bs cs : List Sym) → IsWayBack next goal a bs → IsWayBack next goal a cs → bs ≡ cs
way_one next goal a [] [] w v = refl
way_one next goal a [] (c ∷ cs) w (near, other, more) = absurd (other (nearest_one next goal (next a) c goal near w))
way_one next goal a (b ∷ bs) [] (near, other, more) v = absurd (other (nearest_one next goal (next a) b goal near v))
way_one next goal a (b ∷ bs) (c ∷ cs) (near, other, more) (near', other', more') =
    let same : b ≡ c = nearest_one next goal (next a) b c near near' in
    ap (λ z. z ∷ bs) same ∙ ap (λ z. c ∷ z) (way_one next goal c bs cs (subst (λ z. IsWayBack next goal z bs) same more) more')

variable_one : (u : Use) (r s : Ref) → IsVariableOf u r → IsVariableOf u s → r ≡ s
variable_one (Alone x) r s a b = a ∙ sym b
variable_one (Bound x c) r s a b = a ∙ sym b
variable_one (Called c) r s a b = absurd a
variable_one (Dotted x y) r s a b = a ∙ sym b

dot_one : (u : Use) (r s : Ref) → IsDotOf u r → IsDotOf u s → r ≡ s
dot_one (Alone x) r s a b = absurd a
dot_one (Bound x c) r s a b = absurd a
dot_one (Called c) r s a b = absurd a
dot_one (Dotted x y) r s a b = a ∙ sym b

ref_one : (r s : Ref) → r.of ≡ s.of → r.name ≡ s.name → r ≡ s
ref_one r s e f = ap (λ (z : Option Sym). record { of = z; name = r.name }) e ∙ ap (λ (z : Sym). record { of = s.of; name = z }) f

-- the two ways in which a name is not exported
abbrev IsNotExported : List Item → Class → Ref → Type 0
IsNotExported m k r =
    ((r.of ≡ None) × IsFirstWithout (IsRightExport m k) k.exports r.name)
    ⊎ (Each (IsRightExport m k) k.exports × ((u : Use) × IsDotOf u r × IsFirstWithout (IsRightDot m k) (uses_of k) u))

refs_one : (m : List Item) (k : Class) (r s : Ref) → IsNotExported m k r → IsNotExported m k s → r ≡ s
refs_one m k r s (inl p) (inl q) = ref_one r s (p.0 ∙ sym q.0) (first_one (IsRightExport m k) k.exports r.name s.name p.1 q.1)
refs_one m k r s (inl p) (inr q) = absurd (not_without (IsRightExport m k) k.exports r.name q.0 p.1)
refs_one m k r s (inr p) (inl q) = absurd (not_without (IsRightExport m k) k.exports s.name p.0 q.1)
refs_one m k r s (inr p) (inr q) =
    let same : p.1.0 ≡ q.1.0 = first_one (IsRightDot m k) (uses_of k) p.1.0 q.1.0 p.1.2 q.1.2 in
    dot_one q.1.0 r s (subst (λ z. IsDotOf z r) same p.1.1) q.1.1

-- faults of one code of one class are one
class_one : (m done : List Item) (k : Class) (f g : ScopeRefusal) → code f ≡ code g → HasClassFault m done k f → HasClassFault m done k g → f ≡ g
class_one m done k (UnknownClass c) (UnknownClass d) e h l = ap UnknownClass (first_one (IsThere m) (mentions k) c d h l)
class_one m done k (ClassCycle names) (ClassCycle others) e (fresh, (ns, is, way)) (fresh', (os, is', way')) =
    ap ClassCycle (is ∙ ap (λ z. k.name ∷ z) (way_one (mentioned m) k.name k.name ns os way way') ∙ sym is')
class_one m done k (DuplicateClass c) (DuplicateClass d) e h l = ap DuplicateClass (sym h.0 ∙ l.0)
class_one m done k (UndeclaredVariable c r) (UndeclaredVariable d s) e h l =
    let same : h.1 ≡ l.1 = first_one (IsRightUse m k) (uses_of k) h.1 l.1 h.3 l.3 in
    ap (λ z. UndeclaredVariable z r) (sym h.0 ∙ l.0) ∙ ap (UndeclaredVariable d) (variable_one l.1 r s (subst (λ z. IsVariableOf z r) same h.2) l.2)
class_one m done k (NotExported c r) (NotExported d s) e h l = ap (λ z. NotExported z r) (sym h.0 ∙ l.0) ∙ ap (NotExported d) (refs_one m k r s h.1 l.1)
class_one m done k Memory g e h l = absurd h
class_one m done k f Memory e h l = absurd l
class_one m done k (UnknownClass c) (ClassCycle names) e h l = absurd (omega (arith, e))
class_one m done k (UnknownClass c) (DuplicateClass d) e h l = absurd (omega (arith, e))
class_one m done k (UnknownClass c) (UndeclaredVariable d r) e h l = absurd (omega (arith, e))
class_one m done k (UnknownClass c) (NotExported d r) e h l = absurd (omega (arith, e))
class_one m done k (ClassCycle names) (UnknownClass d) e h l = absurd (omega (arith, e))
class_one m done k (ClassCycle names) (DuplicateClass d) e h l = absurd (omega (arith, e))
class_one m done k (ClassCycle names) (UndeclaredVariable d r) e h l = absurd (omega (arith, e))
class_one m done k (ClassCycle names) (NotExported d r) e h l = absurd (omega (arith, e))
class_one m done k (DuplicateClass c) (UnknownClass d) e h l = absurd (omega (arith, e))
class_one m done k (DuplicateClass c) (ClassCycle names) e h l = absurd (omega (arith, e))
class_one m done k (DuplicateClass c) (UndeclaredVariable d r) e h l = absurd (omega (arith, e))
class_one m done k (DuplicateClass c) (NotExported d r) e h l = absurd (omega (arith, e))
class_one m done k (UndeclaredVariable c r) (UnknownClass d) e h l = absurd (omega (arith, e))
class_one m done k (UndeclaredVariable c r) (ClassCycle names) e h l = absurd (omega (arith, e))
class_one m done k (UndeclaredVariable c r) (DuplicateClass d) e h l = absurd (omega (arith, e))
class_one m done k (UndeclaredVariable c r) (NotExported d s) e h l = absurd (omega (arith, e))
class_one m done k (NotExported c r) (UnknownClass d) e h l = absurd (omega (arith, e))
class_one m done k (NotExported c r) (ClassCycle names) e h l = absurd (omega (arith, e))
class_one m done k (NotExported c r) (DuplicateClass d) e h l = absurd (omega (arith, e))
class_one m done k (NotExported c r) (UndeclaredVariable d s) e h l = absurd (omega (arith, e))

-- a valuation has one fault alone
value_is : (m : List Item) (v : Sym) (f : ScopeRefusal) → HasFault m [] (item.Value v) f → f ≡ UnknownClass v
value_is m v (UnknownClass c) h = ap UnknownClass (sym h.0)
value_is m v (ClassCycle names) h = absurd h
value_is m v (DuplicateClass c) h = absurd h
value_is m v (UndeclaredVariable c r) h = absurd h
value_is m v (NotExported c r) h = absurd h
value_is m v Memory h = absurd h

item_one : (m done : List Item) (i : Item) (f g : ScopeRefusal) → IsFaultOf m done i f → IsFaultOf m done i g → f ≡ g
item_one m done (item.Class k) f g (h, least) (l, least') =
    let a = least g l in
    let b = least' f h in
    class_one m done k f g (omega (arith, a, b)) h l
item_one m done (item.Value v) f g (h, least) (l, least') = value_is m v f h ∙ sym (value_is m v g l)
item_one m done (item.Header x) f g (h, least) (l, least') = absurd h

pub one_fault : (m : List Item) (f g : ScopeRefusal) → IsFirstFault m f → IsFirstFault m g → f ≡ g
one_fault m f g (done, rest, i, parts, fault, before) (done', rest', i', parts', fault', before') =
    elim (placed done done' rest rest' i i' (sym parts ∙ parts')) [
      | same_place p q ↦ item_one m done' i' f g (subst (λ z. IsFaultOf m done' z f) q (subst (λ z. IsFaultOf m z i f) p fault)) fault'
      | first_earlier more p ↦ absurd (before' done more i f p fault.0)
      | first_later more p ↦ absurd (before done' more i' g p fault'.0)
    ]

-- each class is the first of its name
pub first_of_name : (m : List Item) (k : Class) → IsScoped m → IsAmong m (item.Class k) → class_of m k.name ≡ Some k
first_of_name m k s among =
    let r = split m among in
    ap (λ z. class_of z k.name) r.2 ∙ class_of-first r.0 r.1 k k.name (s.once r.0 r.1 k r.2) refl
  where
    split : (m : List Item) → IsAmong m (item.Class k) → (before after : List Item) × (m ≡ before ++ item.Class k ∷ after)
    split [] i = absurd i
    split (x ∷ m) (inl e) = ([], m, ap (λ z. z ∷ m) (sym e))
    split (x ∷ m) (inr i) = let r = split m i in (x ∷ r.0, r.1, ap (λ z. x ∷ z) r.2)

pub mentioned_there : (m : List Item) (c : Sym) → IsScoped m → Each (IsThere m) (mentioned m c)
mentioned_there m c s = by (class_of m c) refl
  where
    by : (r : Option Class) → class_of m c ≡ r → Each (IsThere m) (mentions_of (class_of m c))
    by None e = subst (λ z. Each (IsThere m) (mentions_of z)) (sym e) tt
    by (Some k) e = subst (λ z. Each (IsThere m) (mentions_of z)) (sym e) (s.there k (class_of-stands m c k e).0)
