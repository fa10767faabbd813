-- The names of a refusal are names of the metagrammar.
use Rattle.std.specs.Prelude.{◌≡◌, ℕ, ◌<◌, List, [], ◌∷◌, ◌++◌, Option, Some, None, Bool, true, false, ◌==◌, not, if◌then◌else◌, length, ◌⊎◌}
use Rattle.std.specs.List.{filter}
use Rattle.std.proofs.Common.{subst, sym, inl, inr, refl}
use Rattle.gr_base.specs.Lists.{Each, IsAmong, gathered}
use Rattle.gr_base.proofs.ListLemmas.{Each-left, Each-right, Each-append, Each-at, Each-map, IsAmong-append_right}
use Rattle.gr_terms.specs.declared.Sym.{Sym}
use Rattle.mg_syntax.specs.declared.body.Ref.{Ref}
use Rattle.mg_syntax.specs.declared.item.Class.{Class}
use Rattle.mg_syntax.specs.declared.item.Item.{Item}
use Rattle.mg_syntax.specs.declared.item.Item.TheVariants as item
use Rattle.mg_syntax.specs.Names.{body_names, class_names, header_names, item_names, all_names, HasTexts}
use Rattle.mg_syntax.proofs.Names.{Each-gathered_from}
use Rattle.mg_scope.specs.declared.uses.Use.{Use}
use Rattle.mg_scope.specs.declared.uses.Use.TheVariants.{Alone, Bound, Called, Dotted}
use Rattle.mg_scope.specs.declared.refusal.ScopeRefusal.{ScopeRefusal}
use Rattle.mg_scope.specs.declared.refusal.ScopeRefusal.TheVariants as scope
use Rattle.mg_scope.specs.Classes.{class_of, firsts, valuation, valued_classes, uses_of, called_class, called_classes, mentions, mentions_of, mentioned}
use Rattle.mg_scope.specs.Cycles.{IsWayBack, IsFirstNearest}
use Rattle.mg_scope.specs.Faults.{IsFirstWithout, IsVariableOf, IsDotOf, IsRightExport, IsRightDot, HasFault, HasClassFault, HasValueFault, IsFirstFault}
use Rattle.rl_refusals.specs.declared.refusal.Refusal.{Refusal}
use Rattle.rl_refusals.specs.Lines.{HasPartText, HasVariableText, name_part}
use Rattle.rl_refusals.specs.Lines as lines
use Rattle.rl_top.specs.Refusals.{IsOfScope}
use Rattle.rl_top.proofs.Naming.{IsKnownUse, body_known}

-- what holds of each name that is valued holds of each valued class
module _ (Q : Sym → Type 0) where
  kept : (p : Sym → Bool) (xs : List Sym) → Each Q xs → Each Q (filter p xs)
  kept p [] h = tt
  kept p (x ∷ xs) h = by (p x) (kept p xs h.1)
    where
      by : (t : Bool) → Each Q (filter p xs) → Each Q (if t then x ∷ filter p xs else filter p xs)
      by true k = (h.0, k)
      by false k = k

  firsts_each : (xs : List Sym) → Each Q xs → Each Q (firsts xs)
  firsts_each [] h = tt
  firsts_each (x ∷ xs) h = (h.0, kept (λ y. not (y.0 == x.0)) (firsts xs) (firsts_each xs h.1))

  valuations_each : (m : List Item) → ((c : Sym) → IsAmong m (item.Value c) → Q c) → Each Q (gathered valuation m)
  valuations_each [] each = tt
  valuations_each (item.Class k ∷ m) each = valuations_each m (λ c i. each c (inr i))
  valuations_each (item.Value v ∷ m) each = (each v (inl refl), valuations_each m (λ c i. each c (inr i)))
  valuations_each (item.Header h ∷ m) each = valuations_each m (λ c i. each c (inr i))

  pub valued_each : (m : List Item) → ((c : Sym) → IsAmong m (item.Value c) → Q c) → Each Q (valued_classes m)
  valued_each m each = firsts_each (gathered valuation m) (valuations_each m each)

module _ (texts : List (List ℕ)) where
  abbrev Has : Sym → Type 0
  Has s = s.0 < length texts

  called_has : (us : List Use) → Each (IsKnownUse (length texts)) us → Each Has (called_classes us)
  called_has [] h = tt
  called_has (u ∷ us) h = Each-append Has (called_class u) (called_classes us) (one u h.0) (called_has us h.1)
    where
      one : (u : Use) → IsKnownUse (length texts) u → Each Has (called_class u)
      one (Alone x) k = tt
      one (Bound x c) k = (k.1, tt)
      one (Called c) k = (k, tt)
      one (Dotted x y) k = tt

  module _ (k : Class) (h : Each Has (class_names k)) where
    lists : Each Has (k.imports ++ k.exports ++ k.declares)
    lists = Each-left Has (k.imports ++ k.exports ++ k.declares) (body_names k.body) h.1

    front : Each Has (k.imports ++ k.exports)
    front = Each-left Has (k.imports ++ k.exports) k.declares lists

    pub class_has : Has k.name
    class_has = h.0

    imports_has : Each Has k.imports
    imports_has = Each-left Has k.imports k.exports front

    pub exports_has : Each Has k.exports
    exports_has = Each-right Has k.imports k.exports front

    pub uses_have : Each (IsKnownUse (length texts)) (uses_of k)
    uses_have = body_known (length texts) k.body (Each-right Has (k.imports ++ k.exports ++ k.declares) (body_names k.body) h.1)

    pub mentions_has : Each Has (mentions k)
    mentions_has = Each-append Has k.imports (called_classes (uses_of k)) imports_has (called_has (uses_of k) uses_have)

  -- what the class of a name mentions
  mentioned_has : (m : List Item) → HasTexts texts m → (c : Sym) → Each Has (mentioned m c)
  mentioned_has [] h c = tt
  mentioned_has (item.Class k ∷ m) h c = by (k.name.0 == c.0) (mentioned_has m (Each-right Has (class_names k) (all_names m) h) c)
    where
      by : (t : Bool) → Each Has (mentioned m c) → Each Has (mentions_of (if t then Some k else class_of m c))
      by true more = mentions_has k (Each-left Has (class_names k) (all_names m) h)
      by false more = more
  mentioned_has (item.Value v ∷ m) h c = mentioned_has m h.1 c
  mentioned_has (item.Header x ∷ m) h c = mentioned_has m (Each-right Has (header_names x) (all_names m) h) c

  way_has : (next : Sym → List Sym) → ((a : Sym) → Each Has (next a)) → (goal a : Sym) (bs : List Sym) → IsWayBack next goal a bs → Each Has bs
  way_has next has goal a [] way = tt
  way_has next has goal a (b ∷ bs) way = (nearest b way.0, way_has next has goal b bs way.2)
    where
      nearest : (b : Sym) → IsFirstNearest next goal (next a) b → Has b
      nearest b (before, after, n, split, leads, first, all) = Each-at Has (next a) b (has a) (subst (λ z. IsAmong z b) (sym split) (IsAmong-append_right before (b ∷ after) b (inl refl)))

  first_has : {A : Type 0} (Q R : A → Type 0) (xs : List A) (x : A) → IsFirstWithout Q xs x → Each R xs → R x
  first_has Q R xs x (before, after, split, each, not_x) all = Each-at R xs x all (subst (λ z. IsAmong z x) (sym split) (IsAmong-append_right before (x ∷ after) x (inl refl)))

  variable_has : (u : Use) (r : Ref) → IsVariableOf u r → IsKnownUse (length texts) u → HasVariableText texts r
  variable_has (Alone x) r is k = subst (λ z. HasVariableText texts z) (sym is) k
  variable_has (Bound x c) r is k = subst (λ z. HasVariableText texts z) (sym is) k.0
  variable_has (Called c) r is k = absurd is
  variable_has (Dotted x y) r is k = subst (λ z. HasVariableText texts z) (sym is) k.0

  dot_has : (u : Use) (r : Ref) → IsDotOf u r → IsKnownUse (length texts) u → HasVariableText texts r
  dot_has (Alone x) r is k = absurd is
  dot_has (Bound x c) r is k = absurd is
  dot_has (Called c) r is k = absurd is
  dot_has (Dotted x y) r is k = subst (λ z. HasVariableText texts z) (sym is) k

  plain_has : (r : Ref) → r.of ≡ None → Has r.name → HasVariableText texts r
  plain_has r none k = by r.of none
    where
      by : (o : Option Sym) → o ≡ None → HasVariableText texts (record { of = o; name = r.name })
      by None e = k
      by (Some x) e = absurd cc

  -- a fault of an item of the metagrammar
  module _ (m : List Item) (known : HasTexts texts m) where
    each_known : Each (λ i. Each Has (item_names i)) m
    each_known = Each-gathered_from Has item_names m known

    class_fault_has : (done : List Item) (k : Class) → Each Has (class_names k) → (e : ScopeRefusal) (r : Refusal) → HasClassFault m done k e → IsOfScope e r → lines.HasTexts texts r
    class_fault_has done k h (scope.UnknownClass c) r fault is =
        subst (λ z. lines.HasTexts texts z) (sym is) (tt, (first_has _ Has (mentions k) c fault (mentions_has k h), tt))
    class_fault_has done k h (scope.ClassCycle names) r fault is =
        let cycle = fault.1 in
        let all : Each Has names = subst (λ z. Each Has z) (sym cycle.1) (class_has k h, way_has (mentioned m) (mentioned_has m known) k.name k.name cycle.0 cycle.2) in
        subst (λ z. lines.HasTexts texts z) (sym is) (tt, Each-map name_part (HasPartText texts) names all)
    class_fault_has done k h (scope.DuplicateClass c) r fault is = subst (λ z. lines.HasTexts texts z) (sym is) (tt, (subst Has fault.0 (class_has k h), tt))
    class_fault_has done k h (scope.UndeclaredVariable c x) r fault is =
        subst (λ z. lines.HasTexts texts z) (sym is) (tt, (subst Has fault.0 (class_has k h), (variable_has fault.1 x fault.2 (first_has _ (IsKnownUse (length texts)) (uses_of k) fault.1 fault.3 (uses_have k h)), tt)))
    class_fault_has done k h (scope.NotExported c x) r (named, fault) is =
        subst (λ z. lines.HasTexts texts z) (sym is) (tt, (subst Has named (class_has k h), (by fault, tt)))
      where
        by : ((x.of ≡ None) × IsFirstWithout (IsRightExport m k) k.exports x.name) ⊎ (Each (IsRightExport m k) k.exports × ((u : Use) × IsDotOf u x × IsFirstWithout (IsRightDot m k) (uses_of k) u)) → HasVariableText texts x
        by (inl e) = plain_has x e.0 (first_has _ Has k.exports x.name e.1 (exports_has k h))
        by (inr e) = dot_has e.1.0 x e.1.1 (first_has _ (IsKnownUse (length texts)) (uses_of k) e.1.0 e.1.2 (uses_have k h))
    class_fault_has done k h scope.Memory r fault is = absurd fault

    value_fault_has : (v : Sym) → Has v → (e : ScopeRefusal) (r : Refusal) → HasValueFault m v e → IsOfScope e r → lines.HasTexts texts r
    value_fault_has v h (scope.UnknownClass c) r fault is = subst (λ z. lines.HasTexts texts z) (sym is) (tt, (subst Has fault.0 h, tt))
    value_fault_has v h (scope.ClassCycle names) r fault is = absurd fault
    value_fault_has v h (scope.DuplicateClass c) r fault is = absurd fault
    value_fault_has v h (scope.UndeclaredVariable c x) r fault is = absurd fault
    value_fault_has v h (scope.NotExported c x) r fault is = absurd fault
    value_fault_has v h scope.Memory r fault is = absurd fault

    item_fault_has : (done : List Item) (i : Item) → Each Has (item_names i) → (e : ScopeRefusal) (r : Refusal) → HasFault m done i e → IsOfScope e r → lines.HasTexts texts r
    item_fault_has done (item.Class k) h e r fault is = class_fault_has done k h e r fault is
    item_fault_has done (item.Value v) h e r fault is = value_fault_has v h.0 e r fault is
    item_fault_has done (item.Header x) h e r fault is = absurd fault

    pub scope_has : (e : ScopeRefusal) (r : Refusal) → IsFirstFault m e → IsOfScope e r → lines.HasTexts texts r
    scope_has e r (done, rest, i, split, fault, before) is =
        item_fault_has done i (Each-at (λ j. Each Has (item_names j)) m i each_known (subst (λ z. IsAmong z i) (sym split) (IsAmong-append_right done (i ∷ rest) i (inl refl)))) e r fault.0 is

    -- the numbers of valued classes
    pub valued_has : Each Has (valued_classes m)
    valued_has = valued_each Has m (λ c i. (Each-at (λ j. Each Has (item_names j)) m (item.Value c) each_known i).0)
