-- Steps of the loops over facts, standing variables and nodes.
use Rattle.std.specs.Prelude.{◌≡◌, ◌≢◌, ◌↔◌, ℕ, zero, suc, ◌+◌, ◌<◌, ◌≤◌, List, [], ◌∷◌, ◌++◌, map, length, take, set, replicate, get_or, slice_get, Bool, true, false, Option, Some, None, ◌⊎◌, refl}
use Rattle.std.proofs.Common.{inl, inr, ap, ap₂, sym, ◌∙◌, subst, append_assoc, arith}
use Rattle.std.proofs.Math.Seq.{take-length}
use Rattle.std.proofs.lemmas.List.{append-nil, take_more, get_or-replicate, get_or_past, get_or-set_same, get_or-set_other, length-set, length-replicate, length_push}
use Rattle.std.proofs.lemmas.Option.{slice_get-get_or, same_Some, none-some}
use Rattle.std.proofs.lemmas.Bool.{cases_lt, false≢true}
use Rattle.gr_base.specs.Lists.{IsAmong, Each, IsSublist, gathered}
use Rattle.gr_base.proofs.ListLemmas.{Each-at, IsAmong-append, IsAmong-append_left, IsAmong-append_right, IsAmong-one_more, IsAmong-new_one, IsAmong-get_or, Each-weaker, IsWithin-take}
use Rattle.td_desc.specs.declared.Colour.{Colour}
use Rattle.td_desc.specs.declared.Colour.TheVariants.{Black, White, Red}
use Rattle.mg_facts.specs.declared.fact.Fact.{Fact}
use Rattle.mg_facts.specs.Numbered.{IsBelow, colours_in}
use Rattle.mg_facts.specs.Classes.{AreRoots, IsRoot, root, InRange, HasTwoColours, AreColours, IsPainted, IsOther, AreMarked, AreFirstOnes, HasMarked, shown, IsShownPart, StandsAt, ArePlaces}
use Rattle.mg_facts.proofs.GatheredLemmas.{gathered-more, IsAmong-gathered, IsAmong-gathered_from, Each-push, IsSublist-push, IsSublist-skip}
use Rattle.mg_facts.proofs.MeaningLemmas.{colour_below}

same_or_other : (i j : ℕ) → (i ≡ j) ⊎ (i ≢ j)
same_or_other zero zero = inl refl
same_or_other zero (suc j) = inr (λ e. absurd (omega arith))
same_or_other (suc i) zero = inr (λ e. absurd (omega arith))
same_or_other (suc i) (suc j) = elim (same_or_other i j) [ inl e ↦ inl (ap (λ n. suc n) e) | inr d ↦ inr (λ e. d (omega arith)) ]

pub replicated : {A : Type 0} (n r : ℕ) (a : A) → get_or (replicate n a) r a ≡ a
replicated n r a = elim (cases_lt r n) [ inl h ↦ get_or-replicate n r a a h | inr h ↦ get_or_past (replicate n a) r a (subst (λ k. k ≤ r) (sym (length-replicate n a)) h) ]

-- all are taken
pub taken_all : {A : Type 0} (xs : List A) (i : ℕ) → length xs ≤ i → take i xs ≡ xs
taken_all [] zero h = refl
taken_all [] (suc i) h = refl
taken_all (x ∷ xs) zero h = absurd (omega arith)
taken_all (x ∷ xs) (suc i) h = ap (λ z. x ∷ z) (taken_all xs i (omega arith))

pub false_is_no_true : {P : Type 0} → false ≡ true → P
false_is_no_true e = absurd (false≢true e)

same_colour : (c d : Colour) → (c ≡ d) ⊎ (c ≡ d → ⊥)
same_colour Black Black = inl refl
same_colour Black White = inr (λ e. cc)
same_colour Black Red = inr (λ e. cc)
same_colour White Black = inr (λ e. cc)
same_colour White White = inl refl
same_colour White Red = inr (λ e. cc)
same_colour Red Black = inr (λ e. cc)
same_colour Red White = inr (λ e. cc)
same_colour Red Red = inl refl

-- WHAT IS GATHERED

-- what a step appends is what the item gives
pub gathered-step : {A B : Type 0} (f : A → List B) (xs : List A) (i : ℕ) (d : A) (old new : List B) → i < length xs
    → old ≡ gathered f (take i xs) → new ≡ old ++ f (get_or xs i d) → new ≡ gathered f (take (i + 1) xs)
gathered-step f xs i d old new h so_far e = e ∙ ap (λ z. z ++ f (get_or xs i d)) so_far ∙ sym (gathered-more f xs i d h)

pub gathered-mapped : {A B C : Type 0} (f : A → List B) (g : B → C) (xs : List A) (i : ℕ) (d : A) (old new : List C) → i < length xs
    → ((ys zs : List B) → map g (ys ++ zs) ≡ map g ys ++ map g zs)
    → old ≡ map g (gathered f (take i xs)) → new ≡ old ++ map g (f (get_or xs i d)) → new ≡ map g (gathered f (take (i + 1) xs))
gathered-mapped f g xs i d old new h both so_far e =
    e ∙ ap (λ z. z ++ map g (f (get_or xs i d))) so_far ∙ sym (both (gathered f (take i xs)) (f (get_or xs i d))) ∙ ap (map g) (sym (gathered-more f xs i d h))

-- ROOTS

pub AreRoots-none : (facts : List Fact) → AreRoots facts 0 []
AreRoots-none facts = record { size = refl; each = λ x h. absurd (omega arith) }

pub AreRoots-push : (facts : List Fact) (n : ℕ) (roots : List ℕ) (r : ℕ) → AreRoots facts n roots → IsRoot facts n r → AreRoots facts (n + 1) (roots ++ r ∷ [])
AreRoots-push facts n roots r are is = record {
  size = length_push roots r ∙ ap (λ k. k + 1) are.size;
  each = λ x h. elim (cases_lt x n) [
    | inl l ↦ subst (λ z. IsRoot facts x z) (sym (get_left roots r x (subst (λ k. x < k) (sym are.size) l))) (are.each x l)
    | inr l ↦
        let e : x ≡ n = omega arith in
        subst (λ y. IsRoot facts y (get_or (roots ++ r ∷ []) y 0)) (sym e) (subst (λ z. IsRoot facts n z) (sym (get_end roots r n are.size)) is)
  ];
}
  where
    get_left : (xs : List ℕ) (y k : ℕ) → k < length xs → get_or (xs ++ y ∷ []) k 0 ≡ get_or xs k 0
    get_left [] y k h = absurd (omega arith)
    get_left (x ∷ xs) y zero h = refl
    get_left (x ∷ xs) y (suc k) h = get_left xs y k (omega arith)

    get_end : (xs : List ℕ) (y k : ℕ) → length xs ≡ k → get_or (xs ++ y ∷ []) k 0 ≡ y
    get_end xs y k e = subst (λ z. get_or (xs ++ y ∷ []) z 0 ≡ y) e (at_end xs y)
      where
        at_end : (xs : List ℕ) (y : ℕ) → get_or (xs ++ y ∷ []) (length xs) 0 ≡ y
        at_end [] y = refl
        at_end (x ∷ xs) y = at_end xs y

module _ (roots : List ℕ) where
  -- COLOURS

  pub AreColours-none : AreColours roots [] (replicate (length roots) None)
  AreColours-none = record {
    size = length-replicate (length roots) None;
    all = λ x c i. absurd i;
    only = λ r c e. absurd (none-some c (sym (replicated (length roots) r None) ∙ e));
  }

  one_colour_more : (painted : List (ℕ × Colour)) (x : ℕ) (c : Colour) (table : List (Option Colour)) → root roots x < length table
      → ((d : Colour) → get_or table (root roots x) None ≡ Some d → d ≡ c) → AreColours roots painted table → AreColours roots (painted ++ (x, c) ∷ []) (set table (root roots x) (Some c))
  one_colour_more painted x c table h no_other are = record {
    size = length-set table (root roots x) (Some c) ∙ are.size;
    all = λ y d i. elim (IsAmong-one_more painted (x, c) (y, d) i) [ inl j ↦ old y d j | inr e ↦ new y d e ];
    only = λ r d e. elim (same_or_other r (root roots x)) [
      | inl p ↦
          let q : c ≡ d = same_Some c d (sym (get_or-set_same table (root roots x) (Some c) None h) ∙ ap (λ k. get_or (set table (root roots x) (Some c)) k None) (sym p) ∙ e) in
          (x, subst (λ z. IsAmong (painted ++ (x, c) ∷ []) (x, z)) q (IsAmong-new_one painted (x, c)), sym p)
      | inr p ↦
          let g = are.only r d (sym (get_or-set_other table (root roots x) r (Some c) None p) ∙ e) in
          (g.0, IsAmong-append_left painted ((x, c) ∷ []) (g.0, d) g.1, g.2)
    ];
  }
    where
      old : (y : ℕ) (d : Colour) → IsAmong painted (y, d) → get_or (set table (root roots x) (Some c)) (root roots y) None ≡ Some d
      old y d j = elim (same_or_other (root roots y) (root roots x)) [
        | inl p ↦
            ap (λ k. get_or (set table (root roots x) (Some c)) k None) p ∙ get_or-set_same table (root roots x) (Some c) None h
            ∙ ap Some (sym (no_other d (ap (λ k. get_or table k None) (sym p) ∙ are.all y d j)))
        | inr p ↦ get_or-set_other table (root roots x) (root roots y) (Some c) None p ∙ are.all y d j
      ]

      new : (y : ℕ) (d : Colour) → ◌≡◌ {A = ℕ × Colour} (y, d) (x, c) → get_or (set table (root roots x) (Some c)) (root roots y) None ≡ Some d
      new y d e =
          ap (λ k. get_or (set table (root roots x) (Some c)) k None) (ap (root roots) (ap (λ (p : ℕ × Colour). p.0) e)) ∙ get_or-set_same table (root roots x) (Some c) None h
          ∙ ap Some (sym (ap (λ (p : ℕ × Colour). p.1) e))

  pub AreColours-painted : (ps painted : List (ℕ × Colour)) (old new : List (Option Colour)) → Each (λ (p : ℕ × Colour). root roots p.0 < length roots) ps
      → IsPainted roots ps old new → AreColours roots painted old → AreColours roots (painted ++ ps) new
  AreColours-painted [] painted old new below h are = subst (λ z. AreColours roots z new) (sym (append-nil painted)) (subst (λ z. AreColours roots painted z) (sym h) are)
  AreColours-painted (p ∷ ps) painted old new below h are =
      subst (λ z. AreColours roots z new) (append_assoc painted (p ∷ []) ps)
      (AreColours-painted ps (painted ++ p ∷ []) h.0 new below.1 h.3
      (subst (λ z. AreColours roots (painted ++ p ∷ []) z) (sym h.1)
      (one_colour_more painted p.0 p.1 old (subst (λ k. root roots p.0 < k) (sym are.size) below.0) h.2 are)))

  -- a fact that gives another colour
  pub other_colour : (facts : List Fact) (i : ℕ) (d : Fact) (table : List (Option Colour)) → i < length facts → AreColours roots (gathered colours_in (take i facts)) table
      → IsOther roots (colours_in (get_or facts i d)) table → HasTwoColours roots (gathered colours_in facts)
  other_colour facts i d table h are o =
      let g = are.only (root roots o.0) o.2 o.4 in
      let q = IsAmong-gathered_from colours_in (take i facts) (g.0, o.2) g.1 in
      record {
        x = o.0;
        y = g.0;
        c = o.1;
        d = o.2;
        first = IsAmong-gathered colours_in facts (get_or facts i d) (o.0, o.1) (IsAmong-get_or facts i d h) o.3;
        second = IsAmong-gathered colours_in facts q.0 (g.0, o.2) (IsWithin-take i facts q.0 q.1) q.2;
        one = sym g.2;
        differ = o.5;
      }

  -- MARKS

  pub AreMarked-none : AreMarked roots [] (replicate (length roots) false)
  AreMarked-none = record {
    size = length-replicate (length roots) false;
    all = λ x i. absurd i;
    only = λ r e. absurd (false≢true (sym (replicated (length roots) r false) ∙ e));
  }

  pub AreMarked-again : (xs : List ℕ) (x : ℕ) (table : List Bool) → get_or table (root roots x) false ≡ true → AreMarked roots xs table → AreMarked roots (xs ++ x ∷ []) table
  AreMarked-again xs x table h are = record {
    size = are.size;
    all = λ y i. elim (IsAmong-one_more xs x y i) [ inl j ↦ are.all y j | inr e ↦ ap (λ z. get_or table (root roots z) false) e ∙ h ];
    only = λ r e. let g = are.only r e in (g.0, IsAmong-append_left xs (x ∷ []) g.0 g.1, g.2);
  }

  pub AreMarked-set : (xs : List ℕ) (x : ℕ) (table : List Bool) → root roots x < length table → AreMarked roots xs table → AreMarked roots (xs ++ x ∷ []) (set table (root roots x) true)
  AreMarked-set xs x table h are = record {
    size = length-set table (root roots x) true ∙ are.size;
    all = λ y i. elim (IsAmong-one_more xs x y i) [ inl j ↦ old y j | inr e ↦ ap (λ z. get_or (set table (root roots x) true) (root roots z) false) e ∙ get_or-set_same table (root roots x) true false h ];
    only = λ r e. elim (same_or_other r (root roots x)) [
      | inl p ↦ (x, IsAmong-new_one xs x, sym p)
      | inr p ↦ let g = are.only r (sym (get_or-set_other table (root roots x) r true false p) ∙ e) in (g.0, IsAmong-append_left xs (x ∷ []) g.0 g.1, g.2)
    ];
  }
    where
      old : (y : ℕ) → IsAmong xs y → get_or (set table (root roots x) true) (root roots y) false ≡ true
      old y j = elim (same_or_other (root roots y) (root roots x)) [
        | inl p ↦ ap (λ k. get_or (set table (root roots x) true) k false) p ∙ get_or-set_same table (root roots x) true false h
        | inr p ↦ get_or-set_other table (root roots x) (root roots y) true false p ∙ are.all y j
      ]

  -- FIRSTS

  again : (seen xs firsts : List ℕ) (x : ℕ) → AreFirstOnes roots seen xs firsts
      → ((y : ℕ) × IsAmong seen y × (root roots x ≡ root roots y)) ⊎ ((y : ℕ) × IsAmong xs y × (root roots x ≡ root roots y)) → AreFirstOnes roots seen (xs ++ x ∷ []) firsts
  again seen [] firsts x h (inl w) = inl (w, h)
  again seen [] firsts x h (inr w) = absurd w.1
  again seen (z ∷ xs) firsts x (inl h) (inl w) = inl (h.0, again seen xs firsts x h.1 (inl w))
  again seen (z ∷ xs) firsts x (inl h) (inr w) =
      elim w.1 [
        | inl e ↦ inl (h.0, again seen xs firsts x h.1 (inl (h.0.0, h.0.1, w.2 ∙ ap (root roots) e ∙ h.0.2)))
        | inr j ↦ inl (h.0, again seen xs firsts x h.1 (inr (w.0, j, w.2)))
      ]
  again seen (z ∷ xs) firsts x (inr h) (inl w) = inr (h.0, (h.1.0, h.1.1, again (z ∷ seen) xs h.1.0 x h.1.2 (inl (w.0, inr w.1, w.2))))
  again seen (z ∷ xs) firsts x (inr h) (inr w) =
      elim w.1 [
        | inl e ↦ inr (h.0, (h.1.0, h.1.1, again (z ∷ seen) xs h.1.0 x h.1.2 (inl (w.0, inl e, w.2))))
        | inr j ↦ inr (h.0, (h.1.0, h.1.1, again (z ∷ seen) xs h.1.0 x h.1.2 (inr (w.0, j, w.2))))
      ]

  fresh : (seen xs firsts : List ℕ) (x : ℕ) → AreFirstOnes roots seen xs firsts → ((y : ℕ) → IsAmong seen y → root roots x ≡ root roots y → ⊥)
      → ((y : ℕ) → IsAmong xs y → root roots x ≡ root roots y → ⊥) → AreFirstOnes roots seen (xs ++ x ∷ []) (firsts ++ x ∷ [])
  fresh seen [] firsts x h a b = inr (a, ([], ap (λ z. z ++ x ∷ []) h, refl))
  fresh seen (z ∷ xs) firsts x (inl h) a b = inl (h.0, fresh seen xs firsts x h.1 a (λ y i. b y (inr i)))
  fresh seen (z ∷ xs) firsts x (inr h) a b =
      inr (h.0, (h.1.0 ++ x ∷ [], ap (λ w. w ++ x ∷ []) h.1.1, fresh (z ∷ seen) xs h.1.0 x h.1.2 (λ y i. elim i [ inl e ↦ b y (inl e) | inr j ↦ a y j ]) (λ y i. b y (inr i))))

  pub firsts-again : (xs firsts : List ℕ) (x : ℕ) (table : List Bool) → AreFirstOnes roots [] xs firsts → AreMarked roots xs table → get_or table (root roots x) false ≡ true
      → AreFirstOnes roots [] (xs ++ x ∷ []) firsts
  firsts-again xs firsts x table h are e = let g = are.only (root roots x) e in again [] xs firsts x h (inr (g.0, g.1, sym g.2))

  pub firsts-new : (xs firsts : List ℕ) (x : ℕ) (table : List Bool) → AreFirstOnes roots [] xs firsts → AreMarked roots xs table → get_or table (root roots x) false ≡ false
      → AreFirstOnes roots [] (xs ++ x ∷ []) (firsts ++ x ∷ [])
  firsts-new xs firsts x table h are e =
      fresh [] xs firsts x h (λ y i. absurd i) (λ y i p. false≢true (sym e ∙ ap (λ k. get_or table k false) p ∙ are.all y i))

  -- VALUES

  pub no_mark_more : {A : Type 0} (f : A → List ℕ) (table : List Bool) (xs : List A) (i : ℕ) (d : A) → i < length xs → (HasMarked roots table (gathered f (take i xs)) → ⊥)
      → (HasMarked roots table (f (get_or xs i d)) → ⊥) → HasMarked roots table (gathered f (take (i + 1) xs)) → ⊥
  no_mark_more f table xs i d h none here m =
      elim (IsAmong-append (gathered f (take i xs)) (f (get_or xs i d)) m.0 (subst (λ z. IsAmong z m.0) (gathered-more f xs i d h) m.1)) [
        | inl j ↦ none (m.0, j, m.2)
        | inr j ↦ here (m.0, j, m.2)
      ]

  pub mark_found : {A : Type 0} (f : A → List ℕ) (table : List Bool) (xs : List A) (i : ℕ) (d : A) → i < length xs → HasMarked roots table (f (get_or xs i d)) → HasMarked roots table (gathered f xs)
  mark_found f table xs i d h m = (m.0, IsAmong-gathered f xs (get_or xs i d) m.0 (IsAmong-get_or xs i d h) m.1, m.2)

  pub mark_within : (table : List Bool) (xs ys zs : List ℕ) → HasMarked roots table ys → HasMarked roots table (xs ++ ys ++ zs)
  mark_within table xs ys zs m = (m.0, IsAmong-append_left (xs ++ ys) zs m.0 (IsAmong-append_right xs ys m.0 m.1), m.2)

  -- a variable that is met, be it the first of its class or not
  pub firsts-step : (standing nodes nodes2 : List ℕ) (stands stands2 : List Bool) (i d : ℕ) → i < length standing → root roots (get_or standing i d) < length stands
      → AreFirstOnes roots [] (take i standing) nodes → AreMarked roots (take i standing) stands
      → (get_or stands (root roots (get_or standing i d)) false ≡ true → (nodes2 ≡ nodes) × (stands2 ≡ stands))
      → (get_or stands (root roots (get_or standing i d)) false ≡ false → (nodes2 ≡ nodes ++ get_or standing i d ∷ []) × (stands2 ≡ set stands (root roots (get_or standing i d)) true))
      → AreFirstOnes roots [] (take (i + 1) standing) nodes2 × AreMarked roots (take (i + 1) standing) stands2
  firsts-step standing nodes nodes2 stands stands2 i d h l firsts marks again first =
      by (get_or stands (root roots (get_or standing i d)) false) refl
    where
      by : (b : Bool) → get_or stands (root roots (get_or standing i d)) false ≡ b → AreFirstOnes roots [] (take (i + 1) standing) nodes2 × AreMarked roots (take (i + 1) standing) stands2
      by true e =
          let r = again e in (
            subst (λ xs. AreFirstOnes roots [] xs nodes2) (sym (take_more standing i d h)) (subst (λ ns. AreFirstOnes roots [] (take i standing ++ get_or standing i d ∷ []) ns) (sym r.0) (firsts-again (take i standing) nodes (get_or standing i d) stands firsts marks e)),
            subst (λ xs. AreMarked roots xs stands2) (sym (take_more standing i d h)) (subst (λ ss. AreMarked roots (take i standing ++ get_or standing i d ∷ []) ss) (sym r.1) (AreMarked-again (take i standing) (get_or standing i d) stands e marks)),
          )
      by false e =
          let r = first e in (
            subst (λ xs. AreFirstOnes roots [] xs nodes2) (sym (take_more standing i d h)) (subst (λ ns. AreFirstOnes roots [] (take i standing ++ get_or standing i d ∷ []) ns) (sym r.0) (firsts-new (take i standing) nodes (get_or standing i d) stands firsts marks e)),
            subst (λ xs. AreMarked roots xs stands2) (sym (take_more standing i d h)) (subst (λ ss. AreMarked roots (take i standing ++ get_or standing i d ∷ []) ss) (sym r.1) (AreMarked-set (take i standing) (get_or standing i d) stands l marks)),
          )

  -- the colours of a fact are those of variables with a root
  pub painted_below : InRange roots → (facts : List Fact) → Each (IsBelow (length roots)) facts → (i : ℕ) (d : Fact) → i < length facts → Each (λ (p : ℕ × Colour). root roots p.0 < length roots) (colours_in (get_or facts i d))
  painted_below range facts below i d h =
      Each-weaker (λ (p : ℕ × Colour). p.0 < length roots) (λ (p : ℕ × Colour). root roots p.0 < length roots) (λ p l. range p.0 l) (colours_in (get_or facts i d))
      (colour_below (length roots) (get_or facts i d) (Each-at (IsBelow (length roots)) facts (get_or facts i d) below (IsAmong-get_or facts i d h)))

  -- PARTS OF A COLOUR

  module _ (colours : List (Option Colour)) (c : Colour) where
    pub IsShownPart-none : IsShownPart roots colours c [] []
    IsShownPart-none = record { order = refl; only = tt; whole = λ x i e. i }

    pub IsShownPart-push : (xs part : List ℕ) (x : ℕ) → shown roots colours x ≡ c → IsShownPart roots colours c xs part → IsShownPart roots colours c (xs ++ x ∷ []) (part ++ x ∷ [])
    IsShownPart-push xs part x e h = record {
      order = IsSublist-push part xs x h.order;
      only = Each-push (λ x. shown roots colours x ≡ c) part x h.only e;
      whole = λ y i g. elim (IsAmong-one_more xs x y i) [ inl j ↦ IsAmong-append_left part (x ∷ []) y (h.whole y j g) | inr p ↦ subst (λ z. IsAmong (part ++ x ∷ []) z) (sym p) (IsAmong-new_one part x) ];
    }

    pub IsShownPart-skip : (xs part : List ℕ) (x : ℕ) → (shown roots colours x ≡ c → ⊥) → IsShownPart roots colours c xs part → IsShownPart roots colours c (xs ++ x ∷ []) part
    IsShownPart-skip xs part x d h = record {
      order = IsSublist-skip part xs x h.order;
      only = h.only;
      whole = λ y i g. elim (IsAmong-one_more xs x y i) [ inl j ↦ h.whole y j g | inr p ↦ absurd (d (subst (λ z. shown roots colours z ≡ c) p g)) ];
    }

    -- a variable that is taken if it shows the colour
    pub shown-step : (firsts old nodes new : List ℕ) (i d : ℕ) → i < length firsts
        → (part : List ℕ) × (nodes ≡ old ++ part) × IsShownPart roots colours c (take i firsts) part
        → (shown roots colours (get_or firsts i d) ≡ c → new ≡ nodes ++ get_or firsts i d ∷ [])
        → ((shown roots colours (get_or firsts i d) ≡ c → ⊥) → new ≡ nodes)
        → (part : List ℕ) × (new ≡ old ++ part) × IsShownPart roots colours c (take (i + 1) firsts) part
    shown-step firsts old nodes new i d h so_far taken left =
        elim (same_colour (shown roots colours (get_or firsts i d)) c) [
          | inl e ↦ (
            so_far.0 ++ get_or firsts i d ∷ [],
            taken e ∙ ap (λ z. z ++ get_or firsts i d ∷ []) so_far.1 ∙ append_assoc old so_far.0 (get_or firsts i d ∷ []),
            subst (λ xs. IsShownPart roots colours c xs (so_far.0 ++ get_or firsts i d ∷ [])) (sym (take_more firsts i d h)) (IsShownPart-push (take i firsts) so_far.0 (get_or firsts i d) e so_far.2),
          )
          | inr n ↦ (
            so_far.0,
            left n ∙ so_far.1,
            subst (λ xs. IsShownPart roots colours c xs so_far.0) (sym (take_more firsts i d h)) (IsShownPart-skip (take i firsts) so_far.0 (get_or firsts i d) n so_far.2),
          )
        ]

  -- PLACES

  -- a place of the root of each of the nodes told
  abbrev pub AreStanding : List ℕ → List ℕ → List ℕ → Type 0
  AreStanding nodes places xs = (x : ℕ) → IsAmong xs x → StandsAt roots nodes (get_or places (root roots x) 0) (root roots x)

  pub place_more : (nodes places : List ℕ) (i d : ℕ) → i < length nodes → root roots (get_or nodes i d) < length places → AreStanding nodes places (take i nodes)
      → AreStanding nodes (set places (root roots (get_or nodes i d)) i) (take (i + 1) nodes)
  place_more nodes places i d h l stand x j =
      let y = get_or nodes i d in
      let new = set places (root roots y) i in
      elim (same_or_other (root roots x) (root roots y)) [
        | inl e ↦ subst (λ k. StandsAt roots nodes k (root roots x)) (sym (ap (λ k. get_or (set places (root roots (get_or nodes i d)) i) k 0) e ∙ get_or-set_same places (root roots (get_or nodes i d)) i 0 l))
            (get_or nodes i d, slice_get-get_or nodes i d h, sym e)
        | inr n ↦ elim (IsAmong-one_more (take i nodes) (get_or nodes i d) x (subst (λ z. IsAmong z x) (take_more nodes i d h) j)) [
          | inl k ↦ subst (λ m. StandsAt roots nodes m (root roots x)) (sym (get_or-set_other places (root roots (get_or nodes i d)) (root roots x) i 0 n)) (stand x k)
          | inr e ↦ absurd (n (ap (root roots) e))
        ]
      ]
