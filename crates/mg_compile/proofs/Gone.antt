-- What each answer of an expander does to what was found.
use Rattle.std.specs.Prelude.{◌≡◌, ℕ, zero, suc, ◌+◌, ◌<◌, ◌≤◌, List, [], length, sum, Bool, true, false, Some, ◌⊎◌, slice_get}
use Rattle.std.proofs.Common.{inl, inr, refl, sym, ap, ◌∙◌, subst, arith}
use Rattle.std.proofs.lemmas.Option.{slice_get_within, same_Some}
use Rattle.gr_base.specs.Lists.{IsAmong, Each, IsWithin}
use Rattle.gr_base.proofs.ListLemmas.{Each-at, Each-members, IsAmong-map, IsAmong-map_from, IsAmong-slice_get}
use Rattle.gr_base.proofs.Numbers.{before_or_at}
use Rattle.gr_terms.specs.declared.Sym.{Sym}
use Rattle.mg_syntax.specs.declared.item.Item.{Item}
use Rattle.td_canon.specs.CanonicalTexts.{text_in}
use Rattle.td_canon.specs.TreeSets.{Entry, texts_of}
use Rattle.td_desc.specs.declared.Description as code
use Rattle.td_desc.specs.Descriptions.{Description, description_of}
use Rattle.td_solver.specs.Solutions.{IsSolution, IsSolutionText, GainsSome}
use Rattle.td_solver.proofs.Texts.{solution_text}
use Rattle.mg_facts.specs.declared.variable.Variable.{Variable}
use Rattle.mg_facts.specs.Said.{Slot}
use Rattle.mg_facts.specs.Meanings.{Clashes, IsDescriptionOf}
use Rattle.mg_expand.specs.Walks.{Walk, IsExpansion, AreExpansions}
use Rattle.mg_expand.specs.Items.{expansion_said}
use Rattle.mg_expand.specs.Steps.{IsTooLarge}
use Rattle.mg_compile.specs.declared.found.Found.{Found}
use Rattle.mg_compile.specs.declared.refusal.CompileRefusal.TheVariants as refusal
use Rattle.mg_compile.specs.Compiled.{Describes, IsCompiledTree, IsExpansionTotal, IsTextWithin, IsFaultless}
use Rattle.mg_compile.specs.Taking.{Paid, LacksUnits, FoundAll, FoundSome, WasSearched, Searched, Passed}
use Rattle.mg_compile.specs.Going.{HasTextsOf, IsUncut, IsCut, IsListed, HasGone}
use Rattle.mg_compile.proofs.Zipped.{zip_last}
use Rattle.mg_compile.proofs.Carried.{AreOneDescription, clash_counts, describes, only_one, as_many, counts, text_down, solution_up}

-- FAULTS

pub clash_faultless : (m : List Item) (c : Sym) (w : Walk) → (IsTooLarge m w → ⊥) → Clashes (expansion_said m w) → IsFaultless m c w
clash_faultless m c w small bad (refusal.TooLarge k) f = small f.1
clash_faultless m c w small bad (refusal.TooManyNodes k) f = f.2.1.0 bad
clash_faultless m c w small bad refusal.Memory f = f

pub small_faultless : AreOneDescription → (m : List Item) (c : Sym) (w : Walk) (d : code.Description) → (IsTooLarge m w → ⊥) → (clear : Clashes (expansion_said m w) → ⊥)
    → IsDescriptionOf (expansion_said m w) d → length d.nodes ≤ 24 → IsFaultless m c w
small_faultless one m c w d small clear is few (refusal.TooLarge k) f = small f.1
small_faultless one m c w d small clear is few (refusal.TooManyNodes k) f =
    let many : 24 < length is.described.nodes = subst (λ (e : Description Variable Slot). 24 < length e.nodes) (only_one one m w d clear is f.2.0 f.2.1) f.2.2 in
    let e : length is.described.nodes ≡ length d.nodes = as_many one m w d clear is in
    omega arith
small_faultless one m c w d small clear is few refusal.Memory f = f

-- ONE MORE EXPANSION

cut_none : (texts : List (List ℕ)) (m : List Item) (budget : ℕ) (ws : List Walk) (k : ℕ) (f : Found) (left : ℕ) (b : Bool)
    → IsListed b texts m budget ws k f → f.left.left ≡ suc left → (b ≡ false) × IsUncut texts m budget ws k f
cut_none texts m budget ws k f left false l e = (refl, l)
cut_none texts m budget ws k f left true l e = let z : f.left.left ≡ 0 = l.none in absurd (none f.left.left left z e)
  where
    none : (x y : ℕ) → x ≡ 0 → x ≡ suc y → ⊥
    none x y h g = omega arith

module _ (texts : List (List ℕ)) (m : List Item) (c : Sym) (budget : ℕ) (ws : List Walk) (k : ℕ) (w : Walk) (at : slice_get ws k ≡ Some w) (old new : Found)
    (g : HasGone texts m c budget ws k old) (faultless : IsFaultless m c w) where
  more_faultless : (n : ℕ) (v : Walk) → n < suc k → slice_get ws n ≡ Some v → IsFaultless m c v
  more_faultless n v l e = elim (before_or_at n k l) [
    | inl b ↦ g.faultless n v b e
    | inr q ↦ subst (λ z. IsFaultless m c z) (same_Some w v (sym at ∙ (ap (slice_get ws) (sym q) ∙ e))) faultless
  ]

  -- what held of the texts before holds where the new expansion has its own
  more_texts : HasTextsOf texts m ws k old.trees → IsWithin (texts_of old.trees) (texts_of new.trees)
      → ((d : Description Variable Slot) (bytes : List ℕ) → Describes m w d → IsSolutionText (text_in texts) d bytes → IsAmong (texts_of new.trees) bytes)
      → HasTextsOf texts m ws (suc k) new.trees
  more_texts before kept here n v d bytes l e h s = elim (before_or_at n k l) [
    | inl b ↦ kept bytes (before n v d bytes b e h s)
    | inr q ↦ here d bytes (subst (λ z. Describes m z d) (same_Some v w (sym e ∙ (ap (slice_get ws) q ∙ at))) h) s
  ]

  long : k < length ws
  long = slice_get_within ws k w at

  abbrev AreWithin : List Entry → Type 0
  AreWithin es = Each (IsTextWithin (text_in texts) m c budget) (texts_of es)

  -- where none is left, the list is cut here, or was before
  cut_now : (b : Bool) → IsListed b texts m budget ws k old → LacksUnits old new → IsCut texts m budget ws new
  cut_now true l x = record {
    paid = l.paid;
    left_out = l.left_out;
    all = subst (λ (es : List Entry). HasTextsOf texts m ws l.paid es) (sym x.trees) l.all;
    past = l.past;
    none = x.left;
  }
  cut_now false l x = record {
    paid = k;
    left_out = long;
    all = subst (λ (es : List Entry). HasTextsOf texts m ws k es) (sym x.trees) l.all;
    past = λ totals z.
        let r = zip_last (IsExpansionTotal m) ws k w totals at z in
        let p : budget ≡ old.left.left + k + sum r.0.before = l.paid r.0.before r.0.zipped in
        let q : sum totals ≡ sum r.0.before + r.0.here = r.1 in
        let n : old.left.left ≡ 0 = x.none in
        omega arith;
    none = x.left;
  }

  lacking : LacksUnits old new → HasGone texts m c budget ws (suc k) new
  lacking x = record {
    only = subst (λ (es : List Entry). Each (IsCompiledTree texts m c) es) (sym x.trees) g.only;
    within = subst AreWithin (sym x.trees) g.within;
    faultless = more_faultless;
    listed = subst (λ b. IsListed b texts m budget ws (suc k) new) (sym x.cut) (cut_now old.cut g.listed x);
  }

  passing : Clashes (expansion_said m w) → Paid old new → HasGone texts m c budget ws (suc k) new
  passing bad x =
      let u = cut_none texts m budget ws k old new.left.left old.cut g.listed x.left in
      record {
        only = subst (λ (es : List Entry). Each (IsCompiledTree texts m c) es) (sym x.trees) g.only;
        within = subst AreWithin (sym x.trees) g.within;
        faultless = more_faultless;
        listed = subst (λ b. IsListed b texts m budget ws (suc k) new) (sym (x.cut ∙ u.0)) (record {
          all = more_texts u.1.all (λ bytes i. subst (λ (es : List Entry). IsAmong (texts_of es) bytes) (sym x.trees) i) (λ d bytes h s. absurd (h.0 bad));
          paid = λ totals z.
              let r = zip_last (IsExpansionTotal m) ws k w totals at z in
              let p : budget ≡ old.left.left + k + sum r.0.before = u.1.paid r.0.before r.0.zipped in
              let q : sum totals ≡ sum r.0.before + r.0.here = r.1 in
              let n : r.0.here ≡ 0 = clash_counts m w r.0.here bad r.0.is in
              let l : old.left.left ≡ suc new.left.left = x.left in
              omega arith;
          within = let p : old.left.left + k ≤ budget = u.1.within in let l : old.left.left ≡ suc new.left.left = x.left in omega arith;
        });
      }

  pub passed : Clashes (expansion_said m w) → Passed old new → HasGone texts m c budget ws (suc k) new
  passed bad (inl x) = passing bad x
  passed bad (inr x) = lacking x

  module _ (one : AreOneDescription) (all : AreExpansions m c ws) (d : code.Description) (clear : Clashes (expansion_said m w) → ⊥) (is : IsDescriptionOf (expansion_said m w) d) where
    expansion : IsExpansion m c w
    expansion = Each-at (IsExpansion m c) ws w all.all.only (IsAmong-slice_get ws k w at)

    compiled : (e : Entry) → IsSolution texts (description_of d) e → IsCompiledTree texts m c e
    compiled e s = (w, is.described, expansion, describes one m w d clear is, solution_up one m w d clear is texts e s)

    more_only : GainsSome texts (description_of d) old.trees new.trees → Each (IsCompiledTree texts m c) new.trees
    more_only s = Each-members (IsCompiledTree texts m c) new.trees (λ e i. elim (s.only e i) [ inl j ↦ Each-at (IsCompiledTree texts m c) old.trees e g.only j | inr j ↦ compiled e j ])

    module _ (left : ℕ) (unit : old.left.left ≡ suc left) (u : IsUncut texts m budget ws k old) where
      -- the expansion is reached by the budget
      within : (e : Entry) → IsSolution texts (description_of d) e → IsTextWithin (text_in texts) m c budget e.text
      within e s = record {
        walks = ws;
        place = k;
        walk = w;
        expansions = all;
        within = let p : old.left.left + k ≤ budget = u.within in omega (arith, unit);
        reached = λ steps f.
            let p : budget ≡ old.left.left + k + sum f.totals = u.paid f.totals f.counted in
            let q : steps ≡ k + sum f.totals = f.sum in
            omega (arith, unit);
        here = at;
        is_text = (is.described, describes one m w d clear is, solution_text texts is.described e (solution_up one m w d clear is texts e s));
      }

      more_within : GainsSome texts (description_of d) old.trees new.trees → AreWithin new.trees
      more_within s = Each-members (IsTextWithin (text_in texts) m c budget) (texts_of new.trees) (λ bytes i.
          let r = IsAmong-map_from (λ (e : Entry). e.text) new.trees bytes i in
          subst (λ z. IsTextWithin (text_in texts) m c budget z) (sym r.2) (elim (s.only r.0 r.1) [
            | inl j ↦ Each-at (IsTextWithin (text_in texts) m c budget) (texts_of old.trees) r.0.text g.within (IsAmong-map (λ (e : Entry). e.text) old.trees r.0 j)
            | inr j ↦ within r.0 j
          ]))

      -- what was there before has its texts on
      texts_kept : GainsSome texts (description_of d) old.trees new.trees → HasTextsOf texts m ws k new.trees
      texts_kept s n v e bytes l h is_described t =
          let r = IsAmong-map_from (λ (x : Entry). x.text) old.trees bytes (u.all n v e bytes l h is_described t) in
          subst (λ z. IsAmong (texts_of new.trees) z) (sym r.2) (IsAmong-map (λ (x : Entry). x.text) new.trees r.0 (s.kept r.0 r.1))

      found_all : FoundAll texts d old new left → IsUncut texts m budget ws (suc k) new
      found_all x = record {
        all = more_texts u.all (λ bytes i. (x.all bytes).1 (inl i)) (λ e bytes h s. (x.all bytes).1 (inr (text_down one m w d clear is (text_in texts) bytes e h s)));
        paid = λ totals z.
            let r = zip_last (IsExpansionTotal m) ws k w totals at z in
            let p : budget ≡ old.left.left + k + sum r.0.before = u.paid r.0.before r.0.zipped in
            let q : sum totals ≡ sum r.0.before + r.0.here = r.1 in
            let n : left ≡ new.left.left + r.0.here = x.spent r.0.here (counts one m w d clear is r.0.here r.0.is) in
            omega (arith, unit);
        within = let p : old.left.left + k ≤ budget = u.within in let f : new.left.left ≤ left = x.falls in omega (arith, unit);
      }

      found_some : GainsSome texts (description_of d) old.trees new.trees → FoundSome d new left → IsCut texts m budget ws new
      found_some s x = record {
        paid = k;
        left_out = long;
        all = texts_kept s;
        past = λ totals z.
            let r = zip_last (IsExpansionTotal m) ws k w totals at z in
            let p : budget ≡ old.left.left + k + sum r.0.before = u.paid r.0.before r.0.zipped in
            let q : sum totals ≡ sum r.0.before + r.0.here = r.1 in
            let n : left < r.0.here = x.more r.0.here (counts one m w d clear is r.0.here r.0.is) in
            omega (arith, unit);
        none = x.none;
      }

    searching : WasSearched texts d old new → HasGone texts m c budget ws (suc k) new
    searching x =
        let u = cut_none texts m budget ws k old x.left old.cut g.listed x.paid in
        record {
          only = more_only x.some;
          within = more_within x.left x.paid u.1 x.some;
          faultless = more_faultless;
          listed = elim x.search [
            | inl y ↦ subst (λ b. IsListed b texts m budget ws (suc k) new) (sym (y.cut ∙ u.0)) (found_all x.left x.paid u.1 y)
            | inr y ↦ subst (λ b. IsListed b texts m budget ws (suc k) new) (sym y.cut) (found_some x.left x.paid u.1 x.some y)
          ];
        }

    pub searched : Searched texts d old new → HasGone texts m c budget ws (suc k) new
    searched (inl x) = searching x
    searched (inr x) = lacking x
