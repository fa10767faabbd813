-- From the first answer of an expander to the last one.
use Rattle.std.specs.Prelude.{◌≡◌, ℕ, suc, ◌+◌, ◌<◌, ◌≤◌, List, [], ◌∷◌, length, sum, take, Bool, true, false, Some, ◌⊎◌, slice_get}
use Rattle.std.specs.List.{AllZip}
use Rattle.std.proofs.Common.{inl, inr, refl, sym, ap, ◌∙◌, subst, arith}
use Rattle.std.proofs.lemmas.Option.{slice_get_within}
use Rattle.std.proofs.lemmas.Bool.{false≢true}
use Rattle.gr_base.specs.Lists.{Each, gathered}
use Rattle.gr_base.proofs.ListLemmas.{Each-at, IsAmong-slice_get, slice_get-IsAmong}
use Rattle.gr_terms.specs.declared.Sym.{Sym}
use Rattle.mg_syntax.specs.declared.item.Item.{Item}
use Rattle.td_canon.specs.CanonicalTexts.{text_in}
use Rattle.td_canon.specs.TreeSets.{Entry, IsWhole, texts_of}
use Rattle.td_solver.proofs.Texts.{solution_text}
use Rattle.mg_facts.specs.Meanings.{names_in}
use Rattle.mg_syntax.specs.Names.{HasTexts}
use Rattle.mg_expand.specs.declared.step.Step.{Step}
use Rattle.mg_expand.specs.declared.step.Step.TheVariants as step
use Rattle.mg_expand.specs.Progress.{Progress}
use Rattle.mg_expand.specs.Steps.{Steps, Answers, AnswersIf, Gives, Tells, is_too_large}
use Rattle.mg_expand.specs.Walks.{Walk, IsExpansion, AreExpansions}
use Rattle.mg_expand.specs.Items.{expansion_said}
use Rattle.mg_expand.proofs.WalkLemmas.{one_list}
use Rattle.mg_compile.specs.declared.found.Found.{Found}
use Rattle.mg_compile.specs.declared.refusal.CompileRefusal.{CompileRefusal}
use Rattle.mg_compile.specs.declared.refusal.CompileRefusal.TheVariants as refusal
use Rattle.mg_compile.specs.Compiled.{IsCompiledText, IsCompiledTree, IsExpansionTotal, IsTextWithin, IsRightList, IsFaultOf, IsClassFault}
use Rattle.mg_compile.specs.Taking.{Took, Refuses, IsFit}
use Rattle.mg_compile.specs.Going.{IsCut, IsListed, HasGone, IsOnWay}
use Rattle.gr_base.proofs.Deciding.{decided_less}
use Rattle.mg_compile.proofs.Zipped.{zip_less, zip_whole}
use Rattle.mg_compile.proofs.Carried.{AreOneDescription, describes, as_many}
use Rattle.mg_compile.proofs.Naming.{expansion_named}
use Rattle.mg_compile.proofs.Fitting.{description_fits}
use Rattle.mg_compile.proofs.Gone.{clash_faultless, small_faultless, passed, searched}

module _ (texts : List (List ℕ)) (m : List Item) (c : Sym) (budget : ℕ) (ws : List Walk) (all : AreExpansions m c ws) where
  compiled_texts : (trees : List Entry) → Each (IsCompiledTree texts m c) trees → Each (IsCompiledText (text_in texts) m c) (texts_of trees)
  compiled_texts [] h = tt
  compiled_texts (e ∷ es) h = ((h.0.0, h.0.1, h.0.2, h.0.3, solution_text texts h.0.1 e h.0.4), compiled_texts es h.1)

  -- an expansion that the budget pays for is among those that were paid
  paid_place : (f : Found) (l : IsCut texts m budget ws f) (place : ℕ) (totals : List ℕ) → AllZip (IsExpansionTotal m) (take (suc place) ws) totals → suc place + sum totals ≤ budget → place < l.paid
  paid_place f l place totals z most = elim (decided_less place l.paid) [
    | inl h ↦ h
    | inr h ↦
        let r = zip_less (IsExpansionTotal m) ws (suc l.paid) (suc place) totals (later place l.paid h) z in
        let p : budget < suc l.paid + sum r.0 = l.past r.0 r.1 in
        let q : sum r.0 ≤ sum totals = r.2 in
        let n : suc l.paid ≤ suc place = later place l.paid h in
        absurd (omega (arith, most))
  ]
    where
      later : (i j : ℕ) → (i < j → ⊥) → suc j ≤ suc i
      later i j h = omega (arith, h)

  -- behind the last expansion the list is the right one, cut or not
  right_of : (k : ℕ) (f : Found) (b : Bool) → IsWhole texts f.trees → 0 < length ws → k ≤ budget → HasGone texts m c budget ws k f
      → IsListed b texts m budget ws k f → (b ≡ false → k ≡ length ws) → IsRightList (text_in texts) m c budget (texts_of f.trees) b
  right_of k f false whole some within g l ends =
      let e : k ≡ length ws = ends refl in
      record {
        whole = record {
          order = whole.is_set.order;
          all = λ bytes. (
            (λ i. Each-at (IsCompiledText (text_in texts) m c) (texts_of f.trees) bytes (compiled_texts f.trees g.only) i),
            (λ x.
                let r = slice_get-IsAmong ws x.0 (all.all.all x.0 x.2) in
                let n : r.0 < length ws = slice_get_within ws r.0 x.0 r.1 in
                l.all r.0 x.0 x.1 bytes (omega arith) r.1 x.3 x.4),
          );
        };
        some = omega arith;
        enough = λ steps s.
            let q : s.walks ≡ ws = one_list m c s.walks ws s.expansions all in
            let zipped = zip_whole (IsExpansionTotal m) ws s.totals (subst (λ vs. AllZip (IsExpansionTotal m) vs s.totals) q s.counted) in
            let p : budget ≡ f.left.left + k + sum s.totals = l.paid s.totals (subst (λ n. AllZip (IsExpansionTotal m) (take n ws) s.totals) (sym e) zipped) in
            let n : length s.walks ≡ length ws = ap length q in
            omega (arith, s.sum);
      }
  right_of k f true whole some within g l ends = record {
    order = whole.is_set.order;
    all = λ bytes x.
        let e : x.walks ≡ ws = one_list m c x.walks ws x.expansions all in
        let here : slice_get ws x.place ≡ Some x.walk = subst (λ vs. slice_get vs x.place ≡ Some x.walk) e x.here in
        let zipped = subst (λ vs. AllZip (IsExpansionTotal m) (take (suc x.place) vs) x.counted.totals) e x.counted.counted in
        l.all x.place x.walk x.is_text.0 bytes (paid_place f l x.place x.counted.totals zipped (let q : x.steps ≡ suc x.place + sum x.counted.totals = x.counted.sum in omega (arith, x.most))) here x.is_text.1 x.is_text.2;
    only = g.within;
    past = λ steps s.
        let e : s.walks ≡ ws = one_list m c s.walks ws s.expansions all in
        let zipped = zip_whole (IsExpansionTotal m) ws s.totals (subst (λ vs. AllZip (IsExpansionTotal m) vs s.totals) e s.counted) in
        let r = zip_less (IsExpansionTotal m) ws (suc l.paid) (length ws) s.totals l.left_out zipped in
        let p : budget < suc l.paid + sum r.0 = l.past r.0 r.1 in
        let q : length s.walks ≡ length ws = ap length e in
        let n : sum r.0 ≤ sum s.totals = r.2 in
        let o : l.paid < length ws = l.left_out in
        omega (arith, s.sum);
  }

  none_faulty : (k : ℕ) (f : Found) → HasGone texts m c budget ws k f → (k ≡ length ws) ⊎ (k ≡ budget) → (e : CompileRefusal) → IsClassFault m c budget e → ⊥
  none_faulty k f g ends e x =
      let at : slice_get ws x.place ≡ Some x.walk = subst (λ vs. slice_get vs x.place ≡ Some x.walk) (one_list m c x.walks ws x.expansions all) x.here in
      let n : x.place < length ws = slice_get_within ws x.place x.walk at in
      let b : x.place < budget = x.within in
      g.faultless x.place x.walk (elim ends [ inl z ↦ omega arith | inr z ↦ omega arith ]) at e x.fault

  fault_here : (k : ℕ) (w : Walk) (f : Found) (e : CompileRefusal) → slice_get ws k ≡ Some w → k < budget → HasGone texts m c budget ws k f → IsFaultOf m c w e → IsClassFault m c budget e
  fault_here k w f e at within g x = record { walks = ws; place = k; walk = w; expansions = all; within = within; here = at; fault = x; before = g.faultless }

  -- where another expansion is left and none may be looked at, the list is cut
  cut_here : (k : ℕ) (f : Found) (b : Bool) → k < length ws → k ≡ budget → IsListed b texts m budget ws k f → IsCut texts m budget ws f
  cut_here k f true long e l = l
  cut_here k f false long e l = record {
    paid = k;
    left_out = long;
    all = l.all;
    past = λ totals z. omega (arith, e);
    none = let p : f.left.left + k ≤ budget = l.within in omega (arith, e);
  }

-- before the first expansion
pub starts : (texts : List (List ℕ)) (m : List Item) (c : Sym) (budget : ℕ) (p : Progress) (f : Found)
    → p ≡ record { metagrammar = m; class = c; given = 0; too_large = false; failed = false } → IsWhole texts f.trees → f.trees ≡ [] → f.left.left ≡ budget → f.cut ≡ false
    → IsOnWay texts m c budget p budget f
starts texts m c budget p f e whole none left uncut = record {
  metagrammar = ap (λ (z : Progress). z.metagrammar) e;
  class = ap (λ (z : Progress). z.class) e;
  too_large = ap (λ (z : Progress). z.too_large) e;
  looked = let g : p.given ≡ 0 = given in omega arith;
  whole = whole;
  gone = λ ws all. subst (λ k. HasGone texts m c budget ws k f) (sym given) (record {
    only = subst (λ (es : List Entry). Each (IsCompiledTree texts m c) es) (sym none) tt;
    within = subst (λ (es : List Entry). Each (IsTextWithin (text_in texts) m c budget) (texts_of es)) (sym none) tt;
    faultless = λ n w l h. absurd (no_less n l);
    listed = subst (λ b. IsListed b texts m budget ws 0 f) (sym uncut) (record {
      all = λ n w d bytes l h k s. absurd (no_less n l);
      paid = λ totals z. paid ws totals z;
      within = omega (arith, left);
    });
  });
}
  where
    given : p.given ≡ 0
    given = ap (λ (z : Progress). z.given) e

    no_less : (n : ℕ) → n < 0 → ⊥
    no_less n l = omega arith

    paid : (ws : List Walk) (totals : List ℕ) → AllZip (IsExpansionTotal m) (take 0 ws) totals → budget ≡ f.left.left + 0 + sum totals
    paid ws [] z = omega (arith, left)
    paid ws (t ∷ ts) z = absurd z

module _ (one : AreOneDescription) (texts : List (List ℕ)) (m : List Item) (c : Sym) (budget : ℕ) (p q : Progress) (looks looks_over : ℕ) (old : Found) (h : IsOnWay texts m c budget p looks old) where
  abbrev AreAnswers : Step → Type 0
  AreAnswers s = (ws : List Walk) → AreExpansions p.metagrammar p.class ws → Steps ws p q looks looks_over s

  module _ (s : Step) (steps : AreAnswers s) where
    pub answers : (ws : List Walk) → AreExpansions m c ws → Answers ws p q looks looks_over s
    answers ws all =
        let there : AreExpansions p.metagrammar p.class ws =
        subst (λ x. AreExpansions x p.class ws) (sym h.metagrammar) (subst (λ x. AreExpansions m x ws) (sym h.class) all) in
        subst (λ b. AnswersIf b ws p q looks looks_over s) h.too_large (steps ws there).1

  -- an expansion was given: one look less is left
  module _ (s : Step) (ws : List Walk) (all : AreExpansions m c ws) (x : Gives ws p q looks looks_over s) where
    pub fewer : looks_over < looks
    fewer = let e : looks ≡ suc looks_over = x.spent in omega arith

    pub told : Tells m x.walk s
    told = subst (λ z. Tells z x.walk s) h.metagrammar x.tells

    pub room : p.given < budget
    room = let e : looks ≡ suc looks_over = x.spent in let f : looks + p.given ≡ budget = h.looked in omega arith

    given : q.given ≡ suc p.given
    given = ap (λ (z : Progress). z.given) x.after

    pub further : (new : Found) → IsWhole texts new.trees → is_too_large s ≡ false
        → ((vs : List Walk) → AreExpansions m c vs → HasGone texts m c budget vs (suc p.given) new) → IsOnWay texts m c budget q looks_over new
    further new whole small gone = record {
      metagrammar = ap (λ (z : Progress). z.metagrammar) x.after ∙ h.metagrammar;
      class = ap (λ (z : Progress). z.class) x.after ∙ h.class;
      too_large = ap (λ (z : Progress). z.too_large) x.after ∙ small;
      looked = let e : looks ≡ suc looks_over = x.spent in let f : looks + p.given ≡ budget = h.looked in let g : q.given ≡ suc p.given = given in omega arith;
      whole = whole;
      gone = λ vs them. subst (λ k. HasGone texts m c budget vs k new) (sym given) (gone vs them);
    }

    -- of any list of all expansions
    module _ (vs : List Walk) (them : AreExpansions m c vs) where
      pub at_there : slice_get vs p.given ≡ Some x.walk
      at_there = subst (λ z. slice_get z p.given ≡ Some x.walk) (one_list m c ws vs all them) x.next

  -- what a description says has the names of the metagrammar
  pub fits : HasTexts texts m → (s : Step) → AreAnswers s → (ws : List Walk) → AreExpansions m c ws → IsFit (length texts) s
  fits known (step.Description d) steps ws all =
      let s = step.Description d in
      let x = answers s steps ws all in
      let is = told s ws all x in
      let e : IsExpansion m c x.walk = Each-at (IsExpansion m c) ws x.walk all.all.only (IsAmong-slice_get ws p.given x.walk x.next) in
      (is.2.numbered, description_fits (length texts) d (gathered names_in (expansion_said m x.walk)) is.2.names (expansion_named (length texts) m known c x.walk e))
  fits known step.Clash steps ws all = tt
  fits known step.TooLarge steps ws all = tt
  fits known step.End steps ws all = tt
  fits known step.Cut steps ws all = tt

  -- the walk goes on
  pub goes_on : (s : Step) (new : Found) (more : Bool) → AreAnswers s → (ws : List Walk) → AreExpansions m c ws → IsWhole texts new.trees → Took texts s old new more → more ≡ true
      → IsOnWay texts m c budget q looks_over new × (looks_over < looks)
  goes_on (step.Description d) new more steps ws all whole t is_more =
      let s = step.Description d in
      let x = answers s steps ws all in
      let is = told s ws all x in (
        further s ws all x new whole refl (λ vs them.
            searched texts m c budget vs p.given x.walk (at_there s ws all x vs them) old new (h.gone vs them) (small_faultless one m c x.walk d is.0 is.1 is.2 t.1) one them d is.1 is.2 t.2),
        fewer s ws all x,
      )
  goes_on step.Clash new more steps ws all whole t is_more =
      let s = step.Clash in
      let x = answers s steps ws all in
      let is = told s ws all x in (
        further s ws all x new whole refl (λ vs them.
            passed texts m c budget vs p.given x.walk (at_there s ws all x vs them) old new (h.gone vs them) (clash_faultless m c x.walk is.0 is.1) is.1 t.1),
        fewer s ws all x,
      )
  goes_on step.TooLarge new more steps ws all whole t is_more = absurd t
  goes_on step.End new more steps ws all whole t is_more = absurd (false≢true (sym t.0 ∙ is_more))
  goes_on step.Cut new more steps ws all whole t is_more = absurd (false≢true (sym t.0 ∙ is_more))

  -- a refusal is the class's fault
  refuses : (s : Step) (e : CompileRefusal) → AreAnswers s → (ws : List Walk) → AreExpansions m c ws → Refuses c s e → IsClassFault m c budget e
  refuses (step.Description d) e steps ws all r =
      let s = step.Description d in
      let x = answers s steps ws all in
      let is = told s ws all x in
      subst (λ z. IsClassFault m c budget z) (sym r.0)
      (fault_here texts m c budget ws all p.given x.walk old (refusal.TooManyNodes c) x.next (room s ws all x) (h.gone ws all)
      (refl, is.0, (is.2.described, describes one m x.walk d is.1 is.2, (let n : length is.2.described.nodes ≡ length d.nodes = as_many one m x.walk d is.1 is.2 in omega (arith, r.1)))))
  refuses step.Clash e steps ws all r = absurd r
  refuses step.TooLarge e steps ws all r =
      let s = step.TooLarge in
      let x = answers s steps ws all in
      subst (λ z. IsClassFault m c budget z) (sym r)
      (fault_here texts m c budget ws all p.given x.walk old (refusal.TooLarge c) x.next (room s ws all x) (h.gone ws all) (refl, told s ws all x))
  refuses step.End e steps ws all r = absurd r
  refuses step.Cut e steps ws all r = absurd r

  pub fails : (s : Step) (e : CompileRefusal) → AreAnswers s → (ws : List Walk) → AreExpansions m c ws → (e ≡ refusal.Memory) ⊎ Refuses c s e → (e ≡ refusal.Memory) ⊎ IsClassFault m c budget e
  fails s e steps ws all (inl x) = inl x
  fails s e steps ws all (inr x) = inr (refuses s e steps ws all x)

  within : p.given ≤ budget
  within = let f : looks + p.given ≡ budget = h.looked in omega arith

  -- what is handed out at the end
  pub record IsDone (new : Found) : Type 0 where
    pub list : IsRightList (text_in texts) m c budget (texts_of new.trees) new.cut
    pub trees : Each (IsCompiledTree texts m c) new.trees
    pub faultless : (e : CompileRefusal) → IsClassFault m c budget e → ⊥

  at_end : (ws : List Walk) → AreExpansions m c ws → 0 < length ws → p.given ≡ length ws → IsDone old
  at_end ws all some e = record {
    list = right_of texts m c budget ws all p.given old old.cut h.whole some within (h.gone ws all) ((h.gone ws all).listed) (λ z. e);
    trees = (h.gone ws all).only;
    faultless = none_faulty texts m c budget ws all p.given old (h.gone ws all) (inl e);
  }

  abbrev cut_found : Found
  cut_found = record old { cut = true }

  at_cut : (ws : List Walk) → AreExpansions m c ws → 0 < length ws → p.given < length ws → looks ≡ 0 → IsDone cut_found
  at_cut ws all some long none =
      let e : p.given ≡ budget = (let f : looks + p.given ≡ budget = h.looked in omega arith) in
      let g = h.gone ws all in
      let cut : IsCut texts m budget ws cut_found =
      (let x = cut_here texts m c budget ws all p.given old old.cut long e g.listed in record { paid = x.paid; left_out = x.left_out; all = x.all; past = x.past; none = x.none }) in
      let now : HasGone texts m c budget ws p.given cut_found = record { only = g.only; within = g.within; faultless = g.faultless; listed = cut } in
      record {
        list = right_of texts m c budget ws all p.given cut_found true h.whole some within now cut (λ z. absurd (false≢true (sym z)));
        trees = g.only;
        faultless = none_faulty texts m c budget ws all p.given old g (inr e);
      }

  pub done : (s : Step) (new : Found) (more : Bool) → AreAnswers s → (ws : List Walk) → AreExpansions m c ws → 0 < length ws → Took texts s old new more → more ≡ false → IsDone new
  done (step.Description d) new more steps ws all some t is_last = absurd (false≢true (sym is_last ∙ t.0))
  done step.Clash new more steps ws all some t is_last = absurd (false≢true (sym is_last ∙ t.0))
  done step.TooLarge new more steps ws all some t is_last = absurd t
  done step.End new more steps ws all some t is_last =
      let x = answers step.End steps ws all in
      subst (λ (f : Found). IsDone f) (sym t.1) (at_end ws all some x.0)
  done step.Cut new more steps ws all some t is_last =
      let x = answers step.Cut steps ws all in
      subst (λ (f : Found). IsDone f) (sym t.1) (at_cut ws all some x.0 x.1)
