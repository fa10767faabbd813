-- Where an expander stands, and what it answers.
use Rattle.std.specs.Prelude.{◌≡◌, ℕ, suc, ◌+◌, ◌<◌, ◌≤◌, List, [], ◌∷◌, ◌++◌, map, length, take, Bool, true, false, Some, slice_get, refl}
use Rattle.std.proofs.Common.{ap, sym, ◌∙◌, subst, arith, append_assoc}
use Rattle.std.proofs.lemmas.List.{length-append, length-take-le, length-map, append-nil}
use Rattle.std.proofs.lemmas.Bool.{true≢false}
use Rattle.gr_base.proofs.ListLemmas.{same_head, same_tail, cons-not_nil}
use Rattle.gr_terms.specs.declared.Sym.{Sym}
use Rattle.mg_syntax.specs.declared.item.Class.{Class}
use Rattle.mg_syntax.specs.declared.item.Item.{Item}
use Rattle.mg_scope.specs.Classes.{class_of}
use Rattle.mg_scope.specs.Faults.{IsScoped}
use Rattle.mg_facts.specs.Said.{Said}
use Rattle.mg_facts.specs.Meanings.{Clashes, IsDescriptionOf}
use Rattle.mg_expand.specs.declared.errand.Errand.{Errand}
use Rattle.mg_expand.specs.declared.errand.Fork.{Fork}
use Rattle.mg_expand.specs.declared.step.Step.{Step}
use Rattle.mg_expand.specs.declared.step.Step.TheVariants as step
use Rattle.mg_expand.specs.declared.walker.Walker.{Walker}
use Rattle.mg_expand.specs.Walks.{Walk, tasks_of, AreExpansions}
use Rattle.mg_expand.specs.Routes.{Outcome, outcome, dues, LeadsOn}
use Rattle.mg_expand.specs.Errands.{work_tasks, dues_from, AreLinked, Forking, no_fork, a_fork, Leads}
use Rattle.mg_expand.specs.Progress.{Progress}
use Rattle.mg_expand.specs.Steps.{Tells, is_too_large, Answers, AnswersIf, Steps, Fails}
use Rattle.mg_expand.specs.Ways.{Stands, IsNext, Gave, Underway, IsUnderway}
use Rattle.td_desc.specs.declared.Description as code
use Rattle.mg_expand.specs.Walkers.{Goes, Ends}
use Rattle.mg_expand.proofs.WalkerLemmas.{Is, leads-is}
use Rattle.mg_expand.proofs.WalkLemmas.{one_list}
use Rattle.mg_expand.proofs.FiniteLemmas.{expansions_exist, expansions_are_led_to}
use Rattle.mg_expand.proofs.ErrandLemmas.{last_same, no_last, AreLinked-take, LeadsOn-first_outcome}

-- LISTS

-- what stands at a place of the list of images
image_at : {A B : Type 0} (f : A → B) (xs : List A) (before : List B) (y : B) (later : List B) → map f xs ≡ before ++ y ∷ later
    → (x : A) × (slice_get xs (length before) ≡ Some x) × (f x ≡ y)
image_at f [] [] y later e = absurd (cons-not_nil y later (sym e))
image_at f (x ∷ xs) [] y later e = (x, refl, same_head (f x) y (map f xs) later e)
image_at f [] (z ∷ before) y later e = absurd (cons-not_nil z (before ++ y ∷ later) (sym e))
image_at f (x ∷ xs) (z ∷ before) y later e = image_at f xs before y later (same_tail (f x) z (map f xs) (before ++ y ∷ later) e)

-- FORKS

module _ (m : List Item) where
  -- the last fork leads on with what was kept and said there
  pub Leads-fork : (kept : List Errand) (said : List Said) (all before : List Fork) (f : Fork) (outs : List Outcome) → AreLinked kept
      → all ≡ before ++ f ∷ [] → Forking m kept said all outs
      → Leads m (take f.kept kept) (take f.said said) before f.items f.errand.here (work_tasks f.errand.work) f.errand.behind outs
  Leads-fork _ _ _ before f _ linked split (no_fork kept said) = absurd (no_last before f split)
  Leads-fork _ _ _ before f _ linked split (a_fork kept said front all g first later outs last whole low few limit behind leads rest) =
      subst (λ z. Leads m (take z.kept kept) (take z.said said) before z.items z.errand.here (work_tasks z.errand.work) z.errand.behind outs) same.1
      (subst (λ z. Leads m (take g.kept kept) (take g.said said) z g.items g.errand.here (work_tasks g.errand.work) g.errand.behind outs) same.0
      (record {
        linked = AreLinked-take g.kept kept linked;
        behind = subst (λ k. g.errand.behind ≤ k) (sym (length-take-le g.kept kept low)) behind;
        few = limit;
        first = first;
        later = later;
        leads = leads;
        forking = rest;
        whole = whole;
      }))
    where
      same : (front ≡ before) × (g ≡ f)
      same = last_same front before g f (sym last ∙ split)

  pub fork-bounds : (kept : List Errand) (said : List Said) (all before : List Fork) (f : Fork) (outs : List Outcome)
      → all ≡ before ++ f ∷ [] → Forking m kept said all outs → (f.kept ≤ length kept) × (f.said ≤ length said)
  fork-bounds _ _ _ before f _ split (no_fork kept said) = absurd (no_last before f split)
  fork-bounds _ _ _ before f _ split (a_fork kept said front all g first later outs last whole low few limit behind leads rest) =
      let same = last_same front before g f (sym last ∙ split) in
      subst (λ z. (z.kept ≤ length kept) × (z.said ≤ length said)) same.1 (low, few)

  pub Forking-none : (kept : List Errand) (said : List Said) (all : List Fork) (outs : List Outcome) → all ≡ [] → Forking m kept said all outs → outs ≡ []
  Forking-none _ _ _ _ none (no_fork kept said) = refl
  Forking-none _ _ _ _ none (a_fork kept said front all g first later outs last whole low few limit behind leads rest) =
      absurd (no_last front g (sym none ∙ last))

  nothing_in : (xs : List Fork) → xs ≡ [] → 0 < length xs → ⊥
  nothing_in xs e h = let p : length xs ≡ 0 = ap length e in omega arith

  -- where a fork is left, there is a next outcome
  pub Forking-some : (kept : List Errand) (said : List Said) (all : List Fork) (outs : List Outcome) → 0 < length all → Forking m kept said all outs
      → (o : Outcome) × (later : List Outcome) × (outs ≡ o ∷ later)
  Forking-some _ _ _ _ some (no_fork kept said) = absurd (nothing_in [] refl some)
  Forking-some _ _ _ _ some (a_fork kept said front all g first later outs last whole low few limit behind leads rest) =
      let r = LeadsOn-first_outcome m (dues_from (take g.kept kept) g.errand.here (work_tasks g.errand.work) g.errand.behind) g.items (take g.said said) first leads in
      (r.0, r.1 ++ later, whole ∙ ap (λ z. z ++ later) r.2)

  -- BETWEEN TWO EXPANSIONS

  pub all-given : (c : Sym) (given : ℕ) (w : Walker) (ws : List Walk) → Underway m c given w → w.forks.items ≡ [] → AreExpansions m c ws → given ≡ length ws
  all-given c given w ws u none h =
      let no_outs : u.outs ≡ [] = Forking-none w.kept.items w.facts w.forks.items u.outs none u.stands.forking in
      sym u.count ∙ ap length (sym (u.all ws h ∙ ap (λ z. u.before ++ z) no_outs ∙ append-nil u.before)) ∙ length-map ws (outcome m)

  pub one-left : (c : Sym) (given : ℕ) (w : Walker) (ws : List Walk) → Underway m c given w → 0 < length w.forks.items → AreExpansions m c ws → given < length ws
  one-left c given w ws u some h =
      let r = Forking-some w.kept.items w.facts w.forks.items u.outs some u.stands.forking in
      let e : length (map (outcome m) ws) ≡ length (u.before ++ r.0 ∷ r.1) = ap length (u.all ws h ∙ ap (λ z. u.before ++ z) r.2) in
      let p : length (u.before ++ r.0 ∷ r.1) ≡ length u.before + length (r.0 ∷ r.1) = length-append u.before (r.0 ∷ r.1) in
      more (length ws) (length u.before) given (length r.1) (sym (length-map ws (outcome m)) ∙ e ∙ p) u.count
    where
      more : (a b g n : ℕ) → a ≡ b + suc n → b ≡ g → g < a
      more a b g n p q = omega arith

  -- the next expansion, and what is told of it
  pub given-next : (c : Sym) (given : ℕ) (w : Walker) (ws : List Walk) (u : Underway m c given w) (o : Outcome) (later : List Outcome)
      → u.outs ≡ o ∷ later → AreExpansions m c ws → (walk : Walk) × (slice_get ws given ≡ Some walk) × (outcome m walk ≡ o)
  given-next c given w ws u o later e h =
      let r = image_at (outcome m) ws u.before o later (u.all ws h ∙ ap (λ z. u.before ++ z) e) in
      (r.0, subst (λ k. slice_get ws k ≡ Some r.0) u.count r.1, r.2)

  pub told-next : (c : Sym) (given : ℕ) (old new : Walker) (ws : List Walk) (s : Step) (u : Underway m c given old) → Gave m new u.outs s → AreExpansions m c ws
      → (walk : Walk) × (slice_get ws given ≡ Some walk) × Tells m walk s
  told-next c given old new ws (step.Description d) u g h =
      let r = given-next c given old ws u g.0 g.1.later g.1.whole h in
      (r.0, r.1, subst (λ (o : Outcome). (4096 < o.weight → ⊥) × (Clashes o.said → ⊥) × IsDescriptionOf o.said d) (sym r.2) (g.2, g.3, g.4))
  told-next c given old new ws step.Clash u g h =
      let r = given-next c given old ws u g.0 g.1.later g.1.whole h in
      (r.0, r.1, subst (λ (o : Outcome). (4096 < o.weight → ⊥) × Clashes o.said) (sym r.2) (g.2, g.3))
  told-next c given old new ws step.TooLarge u g h =
      let r = given-next c given old ws u g.0 g.1 g.2 h in
      (r.0, r.1, subst (λ (o : Outcome). 4096 < o.weight) (sym r.2) g.3)
  told-next c given old new ws step.End u g h = absurd g
  told-next c given old new ws step.Cut u g h = absurd g

  underway-later : (c : Sym) (given : ℕ) (old new : Walker) (u : Underway m c given old) (o : Outcome) → IsNext m new u.outs o → Underway m c (suc given) new
  underway-later c given old new u o next = record {
    before = u.before ++ o ∷ [];
    outs = next.later;
    stands = next.stands;
    count = length-append u.before (o ∷ []) ∙ one_more (length u.before) given u.count;
    all = λ ws h. u.all ws h ∙ ap (λ z. u.before ++ z) next.whole ∙ sym (append_assoc u.before (o ∷ []) next.later);
  }
    where
      one_more : (a b : ℕ) → a ≡ b → a + 1 ≡ suc b
      one_more a b e = omega arith

  pub underway-next : (c : Sym) (given : ℕ) (old new : Walker) (s : Step) (u : Underway m c given old) → Gave m new u.outs s → (failed : Bool)
      → IsUnderway m c (suc given) (is_too_large s) failed new
  underway-next c given old new (step.Description d) u g failed = λ p q. underway-later c given old new u g.0 g.1
  underway-next c given old new step.Clash u g failed = λ p q. underway-later c given old new u g.0 g.1
  underway-next c given old new step.TooLarge u g failed = λ p q. absurd (different p)
    where
      different : true ≡ false → ⊥
      different e = cc
  underway-next c given old new step.End u g failed = absurd g
  underway-next c given old new step.Cut u g failed = absurd g

  -- BEFORE THE FIRST ONE

  -- a class that is there has an expansion
  pub one_expansion : (c : Sym) (k : Class) (ws : List Walk) → IsScoped m → class_of m c ≡ Some k → AreExpansions m c ws → 0 < length ws
  one_expansion c k ws scoped at h =
      let r = LeadsOn-first_outcome m (dues 0 (tasks_of k)) 1 [] (map (outcome m) ws) (expansions_are_led_to m c k scoped at ws h) in
      let e : length ws ≡ suc (length r.1) = sym (length-map ws (outcome m)) ∙ ap length r.2 in
      omega arith

  pub underway-first : (c : Sym) (k : Class) (w : Walker) (f : Fork) → IsScoped m → class_of m c ≡ Some k
      → w.kept.items ≡ [] → w.facts ≡ [] → w.forks.items ≡ f ∷ [] → f.kept ≡ 0 → f.said ≡ 0 → f.items ≡ 1
      → f.errand.here ≡ 0 → work_tasks f.errand.work ≡ tasks_of k → f.errand.behind ≡ 0 → Underway m c 0 w
  underway-first c k w f scoped at kept said forks as_kept as_said as_counted here tasks behind = record {
    before = [];
    outs = map (outcome m) all.0;
    stands = record {
      linked = subst (λ z. AreLinked z) (sym kept) nothing_kept;
      forking = subst (λ z. Forking m z w.facts w.forks.items (map (outcome m) all.0)) (sym kept) (subst (λ z. Forking m [] z w.forks.items (map (outcome m) all.0)) (sym said) one_fork);
    };
    count = refl;
    all = λ ws h. ap (map (outcome m)) (one_list m c ws all.0 h all.1);
  }
    where
      all : (ws : List Walk) × AreExpansions m c ws
      all = expansions_exist m c k scoped at

      nothing_kept : AreLinked []
      nothing_kept n e p = absurd (no_item n e p)
        where
          no_item : (i : ℕ) (x : Errand) → slice_get [] i ≡ Some x → ⊥
          no_item i x q = cc

      leads : LeadsOn m (dues_from [] 0 (tasks_of k) 0) 1 [] (map (outcome m) all.0)
      leads = subst (λ z. LeadsOn m z 1 [] (map (outcome m) all.0)) (sym (append-nil (dues 0 (tasks_of k)))) (expansions_are_led_to m c k scoped at all.0 all.1)

      from_fork : LeadsOn m (dues_from (take f.kept []) f.errand.here (work_tasks f.errand.work) f.errand.behind) f.items (take f.said []) (map (outcome m) all.0)
      from_fork =
          subst (λ z. LeadsOn m (dues_from (take z []) f.errand.here (work_tasks f.errand.work) f.errand.behind) f.items (take f.said []) (map (outcome m) all.0)) (sym as_kept)
          (subst (λ z. LeadsOn m (dues_from [] z (work_tasks f.errand.work) f.errand.behind) f.items (take f.said []) (map (outcome m) all.0)) (sym here)
          (subst (λ z. LeadsOn m (dues_from [] 0 z f.errand.behind) f.items (take f.said []) (map (outcome m) all.0)) (sym tasks)
          (subst (λ z. LeadsOn m (dues_from [] 0 (tasks_of k) z) f.items (take f.said []) (map (outcome m) all.0)) (sym behind)
          (subst (λ z. LeadsOn m (dues_from [] 0 (tasks_of k) 0) z (take f.said []) (map (outcome m) all.0)) (sym as_counted)
          (subst (λ z. LeadsOn m (dues_from [] 0 (tasks_of k) 0) 1 (take z []) (map (outcome m) all.0)) (sym as_said) leads)))))

      one_fork : Forking m [] [] w.forks.items (map (outcome m) all.0)
      one_fork = a_fork [] [] [] w.forks.items f (map (outcome m) all.0) [] (map (outcome m) all.0) forks (sym (append-nil (map (outcome m) all.0)))
          (subst (λ z. z ≤ 0) (sym as_kept) (zero_low 0)) (subst (λ z. z ≤ 0) (sym as_said) (zero_low 0)) (subst (λ z. z ≤ 4096) (sym as_counted) one_few)
          (subst (λ z. z ≤ f.kept) (sym behind) (zero_low f.kept)) from_fork no_more
        where
          zero_low : (a : ℕ) → 0 ≤ a
          zero_low a = omega arith

          one_few : 1 ≤ 4096
          one_few = omega arith

          no_more : Forking m (take f.kept []) (take f.said []) [] []
          no_more = no_fork (take f.kept []) (take f.said [])

-- FROM A FORK TO AN END

-- what is left where the last fork is taken leads to all that the forks lead to
pub goes-fork : (m : List Item) (old w : Walker) (before : List Fork) (f : Fork) (outs : List Outcome) → Stands m old outs → old.forks.items ≡ before ++ f ∷ []
    → Is w (take f.kept old.kept.items) (take f.said old.facts) before f.items → Goes m w f.errand outs
goes-fork m old w before f outs stands split is =
    leads-is m w (take f.kept old.kept.items) (take f.said old.facts) before f.items f.errand.here (work_tasks f.errand.work) f.errand.behind outs is
    (Leads-fork m old.kept.items old.facts old.forks.items before f outs stands.linked split stands.forking)

within_limit : (n : ℕ) → n ≤ 4096 → 4096 < n → ⊥
within_limit n p q = omega arith

pub gave-description : (m : List Item) (w : Walker) (outs : List Outcome) (d : code.Description) → Ends m w true outs → (Clashes w.facts → ⊥) → IsDescriptionOf w.facts d
    → Gave m w outs (step.Description d)
gave-description m w outs d end clear described =
    (record { said = w.facts; weight = w.items }, record { later = end.0; whole = end.3; stands = record { linked = end.1; forking = end.2 } }, within_limit w.items end.4, clear, described)

pub gave-clash : (m : List Item) (w : Walker) (outs : List Outcome) → Ends m w true outs → Clashes w.facts → Gave m w outs step.Clash
gave-clash m w outs end clashes =
    (record { said = w.facts; weight = w.items }, record { later = end.0; whole = end.3; stands = record { linked = end.1; forking = end.2 } }, within_limit w.items end.4, clashes)

-- ANSWERS

pub failed-underway : (m : List Item) (c : Sym) (given : ℕ) (too_large : Bool) (w : Walker) → IsUnderway m c given too_large true w
failed-underway m c given too_large w = λ p q. absurd (true≢false q)

-- after want of memory
pub fails-again : (p : Progress) (left : ℕ) → p.failed ≡ true → Fails p p left left
fails-again p left e = (ap (λ b. record p { failed = b }) e, same left)
  where
    same : (k : ℕ) → k ≤ k
    same k = omega arith

pub fails-now : (old new : Progress) (left left_over : ℕ) → left ≡ suc left_over → new ≡ record old { failed = true } → Fails old new left left_over
fails-now old new left left_over spent e = (e, less left left_over spent)
  where
    less : (a b : ℕ) → a ≡ suc b → b ≤ a
    less a b h = omega arith

pub answer-too_large : (ws : List Walk) (p : Progress) (left : ℕ) → p.failed ≡ false → p.too_large ≡ true → Steps ws p p left left step.TooLarge
answer-too_large ws p left whole large = (whole, subst (λ b. AnswersIf b ws p p left left step.TooLarge) (sym large) (refl, refl, refl))

pub answer-end : (ws : List Walk) (p : Progress) (left : ℕ) → p.failed ≡ false → p.too_large ≡ false → p.given ≡ length ws → Steps ws p p left left step.End
answer-end ws p left whole small all = (whole, subst (λ b. AnswersIf b ws p p left left step.End) (sym small) (all, refl, refl))

pub answer-cut : (ws : List Walk) (p : Progress) (left left_over : ℕ) → p.failed ≡ false → p.too_large ≡ false → p.given < length ws → left ≡ 0 → left_over ≡ left
    → Steps ws p p left left_over step.Cut
answer-cut ws p left left_over whole small some none same = (whole, subst (λ b. AnswersIf b ws p p left left_over step.Cut) (sym small) (some, none, same, refl))

pub answer-next : (ws : List Walk) (old new : Progress) (left left_over : ℕ) (s : Step) → old.failed ≡ false → old.too_large ≡ false
    → (walk : Walk) → slice_get ws old.given ≡ Some walk → Tells old.metagrammar walk s → left ≡ suc left_over
    → new ≡ record old { given = suc old.given; too_large = is_too_large s } → Steps ws old new left left_over s
answer-next ws old new left left_over s whole small walk next tells spent after =
    (whole, subst (λ b. AnswersIf b ws old new left left_over s) (sym small) (by s tells after))
  where
    by : (t : Step) → Tells old.metagrammar walk t → new ≡ record old { given = suc old.given; too_large = is_too_large t } → Answers ws old new left left_over t
    by (step.Description d) told e = record { walk = walk; next = next; tells = told; spent = spent; after = e }
    by step.Clash told e = record { walk = walk; next = next; tells = told; spent = spent; after = e }
    by step.TooLarge told e = record { walk = walk; next = next; tells = told; spent = spent; after = e }
    by step.End told e = absurd told
    by step.Cut told e = absurd told
