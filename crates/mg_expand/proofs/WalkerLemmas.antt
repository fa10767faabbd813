-- What the parts of a step make of a walker.
use Rattle.std.specs.Prelude.{◌≡◌, ℕ, zero, suc, ◌+◌, ◌-◌, ◌<◌, ◌≤◌, List, [], ◌∷◌, ◌++◌, map, length, Some, None, slice_get, refl}
use Rattle.std.proofs.Common.{ap, ap₂, sym, ◌∙◌, subst, arith, inl}
use Rattle.std.proofs.lemmas.List.{append-nil, nil_from_length}
use Rattle.gr_terms.specs.declared.Sym.{Sym}
use Rattle.mg_syntax.specs.declared.body.Statement.{Statement, out-Statement, out-roll-Statement}
use Rattle.mg_syntax.specs.declared.body.Statement.TheVariants as rolled
use Rattle.mg_syntax.specs.declared.body.Statement.TheOpen as statement
use Rattle.mg_syntax.specs.declared.body.Statement.TheOpen.{Statement-F}
use Rattle.mg_syntax.specs.declared.item.Class.{Class}
use Rattle.mg_syntax.specs.declared.item.Item.{Item}
use Rattle.mg_scope.specs.Classes.{class_of, exports_in, exports_of, firsts}
use Rattle.mg_scope.specs.Faults.{IsThere}
use Rattle.mg_facts.specs.Said.{Said}
use Rattle.mg_deeds.specs.Deeds.{Deed, deed_in, deed_of}
use Rattle.mg_deeds.specs.Weights.{deed_weight, weight_if, statement_weight}
use Rattle.mg_deeds.specs.Sayings.{deed_said, said_if, statement_said, import_said, dot_said}
use Rattle.mg_expand.specs.declared.errand.Errand.{Errand}
use Rattle.mg_expand.specs.declared.errand.Fork.{Fork}
use Rattle.mg_expand.specs.declared.errand.Next.{Next}
use Rattle.mg_expand.specs.declared.errand.Next.TheVariants.{On, Done, TooLarge}
use Rattle.mg_expand.specs.declared.walker.Walker.{Walker}
use Rattle.mg_expand.specs.Walks.{How, imported, called, bound_to, Task, a_call, a_choice, a_deed, task_in, task_of}
use Rattle.mg_expand.specs.Items.{call_weight, call_said}
use Rattle.mg_expand.specs.Routes.{Outcome}
use Rattle.mg_expand.specs.Errands.{work_tasks, dues_from, Leads, steps_left}
use Rattle.mg_expand.specs.Walkers.{LeadsFrom, Goes, CanGo, left_of, left_for, Stepped, Chose, Keeps, Enters}
use Rattle.mg_expand.proofs.ErrandLemmas.{LeadsOn-call}
use Rattle.mg_expand.proofs.StepLemmas.{IsFork, Leads-deed, nearer-deed, over-deed, Leads-call, nearer-call, over-call, Leads-none, Leads-last, Leads-first, nearer-choice, nearer-alternative, Leads-group, nearer-group, Leads-back, nearer-back, Leads-end}

-- TASKS

-- the tasks of a group and of calls
pub group_task : (b : List (List Statement)) → task_of (rolled.Group b) ≡ a_choice b
group_task b = ap task_in (ap out-Statement (sym (rolled.rolls-Group b)) ∙ out-roll-Statement (statement.Group b))

pub call_task : (c : Sym) → task_of (rolled.Call c) ≡ a_call called c
call_task c = ap task_in (ap out-Statement (sym (rolled.rolls-Call c)) ∙ out-roll-Statement (statement.Call c))

pub bind_task : (x c : Sym) → task_of (rolled.Bind x c) ≡ a_call (bound_to x) c
bind_task x c = ap task_in (ap out-Statement (sym (rolled.rolls-Bind x c)) ∙ out-roll-Statement (statement.Bind x c))

-- the task of a statement that is a deed
pub deed_task : (s : Statement) (d : Deed) → deed_of s ≡ Some d → task_of s ≡ a_deed d
deed_task s d e = by (out-Statement s) e
  where
    no_deed : None ≡ Some d → ⊥
    no_deed p = cc

    same : (x : Deed) → Some x ≡ Some d → a_deed x ≡ a_deed d
    same x p = cc

    by : (f : Statement-F Statement) → deed_in f ≡ Some d → task_in f ≡ a_deed d
    by (statement.Group b) p = absurd (no_deed p)
    by (statement.Call c) p = absurd (no_deed p)
    by (statement.Bind x c) p = absurd (no_deed p)
    by (statement.Equation r t) p = same _ p
    by (statement.Syn items) p = same _ p
    by (statement.Sem literals) p = same _ p
    by (statement.Iface bag) p = same _ p

-- what is not at most b is above it
above : (a b : ℕ) → (a ≤ b → ⊥) → b < a
above zero b p = absurd (p (omega arith))
above (suc a) zero p = omega arith
above (suc a) (suc b) p = let h : b < a = above a b (λ h. p (omega (arith, h))) in omega arith

-- A STEP OF THE SAME TASKS

pub stepped-same : (m : List Item) (old new : Walker) (here : ℕ) (ts us : List Task) (next : ℕ) (n : Next) → us ≡ ts
    → Stepped m old here ts next new n → Stepped m old here us next new n
stepped-same m old new here ts us next n e h = subst (λ z. Stepped m old here z next new n) (sym e) h

-- all that a walker has but the names
pub record Is (w : Walker) (kept : List Errand) (said : List Said) (forks : List Fork) (items : ℕ) : Type 0 where
  pub as_kept : w.kept.items ≡ kept
  pub as_said : w.facts ≡ said
  pub as_forks : w.forks.items ≡ forks
  pub as_items : w.items ≡ items

module _ (m : List Item) where
  pub leads-is : (w : Walker) (kept : List Errand) (said : List Said) (forks : List Fork) (items here : ℕ) (ts : List Task) (next : ℕ) (outs : List Outcome)
      → Is w kept said forks items → Leads m kept said forks items here ts next outs → LeadsFrom m w here ts next outs
  leads-is w kept said forks items here ts next outs is h =
      subst (λ z. Leads m z w.facts w.forks.items w.items here ts next outs) (sym is.as_kept)
      (subst (λ z. Leads m kept z w.forks.items w.items here ts next outs) (sym is.as_said)
      (subst (λ z. Leads m kept said z w.items here ts next outs) (sym is.as_forks)
      (subst (λ z. Leads m kept said forks z here ts next outs) (sym is.as_items) h)))

  left-is : (w : Walker) (kept : List Errand) (said : List Said) (forks : List Fork) (items : ℕ) (ts : List Task) (next : ℕ)
      → Is w kept said forks items → steps_left m kept items ts next ≡ left_of m w ts next
  left-is w kept said forks items ts next is = sym (ap₂ (λ a b. steps_left m a b ts next) is.as_kept is.as_items)

  -- DEEDS

  pub stepped-deed : (old new : Walker) (then : Errand) (s : Statement) (d : Deed) (count : ℕ) → deed_of s ≡ Some d
      → count ≡ statement_weight s → old.items ≤ 4096 → statement_weight s ≤ 4096 - old.items
      → Is new old.kept.items (old.facts ++ statement_said then.here old.items s) old.forks.items (old.items + count)
      → Stepped m old then.here (a_deed d ∷ work_tasks then.work) then.behind new (On then)
  stepped-deed old new then s d count e counted limit few is = λ outs h. (
    leads-is new old.kept.items (old.facts ++ deed_said then.here old.items d) old.forks.items (old.items + deed_weight d) then.here (work_tasks then.work) then.behind outs is2
        (Leads-deed m old.kept.items old.facts old.forks.items old.items then.here d (work_tasks then.work) then.behind outs within h),
    subst (λ z. z < left_of m old (a_deed d ∷ work_tasks then.work) then.behind)
        (left-is new old.kept.items (old.facts ++ deed_said then.here old.items d) old.forks.items (old.items + deed_weight d) (work_tasks then.work) then.behind is2)
        (nearer-deed m old.kept.items old.items (deed_weight d) d (work_tasks then.work) then.behind),
  )
    where
      weight_is : statement_weight s ≡ deed_weight d
      weight_is = ap weight_if e

      within : old.items + deed_weight d ≤ 4096
      within = omega (arith, weight_is, few, limit)

      is2 : Is new old.kept.items (old.facts ++ deed_said then.here old.items d) old.forks.items (old.items + deed_weight d)
      is2 = record {
        as_kept = is.as_kept;
        as_said = is.as_said ∙ ap (λ o. old.facts ++ said_if then.here old.items o) e;
        as_forks = is.as_forks;
        as_items = is.as_items ∙ ap (λ k. old.items + k) (counted ∙ weight_is);
      }

  pub stepped-deed_over : (old new : Walker) (then : Errand) (s : Statement) (d : Deed) → deed_of s ≡ Some d
      → old.items ≤ 4096 → (statement_weight s ≤ 4096 - old.items → ⊥)
      → Stepped m old then.here (a_deed d ∷ work_tasks then.work) then.behind new TooLarge
  stepped-deed_over old new then s d e limit much = λ outs h.
      over-deed m old.kept.items old.facts old.forks.items old.items then.here d (work_tasks then.work) then.behind outs
      (beyond old.items (statement_weight s) (deed_weight d) (ap weight_if e) limit much) h
    where
      beyond : (a w v : ℕ) → w ≡ v → a ≤ 4096 → (w ≤ 4096 - a → ⊥) → 4096 < a + v
      beyond a w v p q r = let h : 4096 - a < w = above w (4096 - a) r in omega arith

  -- CALLS

  pub stepped-call : (old mid new : Walker) (then e : Errand) (how : How) (c : Sym) (k : Class) → class_of m c ≡ Some k
      → old.items + call_weight m how c ≤ 4096
      → Is mid old.kept.items (old.facts ++ call_said m how then.here old.items c) old.forks.items (old.items + call_weight m how c)
      → Enters mid new then old.items k e
      → Stepped m old then.here (a_call how c ∷ work_tasks then.work) then.behind new (On e)
  stepped-call old mid new then e how c k at few is enters = λ outs h. (
    leads-is new kept said old.forks.items items e.here (work_tasks e.work) e.behind outs is2
        (Leads-call m old.kept.items old.facts old.forks.items old.items then how c k enters.0 e outs at few number enters.2 h),
    subst (λ z. z < left_of m old (a_call how c ∷ work_tasks then.work) then.behind)
        (left-is new kept said old.forks.items items (work_tasks e.work) e.behind is2)
        (nearer-call m old.kept.items old.items then how c k old.items enters.0 e at h.few h.linked h.behind number enters.2),
  )
    where
      kept : List Errand
      kept = old.kept.items ++ then ∷ []

      said : List Said
      said = old.facts ++ call_said m how then.here old.items c

      items : ℕ
      items = old.items + call_weight m how c

      number : enters.0 ≡ suc (length old.kept.items)
      number = enters.1.number ∙ ap (λ z. suc (length z)) is.as_kept

      is2 : Is new kept said old.forks.items items
      is2 = record {
        as_kept = enters.1.kept ∙ ap (λ z. z ++ then ∷ []) is.as_kept;
        as_said = enters.1.facts ∙ is.as_said;
        as_forks = enters.1.forks ∙ is.as_forks;
        as_items = enters.1.items ∙ is.as_items;
      }

  pub stepped-call_over : (old new : Walker) (then : Errand) (how : How) (c : Sym) → 4096 < old.items + call_weight m how c
      → Stepped m old then.here (a_call how c ∷ work_tasks then.work) then.behind new TooLarge
  stepped-call_over old new then how c much = λ outs h.
      over-call m old.kept.items old.facts old.forks.items old.items then.here how c (work_tasks then.work) then.behind outs much h

  -- a plain call says nothing
  pub stepped-plain : (old mid new : Walker) (then e : Errand) (c : Sym) (k : Class) → class_of m c ≡ Some k → old.items < 4096
      → Is mid old.kept.items old.facts old.forks.items (old.items + 1) → Enters mid new then old.items k e
      → Stepped m old then.here (a_call called c ∷ work_tasks then.work) then.behind new (On e)
  stepped-plain old mid new then e c k at few is enters =
      stepped-call old mid new then e called c k at (one_more old.items few)
      (record { as_kept = is.as_kept; as_said = is.as_said ∙ sym (append-nil old.facts); as_forks = is.as_forks; as_items = is.as_items }) enters
    where
      one_more : (a : ℕ) → a < 4096 → a + 1 ≤ 4096
      one_more a p = omega arith

  -- what the class of the name exports
  exported : (c : Sym) (k : Class) → class_of m c ≡ Some k → exports_of m c ≡ k.exports
  exported c k at = ap exports_in at

  pub stepped-bound : (old mid new : Walker) (then e : Errand) (x c : Sym) (k : Class) (names : List Sym) → class_of m c ≡ Some k → old.items < 4096 → names ≡ firsts k.exports
      → Is mid old.kept.items (old.facts ++ map (dot_said x then.here old.items) names) old.forks.items (old.items + 1) → Enters mid new then old.items k e
      → Stepped m old then.here (a_call (bound_to x) c ∷ work_tasks then.work) then.behind new (On e)
  stepped-bound old mid new then e x c k names at few once is enters =
      stepped-call old mid new then e (bound_to x) c k at (one_more old.items few)
      (record {
        as_kept = is.as_kept;
        as_said = is.as_said ∙ ap (λ z. old.facts ++ map (dot_said x then.here old.items) z) (once ∙ ap firsts (sym (exported c k at)));
        as_forks = is.as_forks;
        as_items = is.as_items;
      }) enters
    where
      one_more : (a : ℕ) → a < 4096 → a + 1 ≤ 4096
      one_more a p = omega arith

  pub stepped-import : (old mid new : Walker) (then e : Errand) (c : Sym) (k : Class) (names : List Sym) → class_of m c ≡ Some k
      → old.items + 1 + length names ≤ 4096 → names ≡ firsts k.exports
      → Is mid old.kept.items (old.facts ++ map (import_said then.here old.items) names) old.forks.items (old.items + 1 + length names) → Enters mid new then old.items k e
      → Stepped m old then.here (a_call imported c ∷ work_tasks then.work) then.behind new (On e)
  stepped-import old mid new then e c k names at few once is enters =
      stepped-call old mid new then e imported c k at (subst (λ z. z ≤ 4096) counted few)
      (record {
        as_kept = is.as_kept;
        as_said = is.as_said ∙ ap (λ z. old.facts ++ map (import_said then.here old.items) z) same;
        as_forks = is.as_forks;
        as_items = is.as_items ∙ counted;
      }) enters
    where
      same : names ≡ firsts (exports_of m c)
      same = once ∙ ap firsts (sym (exported c k at))

      regrouped : (a b : ℕ) → a + 1 + b ≡ a + (1 + b)
      regrouped a b = omega arith

      counted : old.items + 1 + length names ≡ old.items + (1 + length (firsts (exports_of m c)))
      counted = regrouped old.items (length names) ∙ ap (λ z. old.items + (1 + length z)) same

  pub stepped-import_over : (old new : Walker) (then : Errand) (c : Sym) (k : Class) (names : List Sym) → class_of m c ≡ Some k
      → 4096 < old.items + 1 + length names → names ≡ firsts k.exports
      → Stepped m old then.here (a_call imported c ∷ work_tasks then.work) then.behind new TooLarge
  stepped-import_over old new then c k names at much once =
      stepped-call_over old new then imported c (subst (λ z. 4096 < z) counted much)
    where
      regrouped : (a b : ℕ) → a + 1 + b ≡ a + (1 + b)
      regrouped a b = omega arith

      counted : old.items + 1 + length names ≡ old.items + (1 + length (firsts (exports_of m c)))
      counted = regrouped old.items (length names) ∙ ap (λ z. old.items + (1 + length z)) (once ∙ ap firsts (sym (exported c k at)))

  -- CHOICES

  pub chose-none : (w : Walker) (here : ℕ) (b : List (List Statement)) (next : ℕ) (e : Errand) → length b ≡ 0
      → e.here ≡ here → work_tasks e.work ≡ [] → e.behind ≡ next → Chose m w here (a_choice b ∷ []) next w e
  chose-none w here b next e none is_here tasks behind = λ outs h.
      subst (λ z. Goes m w e outs × (2 + left_for m w e ≤ left_of m w (a_choice z ∷ []) next)) (sym empty)
      (at_errand outs (subst (λ z. LeadsFrom m w here (a_choice z ∷ []) next outs) empty h))
    where
      empty : b ≡ []
      empty = nil_from_length b none

      at_errand : (outs : List Outcome) → LeadsFrom m w here (a_choice [] ∷ []) next outs → Goes m w e outs × (2 + left_for m w e ≤ left_of m w (a_choice [] ∷ []) next)
      at_errand outs h =
          subst (λ z. LeadsFrom m w z (work_tasks e.work) e.behind outs × (2 + left_of m w (work_tasks e.work) e.behind ≤ left_of m w (a_choice [] ∷ []) next)) (sym is_here)
          (subst (λ z. LeadsFrom m w here z e.behind outs × (2 + left_of m w z e.behind ≤ left_of m w (a_choice [] ∷ []) next)) (sym tasks)
          (subst (λ z. LeadsFrom m w here [] z outs × (2 + left_of m w [] z ≤ left_of m w (a_choice [] ∷ []) next)) (sym behind)
          (Leads-none m w.kept.items w.facts w.forks.items w.items here next outs h, nearer-choice m w.kept.items w.items [] [] next (nothing 0))))
        where
          nothing : (k : ℕ) → 0 ≤ k
          nothing k = omega arith

  pub chose-last : (w : Walker) (here : ℕ) (b : List (List Statement)) (s : List Statement) (rest : List (List Statement)) (next : ℕ) (e : Errand) → b ≡ s ∷ rest → length rest ≡ 0
      → e.here ≡ here → work_tasks e.work ≡ map task_of s → e.behind ≡ next → Chose m w here (a_choice b ∷ []) next w e
  chose-last w here b s rest next e split none is_here tasks behind = λ outs h.
      subst (λ z. Goes m w e outs × (2 + left_for m w e ≤ left_of m w (a_choice z ∷ []) next)) (sym one)
      (at_errand outs (subst (λ z. LeadsFrom m w here (a_choice z ∷ []) next outs) one h))
    where
      one : b ≡ s ∷ []
      one = split ∙ ap (λ z. s ∷ z) (nil_from_length rest none)

      at_errand : (outs : List Outcome) → LeadsFrom m w here (a_choice (s ∷ []) ∷ []) next outs → Goes m w e outs × (2 + left_for m w e ≤ left_of m w (a_choice (s ∷ []) ∷ []) next)
      at_errand outs h =
          subst (λ z. LeadsFrom m w z (work_tasks e.work) e.behind outs × (2 + left_of m w (work_tasks e.work) e.behind ≤ left_of m w (a_choice (s ∷ []) ∷ []) next)) (sym is_here)
          (subst (λ z. LeadsFrom m w here z e.behind outs × (2 + left_of m w z e.behind ≤ left_of m w (a_choice (s ∷ []) ∷ []) next)) (sym tasks)
          (subst (λ z. LeadsFrom m w here (map task_of s) z outs × (2 + left_of m w (map task_of s) z ≤ left_of m w (a_choice (s ∷ []) ∷ []) next)) (sym behind)
          (Leads-last m w.kept.items w.facts w.forks.items w.items here s next outs h, nearer-alternative m w.kept.items w.items (s ∷ []) s next (inl refl))))

  pub chose-first : (old new : Walker) (here : ℕ) (b : List (List Statement)) (s : List Statement) (rest : List (List Statement)) (next : ℕ) (f : Fork) (e : Errand)
      → b ≡ s ∷ rest → (length rest ≡ 0 → ⊥) → IsFork m f old.kept.items old.facts old.items here rest next
      → Is new old.kept.items old.facts (old.forks.items ++ f ∷ []) old.items
      → e.here ≡ here → work_tasks e.work ≡ map task_of s → e.behind ≡ next → Chose m old here (a_choice b ∷ []) next new e
  chose-first old new here b s [] next f e split some fork is is_here tasks behind = absurd (some refl)
  chose-first old new here b s (t ∷ rest) next f e split some fork is is_here tasks behind = λ outs h.
      subst (λ z. Goes m new e outs × (2 + left_for m new e ≤ left_of m old (a_choice z ∷ []) next)) (sym split)
      (at_errand outs (subst (λ z. LeadsFrom m old here (a_choice z ∷ []) next outs) split h))
    where
      at_errand : (outs : List Outcome) → LeadsFrom m old here (a_choice (s ∷ t ∷ rest) ∷ []) next outs
          → Goes m new e outs × (2 + left_for m new e ≤ left_of m old (a_choice (s ∷ t ∷ rest) ∷ []) next)
      at_errand outs h =
          subst (λ z. LeadsFrom m new z (work_tasks e.work) e.behind outs × (2 + left_of m new (work_tasks e.work) e.behind ≤ left_of m old (a_choice (s ∷ t ∷ rest) ∷ []) next)) (sym is_here)
          (subst (λ z. LeadsFrom m new here z e.behind outs × (2 + left_of m new z e.behind ≤ left_of m old (a_choice (s ∷ t ∷ rest) ∷ []) next)) (sym tasks)
          (subst (λ z. LeadsFrom m new here (map task_of s) z outs × (2 + left_of m new (map task_of s) z ≤ left_of m old (a_choice (s ∷ t ∷ rest) ∷ []) next)) (sym behind) (
            leads-is new old.kept.items old.facts (old.forks.items ++ f ∷ []) old.items here (map task_of s) next outs is
                (Leads-first m old.kept.items old.facts old.forks.items old.items here s t rest next f outs fork h),
            subst (λ z. 2 + z ≤ left_of m old (a_choice (s ∷ t ∷ rest) ∷ []) next)
                (left-is new old.kept.items old.facts (old.forks.items ++ f ∷ []) old.items (map task_of s) next is)
                (nearer-alternative m old.kept.items old.items (s ∷ t ∷ rest) s next (inl refl)),
          )))

  nearer_by_two : (a b : ℕ) → 2 + a ≤ b → a < b
  nearer_by_two a b p = omega arith

  pub stepped-choice : (old new : Walker) (here : ℕ) (ts : List Task) (next : ℕ) (e : Errand) → Chose m old here ts next new e → Stepped m old here ts next new (On e)
  stepped-choice old new here ts next e chose = λ outs h. let r = chose outs h in (r.0, nearer_by_two (left_for m new e) (left_of m old ts next) r.1)

  pub stepped-group : (old mid new : Walker) (then e : Errand) (b : List (List Statement)) (n : ℕ) → Keeps old mid then n → Chose m mid then.here (a_choice b ∷ []) n new e
      → Stepped m old then.here (a_choice b ∷ work_tasks then.work) then.behind new (On e)
  stepped-group old mid new then e b n keeps chose = λ outs h.
      let r = chose outs (leads-is mid kept old.facts old.forks.items old.items then.here (a_choice b ∷ []) n outs is
      (Leads-group m old.kept.items old.facts old.forks.items old.items then b n outs keeps.number h)) in
      let near : left_of m mid (a_choice b ∷ []) n ≤ 1 + left_of m old (a_choice b ∷ work_tasks then.work) then.behind =
      subst (λ z. z ≤ 1 + left_of m old (a_choice b ∷ work_tasks then.work) then.behind) (left-is mid kept old.facts old.forks.items old.items (a_choice b ∷ []) n is)
      (nearer-group m old.kept.items old.items then b n h.linked h.behind keeps.number) in
      (r.0, together (left_for m new e) (left_of m mid (a_choice b ∷ []) n) (left_of m old (a_choice b ∷ work_tasks then.work) then.behind) r.1 near)
    where
      kept : List Errand
      kept = old.kept.items ++ then ∷ []

      is : Is mid kept old.facts old.forks.items old.items
      is = record { as_kept = keeps.kept; as_said = keeps.facts; as_forks = keeps.forks; as_items = keeps.items }

      together : (a b c : ℕ) → 2 + a ≤ b → b ≤ 1 + c → a < c
      together a b c p q = omega arith

  -- WHERE NOTHING IS LEFT

  pub stepped-back : (w : Walker) (here next place : ℕ) (e : Errand) → next ≡ suc place → slice_get w.kept.items place ≡ Some e → Stepped m w here [] next w (On e)
  stepped-back w here next place e number at =
      subst (λ z. Stepped m w here [] z w (On e)) (sym number)
      (λ outs h. (Leads-back m w.kept.items w.facts w.forks.items w.items here place e outs at h, nearer-back m w.kept.items w.items place e h.linked at))

  pub stepped-end : (w : Walker) (here next : ℕ) → next ≡ 0 → Stepped m w here [] next w Done
  stepped-end w here next none =
      subst (λ z. Stepped m w here [] z w Done) (sym none)
      (λ outs h. Leads-end m w.kept.items w.facts w.forks.items w.items here outs h)

  -- WHAT IS KNOWN ON THE WAY

  pub few-items : (w : Walker) (e : Errand) → CanGo m w e → w.items ≤ 4096
  few-items w e h = h.1.few

  pub called-there : (w : Walker) (e : Errand) (how : How) (c : Sym) (ts : List Task) → work_tasks e.work ≡ a_call how c ∷ ts → CanGo m w e → IsThere m c
  called-there w e how c ts tasks h =
      let l : LeadsFrom m w e.here (a_call how c ∷ ts) e.behind h.0 = subst (λ z. LeadsFrom m w e.here z e.behind h.0) tasks h.1 in
      let r = LeadsOn-call m e.here how c (dues_from w.kept.items e.here ts e.behind) w.items w.facts l.first l.leads in
      (r.0, r.1)

  pub place-behind : (w : Walker) (e : Errand) → CanGo m w e → e.behind ≤ length w.kept.items
  place-behind w e h = h.1.behind
