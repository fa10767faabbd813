-- Steps of a walk: where tasks led, what is left of them leads.
use Rattle.std.specs.Prelude.{◌≡◌, ℕ, suc, ◌+◌, ◌-◌, ◌*◌, ◌<◌, ◌≤◌, List, [], ◌∷◌, ◌++◌, map, length, take, Some, slice_get, refl}
use Rattle.std.proofs.Common.{ap, sym, ◌∙◌, subst, arith, append_assoc}
use Rattle.std.proofs.Math.Nat.{mul-le-mul_left}
use Rattle.std.proofs.Math.Seq.{take-length}
use Rattle.std.proofs.lemmas.List.{take-append-le, length-append}
use Rattle.std.proofs.lemmas.Option.{slice_get_within, same_Some}
use Rattle.gr_base.specs.Lists.{IsAmong}
use Rattle.gr_terms.specs.declared.Sym.{Sym}
use Rattle.mg_syntax.specs.declared.body.Statement.{Statement}
use Rattle.mg_syntax.specs.declared.item.Class.{Class}
use Rattle.mg_syntax.specs.declared.item.Item.{Item}
use Rattle.mg_syntax.specs.declared.item.Item.TheVariants as item
use Rattle.mg_scope.specs.Classes.{class_of}
use Rattle.mg_scope.proofs.ClassLemmas.{class_of-stands}
use Rattle.mg_facts.specs.Said.{Said}
use Rattle.mg_deeds.specs.Deeds.{Deed}
use Rattle.mg_deeds.specs.Weights.{deed_weight}
use Rattle.mg_expand.specs.declared.errand.Errand.{Errand}
use Rattle.mg_expand.specs.declared.errand.Fork.{Fork}
use Rattle.mg_expand.specs.Walks.{How, imported, called, bound_to, Task, a_call, a_choice, a_deed, task_of, tasks_of}
use Rattle.mg_deeds.specs.Sayings.{deed_said}
use Rattle.mg_expand.specs.Items.{call_weight, call_said}
use Rattle.mg_expand.specs.Sizes.{sum_of, statement_size, task_size, tasks_size, item_size, whole_size}
use Rattle.mg_expand.specs.Routes.{Due, due, dues, Outcome, LeadsOn}
use Rattle.mg_expand.specs.Errands.{work_tasks, chain, all_dues, dues_from, AreLinked, Forking, no_fork, a_fork, Leads, all_size, steps_left, Arrives, IsNextTooLarge}
use Rattle.mg_expand.specs.Walkers.{IsCall}
use Rattle.mg_expand.proofs.FiniteLemmas.{sum_of-map, sum_of-same, sum_of-at, statement_size-task}
use Rattle.mg_expand.proofs.ErrandLemmas.{chain-pushed, chain-behind, AreLinked-push, LeadsOn-deed, LeadsOn-call, LeadsOn-none, LeadsOn-last, LeadsOn-first, LeadsOn-end, LeadsOn-first_outcome}

-- LISTS THAT GROW

-- the new list begins with the old one
pub record Grew {A : Type 0} (old new : List A) : Type 0 where
  pub longer : length old ≤ length new
  pub same : (k : ℕ) → k ≤ length old → take k new ≡ take k old

at_most : (k : ℕ) → k ≤ k
at_most k = omega arith

through : (a b c : ℕ) → a ≤ b → b ≤ c → a ≤ c
through a b c p q = omega arith

grew-not : {A : Type 0} (xs : List A) → Grew xs xs
grew-not xs = record { longer = at_most (length xs); same = λ k h. refl }

grew-append : {A : Type 0} (xs ys : List A) → Grew xs (xs ++ ys)
grew-append xs ys = record {
  longer = let e : length (xs ++ ys) ≡ length xs + length ys = length-append xs ys in omega arith;
  same = λ k h. take-append-le k xs ys h;
}

-- NUMBERS

further : (a b f x y : ℕ) → b ≤ a → x < y → b * f + x < a * f + y
further a b f x y p q = let r : f * b ≤ f * a = mul-le-mul_left f p in omega arith

further_call : (a b f x y : ℕ) → suc b ≤ a → x < y + f → b * f + x < a * f + y
further_call a b f x y p q = let r : f * suc b ≤ f * a = mul-le-mul_left f p in omega arith

module _ (m : List Item) where
  -- a class has no more before it than all of them
  class_size : (c : Sym) (k : Class) → class_of m c ≡ Some k → tasks_size (tasks_of k) ≤ whole_size m
  class_size c k at = sum_of-at item_size m (item.Class k) (class_of-stands m c k at).0

  call_counts : (how : How) (c : Sym) → 1 ≤ call_weight m how c
  call_counts imported c = omega arith
  call_counts called c = omega arith
  call_counts (bound_to x) c = omega arith

  pub Forking-grown : (kept others : List Errand) (said more : List Said) (forks : List Fork) (outs : List Outcome) → Grew kept others → Grew said more
      → Forking m kept said forks outs → Forking m others more forks outs
  Forking-grown _ others _ more _ _ g h (no_fork kept said) = no_fork others more
  Forking-grown _ others _ more _ _ g h (a_fork kept said before all f first later outs split whole low few limit behind leads rest) =
      a_fork others more before all f first later outs split whole
      (through f.kept (length kept) (length others) low g.longer)
      (through f.said (length said) (length more) few h.longer)
      limit behind
      (subst (λ z. LeadsOn m (dues_from z f.errand.here (work_tasks f.errand.work) f.errand.behind) f.items (take f.said more) first) (sym (g.same f.kept low))
      (subst (λ z. LeadsOn m (dues_from (take f.kept kept) f.errand.here (work_tasks f.errand.work) f.errand.behind) f.items z first) (sym (h.same f.said few)) leads))
      (subst (λ z. Forking m z (take f.said more) before later) (sym (g.same f.kept low))
      (subst (λ z. Forking m (take f.kept kept) z before later) (sym (h.same f.said few)) rest))

  -- A DEED

  pub Leads-deed : (kept : List Errand) (said : List Said) (forks : List Fork) (n here : ℕ) (d : Deed) (ts : List Task) (next : ℕ) (outs : List Outcome)
      → n + deed_weight d ≤ 4096 → Leads m kept said forks n here (a_deed d ∷ ts) next outs
      → Leads m kept (said ++ deed_said here n d) forks (n + deed_weight d) here ts next outs
  Leads-deed kept said forks n here d ts next outs few h = record {
    linked = h.linked;
    behind = h.behind;
    few = few;
    first = h.first;
    later = h.later;
    leads = LeadsOn-deed m here d (dues_from kept here ts next) n said h.first h.leads;
    forking = Forking-grown kept kept said (said ++ deed_said here n d) forks h.later (grew-not kept) (grew-append said (deed_said here n d)) h.forking;
    whole = h.whole;
  }

  pub nearer-deed : (kept : List Errand) (n w : ℕ) (d : Deed) (ts : List Task) (next : ℕ)
      → steps_left m kept (n + w) ts next < steps_left m kept n (a_deed d ∷ ts) next
  nearer-deed kept n w d ts next =
      further (4097 - n) (4097 - (n + w)) (2 + 2 * whole_size m)
      (1 + 2 * tasks_size ts + all_size (chain next kept next)) (1 + 2 * (1 + tasks_size ts) + all_size (chain next kept next))
      (fewer n w) (more (tasks_size ts) (all_size (chain next kept next)))
    where
      fewer : (a b : ℕ) → 4097 - (a + b) ≤ 4097 - a
      fewer a b = omega arith

      more : (s c : ℕ) → 1 + 2 * s + c < 1 + 2 * (1 + s) + c
      more s c = omega arith

  -- too many items
  over : (kept : List Errand) (said : List Said) (ds : List Due) (n : ℕ) (first later outs : List Outcome)
      → 4096 < n → LeadsOn m ds n said first → outs ≡ first ++ later → IsNextTooLarge outs
  over kept said ds n first later outs much leads whole =
      let r = LeadsOn-first_outcome m ds n said first leads in
      (r.0, r.1 ++ later, whole ∙ ap (λ z. z ++ later) r.2, beyond n r.0.weight much r.3)
    where
      beyond : (a b : ℕ) → 4096 < a → a ≤ b → 4096 < b
      beyond a b p q = omega arith

  pub over-deed : (kept : List Errand) (said : List Said) (forks : List Fork) (n here : ℕ) (d : Deed) (ts : List Task) (next : ℕ) (outs : List Outcome)
      → 4096 < n + deed_weight d → Leads m kept said forks n here (a_deed d ∷ ts) next outs → IsNextTooLarge outs
  over-deed kept said forks n here d ts next outs much h =
      over kept (said ++ deed_said here n d) (dues_from kept here ts next) (n + deed_weight d) h.first h.later outs much
      (LeadsOn-deed m here d (dues_from kept here ts next) n said h.first h.leads) h.whole

  -- A CALL

  pub over-call : (kept : List Errand) (said : List Said) (forks : List Fork) (n here : ℕ) (how : How) (c : Sym) (ts : List Task) (next : ℕ) (outs : List Outcome)
      → 4096 < n + call_weight m how c → Leads m kept said forks n here (a_call how c ∷ ts) next outs → IsNextTooLarge outs
  over-call kept said forks n here how c ts next outs much h =
      let r = LeadsOn-call m here how c (dues_from kept here ts next) n said h.first h.leads in
      over kept (said ++ call_said m how here n c) (dues n (tasks_of r.0) ++ dues_from kept here ts next) (n + call_weight m how c) h.first h.later outs much r.2 h.whole

  -- the same errand by other names
  Leads-same : (kept : List Errand) (said : List Said) (forks : List Fork) (n : ℕ) (h g : ℕ) (ts us : List Task) (a b : ℕ) (outs : List Outcome)
      → g ≡ h → us ≡ ts → b ≡ a → Leads m kept said forks n h ts a outs → Leads m kept said forks n g us b outs
  Leads-same kept said forks n h g ts us a b outs p q r l =
      subst (λ z. Leads m kept said forks n z us b outs) (sym p)
      (subst (λ z. Leads m kept said forks n h z b outs) (sym q)
      (subst (λ z. Leads m kept said forks n h ts z outs) (sym r) l))

  pub Leads-call : (kept : List Errand) (said : List Said) (forks : List Fork) (n : ℕ) (then : Errand) (how : How) (c : Sym) (k : Class) (next : ℕ) (e : Errand) (outs : List Outcome)
      → class_of m c ≡ Some k → n + call_weight m how c ≤ 4096 → next ≡ suc (length kept) → IsCall e n k next
      → Leads m kept said forks n then.here (a_call how c ∷ work_tasks then.work) then.behind outs
      → Leads m (kept ++ then ∷ []) (said ++ call_said m how then.here n c) forks (n + call_weight m how c) e.here (work_tasks e.work) e.behind outs
  Leads-call kept said forks n then how c k next e outs at few number call h =
      Leads-same (kept ++ then ∷ []) (said ++ call_said m how then.here n c) forks (n + call_weight m how c) n e.here (tasks_of k) (work_tasks e.work) next e.behind outs
      call.here call.tasks call.behind
      (record {
        linked = AreLinked-push kept then h.linked h.behind;
        behind = within;
        few = few;
        first = h.first;
        later = h.later;
        leads =
            subst (λ z. LeadsOn m (dues n (tasks_of k) ++ all_dues z) (n + call_weight m how c) (said ++ call_said m how then.here n c) h.first)
            (sym (chain-pushed kept then next h.linked h.behind number))
            (subst (λ z. LeadsOn m (dues n (tasks_of z) ++ dues_from kept then.here (work_tasks then.work) then.behind) (n + call_weight m how c) (said ++ call_said m how then.here n c) h.first)
            (same_Some r.0 k (sym r.1 ∙ at)) r.2);
        forking = Forking-grown kept (kept ++ then ∷ []) said (said ++ call_said m how then.here n c) forks h.later
            (grew-append kept (then ∷ [])) (grew-append said (call_said m how then.here n c)) h.forking;
        whole = h.whole;
      })
    where
      r : (j : Class) × (class_of m c ≡ Some j)
          × LeadsOn m (dues n (tasks_of j) ++ dues_from kept then.here (work_tasks then.work) then.behind) (n + call_weight m how c) (said ++ call_said m how then.here n c) h.first
      r = LeadsOn-call m then.here how c (dues_from kept then.here (work_tasks then.work) then.behind) n said h.first h.leads

      within : next ≤ length (kept ++ then ∷ [])
      within = let size : length (kept ++ then ∷ []) ≡ length kept + 1 = length-append kept (then ∷ []) in omega (arith, number)

  pub nearer-call : (kept : List Errand) (n : ℕ) (then : Errand) (how : How) (c : Sym) (k : Class) (there next : ℕ) (e : Errand)
      → class_of m c ≡ Some k → n ≤ 4096 → AreLinked kept → then.behind ≤ length kept → next ≡ suc (length kept) → IsCall e there k next
      → steps_left m (kept ++ then ∷ []) (n + call_weight m how c) (work_tasks e.work) e.behind < steps_left m kept n (a_call how c ∷ work_tasks then.work) then.behind
  nearer-call kept n then how c k there next e at few linked low number call =
      subst (λ z. steps_left m (kept ++ then ∷ []) (n + call_weight m how c) z e.behind < steps_left m kept n (a_call how c ∷ work_tasks then.work) then.behind) (sym call.tasks)
      (subst (λ z. steps_left m (kept ++ then ∷ []) (n + call_weight m how c) (tasks_of k) z < steps_left m kept n (a_call how c ∷ work_tasks then.work) then.behind) (sym call.behind)
      (subst (λ z. (4097 - (n + call_weight m how c)) * (2 + 2 * whole_size m) + (1 + 2 * tasks_size (tasks_of k) + all_size z) < steps_left m kept n (a_call how c ∷ work_tasks then.work) then.behind)
      (sym (chain-pushed kept then next linked low number))
      (further_call (4097 - n) (4097 - (n + call_weight m how c)) (2 + 2 * whole_size m)
      (1 + 2 * tasks_size (tasks_of k) + (1 + 2 * tasks_size (work_tasks then.work) + rest)) (1 + 2 * (1 + tasks_size (work_tasks then.work)) + rest)
      (fewer n (call_weight m how c) few (call_counts how c))
      (more (tasks_size (tasks_of k)) (whole_size m) (tasks_size (work_tasks then.work)) rest (class_size c k at)))))
    where
      rest : ℕ
      rest = all_size (chain then.behind kept then.behind)

      fewer : (a w : ℕ) → a ≤ 4096 → 1 ≤ w → suc (4097 - (a + w)) ≤ 4097 - a
      fewer a w p q = omega arith

      more : (s t u v : ℕ) → s ≤ t → 1 + 2 * s + (1 + 2 * u + v) < 1 + 2 * (1 + u) + v + (2 + 2 * t)
      more s t u v p = omega arith

  -- A CHOICE

  pub Leads-taken : (kept : List Errand) (said : List Said) (forks : List Fork) (n here : ℕ) (b : List (List Statement)) (ts : List Task) (next : ℕ) (outs : List Outcome)
      → ((rest : List Due) (some : List Outcome) → LeadsOn m (due here (a_choice b) ∷ rest) n said some → LeadsOn m (dues here ts ++ rest) n said some)
      → Leads m kept said forks n here (a_choice b ∷ []) next outs → Leads m kept said forks n here ts next outs
  Leads-taken kept said forks n here b ts next outs f h = record {
    linked = h.linked;
    behind = h.behind;
    few = h.few;
    first = h.first;
    later = h.later;
    leads = f (all_dues (chain next kept next)) h.first h.leads;
    forking = h.forking;
    whole = h.whole;
  }

  pub Leads-none : (kept : List Errand) (said : List Said) (forks : List Fork) (n here next : ℕ) (outs : List Outcome)
      → Leads m kept said forks n here (a_choice [] ∷ []) next outs → Leads m kept said forks n here [] next outs
  Leads-none kept said forks n here next outs h =
      Leads-taken kept said forks n here [] [] next outs (λ rest some l. LeadsOn-none m here rest n said some l) h

  pub Leads-last : (kept : List Errand) (said : List Said) (forks : List Fork) (n here : ℕ) (s : List Statement) (next : ℕ) (outs : List Outcome)
      → Leads m kept said forks n here (a_choice (s ∷ []) ∷ []) next outs → Leads m kept said forks n here (map task_of s) next outs
  Leads-last kept said forks n here s next outs h =
      Leads-taken kept said forks n here (s ∷ []) (map task_of s) next outs (λ rest some l. LeadsOn-last m here s rest n said some l) h

  -- the fork is the choice among these, where all this was kept and said
  pub record IsFork (f : Fork) (kept : List Errand) (said : List Said) (n call : ℕ) (b : List (List Statement)) (next : ℕ) : Type 0 where
    pub here : f.errand.here ≡ call
    pub tasks : work_tasks f.errand.work ≡ a_choice b ∷ []
    pub behind : f.errand.behind ≡ next
    pub as_kept : f.kept ≡ length kept
    pub as_said : f.said ≡ length said
    pub as_counted : f.items ≡ n

  pub Leads-first : (kept : List Errand) (said : List Said) (forks : List Fork) (n here : ℕ) (s t : List Statement) (b : List (List Statement)) (next : ℕ) (f : Fork) (outs : List Outcome)
      → IsFork f kept said n here (t ∷ b) next
      → Leads m kept said forks n here (a_choice (s ∷ t ∷ b) ∷ []) next outs → Leads m kept said (forks ++ f ∷ []) n here (map task_of s) next outs
  Leads-first kept said forks n here s t b next f outs is h = record {
    linked = h.linked;
    behind = h.behind;
    few = h.few;
    first = r.0;
    later = r.1 ++ h.later;
    leads = r.3;
    forking = a_fork kept said forks (forks ++ f ∷ []) f r.1 h.later (r.1 ++ h.later) refl refl
        (subst (λ k. k ≤ length kept) (sym is.as_kept) (at_most (length kept)))
        (subst (λ k. k ≤ length said) (sym is.as_said) (at_most (length said)))
        (subst (λ k. k ≤ 4096) (sym is.as_counted) h.few)
        (subst (λ k. k ≤ f.kept) (sym is.behind) (subst (λ k. next ≤ k) (sym is.as_kept) h.behind))
        from_fork
        (subst (λ z. Forking m z (take f.said said) forks h.later) (sym all_kept) (subst (λ z. Forking m kept z forks h.later) (sym all_said) h.forking));
    whole = h.whole ∙ ap (λ z. z ++ h.later) r.2 ∙ append_assoc r.0 r.1 h.later;
  }
    where
      r : (first later : List Outcome) × (h.first ≡ first ++ later) × LeadsOn m (dues here (map task_of s) ++ all_dues (chain next kept next)) n said first
          × LeadsOn m (due here (a_choice (t ∷ b)) ∷ all_dues (chain next kept next)) n said later
      r = LeadsOn-first m here s t b (all_dues (chain next kept next)) n said h.first h.leads

      all_kept : take f.kept kept ≡ kept
      all_kept = ap (λ k. take k kept) is.as_kept ∙ take-length kept

      all_said : take f.said said ≡ said
      all_said = ap (λ k. take k said) is.as_said ∙ take-length said

      from_fork : LeadsOn m (dues_from (take f.kept kept) f.errand.here (work_tasks f.errand.work) f.errand.behind) f.items (take f.said said) r.1
      from_fork =
          subst (λ z. LeadsOn m (dues_from z f.errand.here (work_tasks f.errand.work) f.errand.behind) f.items (take f.said said) r.1) (sym all_kept)
          (subst (λ z. LeadsOn m (dues_from kept z (work_tasks f.errand.work) f.errand.behind) f.items (take f.said said) r.1) (sym is.here)
          (subst (λ z. LeadsOn m (dues_from kept here z f.errand.behind) f.items (take f.said said) r.1) (sym is.tasks)
          (subst (λ z. LeadsOn m (dues_from kept here (a_choice (t ∷ b) ∷ []) z) f.items (take f.said said) r.1) (sym is.behind)
          (subst (λ z. LeadsOn m (dues_from kept here (a_choice (t ∷ b) ∷ []) next) z (take f.said said) r.1) (sym is.as_counted)
          (subst (λ z. LeadsOn m (dues_from kept here (a_choice (t ∷ b) ∷ []) next) n z r.1) (sym all_said) r.4)))))

  alternative_size : (b : List (List Statement)) (s : List Statement) → IsAmong b s → tasks_size (map task_of s) ≤ sum_of (sum_of statement_size) b
  alternative_size b s i =
      let p : tasks_size (map task_of s) ≡ sum_of statement_size s = sum_of-map task_of task_size s ∙ sym (sum_of-same statement_size (λ x. task_size (task_of x)) statement_size-task s) in
      let q : sum_of statement_size s ≤ sum_of (sum_of statement_size) b = sum_of-at (sum_of statement_size) b s i in
      omega arith

  pub nearer-choice : (kept : List Errand) (n : ℕ) (b : List (List Statement)) (ts : List Task) (next : ℕ) → tasks_size ts ≤ sum_of (sum_of statement_size) b
      → 2 + steps_left m kept n ts next ≤ steps_left m kept n (a_choice b ∷ []) next
  nearer-choice kept n b ts next p =
      more ((4097 - n) * (2 + 2 * whole_size m)) (tasks_size ts) (sum_of (sum_of statement_size) b) (all_size (chain next kept next)) p
    where
      more : (a s t c : ℕ) → s ≤ t → 2 + (a + (1 + 2 * s + c)) ≤ a + (1 + 2 * (1 + t + 0) + c)
      more a s t c h = omega arith

  pub nearer-alternative : (kept : List Errand) (n : ℕ) (b : List (List Statement)) (s : List Statement) (next : ℕ) → IsAmong b s
      → 2 + steps_left m kept n (map task_of s) next ≤ steps_left m kept n (a_choice b ∷ []) next
  nearer-alternative kept n b s next i = nearer-choice kept n b (map task_of s) next (alternative_size b s i)

  -- a group is a choice, with the rest kept behind it
  pub Leads-group : (kept : List Errand) (said : List Said) (forks : List Fork) (n : ℕ) (then : Errand) (b : List (List Statement)) (next : ℕ) (outs : List Outcome)
      → next ≡ suc (length kept) → Leads m kept said forks n then.here (a_choice b ∷ work_tasks then.work) then.behind outs
      → Leads m (kept ++ then ∷ []) said forks n then.here (a_choice b ∷ []) next outs
  Leads-group kept said forks n then b next outs number h = record {
    linked = AreLinked-push kept then h.linked h.behind;
    behind = within;
    few = h.few;
    first = h.first;
    later = h.later;
    leads = subst (λ z. LeadsOn m (due then.here (a_choice b) ∷ all_dues z) n said h.first) (sym (chain-pushed kept then next h.linked h.behind number)) h.leads;
    forking = Forking-grown kept (kept ++ then ∷ []) said said forks h.later (grew-append kept (then ∷ [])) (grew-not said) h.forking;
    whole = h.whole;
  }
    where
      within : next ≤ length (kept ++ then ∷ [])
      within = let size : length (kept ++ then ∷ []) ≡ length kept + 1 = length-append kept (then ∷ []) in omega (arith, number)

  pub nearer-group : (kept : List Errand) (n : ℕ) (then : Errand) (b : List (List Statement)) (next : ℕ) → AreLinked kept → then.behind ≤ length kept → next ≡ suc (length kept)
      → steps_left m (kept ++ then ∷ []) n (a_choice b ∷ []) next ≤ 1 + steps_left m kept n (a_choice b ∷ work_tasks then.work) then.behind
  nearer-group kept n then b next linked low number =
      subst (λ z. (4097 - n) * (2 + 2 * whole_size m) + (1 + 2 * tasks_size (a_choice b ∷ []) + all_size z) ≤ 1 + steps_left m kept n (a_choice b ∷ work_tasks then.work) then.behind)
      (sym (chain-pushed kept then next linked low number))
      (same ((4097 - n) * (2 + 2 * whole_size m)) (task_size (a_choice b)) (tasks_size (work_tasks then.work)) (all_size (chain then.behind kept then.behind)))
    where
      same : (a s t c : ℕ) → a + (1 + 2 * (s + 0) + (1 + 2 * t + c)) ≤ 1 + (a + (1 + 2 * (s + t) + c))
      same a s t c = omega arith

  -- NOTHING IS LEFT OF AN ERRAND

  pub Leads-back : (kept : List Errand) (said : List Said) (forks : List Fork) (n here place : ℕ) (e : Errand) (outs : List Outcome) → slice_get kept place ≡ Some e
      → Leads m kept said forks n here [] (suc place) outs → Leads m kept said forks n e.here (work_tasks e.work) e.behind outs
  Leads-back kept said forks n here place e outs at h = record {
    linked = h.linked;
    behind = within e.behind place (length kept) (h.linked place e at) (slice_get_within kept place e at);
    few = h.few;
    first = h.first;
    later = h.later;
    leads = subst (λ z. LeadsOn m (all_dues z) n said h.first) (chain-behind kept place e h.linked at) h.leads;
    forking = h.forking;
    whole = h.whole;
  }
    where
      within : (a b c : ℕ) → a ≤ b → b < c → a ≤ c
      within a b c p q = omega arith

  pub nearer-back : (kept : List Errand) (n place : ℕ) (e : Errand) → AreLinked kept → slice_get kept place ≡ Some e
      → steps_left m kept n (work_tasks e.work) e.behind < steps_left m kept n [] (suc place)
  nearer-back kept n place e linked at =
      subst (λ z. steps_left m kept n (work_tasks e.work) e.behind < (4097 - n) * (2 + 2 * whole_size m) + (1 + 2 * 0 + all_size z)) (sym (chain-behind kept place e linked at))
      (more ((4097 - n) * (2 + 2 * whole_size m)) (tasks_size (work_tasks e.work)) (all_size (chain e.behind kept e.behind)))
    where
      more : (a s c : ℕ) → a + (1 + 2 * s + c) < a + (1 + 2 * 0 + (1 + 2 * s + c))
      more a s c = omega arith

  pub Leads-end : (kept : List Errand) (said : List Said) (forks : List Fork) (n here : ℕ) (outs : List Outcome)
      → Leads m kept said forks n here [] 0 outs → Arrives m kept said forks n outs
  Leads-end kept said forks n here outs h =
      (h.later, h.linked, h.forking, h.whole ∙ ap (λ z. z ++ h.later) (LeadsOn-end m n said h.first h.leads), h.few)
