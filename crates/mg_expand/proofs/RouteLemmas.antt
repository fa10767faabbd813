-- Walks of tasks, and where tasks that are due lead.
use Rattle.std.specs.Prelude.{◌≡◌, ℕ, ◌+◌, List, [], ◌∷◌, ◌++◌, map, Some, refl}
use Rattle.std.proofs.Common.{ap, ap₂, sym, ◌∙◌, subst, arith, append_assoc}
use Rattle.std.proofs.lemmas.List.{append-nil, map-append}
use Rattle.gr_base.specs.Lists.{gathered}
use Rattle.gr_base.proofs.Gathering.{gathered-append, gathered-map, gathered-same}
use Rattle.gr_terms.specs.declared.Sym.{Sym}
use Rattle.mg_syntax.specs.declared.body.Statement.{Statement}
use Rattle.mg_syntax.specs.declared.item.Class.{Class}
use Rattle.mg_syntax.specs.declared.item.Item.{Item}
use Rattle.mg_scope.specs.Classes.{class_of}
use Rattle.mg_deeds.specs.Deeds.{Deed}
use Rattle.mg_expand.specs.Walks.{How, Walk, end, choose, perform, enter, Task, a_call, a_choice, a_deed, task_of, tasks_of}
use Rattle.mg_deeds.specs.Weights.{deed_weight}
use Rattle.mg_facts.specs.Said.{Said}
use Rattle.mg_deeds.specs.Sayings.{deed_said}
use Rattle.mg_expand.specs.Items.{call_weight, call_said, walk_weight, walk_said}
use Rattle.mg_expand.specs.Routes.{Due, due, dues, Outcome, outcome, LeadsOn, arrives, by_deed, by_call, by_none, by_last, by_first}

-- LISTS

plus_nothing : (n : ℕ) → n + 0 ≡ n
plus_nothing n = omega arith

regroup : (a b c : ℕ) → a + b + c ≡ a + (b + c)
regroup a b c = omega arith

regroup_more : (a b c d : ℕ) → a + b + c + d ≡ a + (b + c + d)
regroup_more a b c d = omega arith

gathered-gathered : {A B C : Type 0} (f : A → List B) (g : B → List C) (xs : List A) → gathered g (gathered f xs) ≡ gathered (λ x. gathered g (f x)) xs
gathered-gathered f g [] = refl
gathered-gathered f g (x ∷ xs) = gathered-append g (f x) (gathered f xs) ∙ ap (λ z. gathered g (f x) ++ z) (gathered-gathered f g xs)

gathered-singles : {A B : Type 0} (f : A → B) (xs : List A) → gathered (λ x. f x ∷ []) xs ≡ map f xs
gathered-singles f [] = refl
gathered-singles f (x ∷ xs) = ap (λ z. f x ∷ z) (gathered-singles f xs)

module _ (m : List Item) where
  -- how it goes on after a walk, from what it left
  abbrev pub ends : (ℕ → List Said → List Outcome) → ℕ → ℕ → List Said → Walk → List Outcome
  ends on here n said w = on (n + walk_weight m w) (said ++ walk_said m here n w)

  -- whatever the rest leads to, the tasks with it lead to where it leads behind each of the walks
  abbrev pub AreRouted : List Task → List Walk → Type 0
  AreRouted ts ws = (here : ℕ) (rest : List Due) (on : ℕ → List Said → List Outcome)
      → ((n : ℕ) (said : List Said) → LeadsOn m rest n said (on n said))
      → (n : ℕ) (said : List Said) → LeadsOn m (dues here ts ++ rest) n said (gathered (ends on here n said) ws)

  same_end : (on : ℕ → List Said → List Outcome) (a b : ℕ) (x y : List Said) → a ≡ b → x ≡ y → on a x ≡ on b y
  same_end on a b x y e p = ap₂ on e p

  pub routed-none : AreRouted [] (end ∷ [])
  routed-none here rest on f n said =
      subst (λ z. LeadsOn m rest n said z)
      (sym (append-nil (on (n + 0) (said ++ [])) ∙ same_end on (n + 0) n (said ++ []) said (plus_nothing n) (append-nil said)))
      (f n said)

  pub routed-deed : (d : Deed) (ts : List Task) (ws : List Walk) → AreRouted ts ws → AreRouted (a_deed d ∷ ts) (map (perform d) ws)
  routed-deed d ts ws h here rest on f n said =
      by_deed here d (dues here ts ++ rest) n said (gathered (ends on here n said) (map (perform d) ws))
      (subst (λ z. LeadsOn m (dues here ts ++ rest) (n + deed_weight d) (said ++ deed_said here n d) z) (sym same) (h here rest on f (n + deed_weight d) (said ++ deed_said here n d)))
    where
      each : (w : Walk) → ends on here n said (perform d w) ≡ ends on here (n + deed_weight d) (said ++ deed_said here n d) w
      each w =
          same_end on (n + (deed_weight d + walk_weight m w)) (n + deed_weight d + walk_weight m w)
          (said ++ (deed_said here n d ++ walk_said m here (n + deed_weight d) w)) ((said ++ deed_said here n d) ++ walk_said m here (n + deed_weight d) w)
          (sym (regroup n (deed_weight d) (walk_weight m w)))
          (sym (append_assoc said (deed_said here n d) (walk_said m here (n + deed_weight d) w)))

      same : gathered (ends on here n said) (map (perform d) ws) ≡ gathered (ends on here (n + deed_weight d) (said ++ deed_said here n d)) ws
      same = gathered-map (perform d) (ends on here n said) ws ∙ gathered-same (λ w. ends on here n said (perform d w)) (ends on here (n + deed_weight d) (said ++ deed_said here n d)) each ws

  pub routed-call : (how : How) (c : Sym) (k : Class) (ts : List Task) (insides afters : List Walk) → class_of m c ≡ Some k
      → AreRouted (tasks_of k) insides → AreRouted ts afters → AreRouted (a_call how c ∷ ts) (gathered (λ x. map (enter how c x) afters) insides)
  routed-call how c k ts insides afters at h g here rest on f n said =
      by_call here how c k (dues here ts ++ rest) n said (gathered (ends on here n said) (gathered (λ x. map (enter how c x) afters) insides)) at
      (subst (λ z. LeadsOn m (dues n (tasks_of k) ++ (dues here ts ++ rest)) first before z) (sym same)
      (h n (dues here ts ++ rest) later (λ a b. g here rest on f a b) first before))
    where
      first : ℕ
      first = n + call_weight m how c

      before : List Said
      before = said ++ call_said m how here n c

      later : ℕ → List Said → List Outcome
      later a b = gathered (ends on here a b) afters

      each : (x y : Walk) → ends on here n said (enter how c x y) ≡ ends on here (first + walk_weight m x) (before ++ walk_said m n first x) y
      each x y =
          same_end on (n + (call_weight m how c + walk_weight m x + walk_weight m y)) (first + walk_weight m x + walk_weight m y)
          (said ++ (call_said m how here n c ++ walk_said m n first x ++ walk_said m here (first + walk_weight m x) y))
          ((before ++ walk_said m n first x) ++ walk_said m here (first + walk_weight m x) y)
          (sym (regroup_more n (call_weight m how c) (walk_weight m x) (walk_weight m y)))
          (sym (ap (λ z. z ++ walk_said m here (first + walk_weight m x) y) (append_assoc said (call_said m how here n c) (walk_said m n first x))
          ∙ append_assoc said (call_said m how here n c ++ walk_said m n first x) (walk_said m here (first + walk_weight m x) y)))

      inside : (x : Walk) → gathered (ends on here n said) (map (enter how c x) afters) ≡ ends later n first before x
      inside x = gathered-map (enter how c x) (ends on here n said) afters
          ∙ gathered-same (λ y. ends on here n said (enter how c x y)) (ends on here (first + walk_weight m x) (before ++ walk_said m n first x)) (each x) afters

      same : gathered (ends on here n said) (gathered (λ x. map (enter how c x) afters) insides) ≡ gathered (ends later n first before) insides
      same = gathered-gathered (λ x. map (enter how c x) afters) (ends on here n said) insides
          ∙ gathered-same (λ x. gathered (ends on here n said) (map (enter how c x) afters)) (ends later n first before) inside insides

  -- the walks that take one of these alternatives, which are counted from any number on
  abbrev pub AreRoutedChoices : List (List Statement) → List Task → List Walk → Type 0
  AreRoutedChoices b ts ws = (here : ℕ) (rest : List Due) (on : ℕ → List Said → List Outcome)
      → ((n : ℕ) (said : List Said) → LeadsOn m rest n said (on n said))
      → (n : ℕ) (said : List Said) → LeadsOn m (due here (a_choice b) ∷ dues here ts ++ rest) n said (gathered (ends on here n said) ws)

  -- the alternative's tasks and then the others
  alternative_first : (s : List Statement) (ts : List Task) (here : ℕ) (rest : List Due) (n : ℕ) (said : List Said) (outs : List Outcome)
      → LeadsOn m (dues here (map task_of s ++ ts) ++ rest) n said outs → LeadsOn m (dues here (map task_of s) ++ (dues here ts ++ rest)) n said outs
  alternative_first s ts here rest n said outs h =
      subst (λ z. LeadsOn m z n said outs) (ap (λ z. z ++ rest) (map-append (due here) (map task_of s) ts) ∙ append_assoc (dues here (map task_of s)) (dues here ts) rest) h

  pub routed-nothing : (ts : List Task) (ws : List Walk) → AreRouted ts ws → AreRoutedChoices [] ts (map (choose 0) ws)
  routed-nothing ts ws h here rest on f n said =
      by_none here (dues here ts ++ rest) n said (gathered (ends on here n said) (map (choose 0) ws))
      (subst (λ z. LeadsOn m (dues here ts ++ rest) n said z) (sym (gathered-map (choose 0) (ends on here n said) ws)) (h here rest on f n said))

  pub routed-last : (i : ℕ) (s : List Statement) (ts : List Task) (ws : List Walk) → AreRouted (map task_of s ++ ts) ws
      → AreRoutedChoices (s ∷ []) ts (map (choose i) ws ++ [])
  routed-last i s ts ws h here rest on f n said =
      by_last here s (dues here ts ++ rest) n said (gathered (ends on here n said) (map (choose i) ws ++ []))
      (subst (λ z. LeadsOn m (dues here (map task_of s) ++ (dues here ts ++ rest)) n said z)
      (sym (ap (gathered (ends on here n said)) (append-nil (map (choose i) ws)) ∙ gathered-map (choose i) (ends on here n said) ws))
      (alternative_first s ts here rest n said (gathered (ends on here n said) ws) (h here rest on f n said)))

  pub routed-first : (i : ℕ) (s t : List Statement) (b : List (List Statement)) (ts : List Task) (ws vs : List Walk) → AreRouted (map task_of s ++ ts) ws
      → AreRoutedChoices (t ∷ b) ts vs → AreRoutedChoices (s ∷ t ∷ b) ts (map (choose i) ws ++ vs)
  routed-first i s t b ts ws vs h g here rest on f n said =
      subst (λ z. LeadsOn m (due here (a_choice (s ∷ t ∷ b)) ∷ dues here ts ++ rest) n said z)
      (sym (gathered-append (ends on here n said) (map (choose i) ws) vs ∙ ap (λ z. z ++ gathered (ends on here n said) vs) (gathered-map (choose i) (ends on here n said) ws)))
      (by_first here s t b (dues here ts ++ rest) n said (gathered (ends on here n said) ws) (gathered (ends on here n said) vs)
      (alternative_first s ts here rest n said (gathered (ends on here n said) ws) (h here rest on f n said))
      (g here rest on f n said))

  -- the expansions of a class, from the beginning
  pub routed-whole : (k : Class) (ws : List Walk) → AreRouted (tasks_of k) ws → LeadsOn m (dues 0 (tasks_of k)) 1 [] (map (outcome m) ws)
  routed-whole k ws h =
      subst (λ z. LeadsOn m (dues 0 (tasks_of k)) 1 [] z) (gathered-singles (outcome m) ws)
      (subst (λ z. LeadsOn m z 1 [] (gathered (ends on 0 1 []) ws)) (append-nil (dues 0 (tasks_of k)))
      (h 0 [] on (λ n said. arrives n said) 1 []))
    where
      on : ℕ → List Said → List Outcome
      on n said = record { said = said; weight = n } ∷ []
