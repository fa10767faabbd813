-- Each class has a list of all its expansions, since no class leads back to itself.
use Rattle.std.specs.Prelude.{◌≡◌, ℕ, zero, suc, ◌+◌, ◌≤◌, List, [], ◌∷◌, ◌++◌, map, length, Some, refl}
use Rattle.std.proofs.Common.{inl, inr, ap, ap₂, sym, ◌∙◌, subst, arith}
use Rattle.gr_base.specs.Lists.{IsAmong, IsWithin, NoneTwice, gathered}
use Rattle.gr_base.proofs.ListLemmas.{Each-at, Each-members, IsAmong-append, IsAmong-append_left, IsAmong-append_right, IsAmong-map_from, IsAmong-slice_get, IsAmong-gathered, IsAmong-gathered_from}
use Rattle.gr_base.proofs.Counting.{length-within}
use Rattle.gr_base.proofs.Gathering.{joined-twice}
use Rattle.gr_terms.specs.declared.Sym.{Sym}
use Rattle.mg_syntax.specs.declared.body.Statement.{Statement, out-Statement, fold_out-Statement, map-Statement}
use Rattle.mg_syntax.specs.declared.body.Statement.TheOpen as open_statement
use Rattle.mg_syntax.specs.declared.body.Statement.TheOpen.{Statement-F}
use Rattle.mg_syntax.specs.declared.item.Class.{Class}
use Rattle.mg_syntax.specs.declared.item.Item.{Item}
use Rattle.mg_syntax.specs.declared.item.Item.TheVariants as item
use Rattle.mg_scope.specs.declared.uses.Use.{Use}
use Rattle.mg_scope.specs.Uses.{statement_step, statement_uses, body_uses}
use Rattle.mg_scope.specs.Classes.{class_of, called_class, called_classes, uses_of, mentions, mentions_of, mentioned}
use Rattle.mg_scope.specs.Cycles.{LeadsTo}
use Rattle.mg_scope.specs.Faults.{IsScoped}
use Rattle.mg_scope.proofs.ClassLemmas.{class_of-stands}
use Rattle.mg_expand.specs.Walks.{imported, Walk, Task, a_call, a_choice, a_deed, task_in, task_of, tasks_of, Does, IsExpansion, choices, IsEarlier, AreExpansions}
use Rattle.mg_expand.proofs.OrderLemmas.{IsLeftOf-irreflexive, InOrder-once}
use Rattle.mg_expand.specs.Sizes.{sum_of, size_step, statement_size, task_size, tasks_size}
use Rattle.mg_expand.specs.Routes.{dues, outcome, LeadsOn}
use Rattle.mg_expand.proofs.WalkLemmas.{InOrder-InChoiceOrder, one_list}
use Rattle.mg_expand.proofs.RouteLemmas.{AreRouted, routed-none, routed-deed, routed-call, routed-whole}
use Rattle.mg_expand.proofs.ListingLemmas.{AreWalks, no_task, one_deed, one_call, one_choice}

-- HOW MUCH IS BEFORE A WALK

nothing_plus : (n : ℕ) → 0 + n ≡ n
nothing_plus n = omega arith

too_small : (n : ℕ) → 1 + n ≤ 0 → ⊥
too_small n h = omega arith

regroup : (a b : ℕ) → 1 + a + b ≤ 0 → 1 + (a + b) ≤ 0
regroup a b h = omega arith

one_less : (n a : ℕ) → 1 + a ≤ suc n → a ≤ n
one_less n a h = omega arith

of_rest : (n a b : ℕ) → 1 + a + b ≤ suc n → b ≤ n
of_rest n a b h = omega arith

pub sum_of-map : {A B : Type 0} (f : A → B) (g : B → ℕ) (xs : List A) → sum_of g (map f xs) ≡ sum_of (λ x. g (f x)) xs
sum_of-map f g [] = refl
sum_of-map f g (x ∷ xs) = ap (λ n. g (f x) + n) (sum_of-map f g xs)

sum_of-twice : {A : Type 0} (f : A → ℕ) (xss : List (List A)) → sum_of (sum_of (λ n. n)) (map (map f) xss) ≡ sum_of (sum_of f) xss
sum_of-twice f [] = refl
sum_of-twice f (xs ∷ xss) = ap₂ (λ a b. a + b) (sum_of-map f (λ n. n) xs) (sum_of-twice f xss)

-- the size of a statement is that of its task
abbrev step_of : Statement-F Statement → ℕ
step_of s = task_size (task_in s)

pub statement_size-task : (s : Statement) → statement_size s ≡ task_size (task_of s)
statement_size-task s = fold_out-Statement ℕ size_step s ∙ sized (out-Statement s)
  where
    sized : (f : Statement-F Statement) → size_step (map-Statement Statement ℕ statement_size f) ≡ task_size (task_in f)
    sized (open_statement.Group b) = ap (λ n. 1 + n) (sum_of-twice statement_size b)
    sized (open_statement.Call c) = refl
    sized (open_statement.Bind x c) = refl
    sized (open_statement.Equation r t) = refl
    sized (open_statement.Syn items) = refl
    sized (open_statement.Sem literals) = refl
    sized (open_statement.Iface bag) = refl

pub sum_of-append : {A : Type 0} (f : A → ℕ) (xs ys : List A) → sum_of f (xs ++ ys) ≡ sum_of f xs + sum_of f ys
sum_of-append f [] ys = sym (nothing_plus (sum_of f ys))
sum_of-append f (x ∷ xs) ys = let e : sum_of f (xs ++ ys) ≡ sum_of f xs + sum_of f ys = sum_of-append f xs ys in omega arith

pub sum_of-same : {A : Type 0} (f g : A → ℕ) → ((x : A) → f x ≡ g x) → (xs : List A) → sum_of f xs ≡ sum_of g xs
sum_of-same f g e [] = refl
sum_of-same f g e (x ∷ xs) = ap₂ (λ a b. a + b) (e x) (sum_of-same f g e xs)

pub sum_of-at : {A : Type 0} (f : A → ℕ) (xs : List A) (x : A) → IsAmong xs x → f x ≤ sum_of f xs
sum_of-at f [] x i = absurd i
sum_of-at f (y ∷ ys) x (inl e) = let p : f x ≡ f y = ap f e in omega arith
sum_of-at f (y ∷ ys) x (inr i) = let p : f x ≤ sum_of f ys = sum_of-at f ys x i in omega arith

-- an alternative is smaller than the choice
pub smaller : (b : List (List Statement)) (rest : List Task) (s : List Statement) (n : ℕ) → IsAmong b s
    → tasks_size (a_choice b ∷ rest) ≤ suc n → tasks_size (map task_of s ++ rest) ≤ n
smaller b rest s n i h =
    let e : tasks_size (map task_of s ++ rest) ≡ tasks_size (map task_of s) + tasks_size rest = sum_of-append task_size (map task_of s) rest in
    let p : tasks_size (map task_of s) ≡ sum_of statement_size s = sum_of-map task_of task_size s ∙ sym (sum_of-same statement_size (λ x. task_size (task_of x)) statement_size-task s) in
    let q : sum_of statement_size s ≤ sum_of (sum_of statement_size) b = sum_of-at (sum_of statement_size) b s i in
    let r : 1 + sum_of (sum_of statement_size) b + tasks_size rest ≤ suc n = h in
    omega arith

-- WHAT TASKS CALL

called_within : (us vs : List Use) → IsWithin us vs → IsWithin (called_classes us) (called_classes vs)
called_within us vs f c i = let r = IsAmong-gathered_from called_class us c i in IsAmong-gathered called_class vs r.0 c (f r.0 r.1) r.2

-- the classes that a task calls
abbrev calls_of : Task → List Sym
calls_of (a_call how c) = c ∷ []
calls_of (a_choice b) = called_classes (body_uses b)
calls_of (a_deed d) = []

abbrev all_calls : List Task → List Sym
all_calls ts = gathered calls_of ts

-- the task of a statement calls what the statement uses
calls_used : (s : Statement) → IsWithin (calls_of (task_of s)) (called_classes (statement_uses s))
calls_used s c i = subst (λ us. IsAmong (called_classes us) c) (sym (fold_out-Statement (List Use) statement_step s)) (used (out-Statement s) i)
  where
    used : (f : Statement-F Statement) → IsAmong (calls_of (task_in f)) c → IsAmong (called_classes (statement_step (map-Statement Statement (List Use) statement_uses f))) c
    used (open_statement.Group b) j = subst (λ us. IsAmong (called_classes us) c) (sym (joined-twice statement_uses b)) j
    used (open_statement.Call d) j = j
    used (open_statement.Bind x d) j = j
    used (open_statement.Equation r t) j = absurd j
    used (open_statement.Syn items) j = absurd j
    used (open_statement.Sem literals) j = absurd j
    used (open_statement.Iface bag) j = absurd j

-- an alternative calls no more than the choice
alternative_calls : (b : List (List Statement)) (rest : List Task) (s : List Statement) → IsAmong b s
    → IsWithin (all_calls (map task_of s ++ rest)) (all_calls (a_choice b ∷ rest))
alternative_calls b rest s i c j =
    let r = IsAmong-gathered_from calls_of (map task_of s ++ rest) c j in
    elim (IsAmong-append (map task_of s) rest r.0 r.1) [
      | inl k ↦
          let t = IsAmong-map_from task_of s r.0 k in
          let used : IsAmong (called_classes (statement_uses t.0)) c = calls_used t.0 c (subst (λ z. IsAmong (calls_of z) c) t.2 r.2) in
          let within : IsWithin (statement_uses t.0) (body_uses b) = λ u h. IsAmong-gathered (gathered statement_uses) b s u i (IsAmong-gathered statement_uses s t.0 u t.1 h) in
          IsAmong-append_left (calls_of (a_choice b)) (all_calls rest) c (called_within (statement_uses t.0) (body_uses b) within c used)
      | inr k ↦ IsAmong-append_right (calls_of (a_choice b)) (all_calls rest) c (IsAmong-gathered calls_of rest r.0 c k r.2)
    ]

abbrev class_names : List Item → List Sym
class_names [] = []
class_names (item.Class k ∷ is) = k.name ∷ class_names is
class_names (item.Value v ∷ is) = class_names is
class_names (item.Header h ∷ is) = class_names is

-- ALL WALKS OF TASKS

module _ (m : List Item) where
  abbrev HasWalks : List Task → Type 0
  HasWalks ts = (ws : List Walk) × AreWalks m ts ws × AreRouted m ts ws

  -- the class is there and has a list of its expansions
  abbrev HasList : Sym → Type 0
  HasList c = (k : Class) × (class_of m c ≡ Some k) × HasWalks (tasks_of k)

  have_walks : (n : ℕ) (ts : List Task) → tasks_size ts ≤ n → ((c : Sym) → IsAmong (all_calls ts) c → HasList c) → HasWalks ts
  have_walks n [] h f = (_, no_task m, routed-none m)
  have_walks zero (a_deed d ∷ rest) h f = absurd (too_small (tasks_size rest) h)
  have_walks zero (a_call how c ∷ rest) h f = absurd (too_small (tasks_size rest) h)
  have_walks zero (a_choice b ∷ rest) h f = absurd (too_small (sum_of (sum_of statement_size) b + tasks_size rest) (regroup (sum_of (sum_of statement_size) b) (tasks_size rest) h))
  have_walks (suc n) (a_deed d ∷ rest) h f = let r = have_walks n rest (one_less n (tasks_size rest) h) f in (_, one_deed m d rest r.0 r.1, routed-deed m d rest r.0 r.2)
  have_walks (suc n) (a_call how c ∷ rest) h f =
      let r = have_walks n rest (one_less n (tasks_size rest) h) (λ d i. f d (inr i)) in
      let l = f c (inl refl) in
      (_, one_call m how c l.0 rest l.2.0 r.0 l.1 l.2.1 r.1, routed-call m how c l.0 rest l.2.0 r.0 l.1 l.2.2 r.2)
  have_walks (suc n) (a_choice b ∷ rest) h f =
      one_choice m rest b
      (λ e. have_walks n rest (of_rest n (sum_of (sum_of statement_size) b) (tasks_size rest) h) (λ c i. f c (IsAmong-append_right (calls_of (a_choice b)) (all_calls rest) c i)))
      (λ i s at.
      let j = IsAmong-slice_get b i s at in
      have_walks n (map task_of s ++ rest) (smaller b rest s n j h) (λ c k. f c (alternative_calls b rest s j c k)))

  -- NO CLASS LEADS BACK TO ITSELF

  named_class : (is : List Item) (k : Class) → IsAmong is (item.Class k) → IsAmong (class_names is) k.name
  named_class [] k i = absurd i
  named_class (item.Class j ∷ is) k (inl e) = inl (same_name k j e)
    where
      same_name : (a b : Class) → item.Class a ≡ item.Class b → a.name ≡ b.name
      same_name a b h = cc
  named_class (item.Class j ∷ is) k (inr i) = inr (named_class is k i)
  named_class (item.Value v ∷ is) k (inl e) = absurd (other k e)
    where
      other : (a : Class) → item.Class a ≡ item.Value v → ⊥
      other a h = cc
  named_class (item.Value v ∷ is) k (inr i) = named_class is k i
  named_class (item.Header h ∷ is) k (inl e) = absurd (other k e)
    where
      other : (a : Class) → item.Class a ≡ item.Header h → ⊥
      other a p = cc
  named_class (item.Header h ∷ is) k (inr i) = named_class is k i

  name_is_there : (c : Sym) (k : Class) → class_of m c ≡ Some k → IsAmong (class_names m) c
  name_is_there c k at = let r = class_of-stands m c k at in subst (λ z. IsAmong (class_names m) z) r.1 (named_class m k r.0)

  mentioned-class : (c : Sym) (k : Class) → class_of m c ≡ Some k → mentioned m c ≡ mentions k
  mentioned-class c k at = ap mentions_of at

  -- one mention more
  leads_on : (c d : Sym) (j : ℕ) (a : Sym) → LeadsTo (mentioned m) c j a → IsAmong (mentioned m c) d → LeadsTo (mentioned m) d (suc j) a
  leads_on c d zero a h i = (d, subst (λ z. IsAmong (mentioned m z) d) (sym h) i, refl)
  leads_on c d (suc j) a h i = (h.0, h.1, leads_on c d j h.0 h.2 i)

  -- what the tasks of a class call it mentions
  tasks_mention : (k : Class) → IsWithin (all_calls (tasks_of k)) (mentions k)
  tasks_mention k c i =
      let r = IsAmong-gathered_from calls_of (tasks_of k) c i in
      elim (IsAmong-append (map (a_call imported) k.imports) (a_choice k.body ∷ []) r.0 r.1) [
        | inl j ↦
            let t = IsAmong-map_from (a_call imported) k.imports r.0 j in
            IsAmong-append_left k.imports (called_classes (uses_of k)) c (imported_name k.imports c t.0 t.1 (subst (λ z. IsAmong (calls_of z) c) t.2 r.2))
        | inr j ↦ IsAmong-append_right k.imports (called_classes (uses_of k)) c (of_body r.0 j r.2)
      ]
    where
      imported_name : (names : List Sym) (a b : Sym) → IsAmong names b → IsAmong (b ∷ []) a → IsAmong names a
      imported_name names a b j (inl e) = subst (λ z. IsAmong names z) (sym e) j
      imported_name names a b j (inr e) = absurd e

      of_body : (t : Task) → IsAmong (a_choice k.body ∷ []) t → IsAmong (calls_of t) c → IsAmong (called_classes (uses_of k)) c
      of_body t (inl e) j = subst (λ z. IsAmong (calls_of z) c) e j
      of_body t (inr e) j = absurd e

  -- c stands behind the classes of the way, which lead to it; n bounds how many classes are not yet on the way
  class_has_list : (scoped : IsScoped m) (n : ℕ) (way : List Sym) (c : Sym) (k : Class) → class_of m c ≡ Some k
      → NoneTwice (c ∷ way) → IsWithin (c ∷ way) (class_names m) → ((p : Sym) → IsAmong (c ∷ way) p → (j : ℕ) × LeadsTo (mentioned m) c j p)
      → length (class_names m) ≤ length way + n → HasWalks (tasks_of k)
  class_has_list scoped zero way c k at once within leads few =
      absurd (too_few (length way) (length (class_names m)) (length-within (c ∷ way) (class_names m) once within) few)
    where
      too_few : (a b : ℕ) → suc a ≤ b → b ≤ a + 0 → ⊥
      too_few a b h g = omega arith
  class_has_list scoped (suc n) way c k at once within leads few =
      have_walks (tasks_size (tasks_of k)) (tasks_of k) (at_most (tasks_size (tasks_of k)))
      (λ d i.
      let mention : IsAmong (mentions k) d = tasks_mention k d i in
      let here : IsAmong (mentioned m c) d = subst (λ (z : List Sym). IsAmong z d) (sym (mentioned-class c k at)) mention in
      let there = Each-at (λ z. (j : Class) × (class_of m z ≡ Some j)) (mentions k) d (scoped.there k (class_of-stands m c k at).0) mention in
      let new : IsAmong (c ∷ way) d → ⊥ = λ w. let r = leads d w in scoped.no_cycle d r.0 (leads_on c d r.0 d r.1 here) in (
        there.0,
        there.1,
        class_has_list scoped n (c ∷ way) d there.0 there.1 (new, once)
            (within_more d (name_is_there d there.0 there.1))
            (λ p w. leads_more d here p w)
            (one_more (length way) n (length (class_names m)) few),
      ))
    where
      at_most : (a : ℕ) → a ≤ a
      at_most a = omega arith

      within_more : (d : Sym) → IsAmong (class_names m) d → IsWithin (d ∷ c ∷ way) (class_names m)
      within_more d i p (inl e) = subst (λ z. IsAmong (class_names m) z) (sym e) i
      within_more d i p (inr j) = within p j

      leads_more : (d : Sym) → IsAmong (mentioned m c) d → (p : Sym) → IsAmong (d ∷ c ∷ way) p → (j : ℕ) × LeadsTo (mentioned m) d j p
      leads_more d here p (inl e) = (0, e)
      leads_more d here p (inr i) = let r = leads p i in (suc r.0, leads_on c d r.0 p r.1 here)

      one_more : (a n b : ℕ) → b ≤ a + suc n → b ≤ suc a + n
      one_more a n b h = omega arith

  walks_are_expansions : (c : Sym) (k : Class) → class_of m c ≡ Some k → (ws : List Walk) → AreWalks m (tasks_of k) ws → AreExpansions m c ws
  walks_are_expansions c k at ws h = record {
    all = record {
      once = InOrder-once IsEarlier (λ w l. IsLeftOf-irreflexive (choices w) l) ws h.order;
      only = Each-members (IsExpansion m c) ws (λ w i. (k, at, h.only w i));
      all = λ w e. h.all w (subst (λ z. Does m (tasks_of z) w) (same_class e.0 k (sym e.1 ∙ at)) e.2);
    };
    order = InOrder-InChoiceOrder ws h.order;
  }
    where
      same_class : (a b : Class) → Some a ≡ Some b → a ≡ b
      same_class a b e = cc

-- the class has walks that lead where it leads
lists_of : (m : List Item) (c : Sym) (k : Class) → IsScoped m → class_of m c ≡ Some k → HasWalks m (tasks_of k)
lists_of m c k scoped at = class_has_list m scoped (length (class_names m)) [] c k at ((λ i. i), tt) (alone (name_is_there m c k at)) to_itself (at_most (length (class_names m)))
  where
    alone : IsAmong (class_names m) c → IsWithin (c ∷ []) (class_names m)
    alone i p (inl e) = subst (λ z. IsAmong (class_names m) z) (sym e) i
    alone i p (inr j) = absurd j

    to_itself : (p : Sym) → IsAmong (c ∷ []) p → (j : ℕ) × LeadsTo (mentioned m) c j p
    to_itself p (inl e) = (0, e)
    to_itself p (inr j) = absurd j

    at_most : (a : ℕ) → a ≤ 0 + a
    at_most a = omega arith

pub expansions_exist : (m : List Item) (c : Sym) (k : Class) → IsScoped m → class_of m c ≡ Some k → (ws : List Walk) × AreExpansions m c ws
expansions_exist m c k scoped at = let r = lists_of m c k scoped at in (r.0, walks_are_expansions m c k at r.0 r.1)

-- the tasks of a class lead to all its expansions, in order
pub expansions_are_led_to : (m : List Item) (c : Sym) (k : Class) → IsScoped m → class_of m c ≡ Some k → (ws : List Walk) → AreExpansions m c ws
    → LeadsOn m (dues 0 (tasks_of k)) 1 [] (map (outcome m) ws)
expansions_are_led_to m c k scoped at ws h =
    let r = lists_of m c k scoped at in
    subst (λ z. LeadsOn m (dues 0 (tasks_of k)) 1 [] (map (outcome m) z)) (one_list m c r.0 ws (walks_are_expansions m c k at r.0 r.1) h) (routed-whole m k r.0 r.2)
