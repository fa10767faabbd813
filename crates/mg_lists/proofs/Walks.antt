-- All that an expansion of a metagrammar that was read says can be written.
use Rattle.std.specs.Prelude.{◌≡◌, ℕ, ◌+◌, List, [], ◌∷◌, ◌++◌, map, Some, refl}
use Rattle.std.proofs.Common.{sym, subst}
use Rattle.gr_base.specs.Lists.{Each}
use Rattle.gr_base.proofs.ListLemmas.{Each-at, Each-append, Each-map, IsAmong-slice_get, Each-weaker}
use Rattle.gr_reader.proofs.Texts.{all_have, all_written}
use Rattle.gr_symbols.specs.Numbers.{Grows}
use Rattle.gr_terms.specs.declared.Sym.{Sym}
use Rattle.gr_tokens.proofs.SpanLemmas.{slices}
use Rattle.mg_syntax.specs.declared.body.Statement.{Statement}
use Rattle.mg_syntax.specs.declared.item.Class.{Class}
use Rattle.mg_syntax.specs.declared.item.Item.{Item}
use Rattle.mg_syntax.specs.declared.item.Item.TheVariants as item
use Rattle.mg_reader.specs.Answers.{IsMetagrammar}
use Rattle.mg_reader.proofs.Real.{reals, grown}
use Rattle.mg_scope.specs.Classes.{class_of, exports_of, firsts}
use Rattle.mg_scope.proofs.ClassLemmas.{class_of-stands}
use Rattle.mg_deeds.specs.Sayings.{import_said, dot_said, deed_said}
use Rattle.mg_deeds.specs.Weights.{deed_weight}
use Rattle.mg_expand.specs.Walks.{How, imported, called, bound_to, Walk, Task, a_call, a_choice, task_of, tasks_of, IsAlternative, Does, done, takes, performs, enters, IsExpansion}
use Rattle.mg_expand.specs.Items.{call_said, call_weight, walk_said, walk_weight, expansion_said}
use Rattle.tg_reader.specs.Writable.{IsTable}
use Rattle.mg_lists.proofs.Sayings.{CanSay, deed_fine}
use Rattle.mg_lists.proofs.Spelled.{IsSpelledStatement, IsFineTask, IsFineClass, IsKnownItem, statement_task, body_statements, items_known}

-- the classes of a metagrammar that was read, by a table that has grown since
pub all_items : (bytes : List ℕ) (texts later : List (List ℕ)) (m : List Item) → IsTable later → Grows texts later → IsMetagrammar bytes texts m → Each (IsKnownItem later) m
all_items bytes texts later m table grows g =
    let ts = g.are.tokens in
    items_known later table m g.lexemes []
    (reals bytes texts later ts g.lexemes (grown texts later grows) (slices bytes [] bytes [] ts refl g.are.are.cut) (all_have bytes ts g.are.are) (all_written bytes ts g.are.are) g.are.each) g.spelled

module _ (texts : List (List ℕ)) (table : IsTable texts) (m : List Item) (items : Each (IsKnownItem texts) m) where
  pub class_known : (c : Sym) (k : Class) → class_of m c ≡ Some k → IsFineClass texts k
  class_known c k e = Each-at (IsKnownItem texts) m (item.Class k) items (class_of-stands m c k e).0

  calls_fine : (cs : List Sym) → Each (IsFineTask texts) (map (a_call imported) cs)
  calls_fine [] = tt
  calls_fine (c ∷ cs) = (tt, calls_fine cs)

  class_tasks : (c : Sym) (k : Class) → class_of m c ≡ Some k → Each (IsFineTask texts) (tasks_of k)
  class_tasks c k e = Each-append (IsFineTask texts) (map (a_call imported) k.imports) (a_choice k.body ∷ []) (calls_fine k.imports) ((class_known c k e).body, tt)

  alternative_spelled : (b : List (List Statement)) (i : ℕ) (s : List Statement) → IsAlternative b i s → Each (Each (IsSpelledStatement texts)) b → Each (IsSpelledStatement texts) s
  alternative_spelled [] i s a h = subst (λ z. Each (IsSpelledStatement texts) z) (sym a.1) tt
  alternative_spelled (t ∷ b) i s a h = Each-at (Each (IsSpelledStatement texts)) (t ∷ b) s h (IsAmong-slice_get (t ∷ b) i s a)

  imports_said : (here there : ℕ) (ys : List Sym) → Each (CanSay texts) (map (import_said here there) ys)
  imports_said here there [] = tt
  imports_said here there (y ∷ ys) = (tt, imports_said here there ys)

  dots_said : (x : Sym) (here there : ℕ) (ys : List Sym) → Each (CanSay texts) (map (dot_said x here there) ys)
  dots_said x here there [] = tt
  dots_said x here there (y ∷ ys) = (tt, dots_said x here there ys)

  call_fine : (how : How) (here there : ℕ) (c : Sym) → Each (CanSay texts) (call_said m how here there c)
  call_fine imported here there c = imports_said here there (firsts (exports_of m c))
  call_fine called here there c = tt
  call_fine (bound_to x) here there c = dots_said x here there (firsts (exports_of m c))

  walk_fine : (ts : List Task) (w : Walk) → Does m ts w → Each (IsFineTask texts) ts → (here n : ℕ) → Each (CanSay texts) (walk_said m here n w)
  walk_fine _ _ done h here n = tt
  walk_fine _ _ (takes {rest} {w} b i s a d) h here n =
      walk_fine (map task_of s ++ rest) w d
      (Each-append (IsFineTask texts) (map task_of s) rest
      (Each-map task_of (IsFineTask texts) s
      (Each-weaker (IsSpelledStatement texts) (λ x. IsFineTask texts (task_of x)) (statement_task texts table) s (alternative_spelled b i s a (body_statements texts table b h.0)))) h.1) here n
  walk_fine _ _ (performs {rest} {w} d does) h here n =
      Each-append (CanSay texts) (deed_said here n d) (walk_said m here (n + deed_weight d) w) (deed_fine texts here n d h.0) (walk_fine rest w does h.1 here (n + deed_weight d))
  walk_fine _ _ (enters {rest} {inside} {after} how c k e d more) h here n =
      let first = n + call_weight m how c in
      let last = first + walk_weight m inside in
      Each-append (CanSay texts) (call_said m how here n c ++ walk_said m n first inside) (walk_said m here last after)
      (Each-append (CanSay texts) (call_said m how here n c) (walk_said m n first inside) (call_fine how here n c) (walk_fine (tasks_of k) inside d (class_tasks c k e) n first))
      (walk_fine rest after more h.1 here last)

  pub expansion_fine : (c : Sym) (w : Walk) → IsExpansion m c w → Each (CanSay texts) (expansion_said m w)
  expansion_fine c w e = walk_fine (tasks_of e.0) w e.2 (class_tasks c e.0 e.1) 0 1
