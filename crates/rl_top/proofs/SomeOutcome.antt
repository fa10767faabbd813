-- For the bytes of each file and each budget an outcome is right.
use Rattle.std.specs.Prelude.{◌≡◌, ℕ, ◌<◌, ◌≤◌, List, [], ◌∷◌, ◌++◌, Bool, true, false, Option, Some, None, Result, Ok, Err, ◌⊎◌, length, codes, refl}
use Rattle.std.specs.Fmt.{decimal}
use Rattle.std.specs.List.{AllZip}
use Rattle.std.proofs.Common.{ap, subst, arith, inl, inr}
use Rattle.std.proofs.lemmas.Bool.{cases_lt}
use Rattle.gr_base.specs.Lists.{IsAmong, Each, NoneTwice, gathered}
use Rattle.gr_text.specs.Limits.{IsShort, byte_limit}
use Rattle.gr_text.specs.Words.{Spells, quoted}
use Rattle.gr_text.proofs.WordLemmas.{IsBareWord-settled}
use Rattle.gr_symbols.specs.Numbers.{Grows, first_texts}
use Rattle.gr_terms.specs.declared.Sym.{Sym}
use Rattle.gr_tokens.specs.declared.ReadRefusal.{ReadRefusal}
use Rattle.mg_syntax.specs.declared.body.Ref.{Ref}
use Rattle.mg_syntax.specs.declared.item.Class.{Class}
use Rattle.mg_syntax.specs.declared.item.Item.{Item}
use Rattle.mg_syntax.specs.declared.item.Item.TheVariants as item
use Rattle.mg_reader.specs.Answers.{IsMetagrammar, IsRefusal, IsRight}
use Rattle.mg_reader.specs.Tables.{IsTable}
use Rattle.mg_reader.proofs.SomeAnswer.{table_grows}
use Rattle.mg_syntax.specs.Names.{HasTexts}
use Rattle.mg_scope.specs.Classes.{class_of, valued_classes}
use Rattle.mg_scope.specs.Faults.{IsThere, IsScoped, IsFirstFault, HasFault}
use Rattle.mg_scope.specs.declared.refusal.ScopeRefusal.{ScopeRefusal}
use Rattle.mg_scope.specs.declared.refusal.ScopeRefusal.TheVariants as scope
use Rattle.mg_expand.specs.Walks.{Walk}
use Rattle.td_canon.specs.CanonicalTexts.{text_in}
use Rattle.td_canon.proofs.OrderLemmas.{text_named}
use Rattle.mg_compile.specs.Compiled.{IsFaultOf, IsClassFault, IsRightList}
use Rattle.mg_compile.specs.declared.refusal.CompileRefusal.{CompileRefusal}
use Rattle.mg_compile.specs.declared.refusal.CompileRefusal.TheVariants as compiling
use Rattle.tg_text.specs.GrammarText.{ClassText, grammar_text}
use Rattle.rl_refusals.specs.declared.refusal.Refusal.{Refusal}
use Rattle.rl_refusals.specs.declared.refusal.Refusal.TheVariants as refusal
use Rattle.rl_refusals.specs.declared.refusal.Role.TheVariants.{Metagrammar}
use Rattle.rl_refusals.specs.Lines as lines
use Rattle.rl_refusals.specs.Lines.{Part, number, word, a_name, a_variable, parts_of, IsVariableText, IsPartText, IsRefusalLine, HasVariableText, HasPartText}
use Rattle.rl_top.specs.Refusals.{IsOfScope, IsOfCompiling}
use Rattle.rl_top.specs.Outcomes.{IsNumbering, IsGood, HasNoFault, IsFirstRefusal, too_long, unread, unscoped, uncompiled, IsClassText, IsEnding, whole, shorter, IsOutcome, refused, compiled}
use Rattle.rl_top.specs.declared.status.Status.{Status}
use Rattle.rl_top.specs.declared.status.Status.TheVariants as status
use Rattle.rl_top.proofs.FaultNames.{valued_has, scope_has}
use Rattle.rl_top.proofs.Laws.{TextsApart}
use Rattle.rl_top.proofs.OneOutcome.{texts_apart}
use Rattle.rl_top.proofs.Stopping.{read_refusal, read_names, all_named, valued_there, compiling_names}

-- ---- lines

module _ (texts : List (List ℕ)) where
  abbrev ref_of : Option Sym → Sym → Ref
  ref_of of name = record { of = of; name = name }

  some_variable : (of : Option Sym) (name : Sym) → HasVariableText texts (ref_of of name) → (bytes : List ℕ) × IsVariableText texts (ref_of of name) bytes
  some_variable None name h = let y = text_in texts name.0 in (63 ∷ y, (y, text_named texts name.0 h, refl))
  some_variable (Some x) name h =
      let u = text_in texts x.0 in
      let y = text_in texts name.0 in
      (63 ∷ u ++ codes ".?" ++ y, (u, y, text_named texts x.0 h.0, text_named texts name.0 h.1, refl))

  some_spelling : (t : List ℕ) → (s : List ℕ) × Spells s t
  some_spelling t = elim (IsBareWord-settled t) [ inl h ↦ (t, inl (h, refl)) | inr n ↦ (quoted t, inr (n, refl)) ]

  some_part : (p : Part) → HasPartText texts p → (bytes : List ℕ) × IsPartText texts p bytes
  some_part (number n) h = (decimal n, refl)
  some_part (word w) h = (w, refl)
  some_part (a_name a) h = let s = some_spelling (text_in texts a) in (s.0, (text_in texts a, text_named texts a h, s.1))
  some_part (a_variable r) h = some_variable r.of r.name h

  some_parts : (ps : List Part) → Each (HasPartText texts) ps → (ts : List (List ℕ)) × AllZip (IsPartText texts) ps ts
  some_parts [] h = ([], tt)
  some_parts (p ∷ ps) h = let t = some_part p h.0 in let rest = some_parts ps h.1 in (t.0 ∷ rest.0, (t.1, rest.1))

  some_line : (r : Refusal) → lines.HasTexts texts r → (bytes : List ℕ) × IsRefusalLine texts r bytes
  some_line r h =
      let t = some_parts (parts_of r) h in
      let parts = gathered (λ t. 32 ∷ t) t.0 in
      (codes "refused" ++ parts ++ 10 ∷ [], (parts, (t.0, t.1, refl), refl))

-- ---- refusals of the parts

of_scope : (m : List Item) (e : ScopeRefusal) → IsFirstFault m e → (r : Refusal) × IsOfScope e r
of_scope m (scope.UnknownClass c) f = (refusal.UnknownClass c, refl)
of_scope m (scope.ClassCycle names) f = (refusal.ClassCycle names, refl)
of_scope m (scope.DuplicateClass c) f = (refusal.DuplicateClass c, refl)
of_scope m (scope.UndeclaredVariable c x) f = (refusal.UndeclaredVariable c x, refl)
of_scope m (scope.NotExported c x) f = (refusal.NotExported c x, refl)
of_scope m scope.Memory (done, rest, i, split, fault, before) = absurd (none i fault.0)
  where
    none : (j : Item) → HasFault m done j scope.Memory → ⊥
    none (item.Class k) h = h
    none (item.Value v) h = h
    none (item.Header x) h = h

of_compiling : (m : List Item) (c : Sym) (w : Walk) (e : CompileRefusal) → IsFaultOf m c w e → (r : Refusal) × IsOfCompiling e r
of_compiling m c w (compiling.TooManyNodes k) h = (refusal.TooManyNodes k, refl)
of_compiling m c w (compiling.TooLarge k) h = (refusal.TooLarge k, refl)
of_compiling m c w compiling.Memory h = absurd h

-- ---- what the crates below say

abbrev pub SomeAnswer : Type 0
SomeAnswer = (bytes : List ℕ) (old new : List (List ℕ)) → IsTable bytes old new → (a : Result (List Item) ReadRefusal) × IsRight bytes new a

abbrev pub SomeTable : Type 0
SomeTable = (bytes : List ℕ) (old : List (List ℕ)) → (new : List (List ℕ)) × IsTable bytes old new

abbrev pub ScopedOrFault : Type 0
ScopedOrFault = (m : List Item) → IsScoped m ⊎ ((f : ScopeRefusal) × IsFirstFault m f)

abbrev pub ClassAnswer : Type 0
ClassAnswer = (texts : List (List ℕ)) (m : List Item) (c : Sym) (k : Class) (budget : ℕ) → NoneTwice texts → HasTexts texts m → IsScoped m → class_of m c ≡ Some k
    → ((e : CompileRefusal) × IsClassFault m c budget e)
    ⊎ (((e : CompileRefusal) → IsClassFault m c budget e → ⊥) × ((list : List (List ℕ)) × (cut : Bool) × IsRightList (text_in texts) m c budget list cut))

module _ (apart : TextsApart) (some_answer : SomeAnswer) (some_table : SomeTable) (either : ScopedOrFault) (class_answer : ClassAnswer) (bytes : List ℕ) (models : ℕ) where
  abbrev HasOutcome : Type 0
  HasOutcome = (s : Status) × (text : List ℕ) × IsOutcome bytes models s text

  refused_by : (texts : List (List ℕ)) (r : Refusal) → IsNumbering bytes texts → IsFirstRefusal bytes models texts r → lines.HasTexts texts r → HasOutcome
  refused_by texts r numbered first named = let line = some_line texts r named in (status.Refused, line.0, refused texts r numbered first line.1 refl)

  some_ending : (classes : List ClassText) → (s : Status) × IsEnding classes s
  some_ending classes = elim (cut_or_whole classes) [ inl h ↦ (status.Shortened, shorter h.0 h.1 h.2 refl) | inr h ↦ (status.Done, whole h refl) ]
    where
      cut_or_whole : (ts : List ClassText) → ((t : ClassText) × IsAmong ts t × (t.cut ≡ true)) ⊎ Each (λ (t : ClassText). t.cut ≡ false) ts
      cut_or_whole [] = inr tt
      cut_or_whole (t ∷ ts) = by t.cut refl (cut_or_whole ts)
        where
          by : (b : Bool) → t.cut ≡ b → ((u : ClassText) × IsAmong ts u × (u.cut ≡ true)) ⊎ Each (λ (u : ClassText). u.cut ≡ false) ts
              → ((u : ClassText) × IsAmong (t ∷ ts) u × (u.cut ≡ true)) ⊎ Each (λ (u : ClassText). u.cut ≡ false) (t ∷ ts)
          by true e rest = inl (t, inl refl, e)
          by false e (inl h) = inl (h.0, inr h.1, h.2)
          by false e (inr h) = inr (e, h)

  module _ (texts : List (List ℕ)) (numbered : IsNumbering bytes texts) (m : List Item) (good : IsGood bytes texts m) (known : HasTexts texts m) where
    -- the first class that has a fault, or a text for each
    record FaultIn (vs : List Sym) : Type 0 where
      pub before : List Sym
      pub class : Sym
      pub after : List Sym
      pub split : vs ≡ before ++ class ∷ after
      pub faultless : Each (HasNoFault m models) before
      pub fault : (e : CompileRefusal) × IsClassFault m class models e
      pub named : class.0 < length texts

    abbrev TextsFor : List Sym → Type 0
    TextsFor vs = Each (HasNoFault m models) vs × ((classes : List ClassText) × AllZip (IsClassText texts m models) vs classes)

    go_through : (vs : List Sym) → Each (IsThere m) vs → Each (λ (c : Sym). c.0 < length texts) vs → FaultIn vs ⊎ TextsFor vs
    go_through [] there has = inr (tt, ([], tt))
    go_through (c ∷ vs) there has =
        by_class (class_answer texts m c there.0.0 models (texts_apart apart bytes texts numbered) known good.scoped there.0.1) (go_through vs there.1 has.1)
      where
        by_class : ((e : CompileRefusal) × IsClassFault m c models e)
            ⊎ (((e : CompileRefusal) → IsClassFault m c models e → ⊥) × ((list : List (List ℕ)) × (cut : Bool) × IsRightList (text_in texts) m c models list cut))
            → FaultIn vs ⊎ TextsFor vs → FaultIn (c ∷ vs) ⊎ TextsFor (c ∷ vs)
        by_class (inl f) rest = inl (record { before = []; class = c; after = vs; split = refl; faultless = tt; fault = f; named = has.0 })
        by_class (inr (none, list)) (inl r) = inl (record { before = c ∷ r.before; class = r.class; after = r.after; split = ap (λ l. c ∷ l) r.split; faultless = (none, r.faultless); fault = r.fault; named = r.named })
        by_class (inr (none, (list, cut, right))) (inr r) =
            let t : ClassText = record { name = text_in texts c.0; trees = list; cut = cut } in
            inr ((none, r.0), (t ∷ r.1.0, (record { name = text_named texts c.0 has.0; list = right }, r.1.1)))

    of_classes : FaultIn (valued_classes m) ⊎ TextsFor (valued_classes m) → HasOutcome
    of_classes (inl f) =
        let e = f.fault.0 in
        let r = of_compiling m f.class f.fault.1.walk e f.fault.1.fault in
        refused_by texts r.0 numbered
        (uncompiled m e good (record { before = f.before; class = f.class; after = f.after; valued = f.split; faultless = f.faultless; fault = f.fault.1 }) r.1)
        (compiling_names texts m f.class f.fault.1.walk e r.0 f.named f.fault.1.fault r.1)
    of_classes (inr t) =
        let classes = t.1.0 in
        let s = some_ending classes in
        (s.0, grammar_text classes, compiled texts m classes numbered good (record { faultless = t.0; written = t.1.1 }) refl s.1)

    of_good : HasOutcome
    of_good = of_classes (go_through (valued_classes m) (valued_there m good.scoped) (valued_has texts m known))

  module _ (short : IsShort bytes) (texts : List (List ℕ)) (numbered : IsNumbering bytes texts) (grows : Grows first_texts texts) where
    of_scoped : (m : List Item) → IsMetagrammar bytes texts m → IsScoped m ⊎ ((f : ScopeRefusal) × IsFirstFault m f) → HasOutcome
    of_scoped m spelled (inl scoped) = of_good texts numbered m (record { short = short; spelled = spelled; scoped = scoped }) (all_named bytes texts m grows spelled)
    of_scoped m spelled (inr (e, fault)) =
        let r = of_scope m e fault in
        refused_by texts r.0 numbered (unscoped m e short spelled fault r.1) (scope_has texts m (all_named bytes texts m grows spelled) e r.0 fault r.1)

    of_answer : (a : Result (List Item) ReadRefusal) → IsRight bytes texts a → HasOutcome
    of_answer (Ok m) h = of_scoped m h (either m)
    of_answer (Err e) h = elim (read_refusal bytes texts e (inr h)) [
      | inl none ↦ absurd (subst (λ z. IsRefusal bytes texts z) none h)
      | inr r ↦ refused_by texts r.0 numbered (unread e short h r.1) (read_names texts e r.0 r.1)
    ]

  of_short : IsShort bytes → HasOutcome
  of_short short =
      let t = some_table bytes first_texts in
      let numbered : IsNumbering bytes t.0 = record { short = λ _. t.1; long = λ long. absurd (omega arith) } in
      let a = some_answer bytes first_texts t.0 t.1 in
      of_answer short t.0 numbered (table_grows bytes first_texts t.0 t.1) a.0 a.1

  of_long : byte_limit < length bytes → HasOutcome
  of_long long = refused_by first_texts (refusal.TooLong Metagrammar) (record { short = λ short. absurd (omega arith); long = λ _. refl }) (too_long long refl) (tt, (tt, tt))

  pub some_outcome : HasOutcome
  some_outcome = elim (cases_lt byte_limit (length bytes)) [ inl long ↦ of_long long | inr short ↦ of_short short ]
