-- At most one outcome is right for the bytes of a file, as far as the budget is enough.
use Rattle.std.specs.Prelude.{◌≡◌, ℕ, List, [], ◌∷◌, ◌++◌, false, Result, Ok, Err, length, refl}
use Rattle.std.specs.List.{AllZip}
use Rattle.std.proofs.Common.{sym, ap, ap₂, subst, ◌∙◌, arith, inl, inr}
use Rattle.std.proofs.lemmas.Bool.{cases_lt}
use Rattle.gr_base.specs.Lists.{Each, NoneTwice}
use Rattle.gr_base.proofs.ListLemmas.{Each-at}
use Rattle.gr_symbols.specs.Numbers.{first_texts}
use Rattle.gr_symbols.proofs.FirstTexts.{NoneTwice-first_texts}
use Rattle.gr_terms.specs.declared.Sym.{Sym}
use Rattle.gr_text.specs.Limits.{byte_limit}
use Rattle.gr_tokens.specs.declared.ReadRefusal.{ReadRefusal}
use Rattle.gr_tokens.specs.declared.ReadRefusal.TheVariants as reading
use Rattle.mg_syntax.specs.declared.item.Item.{Item}
use Rattle.mg_reader.specs.Answers.{IsMetagrammar}
use Rattle.mg_scope.specs.Classes.{valued_classes}
use Rattle.mg_scope.specs.Faults.{IsScoped, IsFirstFault}
use Rattle.mg_scope.proofs.AnswerLaws.{one_fault, no_fault}
use Rattle.mg_scope.specs.declared.refusal.ScopeRefusal.{ScopeRefusal}
use Rattle.mg_scope.specs.declared.refusal.ScopeRefusal.TheVariants as scope
use Rattle.mg_compile.specs.declared.refusal.CompileRefusal.{CompileRefusal}
use Rattle.mg_compile.specs.declared.refusal.CompileRefusal.TheVariants as compiling
use Rattle.td_canon.specs.CanonicalTexts.{text_in}
use Rattle.mg_compile.specs.Compiled.{IsClassFault, IsCompiledList}
use Rattle.tg_text.specs.GrammarText.{ClassText, grammar_text}
use Rattle.rl_refusals.specs.declared.refusal.Refusal.{Refusal}
use Rattle.rl_refusals.specs.Lines.{IsRefusalLine}
use Rattle.rl_top.specs.Refusals.{IsOfReading, IsOfScope, IsOfCompiling}
use Rattle.rl_top.specs.Outcomes.{IsNumbering, IsGood, HasNoFault, IsFirstClassFault, IsFirstRefusal, too_long, unread, unscoped, uncompiled, IsClassText, IsEnding, whole, shorter, IsOutcome, refused, compiled, IsEnoughFor, IsEnough}
use Rattle.rl_top.specs.declared.status.Status.{Status}
use Rattle.rl_top.specs.declared.status.Status.TheVariants as status
use Rattle.rl_top.proofs.Laws.{TextsApart, OneTable, OneFault, BelowLaws}

-- a file has one numbering, in which no text stands twice
pub one_numbering : OneTable → (bytes : List ℕ) (a b : List (List ℕ)) → IsNumbering bytes a → IsNumbering bytes b → a ≡ b
one_numbering one_table bytes a b p q = elim (cases_lt byte_limit (length bytes)) [
  | inl long ↦ p.long long ∙ sym (q.long long)
  | inr short ↦ one_table bytes first_texts a b (p.short short) (q.short short)
]

pub texts_apart : TextsApart → (bytes : List ℕ) (texts : List (List ℕ)) → IsNumbering bytes texts → NoneTwice texts
texts_apart table_apart bytes texts p = elim (cases_lt byte_limit (length bytes)) [
  | inl long ↦ subst (λ z. NoneTwice z) (sym (p.long long)) NoneTwice-first_texts
  | inr short ↦ table_apart bytes first_texts texts NoneTwice-first_texts (p.short short)
]

-- what is read
abbrev Answer : Type 0
Answer = Result (List Item) ReadRefusal

same_ok : (m n : List Item) (a b : Answer) → a ≡ Ok m → b ≡ Ok n → a ≡ b → m ≡ n
same_ok m n a b p q e = cc

same_err : (r s : ReadRefusal) (a b : Answer) → a ≡ Err r → b ≡ Err s → a ≡ b → r ≡ s
same_err r s a b p q e = cc

not_both : (m : List Item) (r : ReadRefusal) (a b : Answer) → a ≡ Ok m → b ≡ Err r → a ≡ b → ⊥
not_both m r a b p q e = absurd cc

-- what a refusal of a part stands for
of_reading_once : (e : ReadRefusal) (r s : Refusal) → IsOfReading e r → IsOfReading e s → r ≡ s
of_reading_once (reading.Syntax p) r s a b = a ∙ sym b
of_reading_once (reading.NotUtf8 n) r s a b = a ∙ sym b
of_reading_once (reading.Duplicate p) r s a b = a ∙ sym b
of_reading_once (reading.TooManyClasses p) r s a b = a ∙ sym b
of_reading_once _ r s a b = absurd a

of_scope_once : (e : ScopeRefusal) (r s : Refusal) → IsOfScope e r → IsOfScope e s → r ≡ s
of_scope_once (scope.UnknownClass c) r s a b = a ∙ sym b
of_scope_once (scope.ClassCycle names) r s a b = a ∙ sym b
of_scope_once (scope.DuplicateClass c) r s a b = a ∙ sym b
of_scope_once (scope.UndeclaredVariable c x) r s a b = a ∙ sym b
of_scope_once (scope.NotExported c x) r s a b = a ∙ sym b
of_scope_once scope.Memory r s a b = absurd a

of_compiling_once : (e : CompileRefusal) (r s : Refusal) → IsOfCompiling e r → IsOfCompiling e s → r ≡ s
of_compiling_once (compiling.TooManyNodes c) r s a b = a ∙ sym b
of_compiling_once (compiling.TooLarge c) r s a b = a ∙ sym b
of_compiling_once compiling.Memory r s a b = absurd a

-- the first element without a property is one
same_first : {A : Type 0} (Q : A → Type 0) (xs ys : List A) (x y : A) (us vs : List A) → xs ++ x ∷ us ≡ ys ++ y ∷ vs → Each Q xs → Each Q ys → (Q x → ⊥) → (Q y → ⊥) → x ≡ y
same_first Q [] [] x y us vs e a b not_x not_y = cc
same_first Q [] (z ∷ ys) x y us vs e a b not_x not_y = absurd (not_x (subst Q (let h : z ≡ x = cc in h) b.0))
same_first Q (z ∷ xs) [] x y us vs e a b not_x not_y = absurd (not_y (subst Q (let h : z ≡ y = cc in h) a.0))
same_first Q (w ∷ xs) (z ∷ ys) x y us vs e a b not_x not_y = same_first Q xs ys x y us vs (cc) a.1 b.1 not_x not_y

class_fault_once : OneFault → (m : List Item) (models : ℕ) (e f : CompileRefusal) → IsFirstClassFault m models e → IsFirstClassFault m models f → e ≡ f
class_fault_once once m models e f p q =
    let same : p.class ≡ q.class = same_first (HasNoFault m models) p.before q.before p.class q.class p.after q.after (sym p.valued ∙ q.valued) p.faultless q.faultless (λ h. h e p.fault) (λ h. h f q.fault) in
    once m q.class models e f (subst (λ c. IsClassFault m c models e) same p.fault) q.fault

class_fault_stands : (m : List Item) (models : ℕ) (e : CompileRefusal) → IsFirstClassFault m models e → Each (HasNoFault m models) (valued_classes m) → ⊥
class_fault_stands m models e p none = stands p.before (subst (λ z. Each (HasNoFault m models) z) p.valued none)
  where
    stands : (before : List Sym) → Each (HasNoFault m models) (before ++ p.class ∷ p.after) → ⊥
    stands [] none = none.0 e p.fault
    stands (c ∷ before) none = stands before none.1

module _ (laws : BelowLaws) (bytes : List ℕ) (models : ℕ) (texts : List (List ℕ)) (apart : NoneTwice texts) where
  pub one_metagrammar : (m n : List Item) → IsMetagrammar bytes texts m → IsMetagrammar bytes texts n → m ≡ n
  one_metagrammar m n p q = same_ok m n (Ok m) (Ok n) refl refl (laws.one_answer bytes texts (Ok m) (Ok n) apart p q)

  -- one refusal is the first
  one_refusal : (r s : Refusal) → IsFirstRefusal bytes models texts r → IsFirstRefusal bytes models texts s → r ≡ s
  one_refusal r s (too_long long is) (too_long long' is') = is ∙ sym is'
  one_refusal r s (too_long long is) (unread e short fault is') = absurd (omega arith)
  one_refusal r s (too_long long is) (unscoped m e short spelled fault is') = absurd (omega arith)
  one_refusal r s (too_long long is) (uncompiled m e good fault is') = let short = good.short in absurd (omega arith)
  one_refusal r s (unread e short fault is) (too_long long is') = absurd (omega arith)
  one_refusal r s (unread e short fault is) (unread f short' fault' is') =
      of_reading_once e r s is (subst (λ z. IsOfReading z s) (same_err f e (Err f) (Err e) refl refl (laws.one_answer bytes texts (Err f) (Err e) apart fault' fault)) is')
  one_refusal r s (unread e short fault is) (unscoped m f short' spelled fault' is') = absurd (not_both m e (Ok m) (Err e) refl refl (laws.one_answer bytes texts (Ok m) (Err e) apart spelled fault))
  one_refusal r s (unread e short fault is) (uncompiled m f good fault' is') = absurd (not_both m e (Ok m) (Err e) refl refl (laws.one_answer bytes texts (Ok m) (Err e) apart good.spelled fault))
  one_refusal r s (unscoped m e short spelled fault is) (too_long long is') = absurd (omega arith)
  one_refusal r s (unscoped m e short spelled fault is) (unread f short' fault' is') = absurd (not_both m f (Ok m) (Err f) refl refl (laws.one_answer bytes texts (Ok m) (Err f) apart spelled fault'))
  one_refusal r s (unscoped m e short spelled fault is) (unscoped n f short' spelled' fault' is') =
      of_scope_once e r s is (subst (λ z. IsOfScope z s) (one_fault m f e (subst (λ z. IsFirstFault z f) (one_metagrammar n m spelled' spelled) fault') fault) is')
  one_refusal r s (unscoped m e short spelled fault is) (uncompiled n f good fault' is') = absurd (no_fault m e (subst (λ z. IsScoped z) (one_metagrammar n m good.spelled spelled) good.scoped) fault)
  one_refusal r s (uncompiled m e good fault is) (too_long long is') = let short = good.short in absurd (omega arith)
  one_refusal r s (uncompiled m e good fault is) (unread f short' fault' is') = absurd (not_both m f (Ok m) (Err f) refl refl (laws.one_answer bytes texts (Ok m) (Err f) apart good.spelled fault'))
  one_refusal r s (uncompiled m e good fault is) (unscoped n f short' spelled' fault' is') = absurd (no_fault n f (subst (λ z. IsScoped z) (one_metagrammar m n good.spelled spelled') good.scoped) fault')
  one_refusal r s (uncompiled m e good fault is) (uncompiled n f good' fault' is') =
      of_compiling_once e r s is (subst (λ z. IsOfCompiling z s) (class_fault_once laws.one_fault m models f e (subst (λ z. IsFirstClassFault z models f) (one_metagrammar n m good'.spelled good.spelled) fault') fault) is')

  -- and it stands against classes without faults
  not_refused : (r : Refusal) (m : List Item) → IsFirstRefusal bytes models texts r → IsGood bytes texts m → Each (HasNoFault m models) (valued_classes m) → ⊥
  not_refused r m (too_long long is) good none = let short = good.short in absurd (omega arith)
  not_refused r m (unread e short fault is) good none = absurd (not_both m e (Ok m) (Err e) refl refl (laws.one_answer bytes texts (Ok m) (Err e) apart good.spelled fault))
  not_refused r m (unscoped n e short spelled fault is) good none = no_fault n e (subst (λ z. IsScoped z) (one_metagrammar m n good.spelled spelled) good.scoped) fault
  not_refused r m (uncompiled n e good' fault is) good none =
      class_fault_stands n models e fault (subst (λ z. Each (HasNoFault z models) (valued_classes z)) (one_metagrammar m n good.spelled good'.spelled) none)

  -- where the budget is enough, one list of texts is right, and none of it is cut
  module _ (m : List Item) where
    -- such a list is the whole one
    whole_class : (c : Sym) (t : ClassText) → IsEnoughFor m models c → IsClassText texts m models c t → (t.cut ≡ false) × IsCompiledList (text_in texts) m c t.trees
    whole_class c t enough p = laws.whole_list (text_in texts) m c models enough.steps t.trees t.cut enough.counted enough.most enough.some p.list

    one_class : (c : Sym) (t u : ClassText) → IsEnoughFor m models c → IsClassText texts m models c t → IsClassText texts m models c u → t ≡ u
    one_class c t u enough p q =
        let whole_t = whole_class c t enough p in
        let whole_u = whole_class c u enough q in
        let name : t.name ≡ u.name = cc (p.name, q.name) in
        let cut : t.cut ≡ u.cut = whole_t.0 ∙ sym whole_u.0 in
        same_class t u name (laws.one_list (text_in texts) m c t.trees u.trees whole_t.1 whole_u.1) cut
      where
        same_class : (t u : ClassText) → t.name ≡ u.name → t.trees ≡ u.trees → t.cut ≡ u.cut → t ≡ u
        same_class t u a b c = λ i. record { name = a i; trees = b i; cut = c i }

    one_list : (vs : List Sym) (ts us : List ClassText) → Each (IsEnoughFor m models) vs → AllZip (IsClassText texts m models) vs ts → AllZip (IsClassText texts m models) vs us → ts ≡ us
    one_list [] [] [] enough p q = refl
    one_list [] [] (u ∷ us) enough p q = absurd q
    one_list [] (t ∷ ts) us enough p q = absurd p
    one_list (v ∷ vs) [] us enough p q = absurd p
    one_list (v ∷ vs) (t ∷ ts) [] enough p q = absurd q
    one_list (v ∷ vs) (t ∷ ts) (u ∷ us) enough p q = ap₂ (λ x xs. x ∷ xs) (one_class v t u enough.0 p.0 q.0) (one_list vs ts us enough.1 p.1 q.1)

    all_whole : (vs : List Sym) (ts : List ClassText) → Each (IsEnoughFor m models) vs → AllZip (IsClassText texts m models) vs ts → Each (λ t. t.cut ≡ false) ts
    all_whole [] [] enough p = tt
    all_whole [] (t ∷ ts) enough p = absurd p
    all_whole (v ∷ vs) [] enough p = absurd p
    all_whole (v ∷ vs) (t ∷ ts) enough p = ((whole_class v t enough.0 p.0).0, all_whole vs ts enough.1 p.1)

-- a run that cuts nothing is done
pub ends_done : (ts : List ClassText) (s : Status) → Each (λ t. t.cut ≡ false) ts → IsEnding ts s → s ≡ status.Done
ends_done ts s none (whole each is) = is
ends_done ts s none (shorter t among cut is) = let not_cut = Each-at (λ (t : ClassText). t.cut ≡ false) ts t none among in absurd cc

not_ended_refused : (ts : List ClassText) (s : Status) → IsEnding ts s → s ≡ status.Refused → ⊥
not_ended_refused ts s (whole each is) e = absurd cc
not_ended_refused ts s (shorter t among cut is) e = absurd cc

-- by the laws of the crates below
module _ (laws : BelowLaws) where
  -- where a refusal is right, nothing else is
  pub one_refused : (bytes text other : List ℕ) (models : ℕ) (s : Status) → IsOutcome bytes models status.Refused text → IsOutcome bytes models s other → (s ≡ status.Refused) × (text ≡ other)
  one_refused bytes text other models s (refused texts r numbered first line is) (refused texts' r' numbered' first' line' is') =
      let same = one_numbering laws.one_table bytes texts' texts numbered' numbered in
      let first_here = subst (λ z. IsFirstRefusal bytes models z r') same first' in
      let line_here = subst (λ z. IsRefusalLine z r' other) same line' in
      let one : r' ≡ r = one_refusal laws bytes models texts (texts_apart laws.apart bytes texts numbered) r' r first_here first in
      (is', laws.one_line texts r text other line (subst (λ z. IsRefusalLine texts z other) one line_here))
  one_refused bytes text other models s (refused texts r numbered first line is) (compiled texts' m classes numbered' good written text_is ending) =
      absurd (not_refused laws bytes models texts' (texts_apart laws.apart bytes texts' numbered') r m (subst (λ z. IsFirstRefusal bytes models z r) (one_numbering laws.one_table bytes texts texts' numbered numbered') first) good written.faultless)
  one_refused bytes text other models s (compiled texts m classes numbered good written text_is ending) o = absurd (not_ended_refused classes status.Refused ending refl)

  -- what is compiled under a budget that is enough
  module _ (bytes : List ℕ) (models : ℕ) (enough : IsEnough bytes models) where
    abbrev Written : List ClassText → Type 0
    Written ts = AllZip (IsClassText enough.texts enough.m models) (valued_classes enough.m) ts

    here : (texts : List (List ℕ)) (m : List Item) (ts : List ClassText) → IsNumbering bytes texts → IsGood bytes texts m → AllZip (IsClassText texts m models) (valued_classes m) ts → Written ts
    here texts m ts numbered good written =
        let texts_same = one_numbering laws.one_table bytes texts enough.texts numbered enough.numbered in
        let spelled = subst (λ z. IsMetagrammar bytes z m) texts_same good.spelled in
        let same = one_metagrammar laws bytes models enough.texts (texts_apart laws.apart bytes enough.texts enough.numbered) m enough.m spelled enough.good.spelled in
        subst (λ z. AllZip (IsClassText enough.texts z models) (valued_classes z) ts) same (subst (λ z. AllZip (IsClassText z m models) (valued_classes m) ts) texts_same written)

    done : (ts : List ClassText) (s : Status) → Written ts → IsEnding ts s → s ≡ status.Done
    done ts s written ending = ends_done ts s (all_whole laws bytes models enough.texts (texts_apart laws.apart bytes enough.texts enough.numbered) enough.m (valued_classes enough.m) ts enough.each written) ending

    pub not_shortened : (s : Status) (text : List ℕ) → IsOutcome bytes models s text → s ≡ status.Shortened → ⊥
    not_shortened s text (refused texts r numbered first line is) e = absurd cc
    not_shortened s text (compiled texts m classes numbered good written text_is ending) e =
        let finished = done classes s (here texts m classes numbered good written.written) ending in
        absurd cc

    pub one_enough : (text other : List ℕ) (s t : Status) → IsOutcome bytes models s text → IsOutcome bytes models t other → (s ≡ t) × (text ≡ other)
    one_enough text other s t (refused texts r numbered first line is) o =
        let both = one_refused bytes text other models t (refused texts r numbered first line refl) o in
        (is ∙ sym both.0, both.1)
    one_enough text other s t (compiled texts m classes numbered good written text_is ending) (refused texts' r numbered' first line is) =
        let both = one_refused bytes other text models s (refused texts' r numbered' first line refl) (compiled texts m classes numbered good written text_is ending) in
        (both.0 ∙ sym is, sym both.1)
    one_enough text other s t (compiled texts m ts numbered good written text_is ending) (compiled texts' m' us numbered' good' written' text_is' ending') =
        let p = here texts m ts numbered good written.written in
        let q = here texts' m' us numbered' good' written'.written in
        let same = one_list laws bytes models enough.texts (texts_apart laws.apart bytes enough.texts enough.numbered) enough.m (valued_classes enough.m) ts us enough.each p q in
        (done ts s p ending ∙ sym (done us t q ending'), text_is ∙ (ap grammar_text same ∙ sym text_is'))
