-- What is known where compiling a file stops, and where it goes on.
use Rattle.std.specs.Prelude.{◌≡◌, ℕ, zero, suc, ◌+◌, ◌<◌, ◌≤◌, List, [], ◌∷◌, ◌++◌, map, take, drop, length, Some, Bool, true, false, ◌⊎◌, ⊤, slice_get, get_or, refl}
use Rattle.std.specs.List.{AllZip}
use Rattle.std.proofs.Common.{sym, ap, subst, ◌∙◌, arith, inl, inr}
use Rattle.std.proofs.lemmas.List.{take_all}
use Rattle.std.proofs.lemmas.Slice.Zip.{all_zipped_more}
use Rattle.gr_base.specs.Lists.{IsAmong, Each}
use Rattle.gr_base.proofs.ListLemmas.{Each-at, Each-map, IsAmong-get_or, IsAmong-map}
use Rattle.gr_symbols.specs.Numbers.{Names, Grows, first_texts}
use Rattle.gr_symbols.proofs.NumberLemmas.{Names-within, Grows-refl}
use Rattle.gr_terms.specs.declared.Sym.{Sym}
use Rattle.gr_text.specs.Limits.{IsShort, byte_limit}
use Rattle.gr_tokens.specs.declared.ReadRefusal.{ReadRefusal}
use Rattle.gr_tokens.specs.declared.ReadRefusal.TheVariants as reading
use Rattle.mg_syntax.specs.declared.item.Item.{Item}
use Rattle.mg_reader.specs.Answers.{IsMetagrammar, IsRefusal}
use Rattle.mg_reader.specs.Tables.{IsTable}
use Rattle.mg_syntax.specs.Names.{HasTexts}
use Rattle.mg_reader.proofs.Named.{names_have_texts}
use Rattle.mg_scope.specs.Classes.{valued_classes}
use Rattle.mg_scope.specs.Faults.{IsThere, IsScoped, IsFirstFault}
use Rattle.mg_scope.specs.declared.refusal.ScopeRefusal.{ScopeRefusal}
use Rattle.mg_scope.specs.declared.refusal.ScopeRefusal.TheVariants as scope
use Rattle.mg_compile.specs.declared.refusal.CompileRefusal.{CompileRefusal}
use Rattle.mg_compile.specs.declared.refusal.CompileRefusal.TheVariants as compiling
use Rattle.mg_compile.specs.Compiled.{IsClassFault, IsFaultOf, IsRightList}
use Rattle.mg_expand.specs.Walks.{Walk}
use Rattle.td_canon.specs.CanonicalTexts.{text_in}
use Rattle.td_canon.specs.TreeSets.{texts_of}
use Rattle.td_canon.specs.declared.tree_set.ClassTrees.{ClassTrees}
use Rattle.td_canon.proofs.OrderLemmas.{text_named}
use Rattle.tg_text.specs.GrammarText.{ClassText, class_text_of}
use Rattle.rl_refusals.specs.declared.refusal.Refusal.{Refusal}
use Rattle.rl_refusals.specs.declared.refusal.Refusal.TheVariants as refusal
use Rattle.rl_refusals.specs.declared.refusal.Role.TheVariants.{Metagrammar}
use Rattle.rl_refusals.specs.Lines as lines
use Rattle.rl_top.specs.Refusals.{IsOfReading, IsOfScope, IsOfCompiling}
use Rattle.rl_top.specs.Stops.{Stops}
use Rattle.rl_top.specs.declared.refusals.Stop.{Stop}
use Rattle.rl_top.specs.declared.refusals.Stop.TheVariants as stop
use Rattle.rl_top.specs.Compiling.{IsCompiled, IsRefusedFile}
use Rattle.rl_top.specs.Outcomes.{IsNumbering, IsGood, HasNoFault, IsFirstClassFault, too_long, unread, unscoped, uncompiled, IsClassText, AreClassTexts, IsEnding, whole, shorter}
use Rattle.rl_top.proofs.FaultNames.{valued_each, valued_has, scope_has}
use Rattle.rl_top.specs.declared.status.Status.TheVariants as status

pub stops_for : (M : Type 0) (P Q : Refusal → Type 0) (s : Stop) → ((r : Refusal) → P r → Q r) → Stops M P s → Stops ⊤ Q s
stops_for M P Q (stop.Refused r) step h = step r h
stops_for M P Q stop.Memory step h = tt

-- reading
pub numbering_of : (bytes : List ℕ) (old texts : List (List ℕ)) → IsShort bytes → old ≡ first_texts → IsTable bytes old texts → IsNumbering bytes texts
numbering_of bytes old texts short fresh table = record { short = λ _. subst (λ z. IsTable bytes z texts) fresh table; long = λ long. absurd (omega arith) }

pub long_stops : (bytes : List ℕ) (texts : List (List ℕ)) → byte_limit < length bytes → texts ≡ first_texts → (models : ℕ) → IsRefusedFile bytes models texts (refusal.TooLong Metagrammar)
long_stops bytes texts long fresh models = record {
  numbered = record { short = λ short. absurd (omega arith); long = λ _. fresh };
  first = too_long long refl;
  named = (tt, (tt, tt));
}

pub read_refusal : (bytes : List ℕ) (texts : List (List ℕ)) (e : ReadRefusal) → (e ≡ reading.Memory) ⊎ IsRefusal bytes texts e → (e ≡ reading.Memory) ⊎ ((r : Refusal) × IsOfReading e r)
read_refusal bytes texts e (inl is) = inl is
read_refusal bytes texts (reading.Syntax p) (inr h) = inr (refusal.Syntax Metagrammar p, refl)
read_refusal bytes texts (reading.NotUtf8 n) (inr h) = inr (refusal.NotUtf8 Metagrammar n, refl)
read_refusal bytes texts (reading.Duplicate p) (inr h) = inr (refusal.DuplicateAttribute Metagrammar p, refl)
read_refusal bytes texts (reading.TooManyClasses p) (inr h) = inr (refusal.TooManyClasses Metagrammar, refl)
read_refusal bytes texts _ (inr h) = absurd h

pub read_names : (texts : List (List ℕ)) (e : ReadRefusal) (r : Refusal) → IsOfReading e r → lines.HasTexts texts r
read_names texts (reading.Syntax p) r is = subst (λ z. lines.HasTexts texts z) (sym is) (tt, (tt, (tt, (tt, tt))))
read_names texts (reading.NotUtf8 n) r is = subst (λ z. lines.HasTexts texts z) (sym is) (tt, (tt, (tt, tt)))
read_names texts (reading.Duplicate p) r is = subst (λ z. lines.HasTexts texts z) (sym is) (tt, (tt, (tt, (tt, tt))))
read_names texts (reading.TooManyClasses p) r is = subst (λ z. lines.HasTexts texts z) (sym is) (tt, (tt, tt))
read_names texts _ r is = absurd is

pub read_stops : (bytes : List ℕ) (old texts : List (List ℕ)) (e : ReadRefusal) (s : Stop) → IsShort bytes → old ≡ first_texts
    → (e ≡ reading.Memory) ⊎ IsRefusal bytes texts e → (e ≡ reading.Memory) ⊎ IsTable bytes old texts → Stops (e ≡ reading.Memory) (IsOfReading e) s
    → Stops ⊤ (λ r. (models : ℕ) → IsRefusedFile bytes models texts r) s
read_stops bytes old texts e stop.Memory short fresh fault table of = tt
read_stops bytes old texts e (stop.Refused r) short fresh (inl none) table of = absurd (subst (λ z. IsOfReading z r) none of)
read_stops bytes old texts e (stop.Refused r) short fresh (inr fault) (inl none) of = absurd (subst (λ z. IsOfReading z r) none of)
read_stops bytes old texts e (stop.Refused r) short fresh (inr fault) (inr table) of =
    λ models. record { numbered = numbering_of bytes old texts short fresh table; first = unread e short fault of; named = read_names texts e r of }

-- the rules of scope
pub scope_stops : (m : List Item) (e : ScopeRefusal) (s : Stop) → ((e ≡ scope.Memory → ⊥) → IsFirstFault m e) → Stops (e ≡ scope.Memory) (IsOfScope e) s
    → Stops ⊤ (λ r. (f : ScopeRefusal) × IsFirstFault m f × IsOfScope f r) s
scope_stops m e stop.Memory fault of = tt
scope_stops m e (stop.Refused r) fault of = (e, fault (λ none. subst (λ z. IsOfScope z r) none of), of)

-- the names of a metagrammar that was read have texts
pub all_named : (bytes : List ℕ) (texts : List (List ℕ)) (m : List Item) → Grows first_texts texts → IsMetagrammar bytes texts m → HasTexts texts m
all_named bytes texts m grows spelled = names_have_texts texts texts grows (Grows-refl texts) bytes m spelled

pub unscoped_file : (bytes : List ℕ) (texts : List (List ℕ)) (m : List Item) → IsShort bytes → Grows first_texts texts → IsNumbering bytes texts → IsMetagrammar bytes texts m
    → (r : Refusal) → (e : ScopeRefusal) × IsFirstFault m e × IsOfScope e r → (models : ℕ) → IsRefusedFile bytes models texts r
unscoped_file bytes texts m short grows numbered spelled r (e, fault, of) models = record {
  numbered = numbered;
  first = unscoped m e short spelled fault of;
  named = scope_has texts m (all_named bytes texts m grows spelled) e r fault of;
}

-- classes
pub class_stops : (m : List Item) (c : Sym) (models : ℕ) (e : CompileRefusal) (s : Stop) → (e ≡ compiling.Memory) ⊎ IsClassFault m c models e → Stops (e ≡ compiling.Memory) (IsOfCompiling e) s
    → Stops ⊤ (λ r. (f : CompileRefusal) × IsClassFault m c models f × IsOfCompiling f r) s
class_stops m c models e stop.Memory fault of = tt
class_stops m c models e (stop.Refused r) (inl none) of = absurd (subst (λ z. IsOfCompiling z r) none of)
class_stops m c models e (stop.Refused r) (inr fault) of = (e, fault, of)

pub compiled_class : (texts : List (List ℕ)) (m : List Item) (models : ℕ) (c : Sym) (t : ClassTrees) → c.0 < length texts → t.class ≡ c
    → IsRightList (text_in texts) m c models (texts_of t.trees) t.cut → HasNoFault m models c → IsCompiled texts m models c t
compiled_class texts m models c t within is list faultless = record {
  class = is;
  faultless = faultless;
  written = record { name = subst (λ (z : Sym). Names texts c.0 (text_in texts z.0)) (sym is) (text_named texts c.0 within); list = list };
}

pub valued_there : (m : List Item) → IsScoped m → Each (IsThere m) (valued_classes m)
valued_there m scoped = valued_each (IsThere m) m scoped.valued

-- what holds of all valued classes holds of the one at a place
pub valued_at : (Q : Sym → Type 0) (m : List Item) (vs : List Sym) (i : ℕ) (c d : Sym) → vs ≡ valued_classes m → i < length vs → c ≡ get_or vs i d → Each Q (valued_classes m) → Q c
valued_at Q m vs i c d is within here each = Each-at Q vs c (subst (λ z. Each Q z) (sym is) each) (subst (λ z. IsAmong vs z) (sym here) (IsAmong-get_or vs i d within))

-- the first classes, and one more
next_classes : (vs : List Sym) (i : ℕ) (c d : Sym) → i < length vs → c ≡ get_or vs i d → take (suc i) vs ≡ take i vs ++ c ∷ []
next_classes [] i c d within here = absurd (omega arith)
next_classes (v ∷ vs) zero c d within here = ap (λ z. z ∷ []) (sym here)
next_classes (v ∷ vs) (suc i) c d within here = ap (λ z. v ∷ z) (next_classes vs i c d (omega arith) here)

pub one_more : (texts : List (List ℕ)) (m : List Item) (models : ℕ) (vs : List Sym) (i : ℕ) (c d : Sym) (old new : List ClassTrees) → i < length vs → c ≡ get_or vs i d
    → AllZip (IsCompiled texts m models) (take i vs) old → (t : ClassTrees) × IsCompiled texts m models c t × (new ≡ old ++ t ∷ [])
    → AllZip (IsCompiled texts m models) (take (i + 1) vs) new
one_more texts m models vs i c d old new within here before (t, is, pushed) =
    let all = all_zipped_more (IsCompiled texts m models) (take i vs) old c t before is in
    let front : take (i + 1) vs ≡ take i vs ++ c ∷ [] = ap (λ n. take n vs) (let next : i + 1 ≡ suc i = omega arith in next) ∙ next_classes vs i c d within here in
    subst (λ z. AllZip (IsCompiled texts m models) z new) (sym front) (subst (λ z. AllZip (IsCompiled texts m models) (take i vs ++ c ∷ []) z) (sym pushed) all)

pub all_of_them : (texts : List (List ℕ)) (m : List Item) (models : ℕ) (vs : List Sym) (i : ℕ) (ts : List ClassTrees) → length vs ≤ i → vs ≡ valued_classes m
    → AllZip (IsCompiled texts m models) (take i vs) ts → AllZip (IsCompiled texts m models) (valued_classes m) ts
all_of_them texts m models vs i ts most is all = subst (λ z. AllZip (IsCompiled texts m models) z ts) (take_all i vs most ∙ is) all

pub faultless_of : (texts : List (List ℕ)) (m : List Item) (models : ℕ) (vs : List Sym) (ts : List ClassTrees) → AllZip (IsCompiled texts m models) vs ts → Each (HasNoFault m models) vs
faultless_of texts m models [] ts h = tt
faultless_of texts m models (v ∷ vs) [] h = absurd h
faultless_of texts m models (v ∷ vs) (t ∷ ts) h = (h.0.faultless, faultless_of texts m models vs ts h.1)

texts_are : (texts : List (List ℕ)) (m : List Item) (models : ℕ) (vs : List Sym) (ts : List ClassTrees) → AllZip (IsCompiled texts m models) vs ts → AllZip (IsClassText texts m models) vs (map (class_text_of texts) ts)
texts_are texts m models [] [] h = tt
texts_are texts m models [] (t ∷ ts) h = absurd h
texts_are texts m models (v ∷ vs) [] h = absurd h
texts_are texts m models (v ∷ vs) (t ∷ ts) h = (h.0.written, texts_are texts m models vs ts h.1)

pub class_texts : (texts : List (List ℕ)) (m : List Item) (models : ℕ) (ts : List ClassTrees) → AllZip (IsCompiled texts m models) (valued_classes m) ts → AreClassTexts texts m models (map (class_text_of texts) ts)
class_texts texts m models ts h = record { faultless = faultless_of texts m models (valued_classes m) ts h; written = texts_are texts m models (valued_classes m) ts h }

pub classes_named : (texts : List (List ℕ)) (m : List Item) (models : ℕ) (vs : List Sym) (ts : List ClassTrees) → AllZip (IsCompiled texts m models) vs ts → Each (λ (c : ClassTrees). c.class.0 < length texts) ts
classes_named texts m models [] [] h = tt
classes_named texts m models [] (t ∷ ts) h = absurd h
classes_named texts m models (v ∷ vs) [] h = absurd h
classes_named texts m models (v ∷ vs) (t ∷ ts) h =
    (subst (λ (z : Sym). z.0 < length texts) (sym h.0.class) (Names-within texts v.0 (text_in texts t.class.0) h.0.written.name), classes_named texts m models vs ts h.1)

-- the class of a fault
pub compiling_names : (texts : List (List ℕ)) (m : List Item) (c : Sym) (w : Walk) (e : CompileRefusal) (r : Refusal) → c.0 < length texts → IsFaultOf m c w e → IsOfCompiling e r → lines.HasTexts texts r
compiling_names texts m c w (compiling.TooManyNodes k) r within fault of = subst (λ z. lines.HasTexts texts z) (sym of) (tt, (subst (λ (z : Sym). z.0 < length texts) (sym fault.0) within, tt))
compiling_names texts m c w (compiling.TooLarge k) r within fault of = subst (λ z. lines.HasTexts texts z) (sym of) (tt, (subst (λ (z : Sym). z.0 < length texts) (sym fault.0) within, tt))
compiling_names texts m c w compiling.Memory r within fault of = absurd fault

pub first_class : (texts : List (List ℕ)) (m : List Item) (models : ℕ) (vs : List Sym) (i : ℕ) (c d : Sym) (ts : List ClassTrees) → HasTexts texts m → vs ≡ valued_classes m → i < length vs → c ≡ get_or vs i d
    → AllZip (IsCompiled texts m models) (take i vs) ts → (r : Refusal) → (e : CompileRefusal) × IsClassFault m c models e × IsOfCompiling e r
    → (e : CompileRefusal) × IsFirstClassFault m models e × IsOfCompiling e r × lines.HasTexts texts r
first_class texts m models vs i c d ts known is within here before r (e, fault, of) = (
  e,
  record {
    before = take i vs;
    class = c;
    after = drop (suc i) vs;
    valued = sym is ∙ split;
    faultless = faultless_of texts m models (take i vs) ts before;
    fault = fault;
  },
  of,
  compiling_names texts m c fault.walk e r (valued_at (λ z. z.0 < length texts) m vs i c d is within here (valued_has texts m known)) fault.fault of,
)
  where
    split : vs ≡ take i vs ++ c ∷ drop (suc i) vs
    split = parts vs i within here
      where
        parts : (vs : List Sym) (i : ℕ) → i < length vs → c ≡ get_or vs i d → vs ≡ take i vs ++ c ∷ drop (suc i) vs
        parts [] i within here = absurd (omega arith)
        parts (v ∷ vs) zero within here = ap (λ z. z ∷ vs) (sym here)
        parts (v ∷ vs) (suc i) within here = ap (λ z. v ∷ z) (parts vs i (omega arith) here)

pub uncompiled_file : (bytes : List ℕ) (texts : List (List ℕ)) (m : List Item) (models : ℕ) → IsNumbering bytes texts → IsGood bytes texts m
    → (r : Refusal) → (e : CompileRefusal) × IsFirstClassFault m models e × IsOfCompiling e r × lines.HasTexts texts r → IsRefusedFile bytes models texts r
uncompiled_file bytes texts m models numbered good r (e, fault, of, named) = record { numbered = numbered; first = uncompiled m e good fault of; named = named }

-- how a run ends that writes classes
pub cut_ends : (texts : List (List ℕ)) (ts : List ClassTrees) (i : ℕ) (t : ClassTrees) → i < length ts → t ≡ get_or ts i t → t.cut ≡ true → IsEnding (map (class_text_of texts) ts) status.Shortened
cut_ends texts ts i t within here cut =
    shorter (class_text_of texts t) (IsAmong-map (class_text_of texts) ts t (subst (λ z. IsAmong ts z) (sym here) (IsAmong-get_or ts i t within))) cut refl

pub whole_ends : (texts : List (List ℕ)) (ts : List ClassTrees) (i : ℕ) → length ts ≤ i → Each (λ (t : ClassTrees). t.cut ≡ false) (take i ts) → IsEnding (map (class_text_of texts) ts) status.Done
whole_ends texts ts i most each =
    whole (Each-map (class_text_of texts) (λ (t : ClassText). t.cut ≡ false) ts (subst (λ z. Each (λ (t : ClassTrees). t.cut ≡ false) z) (take_all i ts most) each)) refl
