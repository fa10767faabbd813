-- What is right for the words of a run.
use Rattle.std.specs.Prelude.{◌≡◌, ℕ, ◌<◌, List, [], ◌∷◌, length, take, drop, ◌-◌, Option, Some, None, Result, Ok, Err, IfOk, refl, codes, string_bytes}
use Rattle.std.specs.Str.Parse.{digits_value}
use Rattle.std.proofs.Common.{ap, sym, ◌∙◌, subst, arith, inl, inr, length-take}
use Rattle.std.proofs.lemmas.Bool.{cases_lt}
use Rattle.std.proofs.lemmas.List.{take_all, length-drop}
use Rattle.gr_base.proofs.ListLemmas.{same_head, same_tail}
use Rattle.gr_io.specs.Outside.{IsFetched, appended}
use Rattle.gr_symbols.specs.Numbers.{first_texts}
use Rattle.rl_words.specs.Requests.{AsksCompile, IsModelsBudget, Splits, nothing, a_file, an_option, models_word}
use Rattle.rl_words.proofs.ReadLemmas.{no_option_file}
use Rattle.rl_refusals.specs.declared.refusal.Refusal.{Refusal}
use Rattle.rl_refusals.specs.Lines.{IsRefusalLine}
use Rattle.gr_base.specs.declared.Memory.{Memory}
use Rattle.mg_syntax.specs.declared.item.Item.{Item}
use Rattle.tg_text.specs.GrammarText.{ClassText, grammar_text}
use Rattle.rl_top.specs.Outcomes.{IsNumbering, IsGood, IsFirstRefusal, too_long, unread, unscoped, uncompiled, AreClassTexts, IsEnding, IsOutcome, refused, compiled, IsEnough, Tells, IsRight, WritesWhole}
use Rattle.rl_top.specs.Compiling.{IsRefusedFile}
use Rattle.rl_top.specs.declared.outcome.Outcome.{Outcome}
use Rattle.rl_top.specs.declared.status.Status.{Status}
use Rattle.rl_top.specs.declared.status.Status.TheVariants as status
use Rattle.rl_top.proofs.Laws.{NotShortened}
use Rattle.gr_text.specs.Limits.{byte_limit}

-- words are split in one way
first_word : (ws vs : List (List ℕ)) (w v : List ℕ) → w ∷ ws ≡ v ∷ vs → (w ≡ v) × (ws ≡ vs)
first_word ws vs w v e = (same_head w v ws vs e, same_tail w v ws vs e)

record SameSplit (files others : List (List ℕ)) (options more : List (List ℕ × List ℕ)) : Type 0 where
  files_same : files ≡ others
  options_same : options ≡ more

split_once : (words again files others : List (List ℕ)) (options more : List (List ℕ × List ℕ)) → Splits words files options → Splits again others more → words ≡ again → SameSplit files others options more
split_once _ _ _ _ _ _ nothing nothing e = record { files_same = refl; options_same = refl }
split_once _ _ _ _ _ _ nothing (a_file w is rest) e = absurd cc
split_once _ _ _ _ _ _ nothing (an_option w v is rest) e = absurd cc
split_once _ _ _ _ _ _ (a_file w is rest) nothing e = absurd cc
split_once _ _ _ _ _ _ (a_file w {ws = ws} {files = files} {options = options} is rest) (a_file v {ws = vs} {files = others} {options = more} is' rest') e =
    let parts = first_word ws vs w v e in
    let behind = split_once ws vs files others options more rest rest' parts.1 in
    record { files_same = cc (parts.0, behind.files_same); options_same = behind.options_same }
split_once _ _ _ _ _ _ (a_file w {ws = ws} is rest) (an_option u v {ws = vs} is' rest') e =
    absurd (no_option_file w ((first_word ws (v ∷ vs) w u e).0 ∙ is') is)
split_once _ _ _ _ _ _ (an_option w v is rest) nothing e = absurd cc
split_once _ _ _ _ _ _ (an_option u v {ws = ws} is rest) (a_file w {ws = vs} is' rest') e =
    absurd (no_option_file w (sym (first_word (v ∷ ws) vs u w e).0 ∙ is) is')
split_once _ _ _ _ _ _ (an_option w v {ws = ws} {files = files} {options = options} is rest) (an_option w' v' {ws = vs} {files = others} {options = more} is' rest') e =
    let outer = first_word (v ∷ ws) (v' ∷ vs) w w' e in
    let inner = first_word ws vs v v' outer.1 in
    let behind = split_once ws vs files others options more rest rest' inner.1 in
    record { files_same = behind.files_same; options_same = cc (outer.0, inner.0, behind.options_same) }

budget_once : (options : List (List ℕ × List ℕ)) (a b : ℕ) → IsModelsBudget options a → IsModelsBudget options b → a ≡ b
budget_once options a b (inl p) (inl q) = p.1 ∙ sym q.1
budget_once options a b (inl p) (inr q) = absurd cc
budget_once options a b (inr p) (inl q) = absurd cc
budget_once options a b (inr (v, is, p)) (inr (w, is', q)) =
    let same : v ≡ w = ap (λ (p : List ℕ × List ℕ). p.1) (same_head (models_word, v) (models_word, w) [] [] (sym is ∙ is')) in
    p.value ∙ (ap (λ z. digits_value 10 z) same ∙ sym q.value)

-- words ask for one file and one budget
pub one_request : (words : List (List ℕ)) (f g : List ℕ) (a b : ℕ) → AsksCompile words f a → AsksCompile words g b → (f ≡ g) × (a ≡ b)
one_request words f g a b p q =
    let rest = (first_word p.rest q.rest (codes "compile") (codes "compile") (sym p.command ∙ q.command)).1 in
    let same = split_once p.rest q.rest (f ∷ []) (g ∷ []) p.options q.options p.split q.split rest in
    (same_head f g [] [] same.files_same, budget_once q.options a b (subst (λ z. IsModelsBudget z a) same.options_same p.budget) q.budget)

-- what is right for a file that was cut behind its limit is right for the file
outcome_of_cut : (whole cut : List ℕ) (models : ℕ) (s : Status) (t : List ℕ) → cut ≡ take 1048577 whole → IsOutcome cut models s t → IsOutcome whole models s t
outcome_of_cut whole cut models s t e h = elim (cases_lt (length whole) 1048577) [
  | inl short ↦ subst (λ z. IsOutcome z models s t) (e ∙ take_all 1048577 whole (omega arith)) h
  | inr long ↦ cut_long (omega (arith, length-take 1048577 whole, ap length e)) (omega arith) h
]
  where
    cut_long : byte_limit < length cut → byte_limit < length whole → IsOutcome cut models s t → IsOutcome whole models s t
    cut_long long more (compiled texts m classes numbered good written text_is ending) = let short = good.short in absurd (omega arith)
    cut_long long more (refused texts r numbered first line is) =
        refused texts r (record { short = λ short. absurd (omega arith); long = λ _. numbered.long long }) (refusal_of first) line is
      where
        refusal_of : IsFirstRefusal cut models texts r → IsFirstRefusal whole models texts r
        refusal_of (too_long n is) = too_long more is
        refusal_of (unread e short fault is) = absurd (omega arith)
        refusal_of (unscoped m e short spelled fault is) = absurd (omega arith)
        refusal_of (uncompiled m e good fault is) = let short = good.short in absurd (omega arith)

-- the right outcome for the bytes that were fetched is right for the words
pub right_for : (files : Option (List ℕ → Option (List ℕ))) (words : List (List ℕ)) (file name fetched : List ℕ) (models : ℕ) (s : Status) (t : List ℕ) → AsksCompile words file models → name ≡ file → IsFetched files name byte_limit fetched → IsOutcome fetched models s t → IsRight files words s t
right_for None words file name fetched models s t asks same got h = record { file = file; models = models; bytes = fetched; asked = asks; held = tt; outcome = h }
right_for (Some files) words file name fetched models s t asks same got h = record {
  file = file;
  models = models;
  bytes = got.0;
  asked = asks;
  held = ap files (sym same) ∙ got.1;
  outcome = outcome_of_cut got.0 fetched models s t got.2 h;
}

-- a text that was written whole with its status
pub writes_whole : (files : Option (List ℕ → Option (List ℕ))) (words : List (List ℕ)) (s wanted : Status) (text written : List ℕ) (before after : Option (List ℕ)) → IsRight files words s text → s ≡ wanted
    → after ≡ appended before written → written ≡ text → WritesWhole files words wanted before after
writes_whole files words s wanted text written before after right e whole same = (text, subst (λ z. IsRight files words z text) e right, whole ∙ ap (λ z. appended before z) same)

-- where fewer bytes than the text's were written, some are left
pub rest_left : (n : ℕ) (text bytes : List ℕ) → bytes ≡ text → n < length bytes → drop n text ≡ [] → ⊥
rest_left n text bytes same few none =
    let a : length (drop n text) ≡ length text - n = length-drop n text in
    let b : length (drop n text) ≡ 0 = ap length none in
    let e : length bytes ≡ length text = ap length same in
    omega (arith, few)

-- no list is shorter where the shelf tells the file and the budget is enough
pub never_shorter : NotShortened → (files : Option (List ℕ → Option (List ℕ))) (words : List (List ℕ)) (file bytes : List ℕ) (models : ℕ) (s : Status) (text : List ℕ) → IsRight files words s text → AsksCompile words file models → Tells files file bytes → IsEnough bytes models → s ≡ status.Shortened → ⊥
never_shorter not_shortened None words file bytes models s text right asks tells enough e = absurd tells
never_shorter not_shortened (Some files) words file bytes models s text right asks tells enough e =
    let same = one_request words right.file file right.models models right.asked asks in
    let told : files file ≡ Some right.bytes = subst (λ z. files z ≡ Some right.bytes) same.0 right.held in
    let bytes_same : right.bytes ≡ bytes = cc (told, tells) in
    not_shortened bytes text models s enough (subst (λ z. IsOutcome z models s text) bytes_same (subst (λ z. IsOutcome right.bytes z s text) same.1 right.outcome)) e

-- the outcomes of what was compiled, and of what was refused
pub compiled_outcome : (r : Result Outcome Memory) (bytes : List ℕ) (models : ℕ) (texts : List (List ℕ)) (m : List Item) (ts : List ClassText) → IsNumbering bytes texts → IsGood bytes texts m → AreClassTexts texts m models ts
    → IfOk r (λ o. string_bytes o.text ≡ grammar_text ts) → IfOk r (λ o. IsEnding ts o.status) → IfOk r (λ o. IsOutcome bytes models o.status (string_bytes o.text))
compiled_outcome (Ok o) bytes models texts m ts numbered good written text ends = compiled texts m ts numbered good written text ends
compiled_outcome (Err e) bytes models texts m ts numbered good written text ends = tt

pub refused_outcome : (r : Result Outcome Memory) (bytes : List ℕ) (models : ℕ) (texts : List (List ℕ)) (x : Refusal) → IsRefusedFile bytes models texts x
    → IfOk r (λ o. IsRefusalLine texts x (string_bytes o.text)) → IfOk r (λ o. o.status ≡ status.Refused) → IfOk r (λ o. IsOutcome bytes models o.status (string_bytes o.text))
refused_outcome (Ok o) bytes models texts x file line ends = refused texts x file.numbered file.first line ends
refused_outcome (Err e) bytes models texts x file line ends = tt
