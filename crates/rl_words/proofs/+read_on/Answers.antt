use Rattle.std.proofs.Common.{arith, ◌-◌, length, ◌≡◌, ◌∙◌, ◌∷◌, drop, take, sym, ap, subst, ℕ, List, Option, Some, None, MatchOption}
use Rattle.std.proofs.lemmas.Slice.Eq.{bytes_eq-Decides}
use Rattle.std.specs.Option.{option_map}
use Rattle.rl_words.specs.Requests.{IsFileWord, models_word, IsBudget}
use Rattle.rl_words.specs.Reading.{AsksBehind}
use Rattle.rl_words.specs.declared.CompileRequest.{CompileRequest}
use Rattle.rl_words.proofs.ReadLemmas.{carry, end_asks, option_taken, file_taken, no_option_file, nothing_found, nothing_left, one_left}
use Rattle.rl_words.proofs.+read_on.Goals as goal

abbrev Asks : Option (List ℕ) → Option ℕ → List (List ℕ) → Option CompileRequest → Type 0
Asks found m words result = MatchOption result ((f : List ℕ) (n : ℕ) → AsksBehind found m words f n → ⊥) (λ r. AsksBehind found m words r.file.now r.models)

pub returns-in_ok-budget-in-None-len1-up : goal.returns-in_ok-budget-in-None-len1-up
returns-in_ok-budget-in-None-len1-up t c =
    let ws = c.args.words.now in
    let w = c.word-item.result in
    let v = c.value-item.result in
    let behind = take (length ws - 1) (drop 1 ws) in
    let rest = take (length behind - 1) (drop 1 behind) in
    let k = c.in_ok-budget-in-None-len1-up.field-0 in
    let words : ws ≡ w ∷ behind = one_left ws w c.in-len1-up.len_at_least c.word-item.is in
    let more : behind ≡ v ∷ rest = one_left behind v c.in-None-len1-up.len_at_least c.value-item.is in
    let whole : ws ≡ w ∷ v ∷ rest = words ∙ ap (λ xs. w ∷ xs) more in
    let key : w ≡ models_word = sym c.as_str.ensures ∙ (bytes_eq-Decides c.as_str.result.now models_word).0 (sym c.eq.ensures ∙ c.if-eq.true) in
    let none : c.args.models ≡ None = c.in-None-len1-up.is-0 in
    let budget : IsBudget v k = subst (λ x. IsBudget x k) c.as_str-in-None-len1-up.ensures c.in_ok-budget-in-None-len1-up.ensures in
    let found = option_map (λ name. name.now) c.args.file in
    let same = option_taken found w v rest k key budget in
    let asked = carry (AsksBehind found (Some k) rest) (AsksBehind found None (w ∷ v ∷ rest)) same (λ r. r.file.now) (λ r. r.models) c.read_on.result c.read_on.ensures in
    let back = subst (λ m. Asks found m (w ∷ v ∷ rest) c.read_on.result) (sym none) asked in
    subst (λ xs. Asks found c.args.models xs c.read_on.result) (sym whole) back

pub returns-in_ok-file-in-empty : goal.returns-in_ok-file-in-empty
returns-in_ok-file-in-empty t c =
    let nothing = nothing_left c.args.words.now (omega (arith, c.in-empty.len_below)) in
    rw nothing (rw c.in_ok-file-in-empty.was (rw c.unwrap_or.ensures (end_asks c.in_ok-file-in-empty.field-0.now c.args.models)))

pub returns-else-not-is_file_word : goal.returns-else-not-is_file_word
returns-else-not-is_file_word t c =
    let ws = c.args.words.now in
    let w = c.word-item.result in
    let m = c.args.models in
    let rest = take (length ws - 1) (drop 1 ws) in
    let words : ws ≡ w ∷ rest = one_left ws w c.in-len1-up.len_at_least c.word-item.is in
    let none : c.args.file ≡ None = nothing_found c.args.file (sym c.is_some.ensures ∙ c.if-is_some.false) in
    let file : IsFileWord w = subst IsFileWord c.as_str-else-is_some.ensures (c.is_file_word.ensures.0 c.if-not-is_file_word.false) in
    let same = file_taken w rest m (λ e. no_option_file w e file) file in
    let asked = carry (AsksBehind (Some w) m rest) (AsksBehind None m (w ∷ rest)) same (λ r. r.file.now) (λ r. r.models) c.read_on-in-len1-up.result c.read_on-in-len1-up.ensures in
    let back = subst (λ o. Asks (option_map (λ name. name.now) o) m (w ∷ rest) c.read_on-in-len1-up.result) (sym none) asked in
    subst (λ xs. Asks (option_map (λ name. name.now) c.args.file) m xs c.read_on-in-len1-up.result) (sym words) back
