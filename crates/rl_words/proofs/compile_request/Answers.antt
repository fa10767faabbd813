use Rattle.std.proofs.Common.{◌-◌, length, ◌≡◌, ◌∙◌, ◌∷◌, codes, drop, take, sym, subst, ℕ, List, None, MatchOption}
use Rattle.std.proofs.lemmas.Slice.Eq.{bytes_eq-Decides}
use Rattle.rl_words.specs.Requests.{AsksCompile}
use Rattle.rl_words.specs.Reading.{AsksBehind}
use Rattle.rl_words.proofs.ReadLemmas.{carry, one_left, command_taken}
use Rattle.rl_words.proofs.compile_request.Goals as goal

pub returns-in-len1-up : goal.returns-in-len1-up
returns-in-len1-up c =
    let ws = c.args.words.now in
    let w = c.command-item.result in
    let rest = take (length ws - 1) (drop 1 ws) in
    let words : ws ≡ w ∷ rest = one_left ws w c.in-len1-up.len_at_least c.command-item.is in
    let key : w ≡ codes "compile" = sym c.as_str.ensures ∙ (bytes_eq-Decides c.as_str.result.now (codes "compile")).0 (sym c.eq.ensures ∙ c.if-eq.true) in
    let asked = carry (AsksBehind None None rest) (AsksCompile (w ∷ rest)) (command_taken w rest key) (λ r. r.file.now) (λ r. r.models) c.read_on.result c.read_on.ensures in
    subst (λ xs. MatchOption c.read_on.result ((f : List ℕ) (n : ℕ) → AsksCompile xs f n → ⊥) (λ r. AsksCompile xs r.file.now r.models)) (sym words) asked
