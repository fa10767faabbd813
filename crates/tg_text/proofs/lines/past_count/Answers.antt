use Rattle.std.proofs.Common.{◌≡◌, ◌++◌, ◌∙◌, ap, sym, List, ℕ, Bor}
use Rattle.tg_text.specs.GrammarText.{closing_word}
use Rattle.tg_text.proofs.FrontLemmas.{count_found, no_word}
use Rattle.tg_text.proofs.lines.past_count.Goals as goal
use Rattle.tg_text.proofs.lines.past_count.Goals.{then-cut, else-cut}

pub returns-in_err-number : goal.returns-in_err-number
returns-in_err-number c =
    let word : c.if-cut.behind.now ≡ closing_word c.args.cut =
    elim c.if-cut.branch [ then-cut w ↦ ap (λ (b : Bor (List ℕ)). b.now) w.behind-is ∙ ap closing_word (sym w.if-cut.true) | else-cut w ↦ ap (λ (b : Bor (List ℕ)). b.now) w.behind-is ∙ ap closing_word (sym w.if-cut.false) ] in
    rw c.from_residual.ensures (no_word (closing_word c.args.cut) c.args.count c.args.text.now (λ rest e. c.in_err-number.ensures rest (e ∙ ap (λ w. w ++ rest) (sym word))))

pub returns : goal.returns
returns c =
    let word : c.if-cut.behind.now ≡ closing_word c.args.cut =
    elim c.if-cut.branch [ then-cut w ↦ ap (λ (b : Bor (List ℕ)). b.now) w.behind-is ∙ ap closing_word (sym w.if-cut.true) | else-cut w ↦ ap (λ (b : Bor (List ℕ)). b.now) w.behind-is ∙ ap closing_word (sym w.if-cut.false) ] in
    count_found (closing_word c.args.cut) c.args.count c.args.text.now c.in_ok-number.number.now c.in_ok-end.end.now c.behind-3.result
    (c.in_ok-number.ensures ∙ ap (λ w. w ++ c.in_ok-number.number.now) word) (c.in_ok-end.ensures ∙ ap (λ w. w ++ c.in_ok-end.end.now) c.format.ensures.text) c.behind-3.ensures
