use Rattle.std.proofs.Common.{rules, ◌≡◌, Bool, true, false, Err, refl, sym, ◌∙◌, arith}
use Rattle.std.specs.Prelude.{◌||◌}
use Rattle.std.proofs.lemmas.Bool.{true≢false}
use Rattle.gr_grammar.specs.Grammars.{run_both, run_first, run_left, run_right, run_part, start, round}
use Rattle.gr_grammar.proofs.Loops.{ended, broken}
use Rattle.gr_grammar.proofs.BalancedSystem.{shorter, below, ended-has}
use Rattle.gr_grammar.proofs.balanced.Reader.+items.Goals as goal

stays : (a b x : Bool) → a ≡ true → a ≡ b → a ≡ (b || x)
stays a true x h e = e
stays a false x h e = absurd (true≢false (sym h ∙ e))

turns : (a b x m : Bool) → a ≡ false → a ≡ b → m ≡ x → m ≡ (b || x)
turns a true x m h e k = absurd (true≢false (sym e ∙ h))
turns a false x m h e k = k

pub body-row-init : goal.body-row-init
body-row-init t c = (start, refl)

pub body-item-requires : goal.body-item-requires
body-item-requires t c = (let d = c.decreases in let b = below c.row.invariant.0 in omega arith, tt)

pub body-returns-in_err-more : goal.body-returns-in_err-more
body-returns-in_err-more t c = let e : c.from_residual.result ≡ Err c.in_err-more.field-0.0 = search rules in rw e (run_part (broken c.row.invariant.0 (sym c.sees_item.ensures ∙ c.row-test.true) c.in_err-more.ensures))

pub body-row-smaller-then-found : goal.body-row-smaller-then-found
body-row-smaller-then-found t c = shorter refl c.in_ok-more.ensures.0

pub body-row-smaller : goal.body-row-smaller
body-row-smaller t c = shorter refl c.in_ok-more.ensures.0

pub body-row-preserved-then-found : goal.body-row-preserved-then-found
body-row-preserved-then-found t c =
    (round c.row.invariant.0 (sym c.sees_item.ensures ∙ c.row-test.true) c.in_ok-more.ensures.0, stays _ _ _ c.if-found.true c.row.invariant.1)

pub body-row-preserved : goal.body-row-preserved
body-row-preserved t c =
    (round c.row.invariant.0 (sym c.sees_item.ensures ∙ c.row-test.true) c.in_ok-more.ensures.0, turns _ _ _ _ c.if-found.false c.row.invariant.1 c.in_ok-more.ensures.1)

pub body-returns : goal.body-returns
body-returns t c = let b = sym c.sees_item.ensures ∙ c.row-test.false in (run_part (ended c.row.invariant.0 b), c.row.invariant.1 ∙ sym (ended-has c.row.invariant.0 b))

pub item-returns-in_err-_opening : goal.item-returns-in_err-_opening
item-returns-in_err-_opening t c = let e : c.from_residual-in_err-_opening.result ≡ Err c.in_err-_opening.field-0.0 = search rules in rw e (run_right (sym c.sees.ensures ∙ c.if-sees.false) (run_first c.in_err-_opening.ensures))

pub item-returns-in_err-inner : goal.item-returns-in_err-inner
item-returns-in_err-inner t c = let e : c.from_residual-in_err-inner.result ≡ Err c.in_err-inner.field-0.0 = search rules in rw e (run_right (sym c.sees.ensures ∙ c.if-sees.false) (run_both c.in_ok-_opening.ensures (run_first c.in_err-inner.ensures)))

pub item-returns-in_err-_closing : goal.item-returns-in_err-_closing
item-returns-in_err-_closing t c =
    let e : c.from_residual-in_err-_closing.result ≡ Err c.in_err-_closing.field-0.0 = search rules in
    rw e (run_right (sym c.sees.ensures ∙ c.if-sees.false) (run_both c.in_ok-_opening.ensures (run_both c.in_ok-inner.ensures.0 c.in_err-_closing.ensures)))

pub item-returns-in_ok-_letter : goal.item-returns-in_ok-_letter
item-returns-in_ok-_letter t c = (run_left (sym c.sees.ensures ∙ c.if-sees.true) c.in_ok-_letter.ensures, refl)

pub item-returns-in_ok-_closing : goal.item-returns-in_ok-_closing
item-returns-in_ok-_closing t c =
    (run_right (sym c.sees.ensures ∙ c.if-sees.false) (run_both c.in_ok-_opening.ensures (run_both c.in_ok-inner.ensures.0 c.in_ok-_closing.ensures)), c.in_ok-inner.ensures.1)
