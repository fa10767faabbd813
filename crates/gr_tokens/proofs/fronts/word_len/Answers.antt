use Rattle.std.proofs.Common.{◌≡◌, ◌≤◌, take, drop, length, subst, arith, true}
use Rattle.std.proofs.lemmas.List.{take_rest, length-drop}
use Rattle.gr_text.specs.Words.{is_word_rest}
use Rattle.gr_tokens.proofs.WordFronts.{word_grows}
use Rattle.gr_tokens.proofs.fronts.word_len.Goals as goal

pub loop-len-preserved : goal.loop-len-preserved
loop-len-preserved c =
    let bytes = c.args.bytes.now in
    let len = c.loop-len.len in
    let step = c.word_step-step.result in
    let rest = take_rest bytes len in
    let fits : step ≤ length (drop len bytes) = subst (λ z. step ≤ length z) rest c.word_step-step.ensures.within in
    record {
      within = omega (arith, length-drop len bytes, c.loop-len.invariant.within);
      rest = word_grows bytes len step c.loop-len.invariant.rest (subst (λ z. is_word_rest (take step z) ≡ true) rest c.word_step-step.ensures.rest);
    }
